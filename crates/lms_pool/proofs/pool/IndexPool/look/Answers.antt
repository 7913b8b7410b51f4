use Rattle.std.proofs.Common.{min, sym, ap, ◌∙◌, refl, arith}
use lib.Dec.{leb}
use Rattle.lms_pool.specs.declared.call_log.Call.TheVariants as calls
use Rattle.lms_pool.specs.declared.call_log.Reply.TheVariants.{Count}
use Rattle.lms_pool.specs.Rule.{looked}
use Rattle.lms_pool.specs.States.{PoolState, SeatState}
use Rattle.lms_pool.proofs.Steps.{looks}
use Rattle.lms_pool.proofs.Seats.{asks, after_call, look_ends}
use Rattle.lms_pool.proofs.pool.IndexPool.look.Goals as goal

pub load-found-requires : goal.load-found-requires
load-found-requires c =
    let same = ap (λ (s : SeatState). s.pool) c.me.view_is ∙ c.requires ∙ sym c.self.view_is in
    asks c.me.inside _ c.self.inside.word.shared.key (λ n. n) looked same c.self.invariant c.me.invariant
    (looks _ _ _ _ _ _)

pub invariant_of-me : goal.invariant_of-me
invariant_of-me c =
    let me = c.me.inside in
    let step = c.load-found.ensures in
    let same = ap (λ (s : SeatState). s.pool) c.me.view_is ∙ c.requires ∙ sym c.self.view_is in
    let sees = c.write_change.ensures ∙ ap (λ (p : PoolState). leb p.len c.load-found.result) (sym same)
    ∙ look_ends me.pool.value.len c.load-found.result in
    (after_call me c.me.invariant calls.Look (Count (min c.load-found.result me.pool.value.len)) _ _ step.2 refl).stays
    me.stopped _ _ step.0 (omega arith) sees

pub returns-clause-call : goal.returns-clause-call
returns-clause-call c =
    let same = ap (λ (s : SeatState). s.pool) c.me.view_is ∙ c.requires ∙ sym c.self.view_is in
    let is = ap Count (ap (λ (p : PoolState). min c.load-found.result p.len) same ∙ sym c.min.ensures) in
    (after_call c.me.inside c.me.invariant calls.Look (Count c.min.result) _ _ c.load-found.ensures.2 is).makes
    c.args.me.now c.me.view_is
