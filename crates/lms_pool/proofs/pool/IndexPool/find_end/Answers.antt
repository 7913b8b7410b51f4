use Rattle.std.proofs.Common.{◌≡◌, sym, ap, ◌∙◌, subst, arith}
use Rattle.lms_pool.specs.declared.call_log.Call.TheVariants.{Claim}
use Rattle.lms_pool.specs.declared.call_log.Reply.TheVariants.{Ended}
use Rattle.lms_pool.specs.CallLog.{taken}
use Rattle.lms_pool.specs.Rule.{the_hand, claimed}
use Rattle.lms_pool.specs.States.{PoolState, SeatState, seen}
use Rattle.lms_pool.proofs.Steps.{loads}
use Rattle.lms_pool.proofs.Seats.{asks, after_call, after_load}
use Rattle.lms_pool.proofs.pool.IndexPool.find_end.Goals as goal

pub load-requires : goal.load-requires
load-requires c =
    let me = c.me.inside in
    let log = (the_hand me.seat.me.0).log in
    let same = ap (λ (s : SeatState). s.pool) c.me.view_is ∙ c.requires.pool ∙ sym c.self.view_is in
    let before = subst (λ (s : SeatState). seen s ≡ s.pool.len) (sym c.me.view_is)
    (c.requires.before ∙ ap (λ (p : PoolState). p.len) (sym c.requires.pool)) in
    asks me _ c.self.inside.word.shared.key (λ n. n) claimed same c.self.invariant c.me.invariant
    (loads _ _ _ _ _ _ (subst (λ (p : PoolState). taken p.len log ≡ p.len) same before))

pub invariant_of-me : goal.invariant_of-me
invariant_of-me c =
    let me = c.me.inside in
    let before = subst (λ (s : SeatState). seen s ≡ s.pool.len) (sym c.me.view_is)
    (c.requires.before ∙ ap (λ (p : PoolState). p.len) (sym c.requires.pool)) in
    let step = c.load.ensures in
    let end = after_load me c.me.invariant c.load.result _ step.2 before in
    (after_call me c.me.invariant Claim Ended _ _ step.2 end.0).stays me.stopped me.has_seen_end _ step.0
    (omega arith) end.1

pub returns : goal.returns
returns c =
    let me = c.me.inside in
    let before = subst (λ (s : SeatState). seen s ≡ s.pool.len) (sym c.me.view_is)
    (c.requires.before ∙ ap (λ (p : PoolState). p.len) (sym c.requires.pool)) in
    let step = c.load.ensures in
    let end = after_load me c.me.invariant c.load.result _ step.2 before in
    (after_call me c.me.invariant Claim Ended _ _ step.2 end.0).makes c.args.me.now c.me.view_is
