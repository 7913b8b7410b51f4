use Rattle.std.proofs.Common.{◌≡◌, ◌+◌, ◌-◌, min, max, true, refl, sym, ap, ◌∙◌, arith}
use Rattle.lms_pool.specs.declared.call_log.Call.TheVariants.{Stop}
use Rattle.lms_pool.specs.declared.call_log.Reply.TheVariants.{Count}
use Rattle.lms_pool.specs.Rule.{stopped}
use Rattle.lms_pool.specs.States.{PoolState, SeatState}
use Rattle.lms_pool.proofs.Steps.{stops}
use Rattle.lms_pool.proofs.Seats.{asks, after_call, is_len}
use Rattle.lms_pool.proofs.pool.IndexPool.stop.Goals as goal

pub fetch_max-found-requires : goal.fetch_max-found-requires
fetch_max-found-requires c =
    let same = ap (λ (s : SeatState). s.pool) c.me.view_is ∙ c.requires ∙ sym c.self.view_is in
    asks c.me.inside _ c.self.inside.word.shared.key
    (λ n. max n c.self.inside.len) stopped same c.self.invariant c.me.invariant (stops _ _ _ _ _ _)

pub overflow_add-me : goal.overflow_add-me
overflow_add-me c =
    let me = c.me.inside in
    let step = c.fetch_max-found.ensures in
    let long = ap (λ (s : SeatState). s.pool.len) c.me.view_is
    ∙ ap (λ (p : PoolState). p.len) (c.requires ∙ sym c.self.view_is) in
    let burnt : me.pool.value.len - min c.fetch_max-found.result me.pool.value.len ≡ c.saturating_sub-burnt.result =
    omega (arith, c.saturating_sub-burnt.ensures, long) in
    let after = after_call me c.me.invariant Stop (Count c.saturating_sub-burnt.result) _ _ step.2 (ap Count burnt) in
    let stays = after.stays (me.stopped + c.saturating_sub-burnt.result) true _ step.0 refl
    (is_len me.pool.value.len) in
    omega (arith, stays.of_pool.few, long, c.self.invariant.of_lease.lease.at_most)

pub invariant_of-me : goal.invariant_of-me
invariant_of-me c =
    let me = c.me.inside in
    let step = c.fetch_max-found.ensures in
    let long = ap (λ (s : SeatState). s.pool.len) c.me.view_is
    ∙ ap (λ (p : PoolState). p.len) (c.requires ∙ sym c.self.view_is) in
    let burnt : me.pool.value.len - min c.fetch_max-found.result me.pool.value.len ≡ c.saturating_sub-burnt.result =
    omega (arith, c.saturating_sub-burnt.ensures, long) in
    let after = after_call me c.me.invariant Stop (Count c.saturating_sub-burnt.result) _ _ step.2 (ap Count burnt) in
    after.stays (me.stopped + c.saturating_sub-burnt.result) true _ step.0 refl (is_len me.pool.value.len)

pub returns-clause-call : goal.returns-clause-call
returns-clause-call c =
    let me = c.me.inside in
    let step = c.fetch_max-found.ensures in
    let long = ap (λ (s : SeatState). s.pool.len) c.me.view_is
    ∙ ap (λ (p : PoolState). p.len) (c.requires ∙ sym c.self.view_is) in
    let burnt : me.pool.value.len - min c.fetch_max-found.result me.pool.value.len ≡ c.saturating_sub-burnt.result =
    omega (arith, c.saturating_sub-burnt.ensures, long) in
    let after = after_call me c.me.invariant Stop (Count c.saturating_sub-burnt.result) _ _ step.2 (ap Count burnt) in
    after.makes c.args.me.now c.me.view_is
