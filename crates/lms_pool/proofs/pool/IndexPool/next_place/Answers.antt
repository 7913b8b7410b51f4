use Rattle.std.proofs.Common.{◌<◌, ◌+◌, ◌%◌, ◌^◌, true, refl, sym, ap, ◌∙◌, subst, arith}
use Rattle.lms_pool.specs.declared.call_log.Call.TheVariants.{Claim}
use Rattle.lms_pool.specs.CallLog.{taken}
use Rattle.lms_pool.specs.Rule.{the_hand, claimed, reply_at}
use Rattle.lms_pool.specs.States.{PoolState, SeatState, seen}
use Rattle.lms_pool.proofs.Steps.{claims}
use Rattle.lms_pool.proofs.Seats.{asks, after_call, claim_step_ends, claim_step_leaves, not_ended}
use Rattle.lms_pool.proofs.pool.IndexPool.next_place.Goals as goal

pub fetch_add-found-requires : goal.fetch_add-found-requires
fetch_add-found-requires c =
    let me = c.me.inside in
    let pool = c.self.inside in
    let log = (the_hand me.seat.me.0).log in
    let same = ap (λ (s : SeatState). s.pool) c.me.view_is ∙ c.requires.pool ∙ sym c.self.view_is in
    let before = subst (λ (s : SeatState). seen s < s.pool.len) (sym c.me.view_is)
    (subst (λ (p : PoolState). seen c.args.me.now < p.len) (sym c.requires.pool) c.requires.before) in
    asks me _ pool.word.shared.key (λ n. (n + 1) % 2 ^ 64) claimed same c.self.invariant c.me.invariant
    (claims _ _ _ _ _ _ (subst (λ (p : PoolState). taken p.len log < p.len) same before))

pub invariant_of-me : goal.invariant_of-me
invariant_of-me c =
    let me = c.me.inside in
    let step = c.fetch_add-found.ensures in
    let long = ap (λ (s : SeatState). s.pool.len) c.me.view_is
    ∙ ap (λ (p : PoolState). p.len) (c.requires.pool ∙ sym c.self.view_is) in
    let some = c.self.invariant.of_lease.lease.some in
    let sees = claim_step_ends me.pool.value.len c.fetch_add-found.result (omega (arith, long, some))
    (omega (arith, long, c.if-found-self.true)) in
    (after_call me c.me.invariant Claim (reply_at me.pool.value.len c.fetch_add-found.result Claim) _ _ step.2
    refl).stays me.stopped true _ step.0 (omega arith) sees

pub invariant_of-me-else-found-self : goal.invariant_of-me-else-found-self
invariant_of-me-else-found-self c =
    let me = c.me.inside in
    let step = c.fetch_add-found.ensures in
    let long = ap (λ (s : SeatState). s.pool.len) c.me.view_is
    ∙ ap (λ (p : PoolState). p.len) (c.requires.pool ∙ sym c.self.view_is) in
    let before = subst (λ (s : SeatState). seen s < s.pool.len) (sym c.me.view_is)
    (subst (λ (p : PoolState). seen c.args.me.now < p.len) (sym c.requires.pool) c.requires.before) in
    let sees = not_ended me c.me.invariant before
    ∙ claim_step_leaves me.pool.value.len c.fetch_add-found.result (omega (arith, long, c.if-found-self.false)) in
    (after_call me c.me.invariant Claim (reply_at me.pool.value.len c.fetch_add-found.result Claim) _ _ step.2
    refl).stays me.stopped me.has_seen_end _ step.0 (omega arith) sees

pub returns-then-found-self : goal.returns-then-found-self
returns-then-found-self c =
    let same = ap (λ (s : SeatState). s.pool) c.me.view_is ∙ c.requires.pool in
    let is = ap (λ (p : PoolState). reply_at p.len c.fetch_add-found.result Claim) same in
    (after_call c.me.inside c.me.invariant Claim (reply_at c.args.self.now.len c.fetch_add-found.result Claim) _ _
    c.fetch_add-found.ensures.2 is).makes c.args.me.now c.me.view_is

pub returns-else-found-self : goal.returns-else-found-self
returns-else-found-self c =
    let same = ap (λ (s : SeatState). s.pool) c.me.view_is ∙ c.requires.pool in
    let is = ap (λ (p : PoolState). reply_at p.len c.fetch_add-found.result Claim) same in
    (after_call c.me.inside c.me.invariant Claim (reply_at c.args.self.now.len c.fetch_add-found.result Claim) _ _
    c.fetch_add-found.ensures.2 is).makes c.args.me.now c.me.view_is
