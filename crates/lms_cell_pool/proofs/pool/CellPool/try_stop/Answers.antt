use Rattle.std.proofs.Common.{rules, ◌≡◌, ℕ, ◌+◌, ◌-◌, ◌<◌, min, sym, ap, ◌∙◌, refl, subst, arith}
use Rattle.crossbeam_utils.specs.Seq.{cell_view}
use Rattle.lms_pool.specs.declared.call_log.Call.TheVariants.{Stop}
use Rattle.lms_pool.specs.declared.call_log.Reply.TheVariants.{Count}
use Rattle.lms_pool.specs.Rule.{Makes}
use Rattle.lms_pool.specs.States.{PoolState, SeatState}
use Rattle.lms_cell_pool.specs.declared.rule.Places.{Places}
use Rattle.lms_cell_pool.proofs.Steps.{changes, is_same, peeks, same_places}
use Rattle.lms_cell_pool.proofs.Seats.{after_call, own_hand, still}
use Rattle.lms_cell_pool.proofs.pool.CellPool.try_stop.Goals as goal

pub load_as-found-requires : goal.load_as-found-requires
load_as-found-requires g c =
    let me = c.me.inside in
    let same = ap (λ (s : SeatState). s.pool) c.me.view_is ∙ c.requires ∙ sym c.self.view_is in (
      search rules,
      (
        search rules,
        (
          c.me.invariant.of_pool.table_is ∙ ap (λ (p : PoolState). p.table) same,
          peeks me.token.id (cell_view me.token) _ (own_hand me) Stop c.me.invariant.alone (λ n le. omega arith),
        ),
      ),
    )

pub compare_exchange_as-requires : goal.compare_exchange_as-requires
compare_exchange_as-requires g c =
    let me = c.me.inside in
    let same = ap (λ (s : SeatState). s.pool) c.me.view_is ∙ c.requires ∙ sym c.self.view_is in
    let seen = c.load_as-found.result in
    let low : seen.taken < me.pool.value.len =
    omega (arith, ap (λ (p : PoolState). p.len) same, c.if-found-self.false) in
    let is = still me c.me.invariant Stop seen _ c.load_as-found.ensures.rule low in
    let token = c.load_as-found.new.pass in
    let long = ap (λ (p : PoolState). p.len) same in
    let here = c.load_as-found.ensures.cell.0
    ∙ (c.me.invariant.of_pool.table_is ∙ ap (λ (p : PoolState). p.table) same) in
    let may = changes token.id (cell_view token) _ (own_hand me) Stop (λ x. is_same x seen) seen
    (record { taken = c.self.inside.len; len = seen.len; seats = seen.seats }) is
    (λ x e. same_places x seen e) refl refl (omega (arith, low, long)) (omega (arith, low, long))
    (omega (arith, low, long)) in
    (search rules, (search rules, (here, may)))

pub invariant_of-me-in-Ok : goal.invariant_of-me-in-Ok
invariant_of-me-in-Ok g c =
    let me = c.me.inside in
    let len = c.self.inside.len in
    let long = ap (λ (s : SeatState). s.pool.len) c.me.view_is
    ∙ ap (λ (p : PoolState). p.len) (c.requires ∙ sym c.self.view_is) in
    let seen = c.load_as-found.result in
    let low : seen.taken < me.pool.value.len = omega (arith, long, c.if-found-self.false) in
    let is = still me c.me.invariant Stop seen _ c.load_as-found.ensures.rule low in
    let rule = c.in-Ok.ensures.rule in
    let found = ap (λ (x : Places). x.taken) (same_places c.in-Ok.field-0 seen rule.0) in
    let after = rule.1 me.pool.value.seats (own_hand me) is in
    let burnt : me.pool.value.len - min c.in-Ok.field-0.taken me.pool.value.len ≡ len - seen.taken =
    omega (arith, found, low, long) in
    let made = subst (λ (n : ℕ). Makes Stop (Count n) (own_hand me) after.0) burnt
    (after.2.1 (omega (arith, found, low, long))) in
    (after_call me c.me.invariant Stop (Count (len - seen.taken)) _ after.0 after.1 made).stays
    (me.stopped + (len - seen.taken)) _
    (c.compare_exchange_as.ensures.cell.0 ∙ c.load_as-found.ensures.cell.0) refl
