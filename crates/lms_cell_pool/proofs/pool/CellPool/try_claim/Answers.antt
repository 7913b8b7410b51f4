use Rattle.std.proofs.Common.{rules, ◌+◌, ◌<◌, sym, ap, ◌∙◌, refl, arith}
use Rattle.crossbeam_utils.specs.Seq.{cell_view}
use Rattle.lms_pool.specs.declared.call_log.Call.TheVariants.{Claim}
use Rattle.lms_pool.specs.States.{PoolState, SeatState}
use Rattle.lms_cell_pool.proofs.Steps.{changes, is_same, peeks, same_places}
use Rattle.lms_pool.proofs.CallLogs.{claim_rises, claim_stays}
use Rattle.lms_cell_pool.proofs.Seats.{own_hand, still}
use Rattle.lms_cell_pool.proofs.pool.CellPool.try_claim.Goals as goal

pub load_as-found-requires : goal.load_as-found-requires
load_as-found-requires g c =
    let me = c.me.inside in
    let same = ap (λ (s : SeatState). s.pool) c.me.view_is ∙ c.requires ∙ sym c.self.view_is in (
      search rules,
      (
        search rules,
        (
          c.me.invariant.of_pool.table_is ∙ ap (λ (p : PoolState). p.table) same,
          peeks me.token.id (cell_view me.token) _ (own_hand me) Claim c.me.invariant.alone
              (claim_stays me.pool.value.len),
        ),
      ),
    )

pub compare_exchange_as-requires : goal.compare_exchange_as-requires
compare_exchange_as-requires g c =
    let me = c.me.inside in
    let same = ap (λ (s : SeatState). s.pool) c.me.view_is ∙ c.requires ∙ sym c.self.view_is in
    let seen = c.load_as-found.result in
    let low : seen.taken < me.pool.value.len =
    omega (arith, ap (λ (p : PoolState). p.len) same, c.if-found-self.false) in
    let is = still me c.me.invariant Claim seen _ c.load_as-found.ensures.rule low in
    let token = c.load_as-found.new.pass in
    let here = c.load_as-found.ensures.cell.0
    ∙ (c.me.invariant.of_pool.table_is ∙ ap (λ (p : PoolState). p.table) same) in
    let may = changes token.id (cell_view token) _ (own_hand me) Claim (λ x. is_same x seen) seen
    (record { taken = seen.taken + 1; len = seen.len; seats = seen.seats }) is
    (λ x e. same_places x seen e) refl refl (omega arith) (claim_rises me.pool.value.len seen.taken low)
    (omega (arith, low)) in
    (search rules, (search rules, (here, may)))
