use Rattle.lms_pool.proofs.Seats.{ended_seen, place_seen}
use Rattle.lms_cell_pool.proofs.Seats.{on_err}
use Rattle.lms_cell_pool.proofs.pool.CellPool.claim.Goals as goal

pub returns-in_err-place-clause-ended : goal.returns-in_err-place-clause-ended
returns-in_err-place-clause-ended g c =
    on_err c.from_residual.result
    (ended_seen c.args.self.now c.args.me.now c.claim_place.new.me c.requires c.in_err-place.ensures.call)

pub returns-clause-pass : goal.returns-clause-pass
returns-clause-pass g c = (
  c.of.ensures,
  place_seen c.in_ok-place.place c.args.me.now c.claim_place.new.me c.in_ok-place.ensures.call,
  c.in_ok-place.ensures.below,
)
