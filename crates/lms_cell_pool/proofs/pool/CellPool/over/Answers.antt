use Rattle.std.proofs.Common.{refl, arith}
use Rattle.lms_pool.proofs.NewSeats.{are_all, has_room, with_next}
use Rattle.lms_cell_pool.proofs.pool.CellPool.over.Goals as goal

pub push_reserved-requires : goal.push_reserved-requires
push_reserved-requires g c =
    has_room _ c.loop-number.number c.loop-number.all_seats c.loop-number.invariant.begun c.loop-number-test.true

pub loop-number-preserved : goal.loop-number-preserved
loop-number-preserved g c = record {
  rest = c.part-seat.ensures.rest;
  begun = with_next _ c.loop-number.number c.loop-number.all_seats c.loop-number.invariant.begun _ c.part-seat.result
      c.part-seat.ensures.seat c.push_reserved.ensures.capacity c.push_reserved.ensures.items;
}

pub returns : goal.returns
returns g c =
    are_all _ c.loop-number.number c.loop-number.all_seats c.loop-number.invariant.begun c.args.lease c.args.seats
    (c.key-key.ensures, c.start-start.ensures.start, c.len-len.ensures.len, refl)
    (omega (arith, c.loop-number-test.false, c.loop-number.auto.number-end))
