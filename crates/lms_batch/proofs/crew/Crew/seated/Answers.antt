use Rattle.std.proofs.Common.{◌≡◌, ◌≤◌, arith, length, vec_len}
use Rattle.std.specs.Vec.{vec_capacity}
use Rattle.std.proofs.lemmas.List.Elements.{All-pop}
use Rattle.lms_pool.specs.States.{SeatState}
use Rattle.lms_batch.proofs.crew.Crew.seated.Goals as goal

pub loop-list-preserved : goal.loop-list-preserved
loop-list-preserved c =
    let inv = c.loop-list.invariant in
    let pushed = c.push_reserved.ensures in
    record {
      capacity = (All-pop (λ (list : _). (vec_len list ≡ 0) × (length c.args.self.jobs.now ≤ vec_capacity list)) _ _ _
          c.pop.ensures.items inv.capacity).0;
      fits = omega (arith, inv.fits, c.in-Some.ensures.len, pushed.len, pushed.capacity);
      own = (All-pop (λ (seat : SeatState). seat.pool ≡ c.args.lease.now) _ _ _ c.pop-in-Some.ensures.items inv.own).0;
      each = omega (arith, inv.each, c.in-Some.ensures.len, c.in-Some-pop.ensures.len);
      count = omega (arith, inv.count, c.in-Some.ensures.len, pushed.len);
    }
