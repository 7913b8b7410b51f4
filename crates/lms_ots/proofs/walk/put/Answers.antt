use Rattle.std.proofs.Common.{◌<◌, ◌∙◌, [], get_or, length, ap, sym, arith, slice_index}
use Rattle.std.proofs.lemmas.List.{length-set}
use Rattle.lms_ots.proofs.Orders.{below-set, come-next, right-set}
use Rattle.lms_ots.proofs.walk.put.Goals as goal

pub lanes-preserved : goal.lanes-preserved
lanes-preserved c =
    let left = c.lanes.left in
    let ends = c.lanes.ends in
    let k = c.lanes.k in
    let at = c.from-i.result in
    let chains = c.args.chains.now in
    let x = slice_index c.args.lane_left.now k in
    let v = get_or c.args.values.now k [] in
    let below : k < 8 = omega arith in
    let within : at < length left = omega (arith, c.requires k below, c.from-i.ensures, c.lanes.invariant.left_long) in
    let inside : at < length ends = omega (arith, c.requires k below, c.from-i.ensures, c.lanes.invariant.ends_long) in
    record {
      left_long = length-set left at x ∙ c.lanes.invariant.left_long;
      ends_long = length-set ends at v ∙ c.lanes.invariant.ends_long;
      less = λ right i.
          below-set left (slice_index c.args.left.now) at x within
          (rw c.from-i.ensures (right k below)) i (c.lanes.invariant.less right i);
      come = λ f right.
          come-next left f chains k at x within c.from-i.ensures (right k below ∙ ap f (sym c.from-i.ensures))
          (c.lanes.invariant.come f right);
      values = λ f right i held.
          right-set ends left f at x v inside within (right k below ∙ ap (λ i. f i x) (sym c.from-i.ensures)) i
          (c.lanes.invariant.values f right i held);
    }

pub returns-clause-come : goal.returns-clause-come
returns-clause-come c = λ f right k lt. c.lanes.invariant.come f right k (omega (arith, lt))
