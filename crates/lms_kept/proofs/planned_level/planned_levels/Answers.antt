use Rattle.std.proofs.Common.{◌≡◌, ◌+◌, ◌-◌, length, ap, arith, subst, sym}
use Rattle.lms_hss.specs.Keys.{hss_key_of}
use Rattle.lms_kept.specs.Ways.{ArePlanned}
use Rattle.lms_kept.proofs.Plans.{plan-more}
use Rattle.lms_kept.proofs.Ways.{levels-count}
use Rattle.lms_kept.proofs.planned_level.planned_levels.Goals as goal

pub loop-k-init : goal.loop-k-init
loop-k-init c =
    let whole : length c.as_slice-k.result.now ≡ length c.args.key.now.levels = ap length c.as_slice-k.ensures.levels in
    let none : length c.in_ok-plans.plans.items ≡ 0 = ap length c.in_ok-plans.ensures.items in
    record {
      down = omega (arith, c.requires, whole);
      capacity = omega (arith, c.in_ok-plans.ensures.capacity, c.requires, whole);
      planned = record {
        count = omega (arith, none, whole, levels-count c.args.key.now);
        each = λ k other from below. absurd (omega (arith, from, below, whole, levels-count c.args.key.now));
      };
    }

pub loop-k-preserved : goal.loop-k-preserved
loop-k-preserved c =
    let key = hss_key_of c.args.key.now in
    let here = c.loop-k.invariant in
    let k = c.loop-k.k - 1 in
    let next : c.loop-k.k ≡ k + 1 = omega (arith, c.loop-k-test.true) in
    let more = plan-more key c.args.at k c.loop-k.plans.items c.in_ok-planned.planned
    (subst (λ n. ArePlanned key c.args.at n c.loop-k.plans.items) next here.planned) c.in_ok-planned.ensures in
    record {
      down = omega (arith, c.loop-k-test.true);
      capacity = omega (arith, here.capacity, c.push_reserved.ensures.capacity);
      planned = subst (ArePlanned key c.args.at k) (sym c.push_reserved.ensures.items) more;
    }
