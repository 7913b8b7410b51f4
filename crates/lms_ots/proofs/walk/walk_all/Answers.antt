use Rattle.std.proofs.Common.{◌≡◌, ◌-◌, ◌<◌, ◌++◌, ℕ, List, [], get_or, length, min, slice_index, inr, sym}
use Rattle.std.proofs.Common.{◌∙◌, ap, arith, rules, subst}
use Rattle.lms_lanes.specs.Chains.{walked}
use Rattle.lms_spec.specs.Bytes.{u16str}
use Rattle.lms_spec.specs.Hashing.{hash_prefix}
use Rattle.lms_params.specs.OtsType.{ots_set_of}
use Rattle.lms_ots.proofs.LaneChains.{eight_chains}
use Rattle.lms_ots.proofs.Orders.{none-left, taken-fewer}
use Rattle.lms_ots.proofs.walk.walk_all.Goals as goal

pub segments-init : goal.segments-init
segments-init c =
    let eight = eight_chains c.args.t in
    record {
      long = search rules;
      within = λ k lt.
          let small = c.longest_first-order.ensures.within k (omega (arith, lt, eight)) in
          omega (arith, small, c.first_chains-chains.ensures k lt);
      less = λ i. omega arith;
      values = λ i lt.
          let none : slice_index c.args.steps.now i - slice_index c.args.steps.now i ≡ 0 = omega arith in
          c.put_starts.ensures i lt
          ∙ sym (ap (λ n. walked (hash_prefix c.args.id.i c.args.id.q ++ u16str i) (slice_index c.args.firsts.now i) n
          (get_or c.args.starts.now (min i (length c.args.starts.now - 1)) [])) none);
      limit = omega (arith, eight);
      taken = λ m below. inr (m, omega (arith, below), c.first_chains-chains.ensures m (omega (arith, below)));
    }

pub segments-preserved : goal.segments-preserved
segments-preserved c =
    let order = c.longest_first-order.result in
    let chains = c.segments.chains in
    let left = c.segments.left in
    let fewer = c.walk_on.new.left in
    let now = c.segments.invariant in
    let starts : ℕ → List ℕ = λ i. get_or c.args.starts.now (min i (length c.args.starts.now - 1)) [] in
    record {
      long = search rules;
      within = c.refill-next.ensures.within;
      less = λ i. omega (arith, c.walk_on.ensures.less i, now.less i);
      values = λ i lt.
          c.walk_on.ensures.values starts (λ k lane. now.values (slice_index chains k) (now.within k lane)) i
          (now.values i lt);
      limit = c.refill-next.ensures.limit;
      taken = c.refill-next.ensures.taken
          (λ m below. taken-fewer order chains left fewer m c.walk_on.ensures.less (now.taken m below));
    }

pub returns : goal.returns
returns c = λ i lt.
    let order = c.longest_first-order.result in
    let chains = c.segments.chains in
    let left = c.segments.left in
    let fewer = c.walk_on.new.left in
    let now = c.segments.invariant in
    let starts : ℕ → List ℕ = λ i. get_or c.args.starts.now (min i (length c.args.starts.now - 1)) [] in
    let found = c.longest_first-order.ensures.each i lt in
    let m = found.0 in
    let last : c.segments.next ≡ (ots_set_of c.args.t).p = omega arith in
    let below : m < c.segments.next = omega (arith, found.1) in
    let none : slice_index fewer i ≡ 0 =
    subst (λ i. slice_index fewer i ≡ 0) found.2
    (none-left order chains fewer m
    (λ k in_lane.
    omega (arith, c.walk_on.ensures.taken k in_lane, c.segment_steps-most.ensures.rest last (slice_index chains k)))
    (taken-fewer order chains left fewer m c.walk_on.ensures.less (now.taken m below))) in
    let all : slice_index c.args.steps.now i - slice_index fewer i ≡ slice_index c.args.steps.now i =
    omega (arith, none) in
    c.walk_on.ensures.values starts (λ k in_lane. now.values (slice_index chains k) (now.within k in_lane)) i
    (now.values i lt)
    ∙ ap (λ n. walked (hash_prefix c.args.id.i c.args.id.q ++ u16str i) (slice_index c.args.firsts.now i) n (starts i)) all
