use Rattle.std.proofs.Common.{◌≡◌, ◌+◌, ◌-◌, ℕ, List, [], ◌++◌, ◌<◌, get_or, min, slice_index, ◌∙◌, ap, arith}
use Rattle.lms_lanes.specs.Chains.{walked}
use Rattle.lms_spec.specs.Bytes.{u16str}
use Rattle.lms_spec.specs.Hashing.{hash_prefix}
use Rattle.lms_ots.specs.Walks.{chain_at}
use Rattle.lms_ots.proofs.LaneChains.{walked-on}
use Rattle.lms_ots.proofs.walk.walk_on.Goals as goal

pub returns-clause-taken : goal.returns-clause-taken
returns-clause-taken c = λ k lt.
    let left : ℕ → ℕ = slice_index c.args.left.now in
    let least : left (slice_index c.args.chains.now k) - min (left (slice_index c.args.chains.now k)) c.args.most
    ≡ left (slice_index c.args.chains.now k) - c.args.most = omega arith in
    c.put.ensures.come (λ i. left i - min (left i) c.args.most) (λ j below. c.lanes.invariant.left j (omega (arith, below)))
    k lt ∙ least

pub returns-clause-values : goal.returns-clause-values
returns-clause-values c = λ starts right i held.
    let value : ℕ → ℕ → List ℕ =
    chain_at c.args.id.i c.args.id.q c.args.firsts.now c.args.steps.now starts in
    c.put.ensures.values value
    (λ k lt.
    let below : k < c.lanes.k = omega (arith, lt) in
    let chain : ℕ = slice_index c.args.chains.now k in
    let head : List ℕ = hash_prefix c.args.id.i c.args.id.q ++ u16str chain in
    let first : ℕ = slice_index c.args.firsts.now chain in
    let steps : ℕ = slice_index c.args.steps.now chain in
    let left : ℕ = slice_index c.args.left.now chain in
    let all : (steps - left) + min left c.args.most ≡ steps - slice_index c.lanes.lane_left k =
    omega (arith, c.requires.left chain, c.lanes.invariant.left k below) in
    let is_first = c.lanes.invariant.firsts k below in
    let is_steps = c.lanes.invariant.steps k below in
    let is_value : get_or c.lanes.lane_values k [] ≡ walked head first (steps - left) (starts chain) =
    c.lanes.invariant.values k below ∙ right k lt in
    c.walk_lanes-values.ensures.values k lt
    ∙ ((λ j. walked head (is_first j) (is_steps j) (is_value j))
    ∙ (walked-on head (starts chain) first (steps - left) (min left c.args.most)
    ∙ ap (λ n. walked head first n (starts chain)) all)))
    i held
