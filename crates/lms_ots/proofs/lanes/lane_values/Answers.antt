use Rattle.std.proofs.Common.{◌+◌, ◌∙◌, ℕ, List, []}
use Rattle.std.proofs.lemmas.Simd.{get_or-replicate}
use Rattle.lms_ots.proofs.LaneChains.{eight_in_row, lane-from_seed}
use Rattle.lms_ots.proofs.lanes.lane_values.Goals as goal

pub returns-clause-values : goal.returns-clause-values
returns-clause-values c = λ k lt.
    let id = c.args.id in
    let seed : List ℕ = c.args.seed.now in
    let first : ℕ = c.args.first in
    let digit : ℕ = c.args.digit in
    c.walk_lanes.ensures.values k lt
    ∙ lane-from_seed id.i seed id.q (first + k) digit _ _ _ _ (eight_in_row first k lt) (get_or-replicate 8 k 255 0 lt)
    (get_or-replicate 8 k (digit + 1) 0 lt) (get_or-replicate 8 k seed [] lt) c.requires.limit
