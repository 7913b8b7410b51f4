use Rattle.std.proofs.Common.{◌≡◌, ◌∙◌, ◌++◌, replicate, slice_index}
use Rattle.std.proofs.lemmas.Simd.{get_or-replicate}
use Rattle.std.specs.Int.{to_be_bytes, w16}
use Rattle.sha2.specs.Sha256.{digest_bytes}
use Rattle.lms_lanes.specs.Chains.{walked}
use Rattle.lms_lanes.specs.Lanes.{lane_of}
use Rattle.lms_lanes.proofs.ends.ends_of.Goals as goal

pub returns-clause-lanes : goal.returns-clause-lanes
returns-clause-lanes c = λ k lt text has.
    let first : slice_index (replicate 8 c.from.result) k ≡ c.args.first =
    get_or-replicate 8 k c.from.result 0 lt ∙ c.from.ensures in
    let steps : slice_index (replicate 8 c.from-2.result) k ≡ c.args.steps =
    get_or-replicate 8 k c.from-2.result 0 lt ∙ c.from-2.ensures in
    c.walk.ensures.lanes k lt (text ++ to_be_bytes w16 c.args.number) (c.head_of-head.ensures.lanes k lt text has)
    ∙ (λ i.
    walked (text ++ to_be_bytes w16 c.args.number) (first i) (steps i) (digest_bytes (lane_of c.args.start.now k) 8))
