use Rattle.std.proofs.Common.{◌∙◌, ℕ, List, [], get_or, slice_index, ap, arith}
use Rattle.lms_lanes.specs.Chains.{walked}
use Rattle.lms_ots.proofs.lanes.walk_lanes.Goals as goal

pub returns-clause-values : goal.returns-clause-values
returns-clause-values c = λ k lt.
    c.hash_chains.ensures.values k lt
    ∙ ap (λ (head : List ℕ).
    walked head (slice_index c.args.firsts.now k) (slice_index c.args.steps.now k) (get_or c.args.starts.now k []))
    (c.lanes.invariant.heads k (omega (arith, lt)))
