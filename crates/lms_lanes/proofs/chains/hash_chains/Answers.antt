use Rattle.std.proofs.Common.{◌∙◌, ℕ, List, [], get_or}
use Rattle.lms_lanes.specs.Chains.{walked}
use Rattle.lms_lanes.proofs.chains.hash_chains.Goals as goal

pub returns-clause-values : goal.returns-clause-values
returns-clause-values c = λ k lt.
    let head : List ℕ = get_or c.args.heads.now k [] in
    let first = c.widened.ensures.lanes.lane k lt in
    let count = c.widened-2.ensures.lanes.lane k lt in
    let value = c.value_words.ensures.lanes k lt in
    c.digests_of.ensures.digests k lt ∙ c.walk-end.ensures.lanes k lt head (c.head_words-head.ensures.lanes k lt)
    ∙ (λ i. walked head (first i) (count i) (value i))
