use Rattle.std.proofs.Common.{◌≡◌, ◌∙◌, ℕ, List, min, slice_index, ap, arith}
use Rattle.sha2.specs.Sha256.{digest_bytes}
use Rattle.lms_lanes.specs.Chains.{walked}
use Rattle.lms_lanes.specs.Lanes.{lane_of}
use Rattle.lms_lanes.proofs.Walks.{walked-next}
use Rattle.lms_lanes.proofs.chains.walk.Goals as goal

pub steps-preserved : goal.steps-preserved
steps-preserved c = record {
  vectors = c.chosen-after.ensures.vectors;
  lanes = λ k lt text begins.
      walked-next text (digest_bytes (lane_of c.args.start.now k) 8) _ _ (slice_index c.args.first k) c.steps.i
      (slice_index c.args.steps k) (c.steps.invariant.lanes k lt text begins)
      (λ more. ap (λ (h : List ℕ). digest_bytes h 8) (c.chosen-after.ensures.taken k lt more)
      ∙ c.step-next.ensures.lanes k lt text begins)
      (λ over. ap (λ (h : List ℕ). digest_bytes h 8) (c.chosen-after.ensures.left k lt over));
}

pub returns-clause-lanes : goal.returns-clause-lanes
returns-clause-lanes c = λ k lt text begins.
    let all : min c.steps.i (slice_index c.args.steps k) ≡ slice_index c.args.steps k =
    omega (arith, c.requires.most k lt) in
    c.steps.invariant.lanes k lt text begins
    ∙ ap (λ n. walked text (slice_index c.args.first k) n (digest_bytes (lane_of c.args.start.now k) 8)) all
