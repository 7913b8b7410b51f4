use Rattle.std.proofs.Common.{◌≡◌, ◌∙◌, ◌∷◌, ◌++◌, ◌+◌, ◌%◌, ℕ, List, length, slice_index, ap, arith, sym}
use Rattle.std.proofs.Common.{length-append}
use Rattle.sha2.specs.Sha256.{compress, digest_bytes}
use Rattle.lms_lanes.specs.Lanes.{lane_of}
use Rattle.lms_lanes.specs.Chains.{short_padding}
use Rattle.lms_lanes.proofs.OneBlock.{length-digest_bytes, sha256-one_block}
use Rattle.lms_lanes.proofs.chains.step.Goals as goal

pub returns-clause-lanes : goal.returns-clause-lanes
returns-clause-lanes c = λ k lt text begins.
    let value : List ℕ = digest_bytes (lane_of c.args.value.now k) 8 in
    let byte : ℕ = (slice_index c.args.first k + c.args.i) % 256 in
    let whole : List ℕ = text ++ byte ∷ value in
    let long : length whole ≡ 55 =
    omega (arith, length-append text (byte ∷ value), begins.long, length-digest_bytes (lane_of c.args.value.now k)) in
    ap (λ (h : List ℕ). digest_bytes h 8)
    (c.compress.ensures.lanes k lt (whole ++ short_padding) (c.block_at.ensures.lanes k lt text begins)
    ∙ ap (λ (h : List ℕ). compress h (whole ++ short_padding)) (c.initial.ensures.lanes k lt))
    ∙ sym (sha256-one_block whole long)
