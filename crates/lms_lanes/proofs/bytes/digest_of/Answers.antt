use Rattle.std.proofs.Common.{rules, ◌≡◌, ◌∙◌, ℕ, arith, ap, sym}
use Rattle.std.proofs.lemmas.List.{take_all}
use Rattle.std.proofs.lemmas.Slice.{overwrites}
use Rattle.std.specs.Int.{to_be_bytes, w32}
use Rattle.sha2.specs.Sha256.{digest_bytes}
use Rattle.sha2.proofs.Absorbing256.{digest_more}
use Rattle.lms_lanes.specs.Lanes.{lane_of}
use Rattle.lms_lanes.proofs.Lanes.{word_of_lane}
use Rattle.lms_lanes.proofs.bytes.digest_of.Goals as goal

pub words-init : goal.words-init
unfolding digest_bytes
words-init c = search rules

pub words-preserved : goal.words-preserved
words-preserved c = record {
  long = search (rules, overwrites);
  made =
      let word = word_of_lane 8 c.args.hash.now c.args.lane c.words.i c.told-hash (omega arith) in
      digest_more c.words.digest (lane_of c.args.hash.now c.args.lane) _ c.words.i _ c.words.invariant.made
      (omega (arith, c.words.invariant.long))
      (c.copy_from_slice.ensures.after ∙ c.to_be_bytes.ensures ∙ ap (λ (x : ℕ). to_be_bytes w32 x) (sym word));
}

pub returns : goal.returns
returns c =
    let done : c.words.i ≡ 8 = omega arith in
    sym (take_all 32 c.words.digest (omega (arith, c.words.invariant.long))) ∙ rw done at c.words.invariant.made
