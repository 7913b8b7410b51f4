-- The parts of a one-time signature, as they are cut from its bytes.
use Rattle.std.proofs.Common.{ℕ, ◌≡◌, ◌+◌, ◌*◌, ◌/◌, List, ◌++◌, length, All, take, drop, sym, ◌∙◌, ap, ap₂, arith}
use Rattle.std.proofs.Common.{subst, refl, append_assoc, length-drop, take-append-drop}
use Rattle.std.specs.List.{concat}
use Rattle.std.specs.Simd.{first_chunks}
use Rattle.std.proofs.lemmas.List.{length-take-le, take_at, drop_at}
use Rattle.lms_spec.specs.Parameters.{OtsSet, ots_signature_length}
use Rattle.lms_spec.specs.Bytes.{u32str}
use Rattle.lms_spec.specs.Ots.{IsOtsSignature}
use Rattle.lms_spec.proofs.Pieces.{Is32}
use Rattle.lms_spec.proofs.Chunks.{length-chunks, chunks-are-32, concat-chunks}

pub ots-parts : (t : OtsSet) (signature rest randomizer last : List ℕ) (values : List (List ℕ))
    → length signature ≡ ots_signature_length t → signature ≡ u32str t.code ++ rest
    → randomizer ≡ take 32 rest → last ≡ drop 32 rest → values ≡ first_chunks 32 (length last / 32) last
    → IsOtsSignature t randomizer values signature
ots-parts t signature rest randomizer last values long es er el ev =
    let rest_long : length rest ≡ 32 * (t.p + 1) = omega (arith, ap length es) in
    let last_long : length last ≡ 32 * t.p = omega (arith, ap length el, length-drop 32 rest) in
    let count : length last / 32 ≡ t.p = omega arith in
    let pieces : values ≡ first_chunks 32 t.p last = ev ∙ ap (λ n. first_chunks 32 n last) count in
    let whole : rest ≡ randomizer ++ concat values
    = sym (take-append-drop 32 rest)
    ∙ ap₂ (λ x y. x ++ y) (sym er) (sym el ∙ sym (ap concat pieces ∙ concat-chunks t.p last last_long)) in
    record {
      randomizer_length = ap length er ∙ length-take-le 32 rest (omega arith);
      values_count = ap length pieces ∙ length-chunks t.p last;
      value_lengths = subst (All Is32) (sym pieces) (chunks-are-32 t.p last (omega arith));
      parts = es ∙ ap (λ x. u32str t.code ++ x) whole;
    }

-- a signature's randomizer is after its typecode
pub randomizer-of : (t : OtsSet) (randomizer : List ℕ) (values : List (List ℕ)) (signature : List ℕ)
    → IsOtsSignature t randomizer values signature → take 32 (drop 4 signature) ≡ randomizer
randomizer-of t randomizer values signature is =
    let whole : signature ≡ u32str t.code ++ (randomizer ++ concat values) =
    is.parts ∙ append_assoc (u32str t.code) randomizer (concat values) in
    ap (λ x. take 32 (drop 4 x)) whole
    ∙ (ap (take 32) (drop_at (u32str t.code) (randomizer ++ concat values) 4 refl)
    ∙ take_at randomizer (concat values) 32 is.randomizer_length)
