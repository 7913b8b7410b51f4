-- The text of a witness.
use Rattle.std.proofs.Common.{◌≡◌, ◌∙◌, ℕ, ◌+◌, ◌*◌, ◌<◌, ◌^◌, List, [], ◌∷◌, ◌++◌, length, take, drop, Result, Ok, Err}
use Rattle.std.proofs.Common.{ap, sym, refl, arith}
use Rattle.std.proofs.Common.{decimal, codes, subst}
use Rattle.std.proofs.Math.Seq.{take-append_seam, drop-append_seam}
use Rattle.std.proofs.lemmas.List.{append_cancel_left, append_cancel_right, length-append}
use Rattle.std.proofs.lemmas.Fmt.{decimal_injective}
use Rattle.hex.specs.Hex.{IsBytes, decode_of, encode_lower, lower_digits}
use Rattle.hex.proofs.HexLemmas.{decode_of-encode_lower, length-encode_with}
use Rattle.lms_texts.specs.Witnesses.{witness_head, witness_text}

-- the parts of a text, of which the first have the same length
pub parts_same : (a b c d : List ℕ) → length a ≡ length c → a ++ b ≡ c ++ d → (a ≡ c) × (b ≡ d)
parts_same a b c d long same = (
  sym (take-append_seam a b)
      ∙ (ap (take (length a)) same ∙ (ap (λ (n : ℕ). take n (c ++ d)) long ∙ take-append_seam c d)),
  sym (drop-append_seam a b)
      ∙ (ap (drop (length a)) same ∙ (ap (λ (n : ℕ). drop n (c ++ d)) long ∙ drop-append_seam c d)),
)

-- a head has as many bytes for each key
pub head_length : (id : List ℕ) → length (witness_head id) ≡ 36 + 2 * length id
head_length id =
    let digits = length-encode_with lower_digits id in
    omega (arith, digits, length-append (encode_lower id) (codes " has used all indices below "))

-- two witnesses of one text say the same
pub witness_same : (first second : List ℕ) (m n : ℕ) → length first ≡ length second → IsBytes first → IsBytes second
    → m < 2 ^ 64 → n < 2 ^ 64
    → witness_text first m ≡ witness_text second n → (first ≡ second) × (m ≡ n)
witness_same first second m n long bytes others small less same =
    let parts = parts_same (witness_head first) (decimal m ++ codes "\n") (witness_head second)
    (decimal n ++ codes "\n") (omega (arith, head_length first, head_length second, long)) same in
    let tail = append_cancel_left (codes "HSS key ") (encode_lower first ++ codes " has used all indices below ")
    (encode_lower second ++ codes " has used all indices below ") parts.0 in
    let digits = append_cancel_right (encode_lower first) (encode_lower second) (codes " has used all indices below ")
    tail in
    let decoded = sym (decode_of-encode_lower first bytes)
    ∙ (ap decode_of digits ∙ decode_of-encode_lower second others)
    in (
      cc decoded,
      decimal_injective m n small less
          (append_cancel_right (decimal m) (decimal n) (codes "\n") parts.1),
    )
