-- Digits and lines of signatures, one after another.
use Rattle.std.specs.Prelude.{slice_index}
use Rattle.std.proofs.Common.{◌≡◌, ℕ, ◌/◌, ◌%◌, List, [], ◌∷◌, ◌++◌, Option, None, Some, refl, ap}
use Rattle.std.proofs.Common.{drop, ◌+◌, ◌<◌, length, get_or, arith, add-one, drop-cons}
use Rattle.std.specs.Io.KnownBytes.{Appends}
use Rattle.hex.specs.Hex.{encode_with}
use Rattle.hex.specs.Hex.{encode_lower}
use Rattle.lms_lines.specs.AnswerLines.{answer_line, answers}
use Rattle.lms_blocks.proofs.Fronts.{Appends-none}

pub encode_with-append : (t xs ys : List ℕ) → encode_with t (xs ++ ys) ≡ encode_with t xs ++ encode_with t ys
unfolding encode_with
encode_with-append t [] ys = refl
encode_with-append t (x ∷ xs) ys =
    ap (λ (l : List ℕ). slice_index t (x / 16) ∷ slice_index t (x % 16) ∷ l) (encode_with-append t xs ys)

pub Appends-no_hex : (a : Option (List ℕ)) → Appends a a (encode_lower [])
unfolding encode_with
Appends-no_hex a = Appends-none a

-- the lines from a slot on: that of the slot, where it is filled, and the lines from the next slot on
pub answers-some : (start k : ℕ) (slots : List (Option (List ℕ))) (signature : List ℕ) → k < length slots
    → get_or slots k None ≡ Some signature
    → answers (start + k) (drop k slots)
    ≡ answer_line (start + k) signature ++ answers (start + (k + 1)) (drop (k + 1) slots)
answers-some start k slots signature below is =
    let split : drop k slots ≡ Some signature ∷ drop (k + 1) slots = rw (add-one, drop-cons slots k None, is) refl in
    let next : (start + k) + 1 ≡ start + (k + 1) = omega arith in
    rw split (ap (λ (n : ℕ). answer_line (start + k) signature ++ answers n (drop (k + 1) slots)) next)

pub answers-none : (start k : ℕ) (slots : List (Option (List ℕ))) → k < length slots → get_or slots k None ≡ None
    → answers (start + k) (drop k slots) ≡ answers (start + (k + 1)) (drop (k + 1) slots)
answers-none start k slots below is =
    let split : drop k slots ≡ None ∷ drop (k + 1) slots = rw (add-one, drop-cons slots k None, is) refl in
    let next : (start + k) + 1 ≡ start + (k + 1) = omega arith in
    rw split (ap (λ (n : ℕ). answers n (drop (k + 1) slots)) next)
