-- Bytes cut into pieces of 32.
use Rattle.std.proofs.Common.{ℕ, zero, suc, ◌≡◌, ◌*◌, ◌≤◌, List, ◌++◌, length, All, take, drop, refl, sym, ◌∙◌, ap}
use Rattle.std.proofs.Common.{arith, length-drop, take-append-drop}
use Rattle.std.specs.List.{concat}
use Rattle.std.specs.Simd.{first_chunks}
use Rattle.std.proofs.lemmas.List.{length-take-le, nil_from_length}
use Rattle.std.proofs.lemmas.List.Elements.{All-nil, All-cons}
use Rattle.lms_spec.proofs.Pieces.{Is32}

pub length-chunks : (n : ℕ) (bytes : List ℕ) → length (first_chunks 32 n bytes) ≡ n
length-chunks zero bytes = refl
length-chunks (suc n) bytes = ap suc (length-chunks n (drop 32 bytes))

pub chunks-are-32 : (n : ℕ) (bytes : List ℕ) → 32 * n ≤ length bytes → All Is32 (first_chunks 32 n bytes)
chunks-are-32 zero bytes h = All-nil Is32
chunks-are-32 (suc n) bytes h =
    All-cons Is32 (take 32 bytes) (first_chunks 32 n (drop 32 bytes)) (length-take-le 32 bytes (omega arith))
    (chunks-are-32 n (drop 32 bytes) (omega (arith, length-drop 32 bytes)))

pub concat-chunks : (n : ℕ) (bytes : List ℕ) → length bytes ≡ 32 * n → concat (first_chunks 32 n bytes) ≡ bytes
concat-chunks zero bytes h = sym (nil_from_length bytes (omega arith))
concat-chunks (suc n) bytes h =
    ap (λ rest. take 32 bytes ++ rest) (concat-chunks n (drop 32 bytes) (omega (arith, length-drop 32 bytes)))
    ∙ take-append-drop 32 bytes
