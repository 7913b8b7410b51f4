-- The number that a byte string begins with.
use Rattle.std.proofs.Common.{ℕ, ◌≡◌, ◌^◌, ◌<◌, ◌≤◌, List, ◌++◌, length, take, drop, get_or, refl, sym, ◌∙◌, ap, ap₂}
use Rattle.std.proofs.Common.{arith, ⊎_elim, take-append-drop}
use Rattle.std.specs.Int.{w32, w64, from_be_bytes}
use Rattle.std.proofs.lemmas.Bool.{cases_lt}
use Rattle.std.proofs.lemmas.List.{length-take-le, get_or-take, get_or_past}
use Rattle.std.proofs.lemmas.Nat.{be_bytes_4, be_bytes_8, from_be_bytes-to_be_bytes_4}
use Rattle.lms_spec.specs.Bytes.{u32str, u64str}
use Rattle.lms_spec.proofs.Pieces.{same-front, same-rest}

byte-take : (k : ℕ) (bytes : List ℕ) → k ≤ length bytes → ((i : ℕ) → get_or bytes i 0 < 256) → (i : ℕ)
    → get_or (take k bytes) i 0 < 256
byte-take k bytes long small i =
    ⊎_elim
    (λ (lt : i < k). omega (arith, small i, get_or-take k bytes i 0 lt))
    (λ (ge : k ≤ i). omega (arith, get_or_past (take k bytes) i 0 (omega (arith, length-take-le k bytes long))))
    (cases_lt i k)

-- a byte string is the number that its first four bytes make, and the rest
pub number-and-rest : (bytes front rest : List ℕ) (n : ℕ) → ((i : ℕ) → get_or bytes i 0 < 256) → 4 ≤ length bytes
    → front ≡ take 4 bytes → rest ≡ drop 4 bytes → n ≡ from_be_bytes w32 front → bytes ≡ u32str n ++ rest
number-and-rest bytes front rest n small long ef er en =
    let four = length-take-le 4 bytes long in
    let number : u32str n ≡ take 4 bytes =
    be_bytes_4 (take 4 bytes) n four (byte-take 4 bytes long small) (en ∙ ap (from_be_bytes w32) ef) in
    sym (take-append-drop 4 bytes) ∙ ap₂ (λ x y. x ++ y) (sym number) (sym er)

-- the same of its first eight bytes
pub eight-and-rest : (bytes front rest : List ℕ) (n : ℕ) → ((i : ℕ) → get_or bytes i 0 < 256) → 8 ≤ length bytes
    → front ≡ take 8 bytes → rest ≡ drop 8 bytes → n ≡ from_be_bytes w64 front → bytes ≡ u64str n ++ rest
eight-and-rest bytes front rest n small long ef er en =
    let eight = length-take-le 8 bytes long in
    let number : u64str n ≡ take 8 bytes =
    be_bytes_8 (take 8 bytes) n eight (byte-take 8 bytes long small) (en ∙ ap (from_be_bytes w64) ef) in
    sym (take-append-drop 8 bytes) ∙ ap₂ (λ x y. x ++ y) (sym number) (sym er)

pub u32str-same : (m n : ℕ) → m < 2 ^ 32 → n < 2 ^ 32 → u32str m ≡ u32str n → m ≡ n
u32str-same m n hm hn e =
    sym (from_be_bytes-to_be_bytes_4 m hm) ∙ (ap (from_be_bytes w32) e ∙ from_be_bytes-to_be_bytes_4 n hn)

-- two byte strings that are the same begin with the same number
pub first-number-same : (m n : ℕ) (a b : List ℕ) → m < 2 ^ 32 → n < 2 ^ 32 → u32str m ++ a ≡ u32str n ++ b → m ≡ n
first-number-same m n a b hm hn e = u32str-same m n hm hn (same-front 4 (u32str m) (u32str n) a b refl refl e)

-- and go on with the same rest
pub rest-same : (m n : ℕ) (a b : List ℕ) → u32str m ++ a ≡ u32str n ++ b → a ≡ b
rest-same m n a b e = same-rest 4 (u32str m) (u32str n) a b refl refl e
