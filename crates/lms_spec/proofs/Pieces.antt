-- Byte strings joined of pieces: how long they are, and that they determine the pieces.
use Rattle.std.proofs.Common.{ℕ, ◌≡◌, ◌*◌, List, [], ◌∷◌, ◌++◌, length, All, take, drop, refl, sym, ◌∙◌, ap, ap₂, arith}
use Rattle.std.proofs.Common.{length-append}
use Rattle.std.specs.List.{concat}
use Rattle.std.proofs.Math.Nat.{suc_inj}
use Rattle.std.proofs.lemmas.List.{take_at, drop_at}
use Rattle.std.proofs.lemmas.List.Elements.{All-head, All-tail}

-- a byte string of 32 bytes
abbrev pub Is32 : List ℕ → Type 0
Is32 v = length v ≡ 32

pub length-concat : (vs : List (List ℕ)) → All Is32 vs → length (concat vs) ≡ 32 * length vs
length-concat [] long = refl
length-concat (v ∷ vs) long =
    let first = All-head Is32 v vs long in
    let rest = length-concat vs (All-tail Is32 v vs long) in
    length-append v (concat vs) ∙ omega arith

pub same-front : (n : ℕ) (a b x y : List ℕ) → length a ≡ n → length b ≡ n → a ++ x ≡ b ++ y → a ≡ b
same-front n a b x y la lb e = sym (take_at a x n la) ∙ (ap (take n) e ∙ take_at b y n lb)

pub same-rest : (n : ℕ) (a b x y : List ℕ) → length a ≡ n → length b ≡ n → a ++ x ≡ b ++ y → x ≡ y
same-rest n a b x y la lb e = sym (drop_at a x n la) ∙ (ap (drop n) e ∙ drop_at b y n lb)

-- byte strings of 32 bytes are determined by what they are joined to
pub concat-same : (xs ys : List (List ℕ)) → length xs ≡ length ys → All Is32 xs → All Is32 ys
    → concat xs ≡ concat ys → xs ≡ ys
concat-same [] [] same long long' e = refl
concat-same [] (y ∷ ys) same long long' e = absurd (omega arith)
concat-same (x ∷ xs) [] same long long' e = absurd (omega arith)
concat-same (x ∷ xs) (y ∷ ys) same long long' e =
    let lx = All-head Is32 x xs long in
    let ly = All-head Is32 y ys long' in
    ap₂ (λ v vs. v ∷ vs) (same-front 32 x y (concat xs) (concat ys) lx ly e)
    (concat-same xs ys (suc_inj same) (All-tail Is32 x xs long) (All-tail Is32 y ys long')
    (same-rest 32 x y (concat xs) (concat ys) lx ly e))
