-- A text that is cut where a line ends.
use Rattle.std.specs.Prelude.{slice_index, Option}
use Rattle.std.specs.Io.KnownBytes.{IsAtEnd}
use Rattle.std.proofs.Common.{◌≡◌, ◌≢◌, ◌<◌, ◌≤◌, ◌⊎◌, ◌+◌, ℕ, zero, suc, List, [], ◌∷◌, ◌++◌, length, take, drop, Bool}
use Rattle.std.proofs.Common.{eqb, true, false, if◌then◌else◌, inl, inr, refl, sym, ap, ◌∙◌, subst, append_assoc, arith}
use Rattle.std.proofs.Common.{length-append, append-nil}
use Rattle.std.proofs.Math.Seq.{take-add}
use Rattle.std.proofs.lemmas.Bool.{true≢false}
use Rattle.std.proofs.lemmas.Bool.Decides.{eqb_tells}
use Rattle.lms_lines.specs.TextLines.{before_first, lines_of}
use Rattle.lms_lines.specs.Gathered.{HasNoEnd}
use Rattle.lms_lines.specs.Pieces.{EndsLine, EndsPiece}
use Rattle.lms_lines.proofs.LineLemmas.{has-line, lines-byte, lines-end}
use Rattle.lms_lines.proofs.Growth.{lines-one}
use Rattle.lms_lines.proofs.Steps.{take-through-at}

before-both : (x : ℕ) (lines more : List (List ℕ)) → 1 ≤ length lines
    → before_first x (lines ++ more) ≡ before_first x lines ++ more
before-both x [] more some = absurd (let h : ⊥ = omega arith in h)
before-both x (line ∷ lines) more some = refl

ended-some : (front : List ℕ) → 1 ≤ length (lines_of (front ++ 10 ∷ []))
ended-some [] = let is = ap length (lines-end [] [] tt) in omega (arith, is)
ended-some (x ∷ front) = let is = ap length (has-line x (front ++ 10 ∷ [])).parts in omega (arith, is)

-- a line's end cuts the lines of a text in two
ended-both : (front rest : List ℕ) → lines_of (front ++ 10 ∷ rest) ≡ lines_of (front ++ 10 ∷ []) ++ lines_of rest
unfolding lines_of
ended-both [] rest = refl
ended-both (x ∷ front) rest = by_test (ended-both front rest) (eqb_tells x 10)
  where
    both : Bool → List ℕ → List (List ℕ)
    both b text = if b then [] ∷ lines_of text else before_first x (lines_of text)

    by_test : lines_of (front ++ 10 ∷ rest) ≡ lines_of (front ++ 10 ∷ []) ++ lines_of rest
        → ((eqb x 10 ≡ true) × (x ≡ 10)) ⊎ ((eqb x 10 ≡ false) × (x ≢ 10))
        → lines_of (x ∷ front ++ 10 ∷ rest) ≡ lines_of (x ∷ front ++ 10 ∷ []) ++ lines_of rest
    by_test here (inl is) =
        ap (λ (b : Bool). both b (front ++ 10 ∷ rest)) is.0
        ∙ ap (λ (ls : List (List ℕ)). [] ∷ ls) here
        ∙ ap (λ (ls : List (List ℕ)). ls ++ lines_of rest)
        (sym (ap (λ (b : Bool). both b (front ++ 10 ∷ [])) is.0))
    by_test here (inr other) =
        lines-byte x (front ++ 10 ∷ rest) other.1
        ∙ ap (before_first x) here
        ∙ before-both x (lines_of (front ++ 10 ∷ [])) (lines_of rest) (ended-some front)
        ∙ ap (λ (ls : List (List ℕ)). ls ++ lines_of rest) (sym (lines-byte x (front ++ 10 ∷ []) other.1))

pub lines-both : (text rest : List ℕ) → EndsLine text → lines_of (text ++ rest) ≡ lines_of text ++ lines_of rest
lines-both text rest (front, is) =
    subst (λ (t : List ℕ). lines_of (t ++ rest) ≡ lines_of t ++ lines_of rest) (sym is)
    (ap lines_of (append_assoc front (10 ∷ []) rest) ∙ ended-both front rest)

-- where nothing is read yet, too
pub lines-both-or : (text rest : List ℕ) → (text ≡ []) ⊎ EndsLine text
    → lines_of (text ++ rest) ≡ lines_of text ++ lines_of rest
unfolding lines_of
lines-both-or text rest (inl none) =
    subst (λ (t : List ℕ). lines_of (t ++ rest) ≡ lines_of t ++ lines_of rest) (sym none) refl
lines-both-or text rest (inr ends) = lines-both text rest ends

one-line : (line : List ℕ) → HasNoEnd line → length (lines_of (line ++ 10 ∷ [])) ≡ 1
unfolding lines_of
one-line line one = ap length (lines-end line [] one)

pub one-more-line : (text line : List ℕ) → (text ≡ []) ⊎ EndsLine text → HasNoEnd line
    → length (lines_of (text ++ (line ++ 10 ∷ []))) ≡ length (lines_of text) + 1
one-more-line text line whole one =
    ap length (lines-both-or text (line ++ 10 ∷ []) whole)
    ∙ length-append (lines_of text) (lines_of (line ++ 10 ∷ []))
    ∙ ap (λ (n : ℕ). length (lines_of text) + n) (one-line line one)

pub ends-more : (text line : List ℕ) → EndsLine (text ++ (line ++ 10 ∷ []))
ends-more text line = (text ++ line, sym (append_assoc text line (10 ∷ [])))

-- a line that ends in the rest of a text is cut off, too
pub record CutsMore (bytes : List ℕ) (end at : ℕ) : Type 0 where
  pub count : length (lines_of (take (end + (at + 1)) bytes)) ≡ length (lines_of (take end bytes)) + 1
  pub ends : EndsLine (take (end + (at + 1)) bytes)

pub cuts-more : (bytes : List ℕ) (end at : ℕ) → (take end bytes ≡ []) ⊎ EndsLine (take end bytes)
    → at < length (drop end bytes) → HasNoEnd (take at (drop end bytes)) → slice_index (drop end bytes) at ≡ 10
    → CutsMore bytes end at
cuts-more bytes end at whole below one is =
    let more : take (end + (at + 1)) bytes ≡ take end bytes ++ (take at (drop end bytes) ++ 10 ∷ []) =
    take-add end (at + 1) bytes
    ∙ ap (λ (l : List ℕ). take end bytes ++ l) (take-through-at (drop end bytes) at 10 below is) in
    record {
      count = subst (λ (t : List ℕ). length (lines_of t) ≡ length (lines_of (take end bytes)) + 1) (sym more)
          (one-more-line (take end bytes) (take at (drop end bytes)) whole one);
      ends = subst EndsLine (sym more) (ends-more (take end bytes) (take at (drop end bytes)));
    }

pub no-lines-in-none : length (lines_of []) ≡ 0
unfolding lines_of
no-lines-in-none = refl

-- a text without LF is a line, or nothing
pub no-line : (text : List ℕ) → length text ≡ 0 → 0 ≡ length (lines_of text)
no-line [] none = sym no-lines-in-none
no-line (x ∷ text) none = absurd (let h : ⊥ = omega (arith, none) in h)

pub only-line : (text : List ℕ) → length text ≢ 0 → HasNoEnd text → 1 ≡ length (lines_of text)
only-line [] some one = absurd (some refl)
only-line (x ∷ text) some one = sym (ap length (lines-one (x ∷ text) (omega arith) one))

-- what a walk over lines has cut off so far
pub cut-so-far : (bytes : List ℕ) (lines end : ℕ) → (1 ≤ lines → EndsLine (take end bytes)) → (lines ≡ 0 → end ≡ 0)
    → (take end bytes ≡ []) ⊎ EndsLine (take end bytes)
cut-so-far bytes zero end some none = inl (ap (λ (n : ℕ). take n bytes) (none refl))
cut-so-far bytes (suc lines) end some none = inr (some (omega arith))

-- where no line ends, there is no LF
pub no-line-ends : (bytes : List ℕ) (lines end most : ℕ) → lines ≡ 0 → 1 ≤ most → (lines ≡ 0 → end ≡ 0)
    → (lines < most → HasNoEnd (drop end bytes)) → HasNoEnd bytes
no-line-ends bytes lines end most is some none all =
    subst (λ (n : ℕ). HasNoEnd (drop n bytes)) (none is) (all (omega (arith, is, some)))

-- a read of no byte
pub nothing-read : (held bytes : List ℕ) → length bytes ≡ 0 → held ++ bytes ≡ held
nothing-read held [] none = append-nil held
nothing-read held (x ∷ bytes) none = absurd (let h : ⊥ = omega (arith, none) in h)

-- what is left at the end of the input
pub last_piece : (is_last : Bool) (text held left : List ℕ) (input : Option (List ℕ)) → is_last ≡ true → HasNoEnd held
    → text ≡ held → left ≡ [] → IsAtEnd input → EndsPiece is_last text left input
last_piece true text held left input is one same none at_end = (subst HasNoEnd (sym same) one, none, at_end)
last_piece false text held left input is one same none at_end = absurd (true≢false (sym is))
