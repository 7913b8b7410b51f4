-- A seed's text, cut at its digits, and a block that is filled part by part.
use Rattle.std.proofs.Common.{◌≡◌, ◌-◌, ◌+◌, ◌≤◌, ◌<◌, ℕ, List, [], ◌++◌, length, take, drop, Option}
use Rattle.std.proofs.Common.{Some, None, Result, Ok, Err, inl, inr, ⊎_elim, sym, ap, ◌∙◌, subst, arith, append-nil}
use Rattle.std.proofs.Common.{length-append, length-drop}
use Rattle.std.specs.Prelude.{IfNone, IfSome}
use Rattle.std.specs.Result.{result_ok}
use Rattle.std.proofs.lemmas.List.{length-take-le, take_at, drop_at, drop_all}
use Rattle.std.proofs.lemmas.Bool.{cases_lt}
use Rattle.std.proofs.Math.Seq.{take-append-add}
use Rattle.std.specs.Io.KnownBytes.{Consumes, IsAtEnd, Keeps}
use borrow.Rule.Slice.PartMut.{put_mid, post_of}
use Rattle.hex.specs.Hex.{decode_of, decode_sized}
use Rattle.hex.specs.declared.error.FromHexError.{FromHexError}
use Rattle.hex.proofs.HexLemmas.{decode_sized-twice}
use Rattle.lms_texts.specs.Seeds.{GivesNoSeed, IsLineEnd, IsSeedText, TakesAtMost}

-- ---- a block

-- a block whose rest was written
filled-whole : (a k : ℕ) (block ys : List ℕ) → k ≡ length block - a → put_mid a k block ys ≡ take a block ++ ys
filled-whole a k block ys rest =
    let none : post_of a k block ≡ [] = drop_all k (drop a block) (omega (arith, length-drop a block)) in
    ap (λ post. take a block ++ (ys ++ post)) none ∙ ap (λ l. take a block ++ l) (append-nil ys)

-- its length, and its bytes up to n more
pub filled-length : (a k : ℕ) (block ys : List ℕ) → a ≤ length block → k ≡ length block - a → length ys ≡ k
    → length (put_mid a k block ys) ≡ length block
filled-length a k block ys within rest long =
    ap length (filled-whole a k block ys rest)
    ∙ (length-append (take a block) ys ∙ omega (arith, length-take-le a block within))

pub filled-more : (a k n : ℕ) (block ys : List ℕ) → a ≤ length block → k ≡ length block - a
    → take (a + n) (put_mid a k block ys) ≡ take a block ++ take n ys
filled-more a k n block ys within rest =
    ap (take (a + n)) (filled-whole a k block ys rest)
    ∙ (ap (λ m. take (m + n) (take a block ++ ys)) (sym (length-take-le a block within))
    ∙ take-append-add (take a block) ys n)

-- ---- what is read

kept : (old mid new : Option (List ℕ)) (bytes : List ℕ) → Consumes old mid bytes → Keeps mid new
    → Consumes old new bytes
kept None mid new bytes first then = tt
kept (Some xs) None new bytes first then = absurd first
kept (Some xs) (Some ys) None bytes first then = absurd then
kept (Some xs) (Some ys) (Some zs) bytes first then = first ∙ ap (λ l. bytes ++ l) (sym then)

-- so many bytes of a block were read
pub taken : (most n : ℕ) (block : List ℕ) (old new : Option (List ℕ)) → n ≤ length block → length block ≤ most
    → Consumes old new (take n block) → TakesAtMost most old new
taken most n block old new within bound consumed =
    (take n block, omega (arith, length-take-le n block within, within, bound), consumed)

-- and then a read failed
pub taken_before : (most n : ℕ) (block : List ℕ) (old mid new : Option (List ℕ)) → n ≤ length block
    → length block ≤ most
    → Consumes old mid (take n block) → Keeps mid new → TakesAtMost most old new
taken_before most n block old mid new within bound consumed same =
    taken most n block old new within bound (kept old mid new (take n block) consumed same)

-- ---- a seed's text

seed-digits : (text seed : List ℕ) (is : IsSeedText text seed) → take 64 text ≡ is.digits
seed-digits text seed is = ap (take 64) is.parts ∙ take_at is.digits is.ending 64 is.digits_length

pub seed-ending : (text seed : List ℕ) (is : IsSeedText text seed) → drop 64 text ≡ is.ending
seed-ending text seed is = ap (drop 64) is.parts ∙ drop_at is.digits is.ending 64 is.digits_length

ending-short : (ending : List ℕ) → IsLineEnd ending → length ending ≤ 1
ending-short ending (inl none) = omega (arith, ap length none)
ending-short ending (inr lf) = omega (arith, ap length lf)

-- it is at most its digits and LF
pub seed-short : (text seed : List ℕ) → IsSeedText text seed → length text ≤ 65
seed-short text seed is =
    omega (
      arith,
      ap length is.parts,
      length-append is.digits is.ending,
      is.digits_length,
      ending-short is.ending is.line_end,
    )

-- the digits before a line's end were decoded, or not
pub some-seed : (text digits ending : List ℕ) (decoded : Result (List ℕ) FromHexError) → text ≡ digits ++ ending
    → length digits ≡ 64 → IsLineEnd ending → decoded ≡ decode_sized digits 32
    → IfSome (result_ok decoded) (IsSeedText text)
some-seed text digits ending (Err fault) parts long line_end is = tt
some-seed text digits ending (Ok seed) parts long line_end is = record {
  digits = digits;
  ending = ending;
  parts = parts;
  digits_length = long;
  line_end = line_end;
  seed_is = sym (is ∙ decode_sized-twice digits 32 long);
}

pub none-seed : (text digits : List ℕ) (decoded : Result (List ℕ) FromHexError) → digits ≡ take 64 text
    → length digits ≡ 64 → decoded ≡ decode_sized digits 32
    → IfNone (result_ok decoded) ((seed : List ℕ) → ¬ IsSeedText text seed)
none-seed text digits (Ok seed) front long is = tt
none-seed text digits (Err fault) front long is = λ seed is_text.
    let same : decode_of digits ≡ decode_of is_text.digits = ap decode_of (front ∙ seed-digits text seed is_text) in
    let both : Err fault ≡ Ok seed = is ∙ decode_sized-twice digits 32 long ∙ same ∙ is_text.seed_is in
    cc both

-- where what was read of an input is no seed's text, neither is the input
pub no-seed : (old new : Option (List ℕ)) (block : List ℕ) (n : ℕ) → length block ≡ 66 → n ≤ length block
    → Consumes old new (take n block)
    → (n < length block → IsAtEnd new) → ((seed : List ℕ) → ¬ IsSeedText (take n block) seed) → GivesNoSeed old
no-seed None new block n size within consumed end none = tt
no-seed (Some xs) None block n size within consumed end none = absurd consumed
no-seed (Some xs) (Some ys) block n size within consumed end none = λ seed is.
    ⊎_elim
    (λ (lt : n < 66).
    none seed (subst (λ text. IsSeedText text seed)
    (consumed ∙ (ap (λ ys. take n block ++ ys) (end (omega (arith, lt, size))) ∙ append-nil (take n block))) is))
    (λ (ge : 66 ≤ n).
    absurd (omega (
      arith,
      seed-short xs seed is,
      ap length consumed,
      length-append (take n block) ys,
      length-take-le n block within,
      ge,
    )))
    (cases_lt n 66)
