-- The first fault of bytes, fault by fault.
use Rattle.std.proofs.Common.{ℕ, ◌≡◌, ◌+◌, ◌^◌, ◌<◌, ◌⊎◌, List, [], ◌∷◌, ◌++◌, length, take, drop, true, false, ◌==◌}
use Rattle.std.proofs.Common.{◌||◌, find, Option, Some, not, ⊎_elim, refl, sym, ◌∙◌, ap, subst, arith, append_assoc}
use Rattle.std.proofs.Common.{length-append}
use Rattle.std.proofs.lemmas.Bool.{cond-true, cond-false, lt-ltb, le-ltb, eq-eqb, ne_eqb, or_left, or_right, or_from}
use Rattle.std.proofs.lemmas.Bool.{not_from_true, not_from_false, not-false}
use Rattle.std.proofs.lemmas.Slice.Eq.{bytes_eq-Decides}
use Rattle.std.specs.Str.{bytes_eq}
use Rattle.lms_spec.specs.Bytes.{u32str}
use Rattle.lms_image.specs.declared.fault.ImageFault.{ImageFault}
use Rattle.lms_image.specs.declared.fault.ImageFault.TheVariants.{Truncated, NotAnImage, UnknownVersion, BadLevels}
use Rattle.lms_image.specs.declared.version.Version.{Version}
use Rattle.lms_image.specs.declared.version.Version.TheVariants.{First, Second}
use Rattle.lms_image.specs.Image.{magic, code_of, version_in, count_in, has_fault, faults, fault_of}
use Rattle.lms_image.specs.Reading.{IsHeaded}
use Rattle.lms_image.proofs.Fields.{part-at, u32-at}

-- the first of these faults that the bytes have
abbrev pub first_among : List ImageFault → List ℕ → Option ImageFault
first_among fs text = find (λ fault. has_fault fault text) fs

pub fault-of : (text : List ℕ) → fault_of text ≡ first_among faults text
unfolding fault_of
fault-of text = refl

pub found : (text : List ℕ) (f : ImageFault) (fs : List ImageFault) → has_fault f text ≡ true
    → first_among (f ∷ fs) text ≡ Some f
found text f fs e = cond-true (has_fault f text) (Some f) (first_among fs text) e

pub missed : (text : List ℕ) (f : ImageFault) (fs : List ImageFault) → has_fault f text ≡ false
    → first_among (f ∷ fs) text ≡ first_among fs text
missed text f fs e = cond-false (has_fault f text) (Some f) (first_among fs text) e

-- the first 12 bytes, cut into magic, version and count
pub record IsFront (text start rest : List ℕ) (version count : ℕ) : Type 0 where
  pub start_length : length start ≡ 4
  pub version_fits : version < 2 ^ 32
  pub count_fits : count < 2 ^ 32
  pub parts : text ≡ start ++ (u32str version ++ (u32str count ++ rest))

pub front-length : (text start rest : List ℕ) (version count : ℕ) → IsFront text start rest version count
    → length text ≡ 12 + length rest
front-length text start rest version count is =
    let four = is.start_length in
    ap length is.parts ∙ (length-append start (u32str version ++ (u32str count ++ rest)) ∙ omega arith)

pub start-of : (text start rest : List ℕ) (version count : ℕ) → IsFront text start rest version count
    → take 4 text ≡ start
start-of text start rest version count is =
    part-at 0 4 text [] start (u32str version ++ (u32str count ++ rest)) refl is.start_length is.parts

pub version-of : (text start rest : List ℕ) (version count : ℕ) → IsFront text start rest version count
    → version_in text ≡ version
version-of text start rest version count is =
    u32-at 4 version text start (u32str count ++ rest) is.start_length is.version_fits is.parts

pub count-of : (text start rest : List ℕ) (version count : ℕ) → IsFront text start rest version count
    → count_in text ≡ count
count-of text start rest version count is =
    let four = is.start_length in
    u32-at 8 count text (start ++ u32str version) rest
    (length-append start (u32str version) ∙ omega arith) is.count_fits
    (is.parts ∙ sym (append_assoc start (u32str version) (u32str count ++ rest)))

pub truncated : (text : List ℕ) → length text < 12 → fault_of text ≡ Some Truncated
unfolding has_fault
truncated text short = fault-of text ∙ found text Truncated (drop 1 faults) (lt-ltb (length text) 12 short)

long-enough : (text start rest : List ℕ) (version count : ℕ) → IsFront text start rest version count
    → fault_of text ≡ first_among (drop 1 faults) text
unfolding has_fault
long-enough text start rest version count is =
    let long = front-length text start rest version count is in
    fault-of text ∙ missed text Truncated (drop 1 faults) (le-ltb (length text) 12 (omega arith))

pub not-an-image : (text start rest : List ℕ) (version count : ℕ) → IsFront text start rest version count
    → not (bytes_eq start magic) ≡ true → fault_of text ≡ Some NotAnImage
unfolding has_fault
not-an-image text start rest version count is other =
    long-enough text start rest version count is
    ∙ found text NotAnImage (drop 2 faults)
    (ap (λ t. not (bytes_eq t magic)) (start-of text start rest version count is) ∙ other)

an-image : (text rest : List ℕ) (version count : ℕ) → IsFront text magic rest version count
    → fault_of text ≡ first_among (drop 2 faults) text
unfolding has_fault
an-image text rest version count is =
    long-enough text magic rest version count is
    ∙ missed text NotAnImage (drop 2 faults)
    (ap (λ t. not (bytes_eq t magic)) (start-of text magic rest version count is))

pub unknown-version : (text rest : List ℕ) (version count : ℕ) → IsFront text magic rest version count
    → (version ≡ 1 → ⊥) → (version ≡ 2 → ⊥)
    → fault_of text ≡ Some UnknownVersion
unfolding has_fault
unknown-version text rest version count is not_first not_second =
    let stated = version-of text magic rest version count is in
    an-image text rest version count is
    ∙ found text UnknownVersion (drop 3 faults)
    (not_from_false _ (or_from (version_in text == 1) (version_in text == 2)
    (ne_eqb (version_in text) 1 (λ (e : version_in text ≡ 1). not_first (sym stated ∙ e)))
    (ne_eqb (version_in text) 2 (λ (e : version_in text ≡ 2). not_second (sym stated ∙ e)))))

is-known : (v : Version) (n : ℕ) → n ≡ code_of v → (n == 1 || n == 2) ≡ true
is-known First n e = or_left (n == 1) (n == 2) (eq-eqb n 1 e)
is-known Second n e = or_right (n == 1) (n == 2) (eq-eqb n 2 e)

known-version : (text rest : List ℕ) (v : Version) (count : ℕ) → IsFront text magic rest (code_of v) count
    → fault_of text ≡ first_among (drop 3 faults) text
unfolding has_fault
known-version text rest v count is =
    an-image text rest (code_of v) count is
    ∙ missed text UnknownVersion (drop 3 faults)
    (not_from_true _ (is-known v (version_in text) (version-of text magic rest (code_of v) count is)))

pub bad-levels : (text rest : List ℕ) (v : Version) (count : ℕ) → IsFront text magic rest (code_of v) count
    → (count ≡ 0) ⊎ (8 < count)
    → fault_of text ≡ Some BadLevels
unfolding has_fault
bad-levels text rest v count is bad =
    let is_count = count-of text magic rest (code_of v) count is in
    known-version text rest v count is
    ∙ found text BadLevels (drop 4 faults)
    (⊎_elim (λ (e : count ≡ 0). or_left _ _ (eq-eqb _ 0 (is_count ∙ e)))
    (λ (h : 8 < count). or_right _ _ (lt-ltb 8 (count_in text) (omega arith))) bad)

code-fits : (v : Version) → code_of v < 2 ^ 32
code-fits First = omega arith
code-fits Second = omega arith

-- what is known of bytes that begin as an image
pub front-of : (text rest : List ℕ) (v : Version) (count : ℕ) → IsHeaded text rest v count
    → IsFront text magic rest (code_of v) count
front-of text rest v count is =
    let most = is.eight_at_most in
    record { start_length = refl; version_fits = code-fits v; count_fits = omega arith; parts = is.parts }

pub clear-head : (text rest : List ℕ) (v : Version) (count : ℕ) → IsHeaded text rest v count
    → fault_of text ≡ first_among (drop 4 faults) text
unfolding has_fault
clear-head text rest v count is =
    let front = front-of text rest v count is in
    let is_count = count-of text magic rest (code_of v) count front in
    let some = is.some_level in
    let most = is.eight_at_most in
    known-version text rest v count front
    ∙ missed text BadLevels (drop 4 faults)
    (or_from _ _ (ne_eqb (count_in text) 0 (λ (e : count_in text ≡ 0). absurd (omega arith)))
    (le-ltb 8 (count_in text) (omega arith)))

-- the first four bytes are those of an image
pub headed : (text start rest : List ℕ) (version count : ℕ) → IsFront text start rest version count
    → not (bytes_eq start magic) ≡ false → IsFront text magic rest version count
headed text start rest version count is same =
    let e : start ≡ magic = (bytes_eq-Decides start magic).0 (not-false _ same) in
    record {
      start_length = refl;
      version_fits = is.version_fits;
      count_fits = is.count_fits;
      parts = is.parts ∙ ap (λ s. s ++ (u32str version ++ (u32str count ++ rest))) e;
    }

-- the version is one that is read
pub versioned : (text rest : List ℕ) (version count : ℕ) (v : Version) → IsFront text magic rest version count
    → version ≡ code_of v
    → IsFront text magic rest (code_of v) count
versioned text rest version count v is same = subst (λ n. IsFront text magic rest n count) same is
