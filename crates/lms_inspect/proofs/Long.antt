-- Bytes that are longer than a signature can be are nothing that is known.
use Rattle.std.proofs.Common.{◌≡◌, ◌∙◌, ◌+◌, ◌*◌, ◌<◌, ◌≤◌, ℕ, List, [], ◌∷◌, length, Bool, true, false, Option, Some, None}
use Rattle.std.proofs.Common.{ap, refl, sym, arith, drop, length-append, ◌==◌}
use Rattle.std.specs.Prelude.{if◌then◌else◌, nat_lt}
use Rattle.std.proofs.lemmas.Option.{none-some}
use Rattle.std.proofs.lemmas.Bool.{eqb-true, ltb-false, not-false, or_parts}
use Rattle.lms_image.specs.Image.{count_in, fault_of, faults, has_fault, stated_length, version_in}
use Rattle.lms_image.specs.declared.fault.ImageFault.{ImageFault}
use Rattle.lms_image.specs.declared.fault.ImageFault.TheVariants.{BadLevels, NotAnImage, Truncated, UnknownVersion}
use Rattle.lms_image.specs.declared.fault.ImageFault.TheVariants.{WrongLength}
use Rattle.lms_image.proofs.Faults.{fault-of, first_among}
use Rattle.lms_params.specs.LmsType.{lms_set_of}
use Rattle.lms_params.specs.OtsType.{ots_set_of}
use Rattle.lms_params.specs.declared.lms_type.LmsType.{LmsType}
use Rattle.lms_params.specs.declared.lms_type.LmsType.TheVariants.{H5, H10, H15, H20, H25}
use Rattle.lms_params.specs.declared.ots_type.OtsType.{OtsType}
use Rattle.lms_params.specs.declared.ots_type.OtsType.TheVariants.{W1, W2, W4, W8}
use Rattle.lms_verification.proofs.LmsParts.{length-lms_key}
use Rattle.lms_inspect.specs.Found.{IsFound, IsNoPublic, IsNoSignature, IsNoState}
use Rattle.lms_inspect.specs.Keeping.{longest, longest_of_level}
use Rattle.lms_inspect.specs.Levels.{BeginsCoded, BeginsSigned}
use Rattle.lms_inspect.specs.Signatures.{IsKeyed, SaysThrough}
use Rattle.lms_inspect.specs.declared.found.Found.TheVariants.{Nothing}
use Rattle.lms_inspect.specs.declared.level.Level.{Level}
use Rattle.lms_inspect.specs.declared.signature.KeyedLevel.{KeyedLevel}

-- ---- a signature

most_chains : (t : OtsType) → (ots_set_of t).p ≤ 265
most_chains W1 = omega arith
most_chains W2 = omega arith
most_chains W4 = omega arith
most_chains W8 = omega arith

tallest : (m : LmsType) → (lms_set_of m).h ≤ 25
tallest H5 = omega arith
tallest H10 = omega arith
tallest H15 = omega arith
tallest H20 = omega arith
tallest H25 = omega arith

length-coded : (code n : ℕ) (text rest : List ℕ) → BeginsCoded code n text rest → length text ≡ 4 + n + length rest
length-coded code n text rest is =
    let size = is.size in
    let both = length-append is.body rest in
    ap length is.parts ∙ omega (arith, size, both)

length-signed : (level : Level) (text rest : List ℕ) → BeginsSigned level text rest
    → length text ≤ longest_of_level + length rest
length-signed level text rest is =
    let one = length-coded _ _ _ _ is.one_time in
    let two = length-coded _ _ _ _ is.path in
    let chains = most_chains level.ots in
    let height = tallest level.lms in
    let whole : length text ≡ 4 + length is.after_leaf = ap length is.parts ∙ omega arith in
    omega (arith, whole, one, two, chains, height)

length-keyed : (keyed : KeyedLevel) (text rest : List ℕ) → IsKeyed keyed text rest
    → length text ≤ 56 + longest_of_level + length rest
length-keyed keyed text rest is =
    let key = length-lms_key _ _ _ _ _ is.is_key in
    let signed = length-signed keyed.level is.after_key rest is.signed in
    let whole = ap length is.parts ∙ length-append is.key is.after_key in
    omega (arith, key, signed, whole)

length-through : (below : List KeyedLevel) (text : List ℕ) → SaysThrough below text []
    → length text ≤ length below * (56 + longest_of_level)
length-through [] text is = let none = ap length is in omega (arith, none)
length-through (keyed ∷ more) text (after, is, through) =
    let first = length-keyed keyed text after is in
    let others = length-through more after through in
    omega (arith, first, others)

no_signature : (bytes : List ℕ) → longest < length bytes → IsNoSignature bytes
no_signature bytes long top below says =
    let whole : length bytes ≡ 4 + length says.signatures = ap length says.parts ∙ omega arith in
    let first = length-signed top says.signatures says.rest says.signed in
    let others = length-through below says.rest says.through in
    let count = says.levels in
    absurd (omega (arith, long, whole, first, others, count))

-- ---- a public key

no_public : (bytes : List ℕ) → longest < length bytes → IsNoPublic bytes
no_public bytes long parts says =
    let whole : length bytes ≡ 4 + length says.key = ap length says.text_is ∙ omega arith in
    let key = length-lms_key _ _ _ _ _ says.is_key.1 in
    absurd (omega (arith, long, whole, key))

-- ---- a state

not_taken : {X : Type 0} (b : Bool) (x : X) (rest : Option X) → (if b then Some x else rest) ≡ None
    → (b ≡ false) × (rest ≡ None)
not_taken true x rest e = absurd (none-some x (sym e))
not_taken false x rest e = (refl, e)

passed : (text : List ℕ) (fault : ImageFault) (others : List ImageFault) → first_among (fault ∷ others) text ≡ None
    → (has_fault fault text ≡ false) × (first_among others text ≡ None)
passed text fault others e = not_taken (has_fault fault text) fault (first_among others text) e

both_short : (first : Bool) (one two : ℕ) → one ≤ 180 → two ≤ 180 → (if first then one else two) ≤ 180
both_short true one two is other = is
both_short false one two other is = is

short : (version count : ℕ) → count ≤ 8 → stated_length version count ≤ 180
short version count few = both_short (version == 1) _ _ (omega (arith, few)) (omega (arith, few))

has_length : (bytes : List ℕ) → fault_of bytes ≡ None → length bytes ≤ 180
unfolding has_fault
has_length bytes none =
    let p0 = passed bytes Truncated (drop 1 faults) (sym (fault-of bytes) ∙ none) in
    let p1 = passed bytes NotAnImage (drop 2 faults) p0.1 in
    let p2 = passed bytes UnknownVersion (drop 3 faults) p1.1 in
    let p3 = passed bytes BadLevels (drop 4 faults) p2.1 in
    let p4 = passed bytes WrongLength (drop 5 faults) p3.1 in
    let counts = or_parts (count_in bytes == 0) (nat_lt 8 (count_in bytes)) p3.0 in
    let few = short (version_in bytes) (count_in bytes) (ltb-false 8 (count_in bytes) counts.1) in
    let same = eqb-true (length bytes) (stated_length (version_in bytes) (count_in bytes)) (not-false _ p4.0) in
    omega (arith, few, same)

no_state : (bytes : List ℕ) → longest < length bytes → IsNoState bytes
no_state bytes long = by (fault_of bytes) refl
  where
    by : (first : Option ImageFault) → fault_of bytes ≡ first → IsNoState bytes
    by (Some fault) e = (fault, e)
    by None e = let few = has_length bytes e in absurd (omega (arith, few, long))

pub long_is_nothing : (bytes : List ℕ) → longest < length bytes → IsFound Nothing bytes
long_is_nothing bytes long = (no_state bytes long, no_public bytes long, no_signature bytes long)
