-- Bytes without a fault are an image of some key and its numbers.
use Rattle.std.proofs.Common.{ℕ, ◌≡◌, ◌+◌, ◌*◌, ◌^◌, ◌<◌, ◌≤◌, List, [], ◌∷◌, ◌++◌, length, map, take, drop, get_or}
use Rattle.std.proofs.Common.{All, Bool, true, false, cond, Option, Some, None, ◌==◌, ◌||◌, nat_lt, is_some, sum_by}
use Rattle.std.proofs.Common.{refl, sym, ◌∙◌, ap, ap₂, arith, ⊎_elim, length-drop, take-append-drop}
use Rattle.std.specs.List.{list_all}
use Rattle.std.specs.Simd.{first_chunks}
use Rattle.std.specs.Int.{w32, w64, from_be_bytes}
use Rattle.std.proofs.lemmas.Bool.{cases_lt, not_from_true, not-false, eqb-true, eqb-false, ltb-false, or_parts}
use Rattle.std.proofs.lemmas.Bool.{and_parts, false≢true}
use Rattle.std.proofs.lemmas.Slice.Eq.{bytes_eq-Decides}
use Rattle.std.proofs.lemmas.List.{length-take-le, length-map, drop-drop, get_or_past}
use Rattle.std.proofs.lemmas.List.Elements.{All-head, All-tail}
use Rattle.std.proofs.lemmas.Option.{none-some}
use Rattle.sha2.specs.Sha256.{sha256}
use Rattle.lms_spec.specs.Parameters.{OtsSet, LmsSet, ots_set, lms_set}
use Rattle.lms_spec.specs.Bytes.{u32str}
use Rattle.lms_spec.specs.Hss.{height_of, capacity_of}
use Rattle.lms_spec.proofs.Sets.{by_ots_set, by_lms_set}
use Rattle.lms_spec.proofs.FirstNumber.{number-and-rest, eight-and-rest}
use Rattle.lms_params.specs.LmsType.{lms_set_of}
use Rattle.lms_params.specs.OtsType.{ots_set_of}
use Rattle.lms_params.specs.declared.lms_type.LmsType.{LmsType}
use Rattle.lms_params.specs.declared.ots_type.OtsType.{OtsType}
use Rattle.lms_params.specs.declared.lms_type.LmsType.TheVariants.{H5, H10, H15, H20, H25}
use Rattle.lms_params.specs.declared.ots_type.OtsType.TheVariants.{W1, W2, W4, W8}
use Rattle.lms_hss.specs.Levels.{levels_of, IsAdmitted}
use Rattle.lms_hss.specs.Keys.{hss_key_of}
use Rattle.lms_hss.specs.declared.key.HssKey.{HssKey as KeyOfCode}
use Rattle.lms_image.specs.declared.fault.ImageFault.{ImageFault}
use Rattle.lms_image.specs.declared.fault.ImageFault.TheVariants.{Truncated, NotAnImage, UnknownVersion, BadLevels}
use Rattle.lms_image.specs.declared.fault.ImageFault.TheVariants.{WrongLength, Damaged, BadType, TooTall}
use Rattle.lms_image.specs.declared.fault.ImageFault.TheVariants.{CounterTooHigh, OpeningTooHigh, BurntTooHigh}
use Rattle.lms_image.specs.declared.version.Version.{Version}
use Rattle.lms_image.specs.declared.version.Version.TheVariants.{First, Second}
use Rattle.lms_image.specs.Image.{Fields, magic, code_of, level_text, is_level, height_in, heights_in, number_at}
use Rattle.lms_image.specs.Image.{stated_length, version_in, count_in, levels_in, counter_in, openings_in, burnt_in}
use Rattle.lms_image.specs.Image.{body_in, digest_in, has_fault, faults, fault_of, IsImage, HasImage, later_length}
use Rattle.lms_image.specs.Reading.{IsHeaded, IsCut, ReadsLater}
use Rattle.lms_image.specs.Laws.{IsText, FaultlessAreImages}
use Rattle.lms_image.proofs.Fields.{u32-at}
use Rattle.lms_image.proofs.LevelTexts.{Is8, level-read, heights-of-texts}
use Rattle.lms_image.proofs.Faults.{first_among, fault-of}
use Rattle.lms_image.proofs.Parts.{laid-out, whole, length-by-code}
use Rattle.lms_image.proofs.Cuts.{IsBytes, bytes-take, bytes-drop, four-fit, eight-fit, number-back, chunks-are-bytes}
use Rattle.lms_image.proofs.Cuts.{reads-later, cut-parts}
use Rattle.lms_image.proofs.Images.{read-image, read-counted, image-has-no-fault}

-- ---- levels

from_lms : (a : ℕ) (set : Option LmsSet) → lms_set a ≡ set → is_some set ≡ true
    → (t : LmsType) × (lms_set a ≡ Some (lms_set_of t))
from_lms a None e known = absurd (false≢true known)
from_lms a (Some m) e known =
    by_lms_set (λ m. lms_set a ≡ Some m → (t : LmsType) × (lms_set a ≡ Some (lms_set_of t)))
    (λ e. (H5, e)) (λ e. (H10, e)) (λ e. (H15, e)) (λ e. (H20, e)) (λ e. (H25, e)) a m e e

from_ots : (b : ℕ) (set : Option OtsSet) → ots_set b ≡ set → is_some set ≡ true
    → (t : OtsType) × (ots_set b ≡ Some (ots_set_of t))
from_ots b None e known = absurd (false≢true known)
from_ots b (Some s) e known =
    by_ots_set (λ s. ots_set b ≡ Some s → (t : OtsType) × (ots_set b ≡ Some (ots_set_of t)))
    (λ e. (W1, e)) (λ e. (W2, e)) (λ e. (W4, e)) (λ e. (W8, e)) b s e e

named-lms : (a : ℕ) → is_some (lms_set a) ≡ true → (t : LmsType) × (lms_set a ≡ Some (lms_set_of t))
named-lms a known = from_lms a (lms_set a) refl known

named-ots : (b : ℕ) → is_some (ots_set b) ≡ true → (t : OtsType) × (ots_set b ≡ Some (ots_set_of t))
named-ots b known = from_ots b (ots_set b) refl known

named-level : (text : List ℕ) → length text ≡ 8 → IsBytes text → is_level text ≡ true
    → (sets : LmsType × OtsType) × (level_text sets ≡ text)
unfolding is_level
named-level text eight small known =
    let a = from_be_bytes w32 (take 4 text) in
    let rest = drop 4 text in
    let rest_long : length rest ≡ 4 = omega (arith, length-drop 4 text) in
    let b = from_be_bytes w32 (take 4 rest) in
    let rest_small = bytes-drop 4 text small in
    let first : text ≡ u32str a ++ rest =
    number-and-rest text (take 4 text) rest a small (omega arith) refl refl refl in
    let second : rest ≡ u32str b ++ drop 4 rest =
    number-and-rest rest (take 4 rest) (drop 4 rest) b rest_small (omega arith) refl refl refl in
    let fa = four-fit (take 4 text) (bytes-take 4 text small) in
    let fb = four-fit (take 4 rest) (bytes-take 4 rest rest_small) in
    let at_a : number_at 0 4 text ≡ a = u32-at 0 a text [] rest refl fa first in
    let at_b : number_at 4 4 text ≡ b =
    u32-at 4 b text (u32str a) (drop 4 rest) refl fb (first ∙ ap (λ x. u32str a ++ x) second) in
    let both = and_parts _ _ known in
    let lms = named-lms a (sym (ap (λ code. is_some (lms_set code)) at_a) ∙ both.0) in
    let ots = named-ots b (sym (ap (λ code. is_some (ots_set code)) at_b) ∙ both.1) in
    ((lms.0, ots.0), level-read text rest (drop 4 rest) a b lms.0 ots.0 eight first second lms.1 ots.1)

named-levels : (texts : List (List ℕ)) → All Is8 texts → All IsBytes texts → list_all is_level texts ≡ true
    → (levels : List (LmsType × OtsType)) × (map level_text levels ≡ texts)
named-levels [] eight small known = ([], refl)
named-levels (text ∷ texts) eight small known =
    let both = and_parts (is_level text) (list_all is_level texts) known in
    let first = named-level text (All-head Is8 text texts eight) (All-head IsBytes text texts small) both.0 in
    let others = named-levels texts (All-tail Is8 text texts eight) (All-tail IsBytes text texts small) both.1 in
    (first.0 ∷ others.0, ap₂ (λ x xs. x ∷ xs) first.1 others.1)

-- ---- the faults that bytes have not

not-taken : {X : Type 0} (b : Bool) (x : X) (rest : Option X) → cond b (Some x) rest ≡ None
    → (b ≡ false) × (rest ≡ None)
not-taken true x rest e = absurd (none-some x (sym e))
not-taken false x rest e = (refl, e)

passed : (text : List ℕ) (f : ImageFault) (fs : List ImageFault) → first_among (f ∷ fs) text ≡ None
    → (has_fault f text ≡ false) × (first_among fs text ≡ None)
passed text f fs e = not-taken (has_fault f text) f (first_among fs text) e

-- bytes that have none of the faults
record IsClear (text : List ℕ) : Type 0 where
  long : 12 ≤ length text
  start : take 4 text ≡ magic
  version : Version
  version_is : version_in text ≡ code_of version
  some_level : 1 ≤ count_in text
  eight_at_most : count_in text ≤ 8
  length_is : length text ≡ stated_length (version_in text) (count_in text)
  digest : digest_in text ≡ sha256 (body_in text)
  types : list_all is_level (levels_in text) ≡ true
  heights : heights_in text ≤ 60
  counter : counter_in text ≤ 2 ^ heights_in text
  openings : openings_in text ≤ counter_in text
  burnt : burnt_in text ≤ counter_in text

named-version : (n : ℕ) (first : Bool) → (n == 1) ≡ first → (first || n == 2) ≡ true → (v : Version) × (n ≡ code_of v)
named-version n true one known = (First, eqb-true n 1 one)
named-version n false other known = (Second, eqb-true n 2 known)

clear-of : (text : List ℕ) → fault_of text ≡ None → IsClear text
unfolding has_fault
clear-of text none =
    let p0 = passed text Truncated (drop 1 faults) (sym (fault-of text) ∙ none) in
    let p1 = passed text NotAnImage (drop 2 faults) p0.1 in
    let p2 = passed text UnknownVersion (drop 3 faults) p1.1 in
    let p3 = passed text BadLevels (drop 4 faults) p2.1 in
    let p4 = passed text WrongLength (drop 5 faults) p3.1 in
    let p5 = passed text Damaged (drop 6 faults) p4.1 in
    let p6 = passed text BadType (drop 7 faults) p5.1 in
    let p7 = passed text TooTall (drop 8 faults) p6.1 in
    let p8 = passed text CounterTooHigh (drop 9 faults) p7.1 in
    let p9 = passed text OpeningTooHigh (drop 10 faults) p8.1 in
    let p10 = passed text BurntTooHigh (drop 11 faults) p9.1 in
    let stated = named-version (version_in text) (version_in text == 1) refl (not-false _ p2.0) in
    let counts = or_parts (count_in text == 0) (nat_lt 8 (count_in text)) p3.0 in
    record {
      long = ltb-false (length text) 12 p0.0;
      start = (bytes_eq-Decides (take 4 text) magic).0 (not-false _ p1.0);
      version = stated.0;
      version_is = stated.1;
      some_level = (let some : count_in text ≡ 0 → ⊥ = eqb-false (count_in text) 0 counts.0 in omega arith);
      eight_at_most = ltb-false 8 (count_in text) counts.1;
      length_is = eqb-true (length text) (stated_length (version_in text) (count_in text)) (not-false _ p4.0);
      digest = (bytes_eq-Decides (digest_in text) (sha256 (body_in text))).0 (not-false _ p5.0);
      types = not-false _ p6.0;
      heights = ltb-false 60 (heights_in text) p7.0;
      counter = ltb-false (2 ^ heights_in text) (counter_in text) p8.0;
      openings = ltb-false (counter_in text) (openings_in text) p9.0;
      burnt = ltb-false (counter_in text) (burnt_in text) p10.0;
    }

-- ---- the key and the numbers

head-of : (text : List ℕ) → IsBytes text → (is : IsClear text) → IsHeaded text (drop 12 text) is.version (count_in text)
head-of text small is =
    let long = is.long in
    let behind = drop 4 text in
    let behind_small = bytes-drop 4 text small in
    let behind_long : 8 ≤ length behind = omega (arith, length-drop 4 text) in
    let version : take 4 behind ≡ u32str (code_of is.version)
    = number-back (take 4 behind) (length-take-le 4 behind (omega arith)) (bytes-take 4 behind behind_small)
    ∙ ap u32str is.version_is in
    let after = drop 8 text in
    let after_long : 4 ≤ length after = omega (arith, length-drop 8 text) in
    let count : take 4 after ≡ u32str (count_in text)
    = number-back (take 4 after) (length-take-le 4 after after_long) (bytes-take 4 after (bytes-drop 8 text small)) in
    let third : after ≡ u32str (count_in text) ++ drop 12 text
    = sym (take-append-drop 4 after) ∙ ap₂ (λ x y. x ++ y) count (drop-drop 4 8 text) in
    let second : behind ≡ u32str (code_of is.version) ++ (u32str (count_in text) ++ drop 12 text)
    = sym (take-append-drop 4 behind) ∙ ap₂ (λ x y. x ++ y) version (drop-drop 4 4 text ∙ third) in
    record {
      some_level = is.some_level;
      eight_at_most = is.eight_at_most;
      parts = sym (take-append-drop 4 text) ∙ ap₂ (λ x y. x ++ y) is.start second;
    }

-- what is after the levels, and after the identifier
after_levels : List ℕ → List ℕ
after_levels text = drop (8 * count_in text) (drop 12 text)

after_id : List ℕ → List ℕ
after_id text = drop 16 (drop 32 (after_levels text))

levels_of_text : List ℕ → List (List ℕ)
levels_of_text text = first_chunks 8 (count_in text) (take (8 * count_in text) (drop 12 text))

-- what the bytes say, with these numbers after the counter
fields_in : Version → List ℕ → ℕ → ℕ → Fields
fields_in v text openings burnt = record {
  version = v;
  levels = levels_of_text text;
  seed = take 32 (after_levels text);
  id = take 16 (drop 32 (after_levels text));
  counter = from_be_bytes w64 (take 8 (after_id text));
  openings = openings;
  burnt = burnt;
}

text-long : (text : List ℕ) (is : IsClear text) → length text ≡ 100 + later_length is.version + 8 * count_in text
text-long text is =
    is.length_is ∙ (ap (λ n. stated_length n (count_in text)) is.version_is ∙ length-by-code is.version (count_in text))

id-long : (text : List ℕ) (is : IsClear text) → length (after_id text) ≡ 40 + later_length is.version
unfolding after_levels after_id
id-long text is =
    let all = text-long text is in
    omega (
      arith,
      all,
      length-drop 12 text,
      length-drop (8 * count_in text) (drop 12 text),
      length-drop 32 (drop (8 * count_in text) (drop 12 text)),
      length-drop 16 (drop 32 (drop (8 * count_in text) (drop 12 text))),
    )

id-bytes : (text : List ℕ) → IsBytes text → IsBytes (after_id text)
unfolding after_levels after_id
id-bytes text small = bytes-drop 16 _ (bytes-drop 32 _ (bytes-drop (8 * count_in text) _ (bytes-drop 12 text small)))

cut-of : (text : List ℕ) → IsBytes text → (is : IsClear text) → (openings burnt : ℕ) (digest : List ℕ)
    → ReadsLater is.version (drop 8 (after_id text)) openings burnt digest
    → IsCut (count_in text) (drop 12 text) (fields_in is.version text openings burnt) digest
unfolding after_levels after_id fields_in levels_of_text
cut-of text small is openings burnt digest later =
    let all = text-long text is in
    let behind = id-long text is in
    let bytes = id-bytes text small in
    cut-parts (count_in text) (drop 12 text) _ _ _ _ _ _ (drop 8 (after_id text)) digest _ is.version _ openings burnt
    (bytes-drop 12 text small)
    (omega (arith, all, length-drop 12 text)) refl refl refl refl refl refl refl
    (eight-and-rest (after_id text) (take 8 (after_id text)) (drop 8 (after_id text)) _ bytes
    (omega (arith, behind)) refl refl refl)
    (eight-fit (take 8 (after_id text)) (bytes-take 8 (after_id text) bytes)) later

key_of : List (LmsType × OtsType) → List ℕ → List ℕ → KeyOfCode
key_of levels seed id = record { levels = levels; seed = seed; i = id }

admitted-of : (text : List ℕ) (texts : List (List ℕ)) (levels : List (LmsType × OtsType)) → IsClear text
    → levels_in text ≡ texts
    → length texts ≡ count_in text → map level_text levels ≡ texts → IsAdmitted levels
admitted-of text texts levels is same counted e =
    let count = ap length e ∙ counted in
    let some = is.some_level in
    let most = is.eight_at_most in
    let low = is.heights in
    let heights : heights_in text ≡ height_of (levels_of levels) =
    ap (sum_by height_in) (same ∙ sym e) ∙ heights-of-texts levels in
    record {
      some_level = omega (arith, length-map levels level_text);
      eight_at_most = omega (arith, length-map levels level_text);
      not_too_tall = omega arith;
    }

-- an image of some key and its numbers
IsSomeImage : List ℕ → Type 0
IsSomeImage text = (key : KeyOfCode) × (counter openings burnt : ℕ) × HasImage key counter openings burnt
    × IsImage text key counter openings burnt

image-of-parts : (text : List ℕ) (f : Fields) (digest : List ℕ) → IsClear text
    → IsHeaded text (drop 12 text) f.version (count_in text) → IsCut (count_in text) (drop 12 text) f digest
    → All IsBytes f.levels
    → IsSomeImage text
unfolding key_of IsSomeImage
image-of-parts text f digest clear head cut small =
    let laid = laid-out text (drop 12 text) (count_in text) f digest head cut in
    let right : digest ≡ sha256 (body_in text) = sym laid.digest_is ∙ clear.digest in
    let all = whole text f digest laid (not_from_true _ ((bytes_eq-Decides digest (sha256 (body_in text))).1 right)) in
    let named = named-levels f.levels cut.level_lengths small
    (ap (list_all is_level) (sym laid.levels_are) ∙ clear.types) in
    let levels = named.0 in
    let admitted = admitted-of text f.levels levels clear laid.levels_are cut.level_count named.1 in
    let key = key_of levels f.seed f.id in
    let power : 2 ^ heights_in text ≡ capacity_of (hss_key_of key)
    = ap (λ h. 2 ^ h) (ap (sum_by height_in) (laid.levels_are ∙ sym named.1) ∙ heights-of-texts levels) in
    let counted = read-counted f (count_in text) (drop 12 text) digest key levels cut admitted refl refl refl
    (omega (arith, laid.counter_is, clear.counter, power))
    (omega (arith, laid.counter_is, laid.openings_are, clear.openings))
    (omega (arith, laid.counter_is, laid.burnt_are, clear.burnt)) in
    (key, f.counter, f.openings, f.burnt, counted, read-image text f key levels all named.1 refl refl refl cut.later)

image-of-faultless : (text : List ℕ) → IsBytes text → fault_of text ≡ None → IsSomeImage text
unfolding fields_in levels_of_text
image-of-faultless text small none =
    let clear = clear-of text none in
    let rest = drop 12 text in
    let front = take (8 * count_in text) rest in
    let behind = id-long text clear in
    let later = reads-later clear.version (drop 8 (after_id text)) (bytes-drop 8 (after_id text) (id-bytes text small))
    (omega (arith, behind, length-drop 8 (after_id text))) in
    let (openings, burnt, digest, reads) = later in
    image-of-parts text (fields_in clear.version text openings burnt) digest clear (head-of text small clear)
    (cut-of text small clear openings burnt digest reads)
    (chunks-are-bytes (count_in text) front (bytes-take (8 * count_in text) rest (bytes-drop 12 text small)))

bytes-of : (text : List ℕ) → IsText text → IsBytes text
bytes-of text small i =
    ⊎_elim
    (λ (lt : i < length text). small i 0 lt)
    (λ (ge : length text ≤ i). let past : get_or text i 0 ≡ 0 = get_or_past text i 0 ge in omega arith)
    (cases_lt i (length text))

-- bytes have no fault exactly where they are an image
pub faultless-are-images : FaultlessAreImages
unfolding IsSomeImage
faultless-are-images text small = (
  image-of-faultless text (bytes-of text small),
  λ is. image-has-no-fault text is.0 is.1 is.2 is.3 is.4 is.5,
)
