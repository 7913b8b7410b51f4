-- The parts of an image, where they are in its bytes.
use Rattle.std.proofs.Common.{ℕ, suc, ◌≡◌, ◌+◌, ◌-◌, ◌*◌, ◌^◌, ◌<◌, ◌≤◌, List, [], ◌∷◌, ◌++◌, length, take, drop, All}
use Rattle.std.proofs.Common.{true, false, ◌==◌, if◌then◌else◌, Some, None, not, sum_by, refl, sym, ◌∙◌, ap, ap₂, arith}
use Rattle.std.proofs.Common.{subst, append_assoc, length-append}
use Rattle.std.specs.List.{concat, list_all}
use Rattle.std.specs.Prelude.Result.{Err}
use Rattle.std.specs.Str.{bytes_eq}
use Rattle.std.specs.Simd.{first_chunks}
use Rattle.std.proofs.lemmas.Bool.{lt-ltb, le-ltb, eq-eqb, ne_eqb, not_from_true, not_from_false, not-false}
use Rattle.std.proofs.lemmas.Slice.Eq.{bytes_eq-Decides}
use Rattle.std.proofs.lemmas.List.{take_at, drop_at}
use Rattle.std.proofs.lemmas.List.Elements.{All-head, All-tail}
use Rattle.sha2.specs.Sha256.{sha256}
use Rattle.lms_spec.specs.Bytes.{u32str, u64str}
use Rattle.lms_image.specs.declared.fault.ImageFault.{ImageFault}
use Rattle.lms_image.specs.declared.fault.ImageFault.TheVariants.{WrongLength, Damaged, BadType, TooTall}
use Rattle.lms_image.specs.declared.fault.ImageFault.TheVariants.{CounterTooHigh, OpeningTooHigh, BurntTooHigh}
use Rattle.lms_image.specs.declared.version.Version.{Version}
use Rattle.lms_image.specs.declared.version.Version.TheVariants.{First, Second}
use Rattle.lms_image.specs.Image.{Fields, magic, code_of, head_text, later_text, body_text, sealed, is_level, height_in}
use Rattle.lms_image.specs.Image.{heights_in, number_at, later_number, stated_length, version_in, count_in, levels_in}
use Rattle.lms_image.specs.Image.{counter_in, openings_in, burnt_in, body_in, digest_in, has_fault, faults, fault_of}
use Rattle.lms_image.specs.Image.{later_length}
use Rattle.lms_image.specs.Reading.{IsHeaded, IsCut, AreLater, ReadsLevels}
use Rattle.lms_image.proofs.Fields.{u64-at}
use Rattle.lms_image.proofs.LevelTexts.{Is8, length-texts}
use Rattle.lms_image.proofs.Faults.{first_among, found, missed, clear-head, front-of, front-length, version-of}
use Rattle.lms_image.proofs.Faults.{count-of}

-- where the parts of bytes of the right length are
pub record IsLaidOut (text : List ℕ) (f : Fields) (digest : List ℕ) : Type 0 where
  pub clear : fault_of text ≡ first_among (drop 5 faults) text
  pub parts : text ≡ body_text f ++ digest
  pub levels_are : levels_in text ≡ f.levels
  pub counter_is : counter_in text ≡ f.counter
  pub openings_are : openings_in text ≡ f.openings
  pub burnt_are : burnt_in text ≡ f.burnt
  pub body_is : body_in text ≡ body_text f
  pub digest_is : digest_in text ≡ digest

chunks-back : (texts : List (List ℕ)) (rest : List ℕ) → All Is8 texts
    → first_chunks 8 (length texts) (concat texts ++ rest) ≡ texts
chunks-back [] rest long = refl
chunks-back (text ∷ texts) rest long =
    let eight = All-head Is8 text texts long in
    let again = chunks-back texts rest (All-tail Is8 text texts long) in
    let whole = append_assoc text (concat texts) rest in
    ap (λ t. first_chunks 8 (suc (length texts)) t) whole
    ∙ ap₂ (λ x xs. x ∷ xs) (take_at text (concat texts ++ rest) 8 eight)
    (ap (first_chunks 8 (length texts)) (drop_at text (concat texts ++ rest) 8 eight) ∙ again)

pub regroup : (a b c d e f : List ℕ) → ((((a ++ b) ++ c) ++ d) ++ e) ++ f ≡ a ++ (b ++ (c ++ (d ++ (e ++ f))))
regroup a b c d e f = simp append_assoc

-- what is between the count of levels and the digest
abbrev pub after_count : Fields → List ℕ → List ℕ
after_count f digest =
    concat f.levels ++ (f.seed ++ (f.id ++ (u64str f.counter ++ (later_text f.version f.openings f.burnt ++ digest))))

length-later : (v : Version) (openings burnt : ℕ) → length (later_text v openings burnt) ≡ later_length v
length-later First openings burnt = refl
length-later Second openings burnt = refl

pub cut-length : (count : ℕ) (rest : List ℕ) (f : Fields) (digest : List ℕ) → IsCut count rest f digest
    → length rest ≡ 88 + later_length f.version + 8 * count
cut-length count rest f digest is =
    let n = is.level_count in
    let ls = length-texts f.levels is.level_lengths in
    let s = is.seed_length in
    let i = is.id_length in
    let d = is.digest_length in
    let l = length-later f.version f.openings f.burnt in
    let later = later_text f.version f.openings f.burnt in
    ap length is.parts
    ∙ omega (
      arith,
      length-append (concat f.levels) (f.seed ++ (f.id ++ (u64str f.counter ++ (later ++ digest)))),
      length-append f.seed (f.id ++ (u64str f.counter ++ (later ++ digest))),
      length-append f.id (u64str f.counter ++ (later ++ digest)),
      length-append later digest,
    )

text-length : (text rest : List ℕ) (v : Version) (count : ℕ) → IsHeaded text rest v count
    → length text ≡ 12 + length rest
text-length text rest v count is = front-length text magic rest (code_of v) count (front-of text rest v count is)

text-version : (text rest : List ℕ) (v : Version) (count : ℕ) → IsHeaded text rest v count → version_in text ≡ code_of v
text-version text rest v count is = version-of text magic rest (code_of v) count (front-of text rest v count is)

text-count : (text rest : List ℕ) (v : Version) (count : ℕ) → IsHeaded text rest v count → count_in text ≡ count
text-count text rest v count is = count-of text magic rest (code_of v) count (front-of text rest v count is)

pub length-by-code : (v : Version) (count : ℕ) → stated_length (code_of v) count ≡ 100 + later_length v + 8 * count
length-by-code First count = omega arith
length-by-code Second count = omega arith

-- the length that the bytes state
stated-length : (text rest : List ℕ) (v : Version) (count : ℕ) → IsHeaded text rest v count
    → stated_length (version_in text) (count_in text) ≡ 100 + later_length v + 8 * count
stated-length text rest v count is =
    ap₂ (λ n k. stated_length n k) (text-version text rest v count is) (text-count text rest v count is)
    ∙ length-by-code v count

pub wrong-length : (text rest : List ℕ) (v : Version) (count : ℕ) → IsHeaded text rest v count
    → (length rest ≡ 88 + later_length v + 8 * count → ⊥) → fault_of text ≡ Some WrongLength
unfolding has_fault
wrong-length text rest v count is other =
    let long = text-length text rest v count is in
    let stated = stated-length text rest v count is in
    let differs : length text ≡ stated_length (version_in text) (count_in text) → ⊥ =
    λ (e : length text ≡ stated_length (version_in text) (count_in text)).
    (let all : length text ≡ 100 + later_length v + 8 * count = e ∙ stated in other (omega (arith, all, long))) in
    clear-head text rest v count is
    ∙ found text WrongLength (drop 5 faults)
    (not_from_false _ (ne_eqb (length text) (stated_length (version_in text) (count_in text)) differs))

clear-length : (text rest : List ℕ) (v : Version) (count : ℕ) → IsHeaded text rest v count
    → length rest ≡ 88 + later_length v + 8 * count
    → fault_of text ≡ first_among (drop 5 faults) text
unfolding has_fault
clear-length text rest v count is same =
    let long = text-length text rest v count is in
    let whole : length text ≡ 100 + later_length v + 8 * count = omega (arith, long, same) in
    clear-head text rest v count is
    ∙ missed text WrongLength (drop 5 faults)
    (not_from_true _ (eq-eqb (length text) (stated_length (version_in text) (count_in text))
    (whole ∙ sym (stated-length text rest v count is))))

text-parts : (text rest : List ℕ) (count : ℕ) (f : Fields) (digest : List ℕ)
    → IsHeaded text rest f.version count → IsCut count rest f digest → text ≡ body_text f ++ digest
unfolding body_text head_text
text-parts text rest count f digest is cut =
    is.parts
    ∙ ap₂ (λ n r. magic ++ (u32str (code_of f.version) ++ (u32str n ++ r))) (sym cut.level_count)
    (cut.parts
    ∙ sym (regroup (concat f.levels) f.seed f.id (u64str f.counter) (later_text f.version f.openings f.burnt) digest))

length-front : (v : Version) (levels : List (List ℕ)) (seed id : List ℕ) → All Is8 levels → length seed ≡ 32
    → length id ≡ 16
    → length (head_text v levels ++ seed ++ id) ≡ 60 + 8 * length levels
unfolding head_text
length-front v levels seed id eight s i =
    let ls = length-texts levels eight in
    length-append (head_text v levels ++ seed) id
    ∙ omega (arith, length-append (head_text v levels) seed)

text-counter : (text : List ℕ) (f : Fields) (digest : List ℕ)
    → text ≡ body_text f ++ digest → All Is8 f.levels → length f.seed ≡ 32 → length f.id ≡ 16 → f.counter < 2 ^ 64
    → number_at (60 + 8 * length f.levels) 8 text ≡ f.counter
unfolding body_text
text-counter text f digest e eight s i fits =
    let front = head_text f.version f.levels ++ f.seed ++ f.id in
    let later = later_text f.version f.openings f.burnt in
    u64-at (60 + 8 * length f.levels) f.counter text front (later ++ digest)
    (length-front f.version f.levels f.seed f.id eight s i) fits
    (e
    ∙ (append_assoc (front ++ u64str f.counter) later digest ∙ append_assoc front (u64str f.counter) (later ++ digest)))

-- the two numbers after the counter; where version 1 has none, both are 0
later-numbers : (v : Version) (text front digest : List ℕ) (k openings burnt : ℕ) → version_in text ≡ code_of v
    → AreLater v openings burnt
    → length front ≡ k → text ≡ front ++ (later_text v openings burnt ++ digest)
    → (later_number k text ≡ openings) × (later_number (8 + k) text ≡ burnt)
later-numbers First text front digest k openings burnt stated are before e = (
  ap (λ n. if n == 1 then 0 else number_at k 8 text) stated ∙ sym are.0,
  ap (λ n. if n == 1 then 0 else number_at (8 + k) 8 text) stated ∙ sym are.1,
)
later-numbers Second text front digest k openings burnt stated are before e =
    let first : text ≡ front ++ (u64str openings ++ (u64str burnt ++ digest)) = e in
    let second : text ≡ (front ++ u64str openings) ++ (u64str burnt ++ digest) =
    first ∙ sym (append_assoc front (u64str openings) (u64str burnt ++ digest)) in (
      ap (λ n. if n == 1 then 0 else number_at k 8 text) stated
          ∙ u64-at k openings text front (u64str burnt ++ digest) before are.0 first,
      ap (λ n. if n == 1 then 0 else number_at (8 + k) 8 text) stated
          ∙ u64-at (8 + k) burnt text (front ++ u64str openings) digest
          (length-append front (u64str openings) ∙ omega (arith, before)) are.1 second,
    )

text-later : (text : List ℕ) (f : Fields) (digest : List ℕ)
    → text ≡ body_text f ++ digest → version_in text ≡ code_of f.version → All Is8 f.levels → length f.seed ≡ 32
    → length f.id ≡ 16
    → AreLater f.version f.openings f.burnt
    → (later_number (68 + 8 * length f.levels) text ≡ f.openings)
    × (later_number (76 + 8 * length f.levels) text ≡ f.burnt)
unfolding body_text
text-later text f digest e stated eight s i are =
    let front = head_text f.version f.levels ++ f.seed ++ f.id in
    let long = length-front f.version f.levels f.seed f.id eight s i in
    let numbers = later-numbers f.version text (front ++ u64str f.counter) digest
    (68 + 8 * length f.levels) f.openings f.burnt stated are
    (length-append front (u64str f.counter) ∙ omega (arith, long))
    (e ∙ append_assoc (front ++ u64str f.counter) (later_text f.version f.openings f.burnt) digest) in
    let place : 8 + (68 + 8 * length f.levels) ≡ 76 + 8 * length f.levels = omega arith in
    (numbers.0, subst (λ k. later_number k text ≡ f.burnt) place numbers.1)

pub body-front : (text body digest : List ℕ) → length digest ≡ 32 → text ≡ body ++ digest → body_in text ≡ body
body-front text body digest long e =
    let all = ap length e ∙ length-append body digest in
    ap₂ (λ n t. take n t) (let k : length text - 32 ≡ length body = omega arith in k) e
    ∙ take_at body digest (length body) refl

pub digest-back : (text body digest : List ℕ) → length digest ≡ 32 → text ≡ body ++ digest → digest_in text ≡ digest
digest-back text body digest long e =
    let all = ap length e ∙ length-append body digest in
    ap₂ (λ n t. drop n t) (let k : length text - 32 ≡ length body = omega arith in k) e
    ∙ drop_at body digest (length body) refl

pub laid-out : (text rest : List ℕ) (count : ℕ) (f : Fields) (digest : List ℕ)
    → IsHeaded text rest f.version count → IsCut count rest f digest → IsLaidOut text f digest
laid-out text rest count f digest is cut =
    let parts = text-parts text rest count f digest is cut in
    let counted : count_in text ≡ length f.levels = text-count text rest f.version count is ∙ sym cut.level_count in
    let behind : drop 12 text ≡ after_count f digest = ap (drop 12) is.parts ∙ cut.parts in
    let later = text-later text f digest parts
    (text-version text rest f.version count is) cut.level_lengths cut.seed_length cut.id_length cut.later in
    record {
      clear = clear-length text rest f.version count is (cut-length count rest f digest cut);
      parts = parts;
      levels_are = ap₂ (λ n t. first_chunks 8 n t) counted behind
          ∙ chunks-back f.levels
          (f.seed ++ (f.id ++ (u64str f.counter ++ (later_text f.version f.openings f.burnt ++ digest))))
          cut.level_lengths;
      counter_is = ap (λ n. number_at (60 + 8 * n) 8 text) counted
          ∙ text-counter text f digest parts cut.level_lengths cut.seed_length cut.id_length cut.counter_fits;
      openings_are = ap (λ n. later_number (68 + 8 * n) text) counted ∙ later.0;
      burnt_are = ap (λ n. later_number (76 + 8 * n) text) counted ∙ later.1;
      body_is = body-front text (body_text f) digest cut.digest_length parts;
      digest_is = digest-back text (body_text f) digest cut.digest_length parts;
    }

-- ---- the faults after the length

pub damaged : (text : List ℕ) (f : Fields) (digest : List ℕ)
    → IsLaidOut text f digest → not (bytes_eq digest (sha256 (body_in text))) ≡ true → fault_of text ≡ Some Damaged
unfolding has_fault
damaged text f digest is other =
    is.clear ∙ found text Damaged (drop 6 faults)
    (ap (λ d. not (bytes_eq d (sha256 (body_in text)))) is.digest_is ∙ other)

-- what is known of bytes whose digest is right
pub record IsWhole (text : List ℕ) (f : Fields) : Type 0 where
  pub clear : fault_of text ≡ first_among (drop 6 faults) text
  pub text_is : text ≡ sealed (body_text f)
  pub levels_are : levels_in text ≡ f.levels
  pub counter_is : counter_in text ≡ f.counter
  pub openings_are : openings_in text ≡ f.openings
  pub burnt_are : burnt_in text ≡ f.burnt

pub whole : (text : List ℕ) (f : Fields) (digest : List ℕ)
    → IsLaidOut text f digest → not (bytes_eq digest (sha256 (body_in text))) ≡ false → IsWhole text f
unfolding has_fault sealed
whole text f digest is same =
    let right : digest ≡ sha256 (body_in text) =
    (bytes_eq-Decides digest (sha256 (body_in text))).0 (not-false _ same) in
    record {
      clear = is.clear ∙ missed text Damaged (drop 6 faults)
          (ap (λ d. not (bytes_eq d (sha256 (body_in text)))) is.digest_is ∙ same);
      text_is = is.parts ∙ ap (λ d. body_text f ++ d) (right ∙ ap sha256 is.body_is);
      levels_are = is.levels_are;
      counter_is = is.counter_is;
      openings_are = is.openings_are;
      burnt_are = is.burnt_are;
    }

bad-type : (text : List ℕ) (f : Fields) → IsWhole text f → list_all is_level f.levels ≡ false
    → fault_of text ≡ Some BadType
unfolding has_fault
bad-type text f is other =
    is.clear ∙ found text BadType (drop 7 faults) (not_from_false _ (ap (list_all is_level) is.levels_are ∙ other))

clear-types : (text : List ℕ) (f : Fields) → IsWhole text f → list_all is_level f.levels ≡ true
    → fault_of text ≡ first_among (drop 7 faults) text
unfolding has_fault
clear-types text f is same =
    is.clear ∙ missed text BadType (drop 7 faults) (not_from_true _ (ap (list_all is_level) is.levels_are ∙ same))

too-tall : (text : List ℕ) (f : Fields) → IsWhole text f
    → list_all is_level f.levels ≡ true → 60 < sum_by height_in f.levels → fault_of text ≡ Some TooTall
unfolding has_fault
too-tall text f is same tall =
    let heights = ap (sum_by height_in) is.levels_are in
    clear-types text f is same ∙ found text TooTall (drop 8 faults) (lt-ltb 60 (heights_in text) (omega arith))

-- the levels are those of a key
pub record IsKeyed (f : Fields) : Type 0 where
  pub known : list_all is_level f.levels ≡ true
  pub low : sum_by height_in f.levels ≤ 60

clear-heights : (text : List ℕ) (f : Fields) → IsWhole text f → IsKeyed f
    → fault_of text ≡ first_among (drop 8 faults) text
unfolding has_fault
clear-heights text f is keyed =
    let heights = ap (sum_by height_in) is.levels_are in
    let low = keyed.low in
    clear-types text f is keyed.known ∙ missed text TooTall (drop 8 faults) (le-ltb 60 (heights_in text) (omega arith))

pub counter-too-high : (text : List ℕ) (f : Fields) → IsWhole text f → IsKeyed f
    → 2 ^ sum_by height_in f.levels < f.counter
    → fault_of text ≡ Some CounterTooHigh
unfolding has_fault
counter-too-high text f is keyed high =
    let power = ap (λ xs. 2 ^ sum_by height_in xs) is.levels_are in
    let counted = is.counter_is in
    clear-heights text f is keyed
    ∙ found text CounterTooHigh (drop 9 faults) (lt-ltb (2 ^ heights_in text) (counter_in text) (omega arith))

clear-counter : (text : List ℕ) (f : Fields) → IsWhole text f → IsKeyed f → f.counter ≤ 2 ^ sum_by height_in f.levels
    → fault_of text ≡ first_among (drop 9 faults) text
unfolding has_fault
clear-counter text f is keyed within =
    let power = ap (λ xs. 2 ^ sum_by height_in xs) is.levels_are in
    let counted = is.counter_is in
    clear-heights text f is keyed
    ∙ missed text CounterTooHigh (drop 9 faults) (le-ltb (2 ^ heights_in text) (counter_in text) (omega arith))

pub opening-too-high : (text : List ℕ) (f : Fields) → IsWhole text f → IsKeyed f
    → f.counter ≤ 2 ^ sum_by height_in f.levels
    → f.counter < f.openings → fault_of text ≡ Some OpeningTooHigh
unfolding has_fault
opening-too-high text f is keyed within high =
    clear-counter text f is keyed within
    ∙ found text OpeningTooHigh (drop 10 faults)
    (lt-ltb (counter_in text) (openings_in text) (omega (arith, is.counter_is, is.openings_are, high)))

clear-openings : (text : List ℕ) (f : Fields) → IsWhole text f → IsKeyed f → f.counter ≤ 2 ^ sum_by height_in f.levels
    → f.openings ≤ f.counter → fault_of text ≡ first_among (drop 10 faults) text
unfolding has_fault
clear-openings text f is keyed within low =
    clear-counter text f is keyed within
    ∙ missed text OpeningTooHigh (drop 10 faults)
    (le-ltb (counter_in text) (openings_in text) (omega (arith, is.counter_is, is.openings_are, low)))

pub burnt-too-high : (text : List ℕ) (f : Fields) → IsWhole text f → IsKeyed f
    → f.counter ≤ 2 ^ sum_by height_in f.levels
    → f.openings ≤ f.counter → f.counter < f.burnt → fault_of text ≡ Some BurntTooHigh
unfolding has_fault
burnt-too-high text f is keyed within low high =
    clear-openings text f is keyed within low
    ∙ found text BurntTooHigh (drop 11 faults)
    (lt-ltb (counter_in text) (burnt_in text) (omega (arith, is.counter_is, is.burnt_are, high)))

pub no-fault : (text : List ℕ) (f : Fields) → IsWhole text f → IsKeyed f → f.counter ≤ 2 ^ sum_by height_in f.levels
    → f.openings ≤ f.counter → f.burnt ≤ f.counter → fault_of text ≡ None
unfolding has_fault
no-fault text f is keyed within low few =
    clear-openings text f is keyed within low
    ∙ missed text BurntTooHigh (drop 11 faults)
    (le-ltb (counter_in text) (burnt_in text) (omega (arith, is.counter_is, is.burnt_are, few)))

-- the fault of the levels is that of the bytes
pub fault-read : (text : List ℕ) (f : Fields) → IsWhole text f → (fault : ImageFault) → ReadsLevels f.levels (Err fault)
    → fault_of text ≡ Some fault
fault-read text f is BadType reads = bad-type text f is reads
fault-read text f is TooTall reads = too-tall text f is reads.0 reads.1
fault-read text f is _ reads = absurd reads
