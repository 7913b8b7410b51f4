-- Bytes, cut into the parts of an image.
use Rattle.std.proofs.Common.{ℕ, zero, suc, ◌≡◌, ◌+◌, ◌*◌, ◌^◌, ◌<◌, ◌≤◌, List, ◌++◌, length, take, drop, get_or, All}
use Rattle.std.proofs.Common.{⊎_elim, refl, sym, ◌∙◌, ap, ap₂, arith, subst, length-take, length-drop, take-append-drop}
use Rattle.std.specs.List.{concat}
use Rattle.std.specs.Simd.{first_chunks}
use Rattle.std.specs.Int.{w32, w64, from_be_bytes}
use Rattle.std.proofs.lemmas.Bool.{cases_lt}
use Rattle.std.proofs.lemmas.List.{length-take-le, get_or-take, get_or-drop, get_or_past, nil_from_length}
use Rattle.std.proofs.lemmas.List.Elements.{All-nil, All-cons, All-from_get_or}
use Rattle.std.proofs.lemmas.Nat.{be_bytes_4}
use Rattle.lms_spec.specs.Bytes.{u32str, u64str, number_of}
use Rattle.lms_spec.proofs.FirstNumber.{eight-and-rest}
use Rattle.lms_spec.proofs.Numbers.{number_of-u32}
use Rattle.lms_image.specs.declared.version.Version.{Version}
use Rattle.lms_image.specs.declared.version.Version.TheVariants.{First, Second}
use Rattle.lms_image.specs.Image.{later_text, later_length}
use Rattle.lms_image.specs.Reading.{IsCut, ReadsLater}
use Rattle.lms_image.proofs.LevelTexts.{Is8}

abbrev pub IsBytes : List ℕ → Type 0
IsBytes bytes = (i : ℕ) → get_or bytes i 0 < 256

pub bytes-take : (k : ℕ) (bytes : List ℕ) → IsBytes bytes → IsBytes (take k bytes)
bytes-take k bytes small i =
    ⊎_elim
    (λ (lt : i < k). omega (arith, small i, get_or-take k bytes i 0 lt))
    (λ (ge : k ≤ i). let past : get_or (take k bytes) i 0 ≡ 0 =
    get_or_past (take k bytes) i 0 (omega (arith, length-take k bytes)) in omega arith)
    (cases_lt i k)

pub bytes-drop : (k : ℕ) (bytes : List ℕ) → IsBytes bytes → IsBytes (drop k bytes)
bytes-drop k bytes small i = omega (arith, small (k + i), get_or-drop k bytes i 0)

pub all-bytes : (bytes : List ℕ) → IsBytes bytes → All (λ b. b < 256) bytes
all-bytes bytes small = All-from_get_or (λ b. b < 256) bytes 0 (λ i h. small i)

pub four-fit : (bytes : List ℕ) → IsBytes bytes → from_be_bytes w32 bytes < 2 ^ 32
four-fit bytes small = omega (arith, small 0, small 1, small 2, small 3)

pub eight-fit : (bytes : List ℕ) → IsBytes bytes → from_be_bytes w64 bytes < 2 ^ 64
eight-fit bytes small = omega (arith, small 0, small 1, small 2, small 3, small 4, small 5, small 6, small 7)

-- four bytes are their number
pub number-back : (bytes : List ℕ) → length bytes ≡ 4 → IsBytes bytes → bytes ≡ u32str (number_of bytes)
number-back bytes four small =
    let v = from_be_bytes w32 bytes in
    let e : u32str v ≡ bytes = be_bytes_4 bytes v four small refl in
    let n : number_of bytes ≡ v = ap number_of (sym e) ∙ number_of-u32 v (four-fit bytes small) in
    sym e ∙ ap u32str (sym n)

length-chunks : (n : ℕ) (bytes : List ℕ) → length (first_chunks 8 n bytes) ≡ n
length-chunks zero bytes = refl
length-chunks (suc n) bytes = ap suc (length-chunks n (drop 8 bytes))

pub chunks-are-8 : (n : ℕ) (bytes : List ℕ) → 8 * n ≤ length bytes → All Is8 (first_chunks 8 n bytes)
chunks-are-8 zero bytes h = All-nil Is8
chunks-are-8 (suc n) bytes h =
    All-cons Is8 (take 8 bytes) (first_chunks 8 n (drop 8 bytes)) (length-take-le 8 bytes (omega arith))
    (chunks-are-8 n (drop 8 bytes) (omega (arith, length-drop 8 bytes)))

pub chunks-are-bytes : (n : ℕ) (bytes : List ℕ) → IsBytes bytes → All IsBytes (first_chunks 8 n bytes)
chunks-are-bytes zero bytes small = All-nil IsBytes
chunks-are-bytes (suc n) bytes small =
    All-cons IsBytes (take 8 bytes) (first_chunks 8 n (drop 8 bytes)) (bytes-take 8 bytes small)
    (chunks-are-bytes n (drop 8 bytes) (bytes-drop 8 bytes small))

concat-chunks : (n : ℕ) (bytes : List ℕ) → length bytes ≡ 8 * n → concat (first_chunks 8 n bytes) ≡ bytes
concat-chunks zero bytes h = sym (nil_from_length bytes (omega arith))
concat-chunks (suc n) bytes h =
    ap (λ rest. take 8 bytes ++ rest) (concat-chunks n (drop 8 bytes) (omega (arith, length-drop 8 bytes)))
    ∙ take-append-drop 8 bytes

-- the numbers after the counter are read
pub reads-later : (v : Version) (text : List ℕ) → IsBytes text → later_length v ≤ length text
    → (openings burnt : ℕ) × (rest : List ℕ) × ReadsLater v text openings burnt rest
reads-later First text small long = (0, 0, text, record { are = (refl, refl); parts = refl; long = omega arith })
reads-later Second text small long =
    let behind = drop 8 text in
    let behind_small = bytes-drop 8 text small in
    let behind_long = length-drop 8 text in
    let openings = from_be_bytes w64 (take 8 text) in
    let burnt = from_be_bytes w64 (take 8 behind) in
    let first : text ≡ u64str openings ++ behind =
    eight-and-rest text (take 8 text) behind openings small (omega (arith, long)) refl refl refl in
    let second : behind ≡ u64str burnt ++ drop 8 behind
    = eight-and-rest behind (take 8 behind) (drop 8 behind) burnt behind_small
    (omega (arith, long, behind_long)) refl refl refl in (
      openings,
      burnt,
      drop 8 behind,
      record {
        are = (
          eight-fit (take 8 text) (bytes-take 8 text small),
          eight-fit (take 8 behind) (bytes-take 8 behind behind_small),
        );
        parts = first ∙ ap (λ x. u64str openings ++ x) second;
        long = omega (arith, long, behind_long, length-drop 8 behind);
      },
    )

-- what follows a count of levels, cut at their length
pub cut-parts : (count : ℕ) (rest front after seed after_seed id after_id after_counter digest : List ℕ)
    (levels : List (List ℕ))
    (v : Version) (counter openings burnt : ℕ)
    → IsBytes rest → length rest ≡ 88 + later_length v + 8 * count
    → front ≡ take (8 * count) rest → after ≡ drop (8 * count) rest
    → seed ≡ take 32 after → after_seed ≡ drop 32 after
    → id ≡ take 16 after_seed → after_id ≡ drop 16 after_seed
    → levels ≡ first_chunks 8 count front
    → after_id ≡ u64str counter ++ after_counter → counter < 2 ^ 64
    → ReadsLater v after_counter openings burnt digest
    → IsCut count rest
    (record {
      version = v;
      levels = levels;
      seed = seed;
      id = id;
      counter = counter;
      openings = openings;
      burnt = burnt;
    }) digest
cut-parts count rest front after seed after_seed id after_id after_counter digest levels v counter openings burnt small
    long ef ea es eas ei eai el ec fits later =
    let k = 8 * count in
    let after_small : IsBytes after = subst IsBytes (sym ea) (bytes-drop k rest small) in
    let after_seed_small : IsBytes after_seed = subst IsBytes (sym eas) (bytes-drop 32 after after_small) in
    let front_long : length front ≡ k = ap length ef ∙ length-take-le k rest (omega arith) in
    let after_long : length after ≡ 88 + later_length v = ap length ea ∙ omega (arith, length-drop k rest) in
    let after_seed_long : length after_seed ≡ 56 + later_length v =
    ap length eas ∙ omega (arith, length-drop 32 after) in
    let after_id_long : length after_id ≡ 40 + later_length v =
    ap length eai ∙ omega (arith, length-drop 16 after_seed) in
    let pieces : concat levels ≡ front = ap concat el ∙ concat-chunks count front front_long in
    let last : u64str counter ++ (later_text v openings burnt ++ digest) ≡ after_id =
    ap (λ x. u64str counter ++ x) (sym later.parts) ∙ sym ec in
    let behind_seed : id ++ (u64str counter ++ (later_text v openings burnt ++ digest)) ≡ after_seed
    = ap₂ (λ x y. x ++ y) ei (last ∙ eai) ∙ take-append-drop 16 after_seed in
    let behind : seed ++ (id ++ (u64str counter ++ (later_text v openings burnt ++ digest))) ≡ after
    = ap₂ (λ x y. x ++ y) es (behind_seed ∙ eas) ∙ take-append-drop 32 after in
    record {
      level_count = ap length el ∙ length-chunks count front;
      level_lengths = subst (All Is8) (sym el) (chunks-are-8 count front (omega arith));
      seed_length = ap length es ∙ length-take-le 32 after (omega arith);
      seed_bytes = all-bytes seed (subst IsBytes (sym es) (bytes-take 32 after after_small));
      id_length = ap length ei ∙ length-take-le 16 after_seed (omega arith);
      id_bytes = all-bytes id (subst IsBytes (sym ei) (bytes-take 16 after_seed after_seed_small));
      counter_fits = fits;
      later = later.are;
      digest_length = (let all = ap length ec in let behind_counter = later.long in omega arith);
      parts = sym (ap₂ (λ x y. x ++ y) (pieces ∙ ef) (behind ∙ ea) ∙ take-append-drop k rest);
    }
