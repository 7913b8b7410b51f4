-- The eight bytes of a level, and what they name.
use Rattle.std.proofs.Common.{ℕ, ◌≡◌, ◌+◌, ◌*◌, ◌^◌, ◌<◌, ◌≤◌, List, [], ◌∷◌, ◌++◌, length, map, take, get_or, All}
use Rattle.std.proofs.Common.{true, false, ◌==◌, if◌then◌else◌, Some, None, option_map, is_some, refl, sym, ◌∙◌, ap}
use Rattle.std.proofs.Common.{ap₂, arith, sum_by, length-append, append_assoc}
use Rattle.std.specs.Prelude.{unwrap_or, slice_set}
use Rattle.std.specs.Prelude.Result.{Err}
use Rattle.std.specs.List.{concat, list_all}
use Rattle.std.proofs.lemmas.Bool.{and_from, and_left, and_right}
use Rattle.std.proofs.lemmas.List.{take_more, take_more_set, take_all, append-nil, map-append, nil_from_length}
use Rattle.std.proofs.lemmas.List.{length-map}
use Rattle.std.proofs.lemmas.List.Folds.{concat-append}
use Rattle.std.proofs.lemmas.List.Elements.{All-head, All-tail, All-map}
use Rattle.std.proofs.lemmas.List.Sums.{sum_by-cons}
use Rattle.lms_spec.specs.Parameters.{ots_set, lms_set}
use Rattle.lms_spec.specs.Bytes.{u32str}
use Rattle.lms_spec.specs.Hss.{Level, height_of}
use Rattle.lms_spec.proofs.Sets.{small-ots_code, small-lms_code, code-ots_set, code-lms_set}
use Rattle.lms_params.specs.LmsType.{lms_set_of}
use Rattle.lms_params.specs.OtsType.{ots_set_of}
use Rattle.lms_params.specs.declared.lms_type.LmsType.{LmsType}
use Rattle.lms_params.specs.declared.ots_type.OtsType.{OtsType}
use Rattle.lms_params.specs.declared.lms_type.LmsType.TheVariants.{H5, H10, H15, H20, H25}
use Rattle.lms_params.specs.declared.ots_type.OtsType.TheVariants.{W1, W2, W4, W8}
use Rattle.lms_params.proofs.KnownSets.{known_lms_set, known_ots_set}
use Rattle.lms_hss.specs.Levels.{level_of, levels_of, JudgesLevels}
use Rattle.lms_hss.specs.declared.fault.KeyFault.{KeyFault}
use Rattle.lms_hss.specs.declared.fault.KeyFault.TheVariants.{NoLevels, TooManyLevels, TooTall}
use Rattle.lms_image.specs.declared.version.Version.{Version}
use Rattle.lms_image.specs.Image.{magic, code_of, head_text, level_text, is_level, height_in, number_at}
use Rattle.lms_image.specs.Reading.{ReadsLevels, refused_as}
use Rattle.lms_image.proofs.Fields.{u32-at}

abbrev pub Is8 : List ℕ → Type 0
Is8 text = length text ≡ 8

pub length-level_text : (sets : LmsType × OtsType) → length (level_text sets) ≡ 8
unfolding level_text
length-level_text sets = refl

pair : LmsType → OtsType → LmsType × OtsType
pair lms ots = (lms, ots)

-- the typecodes in it
pub lms-code : (sets : LmsType × OtsType) → number_at 0 4 (level_text sets) ≡ (lms_set_of sets.0).code
unfolding level_text
lms-code sets =
    u32-at 0 (lms_set_of sets.0).code (level_text sets) [] (u32str (ots_set_of sets.1).code) refl
    (small-lms_code (lms_set_of sets.0) (known_lms_set sets.0)) refl

pub ots-code : (sets : LmsType × OtsType) → number_at 4 4 (level_text sets) ≡ (ots_set_of sets.1).code
unfolding level_text
ots-code sets =
    u32-at 4 (ots_set_of sets.1).code (level_text sets) (u32str (lms_set_of sets.0).code) [] refl
    (small-ots_code (ots_set_of sets.1) (known_ots_set sets.1)) refl

pub height-of-text : (sets : LmsType × OtsType) → height_in (level_text sets) ≡ (lms_set_of sets.0).h
unfolding height_in
height-of-text sets =
    ap (λ code. unwrap_or (option_map (λ m. m.h) (lms_set code)) 0) (lms-code sets)
    ∙ ap (λ set. unwrap_or (option_map (λ m. m.h) set) 0) (known_lms_set sets.0)

pub level-of-text : (sets : LmsType × OtsType) → is_level (level_text sets) ≡ true
unfolding is_level
level-of-text sets =
    and_from _ _
    (ap (λ code. is_some (lms_set code)) (lms-code sets) ∙ ap is_some (known_lms_set sets.0))
    (ap (λ code. is_some (ots_set code)) (ots-code sets) ∙ ap is_some (known_ots_set sets.1))

-- the types of typecodes
lms_of_code : ℕ → LmsType
lms_of_code code =
    if code == 5 then H5 else if code == 6 then H10 else if code == 7 then H15 else if code == 8 then H20 else H25

ots_of_code : ℕ → OtsType
ots_of_code code = if code == 1 then W1 else if code == 2 then W2 else if code == 3 then W4 else W8

lms-back : (t : LmsType) → lms_of_code (lms_set_of t).code ≡ t
unfolding lms_of_code
lms-back H5 = refl
lms-back H10 = refl
lms-back H15 = refl
lms-back H20 = refl
lms-back H25 = refl

ots-back : (t : OtsType) → ots_of_code (ots_set_of t).code ≡ t
unfolding ots_of_code
ots-back W1 = refl
ots-back W2 = refl
ots-back W4 = refl
ots-back W8 = refl

-- the sets that a level's bytes name
level_back : List ℕ → LmsType × OtsType
level_back text = (lms_of_code (number_at 0 4 text), ots_of_code (number_at 4 4 text))

level-back : (sets : LmsType × OtsType) → level_back (level_text sets) ≡ sets
unfolding level_back pair
level-back sets =
    ap₂ (λ lms ots. pair lms ots) (ap lms_of_code (lms-code sets) ∙ lms-back sets.0)
    (ap ots_of_code (ots-code sets) ∙ ots-back sets.1)

levels-back : (levels : List (LmsType × OtsType)) → map level_back (map level_text levels) ≡ levels
levels-back [] = refl
levels-back (l ∷ levels) = ap₂ (λ x xs. x ∷ xs) (level-back l) (levels-back levels)

-- levels with the same bytes are the same
pub levels-same : (levels others : List (LmsType × OtsType)) → map level_text levels ≡ map level_text others
    → levels ≡ others
levels-same levels others e = sym (levels-back levels) ∙ (ap (map level_back) e ∙ levels-back others)

-- of several levels
pub levels-of-texts : (levels : List (LmsType × OtsType)) → list_all is_level (map level_text levels) ≡ true
levels-of-texts [] = refl
levels-of-texts (l ∷ levels) = and_from _ _ (level-of-text l) (levels-of-texts levels)

pub heights-of-texts : (levels : List (LmsType × OtsType))
    → sum_by height_in (map level_text levels) ≡ height_of (levels_of levels)
heights-of-texts [] = refl
heights-of-texts (l ∷ levels) =
    let first = height-of-text l in
    let rest = heights-of-texts levels in
    sum_by-cons height_in (level_text l) (map level_text levels)
    ∙ (omega arith ∙ sym (sum_by-cons (λ (l : Level). l.lms.h) (level_of l) (levels_of levels)))

pub texts-are-8 : (levels : List (LmsType × OtsType)) → All Is8 (map level_text levels)
texts-are-8 levels = All-map Is8 level_text levels (λ k d h. length-level_text _)

pub length-texts : (texts : List (List ℕ)) → All Is8 texts → length (concat texts) ≡ 8 * length texts
length-texts [] long = refl
length-texts (text ∷ texts) long =
    let first = All-head Is8 text texts long in
    let rest = length-texts texts (All-tail Is8 text texts long) in
    length-append text (concat texts) ∙ omega arith

-- one level more
pub levels-more : (levels : List (LmsType × OtsType)) (i : ℕ) (other : LmsType × OtsType) → i < length levels
    → concat (map level_text (take (i + 1) levels))
    ≡ concat (map level_text (take i levels)) ++ level_text (get_or levels i other)
levels-more levels i other there =
    ap (λ ls. concat (map level_text ls)) (take_more levels i other there)
    ∙ (ap concat (map-append level_text (take i levels) (get_or levels i other ∷ []))
    ∙ (concat-append (map level_text (take i levels)) (level_text (get_or levels i other) ∷ [])
    ∙ ap (λ rest. concat (map level_text (take i levels)) ++ rest) (append-nil (level_text (get_or levels i other)))))

-- the bytes of levels, with those of one more after them
pub head-more : (prefix text next last : List ℕ) (levels : List (LmsType × OtsType)) (i a b : ℕ)
    (other : LmsType × OtsType) → i < length levels
    → text ≡ prefix ++ concat (map level_text (take i levels)) → next ≡ text ++ u32str a → last ≡ next ++ u32str b
    → a ≡ (lms_set_of (get_or levels i other).0).code → b ≡ (ots_set_of (get_or levels i other).1).code
    → last ≡ prefix ++ concat (map level_text (take (i + 1) levels))
unfolding level_text
head-more prefix text next last levels i a b other there et en el ea eb =
    let before = concat (map level_text (take i levels)) in
    el ∙ (ap (λ x. x ++ u32str b) en ∙ (append_assoc text (u32str a) (u32str b)
    ∙ (ap₂ (λ x y. x ++ y) et (ap₂ (λ a b. u32str a ++ u32str b) ea eb)
    ∙ (append_assoc prefix before (level_text (get_or levels i other))
    ∙ ap (λ x. prefix ++ x) (sym (levels-more levels i other there))))))

-- the bytes of all levels
pub head-whole : (text : List ℕ) (v : Version) (code i : ℕ) (levels own : List (LmsType × OtsType)) → code ≡ code_of v
    → levels ≡ own → length levels ≤ i
    → text ≡ magic ++ u32str code ++ u32str (length levels) ++ concat (map level_text (take i levels))
    → text ≡ head_text v (map level_text own)
unfolding head_text
head-whole text v code i levels own is same all e =
    e ∙ (ap₂ (λ n ls. magic ++ u32str n ++ u32str (length levels) ++ concat (map level_text ls)) is
    (take_all i levels all ∙ same)
    ∙ ap (λ n. magic ++ u32str (code_of v) ++ u32str n ++ concat (map level_text own))
    (ap length same ∙ sym (length-map own level_text)))

-- a level whose typecodes are not both known
pub unknown-lms : (text rest : List ℕ) (a : ℕ) → a < 2 ^ 32 → text ≡ u32str a ++ rest → None ≡ lms_set a
    → is_level text ≡ false
unfolding is_level
unknown-lms text rest a small e none =
    and_left _ _
    (ap (λ code. is_some (lms_set code)) (u32-at 0 a text [] rest refl small e) ∙ ap is_some (sym none))

pub unknown-ots : (text rest last : List ℕ) (a b : ℕ) → b < 2 ^ 32 → text ≡ u32str a ++ rest → rest ≡ u32str b ++ last
    → None ≡ ots_set b
    → is_level text ≡ false
unfolding is_level
unknown-ots text rest last a b small e e' none =
    and_right _ _
    (ap (λ code. is_some (ots_set code)) (u32-at 4 b text (u32str a) last refl small (e ∙ ap (λ x. u32str a ++ x) e'))
    ∙ ap is_some (sym none))

-- a level whose typecodes are known
pub level-read : (text rest last : List ℕ) (a b : ℕ) (lms : LmsType) (ots : OtsType) → length text ≡ 8
    → text ≡ u32str a ++ rest → rest ≡ u32str b ++ last → lms_set a ≡ Some (lms_set_of lms)
    → ots_set b ≡ Some (ots_set_of ots)
    → level_text (lms, ots) ≡ text
unfolding level_text
level-read text rest last a b lms ots eight e e' el eo =
    let none : last ≡ [] = nil_from_length last (omega (arith, eight, ap length e, ap length e')) in
    ap₂ (λ a b. u32str a ++ u32str b) (code-lms_set a (lms_set_of lms) el) (code-ots_set b (ots_set_of ots) eo)
    ∙ sym (e ∙ ap (λ x. u32str a ++ x) (e' ∙ ap (λ x. u32str b ++ x) none))

-- ---- bytes that are read

-- one level more is read
pub sets-more : (sets : List (LmsType × OtsType)) (texts : List (List ℕ)) (k : ℕ) (s : LmsType × OtsType)
    → k < length sets → k < length texts
    → map level_text (take k sets) ≡ take k texts → level_text s ≡ get_or texts k []
    → map level_text (take (k + 1) (slice_set sets k s)) ≡ take (k + 1) texts
sets-more sets texts k s in_sets in_texts before e =
    ap (map level_text) (take_more_set sets k s in_sets)
    ∙ (map-append level_text (take k sets) (s ∷ [])
    ∙ (ap₂ (λ x y. x ++ y ∷ []) before e ∙ sym (take_more texts k [] in_texts)))

-- what `Levels::new` refuses is a fault of the bytes
pub refused-reads : (levels : List (LmsType × OtsType)) (texts : List (List ℕ)) → map level_text levels ≡ texts
    → 1 ≤ length texts → length texts ≤ 8
    → (fault : KeyFault) → JudgesLevels levels (Err fault) → ReadsLevels texts (Err (refused_as fault))
refused-reads levels texts e some most NoLevels judged =
    absurd (omega (arith, ap length e, length-map levels level_text))
refused-reads levels texts e some most TooManyLevels judged =
    absurd (omega (arith, ap length e, length-map levels level_text))
refused-reads levels texts e some most TooTall judged = (
  sym (ap (list_all is_level) e) ∙ levels-of-texts levels,
  omega (arith, judged.2, heights-of-texts levels, ap (sum_by height_in) e),
)
