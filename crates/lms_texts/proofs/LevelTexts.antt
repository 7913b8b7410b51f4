-- Texts of levels, cut at their commas and slashes.
use Rattle.std.proofs.Common.{◌≡◌, ℕ, ◌<◌, ◌==◌, false, List, [], ◌∷◌, ◌++◌, length, map, Option, Some, None, Bor}
use Rattle.std.proofs.Common.{codes, get_or, refl, sym, ap, ◌∙◌, arith, append_assoc, append-nil, lit<}
use Rattle.std.specs.Prelude.{◌≢◌, All, IfNone}
use Rattle.std.specs.Fmt.{digits}
use Rattle.std.specs.List.{join_with_byte, slice_split}
use Rattle.std.proofs.lemmas.List.{length-map}
use Rattle.std.proofs.lemmas.List.Elements.{All-append, All-cons, All-get_or, All-nil, All-weaker}
use Rattle.std.proofs.lemmas.List.Splits.{join_with_byte-slice_split, length-slice_split, slice_split_at}
use Rattle.std.proofs.lemmas.List.Splits.{slice_split_none}
use Rattle.std.proofs.lemmas.Str.Pattern.{split_after, IsSplitOnceResult}
use Rattle.lms_params.specs.declared.lms_type.LmsType.{LmsType}
use Rattle.lms_params.specs.declared.lms_type.LmsType.TheVariants.{H5, H10, H15, H20, H25}
use Rattle.lms_params.specs.declared.ots_type.OtsType.{OtsType}
use Rattle.lms_params.specs.declared.ots_type.OtsType.TheVariants.{W1, W2, W4, W8}
use Rattle.lms_hss.specs.Texts.{height_text, levels_text, pair_text, width_text}
use Rattle.lms_texts.specs.Options.{IsLevelsText}

-- a text that is none of these is no height's
pub no_height : (text : List ℕ) → text ≢ codes "5" → text ≢ codes "10" → text ≢ codes "15" → text ≢ codes "20"
    → text ≢ codes "25"
    → (lms : LmsType) → text ≢ height_text lms
unfolding digits
no_height text a b c d e H5 = a
no_height text a b c d e H10 = b
no_height text a b c d e H15 = c
no_height text a b c d e H20 = d
no_height text a b c d e H25 = e

-- a text that is none of these is no width's
pub no_width : (text : List ℕ) → text ≢ codes "1" → text ≢ codes "2" → text ≢ codes "4" → text ≢ codes "8"
    → (ots : OtsType) → text ≢ width_text ots
unfolding digits
no_width text a b c d W1 = a
no_width text a b c d W2 = b
no_width text a b c d W4 = c
no_width text a b c d W8 = d

-- the byte is neither a comma nor a slash
abbrev pub IsPlain : ℕ → Type 0
IsPlain b = ((b == 44) ≡ false) × (47 < b)

height_plain : (lms : LmsType) → All IsPlain (height_text lms)
unfolding digits
height_plain H5 = All-cons IsPlain 53 [] (refl, lit< tt) (All-nil IsPlain)
height_plain H10 =
    All-cons IsPlain 49 (48 ∷ []) (refl, lit< tt) (All-cons IsPlain 48 [] (refl, lit< tt) (All-nil IsPlain))
height_plain H15 =
    All-cons IsPlain 49 (53 ∷ []) (refl, lit< tt) (All-cons IsPlain 53 [] (refl, lit< tt) (All-nil IsPlain))
height_plain H20 =
    All-cons IsPlain 50 (48 ∷ []) (refl, lit< tt) (All-cons IsPlain 48 [] (refl, lit< tt) (All-nil IsPlain))
height_plain H25 =
    All-cons IsPlain 50 (53 ∷ []) (refl, lit< tt) (All-cons IsPlain 53 [] (refl, lit< tt) (All-nil IsPlain))

width_plain : (ots : OtsType) → All IsPlain (width_text ots)
unfolding digits
width_plain W1 = All-cons IsPlain 49 [] (refl, lit< tt) (All-nil IsPlain)
width_plain W2 = All-cons IsPlain 50 [] (refl, lit< tt) (All-nil IsPlain)
width_plain W4 = All-cons IsPlain 52 [] (refl, lit< tt) (All-nil IsPlain)
width_plain W8 = All-cons IsPlain 56 [] (refl, lit< tt) (All-nil IsPlain)

-- a height has no slash
pub height_lacks_slash : (lms : LmsType) (i : ℕ) → i < length (height_text lms) → get_or (height_text lms) i 0 ≢ 47
height_lacks_slash lms i inside is =
    let plain = (All-get_or IsPlain (height_text lms) i 0 inside (height_plain lms)).1 in
    omega (arith, plain, is)

-- a level's text has no comma
pair_lacks_comma : (pair : LmsType × OtsType) → All (λ b. (b == 44) ≡ false) (pair_text pair)
pair_lacks_comma pair =
    let P : ℕ → Type 0 = λ b. (b == 44) ≡ false in
    let height = All-weaker IsPlain P (λ x h. h.0) (height_text pair.0) (height_plain pair.0) in
    let width = All-weaker IsPlain P (λ x h. h.0) (width_text pair.1) (width_plain pair.1) in
    All-append P (height_text pair.0 ++ codes "/") (width_text pair.1)
    (All-append P (height_text pair.0) (codes "/") height (All-cons P 47 [] refl (All-nil P))) width

-- a level's text around its slash
pub pair_parts : (pair : LmsType × OtsType) → pair_text pair ≡ height_text pair.0 ++ (47 ∷ width_text pair.1)
pair_parts pair = append_assoc (height_text pair.0) (codes "/") (width_text pair.1)

-- levels joined by commas
joined : (pairs : List (LmsType × OtsType)) → join_with_byte 44 (map pair_text pairs) ≡ levels_text pairs
joined [] = refl
joined (pair ∷ []) = sym (append-nil (pair_text pair))
joined (pair ∷ other ∷ pairs) = ap (λ (t : List ℕ). pair_text pair ++ (44 ∷ t)) (joined (other ∷ pairs))

-- the text of levels, cut at each comma, is the text of each
pub split_of_levels : (pairs : List (LmsType × OtsType)) → 0 < length pairs
    → slice_split (λ b. b == 44) (levels_text pairs) ≡ map pair_text pairs
split_of_levels [] some = absurd (omega (arith, some))
split_of_levels (pair ∷ []) some =
    ap (slice_split (λ b. b == 44)) (append-nil (pair_text pair))
    ∙ slice_split_none (λ b. b == 44) (pair_text pair) (pair_lacks_comma pair)
split_of_levels (pair ∷ other ∷ pairs) some =
    slice_split_at (λ b. b == 44) (pair_text pair) 44 (levels_text (other ∷ pairs)) (pair_lacks_comma pair) refl
    ∙ ap (λ (t : List (List ℕ)). pair_text pair ∷ t) (split_of_levels (other ∷ pairs) (omega arith))

-- pieces that are the texts of levels make a text of levels
pub levels_of_pieces : (text : List ℕ) (pairs : List (LmsType × OtsType))
    → map pair_text pairs ≡ slice_split (λ b. b == 44) text → IsLevelsText text pairs
levels_of_pieces text pairs pieces =
    let size = sym (length-map pairs pair_text) ∙ ap length pieces ∙ length-slice_split (λ b. b == 44) text in (
      omega (arith, size),
      sym (join_with_byte-slice_split 44 text) ∙ ap (join_with_byte 44) (sym pieces) ∙ joined pairs,
    )

-- the text is that of some level
abbrev pub IsPairText : List ℕ → Type 0
IsPairText text = (pair : LmsType × OtsType) × (text ≡ pair_text pair)

all_texts : (pairs : List (LmsType × OtsType)) → All IsPairText (map pair_text pairs)
all_texts [] = All-nil IsPairText
all_texts (pair ∷ pairs) =
    let head : IsPairText (pair_text pair) = (pair, refl) in
    All-cons IsPairText (pair_text pair) (map pair_text pairs) head (all_texts pairs)

-- a text with a piece that is no level's is that of no levels
pub no_levels : (text piece : List ℕ) (i : ℕ) → (i < length (slice_split (λ b. b == 44) text))
    × (piece ≡ get_or (slice_split (λ b. b == 44) text) i piece)
    → ((pair : LmsType × OtsType) → piece ≢ pair_text pair) → (pairs : List (LmsType × OtsType))
    → ¬ IsLevelsText text pairs
no_levels text piece i at bad pairs is =
    let pieces = ap (slice_split (λ b. b == 44)) is.1 ∙ split_of_levels pairs is.0 in
    let size = ap length pieces in
    let found = All-get_or IsPairText (map pair_text pairs) i piece (omega (arith, at.0, size)) (all_texts pairs) in
    bad found.0 (at.1 ∙ ap (λ (ts : List (List ℕ)). get_or ts i piece) pieces ∙ found.1)

-- where a condition holds in any case
pub if_none : {X : Type 0} (P : Type 0) (o : Option X) → P → IfNone o P
if_none P None h = h
if_none P (Some x) h = tt

-- a text with no slash is that of no level
pub no_slash : (text : List ℕ) → IsSplitOnceResult 47 text None → (pair : LmsType × OtsType) → text ≢ pair_text pair
no_slash text none pair is =
    split_after 47 text (height_text pair.0) (width_text pair.1) None none (lit< tt) (is ∙ pair_parts pair)
    (height_lacks_slash pair.0)

-- a level's text is cut at its slash into its height and its width
pub slash_parts : (text : List ℕ) (parts : Bor (List ℕ) × Bor (List ℕ)) → IsSplitOnceResult 47 text (Some parts)
    → (pair : LmsType × OtsType) → text ≡ pair_text pair → (parts.0.now ≡ height_text pair.0)
    × (parts.1.now ≡ width_text pair.1)
slash_parts text parts cut pair is =
    split_after 47 text (height_text pair.0) (width_text pair.1) (Some parts) cut (lit< tt) (is ∙ pair_parts pair)
    (height_lacks_slash pair.0)
