-- How many bytes kept nodes can have.
use Rattle.std.proofs.Common.{ℕ, zero, suc, ◌≡◌, ◌+◌, ◌*◌, ◌^◌, ◌<◌, ◌≤◌, List, length, drop, get_or, refl, ◌∙◌, ap}
use Rattle.std.proofs.Common.{arith, length-append, lit≤, subst}
use Rattle.std.specs.List.{flat_map}
use Rattle.lms_spec.specs.HashLength.{hash_length}
use Rattle.lms_spec.specs.Parameters.{lms_signature_length, lms_public_key_length}
use Rattle.lms_spec.specs.Hss.{Level, height_of, level as level_at}
use Rattle.lms_spec.proofs.Places.{height-more}
use Rattle.lms_params.specs.declared.lms_type.LmsType.{LmsType}
use Rattle.lms_params.specs.declared.lms_type.LmsType.TheVariants.{H5, H10, H15, H20, H25}
use Rattle.lms_params.specs.declared.ots_type.OtsType.{OtsType}
use Rattle.lms_params.specs.declared.ots_type.OtsType.TheVariants.{W1}
use Rattle.lms_params.specs.LmsType.{lms_set_of}
use Rattle.lms_params.specs.OtsType.{ots_set_of}
use Rattle.lms_params.proofs.Widths.{chains_limited}
use Rattle.lms_tree.specs.Held.{nodes_in}
use Rattle.lms_tree.specs.Kept.{subtree_rows, upper_rows}
use Rattle.lms_hss.specs.declared.key.HssKey.{HssKey as KeyOfCode}
use Rattle.lms_hss.specs.Keys.{hss_key_of}
use Rattle.lms_hss.specs.Levels.{level_of}
use Rattle.lms_hss.proofs.Sets.{sets-of}
use Rattle.lms_kept.specs.Ways.{body_text, check_of, IsWay, level_length, level_text, most_text_length, nodes_text}
use Rattle.lms_kept.specs.Ways.{signed_length, Way}
use Rattle.lms_kept.proofs.KeptTexts.{check-length, from-top, header-length, length-levels, sum-from}
use Rattle.lms_kept.proofs.Ways.{levels-count}

-- so many bytes for each unit of a tree's height are enough for its nodes
nodes-at-most : (lms : LmsType)
    → hash_length * (nodes_in (upper_rows (lms_set_of lms).h) + nodes_in (subtree_rows (lms_set_of lms).h 0))
    ≤ 86505 * (lms_set_of lms).h
nodes-at-most H5 = lit≤ tt
nodes-at-most H10 = lit≤ tt
nodes-at-most H15 = lit≤ tt
nodes-at-most H20 = lit≤ tt
nodes-at-most H25 = lit≤ tt

height-at-most : (lms : LmsType) → (lms_set_of lms).h ≤ 25
height-at-most H5 = lit≤ tt
height-at-most H10 = lit≤ tt
height-at-most H15 = lit≤ tt
height-at-most H20 = lit≤ tt
height-at-most H25 = lit≤ tt

-- and so many for what is signed of it
signed-at-most : (lms : LmsType) (ots : OtsType)
    → lms_signature_length (lms_set_of lms) (ots_set_of ots) + lms_public_key_length ≤ 9380
signed-at-most lms ots = omega (arith, height-at-most lms, chains_limited ots)

-- what holds of all sets holds of each level's
by-sets : (P : Level → Type 0) → ((lms : LmsType) (ots : OtsType) → P (level_of (lms, ots))) → (key : KeyOfCode) (k : ℕ)
    → k < length key.levels
    → P (level_at (hss_key_of key) k)
by-sets P all key k low =
    let sets = get_or key.levels k (H5, W1) in
    subst P (sets-of key key.levels k (H5, W1) refl low) (all sets.0 sets.1)

signed-level : (key : KeyOfCode) (k : ℕ) → k < length key.levels → signed_length (hss_key_of key) k ≤ 9380
signed-level key zero low = omega arith
signed-level key (suc k) low = by-sets (λ l. lms_signature_length l.lms l.ots + lms_public_key_length ≤ 9380)
    signed-at-most key k (omega (arith, low))

-- the bytes of a level
level-at-most : (key : KeyOfCode) (k : ℕ) → k < length key.levels
    → level_length (hss_key_of key) k ≤ 9380 + 86505 * (level_at (hss_key_of key) k).lms.h
level-at-most key k low =
    let nodes = by-sets
    (λ l. hash_length * (nodes_in (upper_rows l.lms.h) + nodes_in (subtree_rows l.lms.h 0)) ≤ 86505 * l.lms.h)
    (λ lms ots. nodes-at-most lms) key k low in
    omega (arith, nodes, signed-level key k low)

pub level-limit : (key : KeyOfCode) (k : ℕ) → k < length key.levels → level_length (hss_key_of key) k ≤ 2 ^ 22
level-limit key k low =
    omega (arith, level-at-most key k low, by-sets (λ l. l.lms.h ≤ 25) (λ lms ots. height-at-most lms) key k low)

-- the bytes of a level, by the level's sets
pub level-by-sets : (key : KeyOfCode) (levels : List (LmsType × OtsType)) (k signed upper lower : ℕ)
    → k < length key.levels → levels ≡ key.levels
    → signed ≡ signed_length (hss_key_of key) k
    → upper ≡ nodes_in (upper_rows (lms_set_of (get_or levels k (H5, W1)).0).h)
    → lower ≡ nodes_in (subtree_rows (lms_set_of (get_or levels k (H5, W1)).0).h 0)
    → signed + 32 * (upper + lower) ≡ level_length (hss_key_of key) k
level-by-sets key levels k signed upper lower low same signed_is upper_is lower_is =
    let h : (lms_set_of (get_or levels k (H5, W1)).0).h ≡ (level_at (hss_key_of key) k).lms.h =
    ap (λ (l : Level). l.lms.h) (sets-of key levels k (H5, W1) same low) in
    omega (
      arith,
      signed_is,
      upper_is,
      lower_is,
      ap (λ h. nodes_in (upper_rows h)) h,
      ap (λ h. nodes_in (subtree_rows h 0)) h,
    )

-- the bytes of so many levels
sum-at-most : (key : KeyOfCode) (i n : ℕ) → i + n ≤ length key.levels
    → sum-from (hss_key_of key) i n ≤ 9380 * n + 86505 * height_of (drop i (hss_key_of key).levels)
unfolding sum-from
sum-at-most key i zero low = omega arith
sum-at-most key i (suc n) low =
    let levels = (hss_key_of key).levels in
    let next : i + 1 ≡ suc i = omega arith in
    let more : height_of (drop i levels) ≡ (level_at (hss_key_of key) i).lms.h + height_of (drop (suc i) levels)
    = height-more (hss_key_of key) i (omega (arith, low, levels-count key))
    ∙ ap (λ i'. (level_at (hss_key_of key) i).lms.h + height_of (drop i' levels)) next in
    omega (arith, level-at-most key i (omega (arith, low)), sum-at-most key (suc i) n (omega (arith, low)), more)

-- all the bytes
pub text-length : (way : Way) → IsWay way
    → length (nodes_text way) ≡ 48 + sum-from (hss_key_of way.key) 0 (length way.levels)
text-length way is =
    let key = hss_key_of way.key in
    let body = length-append (body_text way) (check_of key (body_text way)) in
    let long = length-levels key way.at 0 way.levels (from-top key way.at way.levels is.each) in
    omega (arith, body, check-length key (body_text way), header-length way.at (flat_map level_text way.levels), long)

pub text-short : (way : Way) → IsWay way → length (nodes_text way) ≤ most_text_length
text-short way is =
    omega (
      arith,
      text-length way is,
      sum-at-most way.key 0 (length way.levels) (omega (arith, is.at_most)),
      is.at_most,
      is.admitted.eight_at_most,
      is.admitted.not_too_tall,
    )
