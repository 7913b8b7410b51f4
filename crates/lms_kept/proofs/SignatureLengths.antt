-- How long a signature by kept trees is, whatever was given.
use Rattle.std.proofs.Common.{ℕ, zero, suc, ◌≡◌, ◌+◌, ◌-◌, ◌*◌, ◌<◌, ◌≤◌, List, [], ◌∷◌, length, get_or, take, sum_by}
use Rattle.std.proofs.Common.{refl, ◌∙◌, ap, ap₂, arith}
use Rattle.std.proofs.lemmas.List.{take_all}
use Rattle.std.proofs.lemmas.List.Concat.{length-flat_map}
use Rattle.std.proofs.lemmas.List.Sums.{sum_by_more, sum_by_more_le}
use Rattle.lms_spec.specs.Parameters.{lms_signature_length, lms_public_key_length}
use Rattle.lms_spec.specs.Tree.{Tree}
use Rattle.lms_spec.specs.Hss.{HssKey, Level, hss_signature_length, level as level_at, no_level}
use Rattle.lms_spec.proofs.Hierarchies.{level-lms, level-ots}
use Rattle.lms_tree.specs.TreeKey.{signature_length_under}
use Rattle.lms_hss.specs.Keys.{hss_key_of}
use Rattle.lms_hss.specs.Levels.{levels_of}
use Rattle.lms_kept.specs.declared.kept_level.KeptLevel.{KeptLevel}
use Rattle.lms_kept.specs.Ways.{IsOnWay, IsWay, signed_keys, Way}
use Rattle.lms_kept.proofs.Ways.{levels-count}

-- a signature by a tree of these sets
abbrev pub of-sets : Level → ℕ
of-sets l = lms_signature_length l.lms l.ots

-- what is signed of a level
abbrev pub of-signed : KeptLevel → ℕ
of-signed level = length level.signed.items

-- a tree on the way has the sets of its level
pub own-signature : (key : HssKey) (g k : ℕ) (level : KeptLevel) → IsOnWay key g k level
    → signature_length_under level.tree.key ≡ lms_signature_length (level_at key k).lms (level_at key k).ots
own-signature key g k level on =
    ap₂ lms_signature_length (ap (λ (t : Tree). t.lms) on.tree ∙ level-lms key g k)
    (ap (λ (t : Tree). t.ots) on.tree ∙ level-ots key g k)

-- what is signed of level i and of those above it: a signature by each of those, and its public key
front-length : (key : HssKey) (g : ℕ) (levels : List KeptLevel) (other : KeptLevel) → length levels ≤ length key.levels
    → ((k : ℕ) (other : KeptLevel) → k < length levels → IsOnWay key g k (get_or levels k other)) → (i : ℕ)
    → i < length levels
    → sum_by of-signed (take (i + 1) levels) ≡ sum_by of-sets (take i key.levels) + lms_public_key_length * i
front-length key g levels other most each zero low =
    let none : sum_by of-signed (take 0 levels) ≡ 0 = refl in
    let none-above : sum_by of-sets (take 0 key.levels) ≡ 0 = refl in
    omega (arith, sum_by_more of-signed levels 0 other low, (each 0 other low).signed, none, none-above)
front-length key g levels other most each (suc i) low =
    let next : suc i ≡ i + 1 = omega arith in
    let before : sum_by of-signed (take (suc i) levels) ≡ sum_by of-sets (take i key.levels) + lms_public_key_length * i
    = ap (λ n. sum_by of-signed (take n levels)) next
    ∙ front-length key g levels other most each i (omega (arith, low)) in
    let above : sum_by of-sets (take (suc i) key.levels) ≡ sum_by of-sets (take i key.levels) + of-sets (level_at key i)
    = ap (λ n. sum_by of-sets (take n key.levels)) next
    ∙ sum_by_more of-sets key.levels i no_level (omega (arith, low, most)) in
    omega (arith, sum_by_more of-signed levels (suc i) other low, before, above, (each (suc i) other low).signed)

-- what is signed of the first levels and of the next one is a part of all that is signed
pub keys-within : (levels : List KeptLevel) (i : ℕ) (other : KeptLevel) → i < length levels
    → length (signed_keys (take i levels)) + of-signed (get_or levels i other) ≤ length (signed_keys levels)
keys-within levels i other low =
    let f : KeptLevel → List ℕ = λ level. level.signed.items in
    omega (
      arith,
      sum_by_more_le of-signed levels i other low,
      length-flat_map f (take i levels),
      length-flat_map f levels,
    )

-- one of some levels
one-of : (levels : List KeptLevel) → 1 ≤ length levels → KeptLevel
one-of [] some = absurd (omega (arith, some))
one-of (level ∷ levels) some = level

-- all that is before a signature by a tree of the bottom level, and that signature
pub signature-length : (way : Way) → IsWay way → length way.levels ≡ length way.key.levels
    → 4 + length (signed_keys way.levels)
    + of-sets (level_at (hss_key_of way.key) (length (hss_key_of way.key).levels - 1))
    ≡ hss_signature_length (levels_of way.key.levels)
signature-length way is all =
    let key = hss_key_of way.key in
    let count = levels-count way.key in
    let b = length key.levels - 1 in
    let bottom : b < length way.levels = omega (arith, all, count, is.some) in
    let front = front-length key way.at way.levels (one-of way.levels is.some)
    (omega (arith, all, count)) is.each b bottom in
    let whole : sum_by of-signed (take (b + 1) way.levels) ≡ sum_by of-signed way.levels
    = ap (sum_by of-signed) (take_all (b + 1) way.levels (omega (arith, all, count))) in
    let sets : sum_by of-sets (take (b + 1) key.levels) ≡ sum_by of-sets key.levels
    = ap (sum_by of-sets) (take_all (b + 1) key.levels (omega arith)) in
    let last = sum_by_more of-sets key.levels b no_level (omega (arith, bottom, all, count)) in
    omega (arith, front, whole, sets, last, length-flat_map (λ (level : KeptLevel). level.signed.items) way.levels)
