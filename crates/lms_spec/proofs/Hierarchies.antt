-- The signature of an index is accepted under the key's public key.
use Rattle.std.proofs.Common.{ℕ, zero, suc, ◌≡◌, ◌+◌, ◌-◌, ◌^◌, ◌<◌, ◌≤◌, List, ◌++◌, map, length, All, Some, refl, sym}
use Rattle.std.proofs.Common.{ap, arith, subst, pow_pos, append_assoc}
use Rattle.std.proofs.lemmas.List.{length-take-le}
use Rattle.std.proofs.lemmas.Nat.{mod_below}
use Rattle.std.specs.List.{concat, range_with_len}
use Rattle.sha2.proofs.Facts256.{length-sha256}
use Rattle.lms_spec.specs.Parameters.{OtsSet, LmsSet, ots_set, lms_set}
use Rattle.lms_spec.specs.Bytes.{below, u32str}
use Rattle.lms_spec.specs.Tree.{public_key_of, lms_signature, LmsAccepts}
use Rattle.lms_spec.specs.Hss.{most_levels, HasKnownSets, HssKey, level, AcceptsThrough, HssAccepts, no_level}
use Rattle.lms_spec.specs.Profile.{leaf_at, for_randomizer, for_child_id, derived, tree_at, signed_key, hss_public_key}
use Rattle.lms_spec.specs.Profile.{hss_signature}
use Rattle.lms_spec.proofs.Below.{length-map-below}
use Rattle.lms_spec.proofs.TreeSignatures.{tree-accepts}

known-level : (key : HssKey) (k : ℕ) → All HasKnownSets key.levels → k < length key.levels → HasKnownSets (level key k)
known-level key k known h = known k no_level h

pub level-lms : (key : HssKey) (g k : ℕ) → (tree_at key g k).lms ≡ (level key k).lms
level-lms key g zero = refl
level-lms key g (suc k) = refl

pub level-ots : (key : HssKey) (g k : ℕ) → (tree_at key g k).ots ≡ (level key k).ots
level-ots key g zero = refl
level-ots key g (suc k) = refl

pub length-id : (key : HssKey) (g k : ℕ) → length key.id ≡ 16 → length (tree_at key g k).id ≡ 16
unfolding derived
length-id key g zero sixteen = sixteen
length-id key g (suc k) sixteen =
    let text = derived (tree_at key g k) (leaf_at key g k) for_child_id in
    let long : length text ≡ 32 = length-sha256 _ in
    length-take-le 16 text (omega arith)

level-accepts : (key : HssKey) (g k : ℕ) (randomizer message : List ℕ)
    → All HasKnownSets key.levels → length key.id ≡ 16 → k < length key.levels → length randomizer ≡ 32
    → LmsAccepts (public_key_of (tree_at key g k)) message
    (lms_signature (tree_at key g k) (leaf_at key g k) randomizer message)
level-accepts key g k randomizer message known sixteen h long =
    let sets = known-level key k known h in
    let in_tree : leaf_at key g k < 2 ^ (level key k).lms.h =
    mod_below _ (2 ^ (level key k).lms.h) (pow_pos (level key k).lms.h) in
    tree-accepts (tree_at key g k) (leaf_at key g k) randomizer message
    (subst (λ (m : LmsSet). lms_set m.code ≡ Some m) (sym (level-lms key g k)) sets.0)
    (subst (λ (t : OtsSet). ots_set t.code ≡ Some t) (sym (level-ots key g k)) sets.1)
    (length-id key g k sixteen)
    (subst (λ (m : LmsSet). leaf_at key g k < 2 ^ m.h) (sym (level-lms key g k)) in_tree)
    long

-- the signatures from level k on, with `count` signed keys in them
abbrev pub signatures_from : HssKey → ℕ → List ℕ → ℕ → ℕ → List ℕ
signatures_from key g last k count = concat (map (signed_key key g) (range_with_len k count)) ++ last

accepts-from : (key : HssKey) (g : ℕ) (randomizer message : List ℕ) (bottom k count : ℕ)
    → All HasKnownSets key.levels → length key.id ≡ 16 → k + count ≡ bottom → bottom < length key.levels
    → length randomizer ≡ 32
    → AcceptsThrough count (public_key_of (tree_at key g k)) message
    (signatures_from key g (lms_signature (tree_at key g bottom) (leaf_at key g bottom) randomizer message) k count)
unfolding signed_key derived
accepts-from key g randomizer message bottom k zero known sixteen e h long =
    let here : k ≡ bottom = omega arith in
    subst (λ b. LmsAccepts (public_key_of (tree_at key g k)) message
    (lms_signature (tree_at key g b) (leaf_at key g b) randomizer message)) here
    (level-accepts key g k randomizer message known sixteen (omega arith) long)
accepts-from key g randomizer message bottom k (suc count) known sixteen e h long =
    let tree = tree_at key g k in
    let q = leaf_at key g k in
    let next = public_key_of (tree_at key g (k + 1)) in
    let last = lms_signature (tree_at key g bottom) (leaf_at key g bottom) randomizer message in (
      lms_signature tree q (derived tree q for_randomizer) next,
      next,
      signatures_from key g last (k + 1) count,
      append_assoc (signed_key key g k) (concat (map (signed_key key g) (range_with_len (k + 1) count))) last,
      level-accepts key g k (derived tree q for_randomizer) next known sixteen (omega arith) (length-sha256 _),
      accepts-from key g randomizer message bottom (k + 1) count known sixteen (omega arith) h long,
    )

-- a signature by an index, part by part
pub signature-parts : (key : HssKey) (g : ℕ) (randomizer message : List ℕ) → let bottom = length key.levels - 1 in
    hss_signature key g randomizer message
    ≡ u32str bottom ++ concat (map (signed_key key g) (below bottom))
    ++ lms_signature (tree_at key g bottom) (leaf_at key g bottom) randomizer message
unfolding hss_signature
signature-parts key g randomizer message =
    let bottom = length key.levels - 1 in
    let last = lms_signature (tree_at key g bottom) (leaf_at key g bottom) randomizer message in
    ap (λ n. u32str n ++ concat (map (signed_key key g) (below bottom)) ++ last)
    (length-map-below (signed_key key g) bottom)

pub hss-accepts : (key : HssKey) (g : ℕ) (randomizer message : List ℕ)
    → 1 ≤ length key.levels → length key.levels ≤ most_levels → All HasKnownSets key.levels → length key.id ≡ 16
    → length randomizer ≡ 32
    → HssAccepts (hss_public_key key) message (hss_signature key g randomizer message)
unfolding hss_public_key
hss-accepts key g randomizer message some most known sixteen long =
    let bottom = length key.levels - 1 in
    let last = lms_signature (tree_at key g bottom) (leaf_at key g bottom) randomizer message in
    record {
      levels = length key.levels;
      top_key = public_key_of (tree_at key g 0);
      signatures = concat (map (signed_key key g) (below bottom)) ++ last;
      some_level = some;
      eight_at_most = most;
      key_parts = refl;
      signature_parts = signature-parts key g randomizer message;
      accepted = accepts-from key g randomizer message bottom 0 bottom known sixteen (omega arith) (omega arith) long;
    }
