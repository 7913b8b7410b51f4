-- What two indices that go through one tree share: the trees above it, and what is signed there.
use Rattle.std.proofs.Common.{ℕ, zero, suc, ◌≡◌, ◌+◌, ◌/◌, ◌%◌, ◌^◌, ◌<◌, List, ◌++◌, length, map, refl, sym, ◌∙◌, ap}
use Rattle.std.proofs.Common.{ap₂}
use Rattle.std.proofs.Common.{arith, subst}
use Rattle.std.specs.List.{concat}
use Rattle.lms_spec.specs.Bytes.{below}
use Rattle.lms_spec.specs.Tree.{Tree}
use Rattle.lms_spec.specs.Hss.{HssKey, level as level_at, signed_public_key}
use Rattle.lms_spec.specs.Profile.{leaf_at, for_randomizer, derived, child, tree_at, signed_key}
use Rattle.lms_spec.proofs.Below.{concat-below-suc}
use Rattle.lms_hss.specs.Keys.{tree_number}
use Rattle.lms_hss.proofs.Forests.{number-above}

-- two indices that go through one tree go through the same trees above
pub above-same : (key : HssKey) (k g g' : ℕ) → k < length key.levels
    → tree_number key g (k + 1) ≡ tree_number key g' (k + 1)
    → tree_number key g k ≡ tree_number key g' k
above-same key k g g' there same =
    sym (number-above key g k there) ∙ (ap (λ n. n / 2 ^ (level_at key k).lms.h) same ∙ number-above key g' k there)

-- by the same leaf above it
pub leaf-same : (key : HssKey) (k g g' : ℕ) → tree_number key g (k + 1) ≡ tree_number key g' (k + 1)
    → leaf_at key g k ≡ leaf_at key g' k
leaf-same key k g g' same = ap (λ n. n % 2 ^ (level_at key k).lms.h) same

-- it is the same tree
pub tree-same : (key : HssKey) (k g g' : ℕ) → k < length key.levels → tree_number key g k ≡ tree_number key g' k
    → tree_at key g k ≡ tree_at key g' k
tree-same key zero g g' there same = refl
tree-same key (suc k) g g' there same =
    let next : suc k ≡ k + 1 = omega arith in
    let here : tree_number key g (k + 1) ≡ tree_number key g' (k + 1) =
    subst (λ n. tree_number key g n ≡ tree_number key g' n) next same in
    ap₂ (λ t q. child t q (level_at key (suc k)))
    (tree-same key k g g' (omega arith) (above-same key k g g' (omega arith) here)) (leaf-same key k g g' here)

-- by the same signed key
pub signed-same : (key : HssKey) (k g g' : ℕ) → k + 1 < length key.levels
    → tree_number key g (k + 1) ≡ tree_number key g' (k + 1)
    → signed_key key g k ≡ signed_key key g' k
unfolding signed_key
signed-same key k g g' there same =
    let signed : Tree → ℕ → Tree → List ℕ = λ t q next. signed_public_key t q (derived t q for_randomizer) next in
    ap₂ (λ t q. signed t q (tree_at key g (k + 1)))
    (tree-same key k g g' (omega arith) (above-same key k g g' (omega arith) same)) (leaf-same key k g g' same)
    ∙ ap (signed (tree_at key g' k) (leaf_at key g' k)) (tree-same key (k + 1) g g' there same)

-- and the same signed keys above
pub keys-same : (key : HssKey) (k g g' : ℕ) → k < length key.levels → tree_number key g k ≡ tree_number key g' k
    → concat (map (signed_key key g) (below k)) ≡ concat (map (signed_key key g') (below k))
keys-same key zero g g' there same = refl
keys-same key (suc k) g g' there same =
    let next : suc k ≡ k + 1 = omega arith in
    let here : tree_number key g (k + 1) ≡ tree_number key g' (k + 1) =
    subst (λ n. tree_number key g n ≡ tree_number key g' n) next same in
    subst (λ n. concat (map (signed_key key g) (below n)) ≡ concat (map (signed_key key g') (below n))) (sym next)
    (concat-below-suc (signed_key key g) k
    ∙ (ap₂ (λ x y. x ++ y) (keys-same key k g g' (omega arith) (above-same key k g g' (omega arith) here))
    (signed-same key k g g' (omega arith) here)
    ∙ sym (concat-below-suc (signed_key key g') k)))
