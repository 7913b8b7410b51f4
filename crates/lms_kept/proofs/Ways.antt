-- The trees on the way of an index.
use Rattle.std.proofs.Common.{ℕ, zero, suc, ◌≡◌, ◌+◌, ◌-◌, ◌/◌, ◌%◌, ◌^◌, ◌<◌, ◌≤◌, List, [], ◌∷◌, ◌++◌, length, map}
use Rattle.std.proofs.Common.{drop, take, get_or, refl, sym, ◌∙◌, ap, ap₂, arith, subst, subst₂, ⊎_elim, length-append}
use Rattle.std.proofs.Common.{shr-shr, div-one}
use Rattle.std.specs.List.{concat, flat_map}
use Rattle.std.proofs.lemmas.List.{drop_all, flat_map_more, get_or_append_left, length-map, take_all}
use Rattle.std.proofs.Math.Seq.{get_or-append_seam, take-suc}
use Rattle.std.proofs.Math.Nat.{eq-or-lt_of_le}
use Rattle.std.proofs.Math.Pow.{field}
use Rattle.sha2.proofs.Facts256.{length-sha256}
use Rattle.lms_spec.specs.Parameters.{lms_signature_length, lms_public_key_length}
use Rattle.lms_spec.specs.Bytes.{below, u32str}
use Rattle.lms_spec.specs.Ots.{ots_signature}
use Rattle.lms_spec.specs.Tree.{Tree, lms_signature, public_key_of}
use Rattle.lms_spec.specs.Hss.{HssKey, level as level_at, height_of}
use Rattle.lms_spec.specs.Profile.{leaf_at, for_randomizer, derived, tree_at, signed_key, hss_signature}
use Rattle.lms_spec.proofs.Below.{concat-below-suc}
use Rattle.lms_spec.proofs.Hierarchies.{length-id, level-lms, level-ots, signature-parts}
use Rattle.lms_spec.proofs.Lengths.{length-ots_signature, length-public_key}
use Rattle.lms_spec.proofs.Places.{height-more}
use Rattle.lms_tree.specs.Bands.{bottom_height}
use Rattle.lms_tree.specs.Kept.{IsSignatureAlong, ServesLeaf}
use Rattle.lms_tree.specs.declared.tree_key.TreeKey.{TreeKey}
use Rattle.lms_tree.specs.TreeKey.{tree_of}
use Rattle.lms_hss.specs.declared.key.HssKey.{HssKey as KeyOfCode}
use Rattle.lms_kept.specs.declared.kept_level.KeptLevel.{KeptLevel}
use Rattle.lms_hss.specs.Levels.{level_of}
use Rattle.lms_hss.specs.Keys.{hss_key_of, tree_number}
use Rattle.lms_kept.specs.Ways.{AreGenuine, bottom_of, IsGenuine, IsKeptChild, IsMoved, IsOnWay, Serves, SignOwnKeys}
use Rattle.lms_kept.specs.Ways.{SignsOwnKey, signed_keys, signed_length, signed_text, Way}
use Rattle.lms_hss.proofs.SharedWays.{above-same, keys-same, leaf-same, signed-same, tree-same}

-- a key has as many levels as its code's
pub levels-count : (key : KeyOfCode) → length (hss_key_of key).levels ≡ length key.levels
levels-count key = length-map key.levels level_of

-- what is signed of a tree is the same by both
pub signed-text-same : (key : HssKey) (k g g' : ℕ) → k < length key.levels → tree_number key g k ≡ tree_number key g' k
    → signed_text key g k ≡ signed_text key g' k
signed-text-same key zero g g' there same = refl
signed-text-same key (suc k) g g' there same =
    let next : suc k ≡ k + 1 = omega arith in
    let here : tree_number key g (k + 1) ≡ tree_number key g' (k + 1) =
    subst (λ n. tree_number key g n ≡ tree_number key g' n) next same in
    signed-same key k g g' (omega arith) here

-- the bottom tree's height
bottom-height : (key : HssKey) → 1 ≤ length key.levels
    → height_of (drop (length key.levels - 1) key.levels) ≡ (level_at key (length key.levels - 1)).lms.h
bottom-height key some =
    let bottom = length key.levels - 1 in
    let none : height_of (drop (bottom + 1) key.levels) ≡ 0 =
    ap height_of (drop_all (bottom + 1) key.levels (omega arith)) in
    omega (arith, none, height-more key bottom (omega arith))

-- indices of one bottom subtree go through one tree
pub bottom-same : (key : HssKey) (g at : ℕ) → 1 ≤ length key.levels
    → g / 2 ^ bottom_height (level_at key (length key.levels - 1)).lms.h
    ≡ at / 2 ^ bottom_height (level_at key (length key.levels - 1)).lms.h
    → tree_number key g (length key.levels - 1) ≡ tree_number key at (length key.levels - 1)
bottom-same key g at some same =
    let h = (level_at key (length key.levels - 1)).lms.h in
    let m = bottom_height h in
    let whole : m + (h - m) ≡ height_of (drop (length key.levels - 1) key.levels) =
    omega (arith, bottom-height key some) in
    ap (λ n. g / 2 ^ n) (sym whole)
    ∙ (sym (shr-shr g m (h - m))
    ∙ (ap (λ n. n / 2 ^ (h - m)) same ∙ (shr-shr at m (h - m) ∙ ap (λ n. at / 2 ^ n) whole)))

-- the bottom subtree of the leaf that an index goes through
subtree-of : (key : HssKey) (g : ℕ) → 1 ≤ length key.levels → let h = (level_at key (length key.levels - 1)).lms.h in
    leaf_at key g (length key.levels - 1) / 2 ^ bottom_height h ≡ g / 2 ^ bottom_height h % 2 ^ (h - bottom_height h)
subtree-of key g some =
    let bottom = length key.levels - 1 in
    let h = (level_at key bottom).lms.h in
    let m = bottom_height h in
    let none : height_of (drop (bottom + 1) key.levels) ≡ 0 =
    ap height_of (drop_all (bottom + 1) key.levels (omega arith)) in
    let whole : h ≡ (h - m) + m = omega arith in
    ap (λ n. g / 2 ^ n % 2 ^ h / 2 ^ m) none
    ∙ (ap (λ n. n % 2 ^ h / 2 ^ m) (div-one g) ∙ (ap (λ n. g % 2 ^ n / 2 ^ m) whole ∙ field g (h - m) m))

-- indices that a way serves go through one bottom subtree, by the levels of the key
pub served-subtree : (way : Way) (g : ℕ) → Serves way g
    → let h = (level_at (hss_key_of way.key) (length (hss_key_of way.key).levels - 1)).lms.h in
    g / 2 ^ bottom_height h ≡ way.at / 2 ^ bottom_height h
served-subtree way g serves =
    let key = hss_key_of way.key in
    subst
    (λ n. g / 2 ^ bottom_height (level_at key (n - 1)).lms.h ≡ way.at / 2 ^ bottom_height (level_at key (n - 1)).lms.h)
    (sym (levels-count way.key)) serves.subtree

-- the bottom tree serves each index of its bottom subtree
pub served-same : (key : HssKey) (g at k q : ℕ) (level : KeptLevel) → k ≡ length key.levels - 1 → 1 ≤ length key.levels
    → IsOnWay key at k level
    → g / 2 ^ bottom_height (level_at key (length key.levels - 1)).lms.h
    ≡ at / 2 ^ bottom_height (level_at key (length key.levels - 1)).lms.h
    → q ≡ leaf_at key g k → ServesLeaf level.tree q
served-same key g at k q level bottom some on same leaf =
    let h = (level_at key (length key.levels - 1)).lms.h in
    let m = bottom_height h in
    let sets : (tree_of level.tree.key).lms.h ≡ h = ap (λ (t : Tree). t.lms.h) on.tree
    ∙ (ap (λ l. l.h) (level-lms key at k) ∙ ap (λ k. (level_at key k).lms.h) bottom) in
    let here : leaf_at key at k / 2 ^ m ≡ level.tree.subtree =
    subst (λ h. leaf_at key at k / 2 ^ bottom_height h ≡ level.tree.subtree) sets on.served in
    subst (λ h. q / 2 ^ bottom_height h ≡ level.tree.subtree) (sym sets)
    (ap (λ q. q / 2 ^ m) (leaf ∙ ap (leaf_at key g) bottom)
    ∙ (subtree-of key g some
    ∙ (ap (λ n. n % 2 ^ (h - m)) same
    ∙ (sym (subtree-of key at some) ∙ (ap (λ k. leaf_at key at k / 2 ^ m) (sym bottom) ∙ here)))))

-- what is signed of all levels, one after another
signed-front : (key : HssKey) (g n : ℕ) (levels : List KeptLevel) (other : KeptLevel) → n ≤ length levels
    → ((k : ℕ) (other : KeptLevel) → k < length levels → (get_or levels k other).signed.items ≡ signed_text key g k)
    → signed_keys (take n levels) ≡ concat (map (signed_text key g) (below n))
signed-front key g zero levels other within each = refl
signed-front key g (suc n) levels other within each =
    let next : suc n ≡ n + 1 = omega arith in
    let level = get_or levels n other in
    let f : KeptLevel → List ℕ = λ level. level.signed.items in
    ap (flat_map f) (take-suc levels n other (omega (arith, within)))
    ∙ (sym (flat_map_more f [] (take n levels) level)
    ∙ (ap₂ (λ x y. x ++ y) (signed-front key g n levels other (omega (arith, within)) each)
    (each n other (omega (arith, within)))
    ∙ (sym (concat-below-suc (signed_text key g) n) ∙ ap (λ n. concat (map (signed_text key g) (below n))) (sym next))))

-- the same of any levels
all-signed : (key : HssKey) (g n : ℕ) (levels : List KeptLevel) → n ≤ length levels
    → ((k : ℕ) (other : KeptLevel) → k < length levels → (get_or levels k other).signed.items ≡ signed_text key g k)
    → signed_keys (take n levels) ≡ concat (map (signed_text key g) (below n))
all-signed key g zero levels within each = refl
all-signed key g (suc n) [] within each = absurd (omega (arith, within))
all-signed key g (suc n) (level ∷ levels) within each = signed-front key g (suc n) (level ∷ levels) level within each

-- of the top level nothing is signed
signed-shift : (key : HssKey) (g n : ℕ)
    → concat (map (signed_text key g) (below (n + 1))) ≡ concat (map (signed_key key g) (below n))
signed-shift key g zero = refl
signed-shift key g (suc n) =
    let next : suc n ≡ n + 1 = omega arith in
    let f : ℕ → List ℕ = signed_key key g in
    concat-below-suc (signed_text key g) (suc n)
    ∙ (ap (λ m. concat (map (signed_text key g) (below m)) ++ f n) next
    ∙ (ap (λ x. x ++ f n) (signed-shift key g n)
    ∙ (sym (concat-below-suc f n) ∙ ap (λ m. concat (map f (below m))) (sym next))))

-- by genuine nodes of all levels the signature by an index that is served is that of the key
pub kept-signature : (way : Way) (g : ℕ) (randomizer message last : List ℕ) → 1 ≤ length way.key.levels → Serves way g
    → AreGenuine way
    → last ≡ lms_signature (tree_at (hss_key_of way.key) g (bottom_of way.key))
    (leaf_at (hss_key_of way.key) g (bottom_of way.key)) randomizer message
    → u32str (bottom_of way.key) ++ signed_keys way.levels ++ last
    ≡ hss_signature (hss_key_of way.key) g randomizer message
kept-signature way g randomizer message last some serves genuine is =
    let key = hss_key_of way.key in
    let b = length key.levels - 1 in
    let n = length way.levels in
    let its : bottom_of way.key ≡ b = ap (λ n. n - 1) (sym (levels-count way.key)) in
    let there : b < length key.levels = omega (arith, some, levels-count way.key) in
    let whole : n ≡ b + 1 = omega (arith, serves.all_levels, levels-count way.key, some) in
    let same = bottom-same key g way.at (omega (arith, there)) (served-subtree way g serves) in
    let all : take n way.levels ≡ way.levels = take_all n way.levels (omega arith) in
    let keys : signed_keys way.levels ≡ concat (map (signed_key key g) (below b))
    = ap signed_keys (sym all)
    ∙ (all-signed key way.at n way.levels (omega arith) (λ k other low. (genuine k other low).signed)
    ∙ (ap (λ n. concat (map (signed_text key way.at) (below n))) whole
    ∙ (signed-shift key way.at b ∙ sym (keys-same key b g way.at there same)))) in
    let last_is : last ≡ lms_signature (tree_at key g b) (leaf_at key g b) randomizer message
    = is ∙ ap (λ k. lms_signature (tree_at key g k) (leaf_at key g k) randomizer message) its in
    ap₂ (λ k keys. u32str k ++ keys ++ last) its keys
    ∙ (ap (λ last. u32str b ++ concat (map (signed_key key g) (below b)) ++ last) last_is
    ∙ sym (signature-parts key g randomizer message))

-- one more level
pub one-more : (P : ℕ → KeptLevel → Type 0) (n : ℕ) (levels : List KeptLevel) (level : KeptLevel) → length levels ≡ n
    → ((j : ℕ) (other : KeptLevel) → j < n → P j (get_or levels j other)) → P n level
    → (j : ℕ) (other : KeptLevel) → j < n + 1 → P j (get_or (levels ++ level ∷ []) j other)
one-more P n levels level count before is j other low =
    ⊎_elim
    (λ e. let here : j ≡ length levels = omega (arith, count) in
    let same : get_or (levels ++ level ∷ []) j other ≡ level =
    ap (λ i. get_or (levels ++ level ∷ []) i other) here ∙ get_or-append_seam levels level [] other in
    subst (P j) (sym same) (subst (λ i. P i level) (sym e) is))
    (λ lt. let same = get_or_append_left levels (level ∷ []) other j (omega (arith, count)) in
    subst (P j) (sym same) (before j other lt))
    (eq-or-lt_of_le {n = j} {m = n} (omega arith))

-- and it has its own key signed
pub one-more-signs : (key : HssKey) (g from k j : ℕ) (levels : List KeptLevel) (level : KeptLevel)
    → length levels ≡ k → k ≡ j + 1
    → SignsOwnKey key g j level → SignOwnKeys key g from levels → SignOwnKeys key g from (levels ++ level ∷ [])
one-more-signs key g from k j levels level count next here before i other after low =
    let more = levels ++ level ∷ [] in
    ⊎_elim
    (λ e. let last : i + 1 ≡ length levels = omega (arith, count) in
    let own : get_or more (i + 1) other ≡ level =
    ap (λ i. get_or more i other) last ∙ get_or-append_seam levels level [] other in
    let at : i ≡ j = omega (arith, next) in
    subst (SignsOwnKey key g i) (sym own) (subst (λ i. SignsOwnKey key g i level) (sym at) here))
    (λ lt. let right = get_or_append_left levels (level ∷ []) other (i + 1) (omega (arith, count)) in
    subst (SignsOwnKey key g i) (sym right) (before i other after (omega (arith, count))))
    (eq-or-lt_of_le {n = i + 1} {m = k} (omega (arith, count, low, length-append levels (level ∷ []))))

-- how long a signature is whose path may be of any bytes
length-along : (tree : Tree) (q : ℕ) (randomizer message signature : List ℕ) → length randomizer ≡ 32
    → IsSignatureAlong tree q randomizer message signature
    → length signature ≡ lms_signature_length tree.lms tree.ots
length-along tree q randomizer message signature long along =
    let o = ots_signature tree.ots tree.id tree.seed q randomizer message in
    let front = length-ots_signature tree.ots tree.id tree.seed q randomizer message long in
    let path = along.path_length in
    ap length along.parts
    ∙ (length-append (u32str q ++ o ++ u32str tree.lms.code) along.path
    ∙ omega (arith, length-append (u32str q ++ o) (u32str tree.lms.code)))

-- how long a randomizer is that is derived
length-derived : (tree : Tree) (q number : ℕ) → length (derived tree q number) ≡ 32
unfolding derived
length-derived tree q number = length-sha256 _

-- the next level is on the way
pub child-on : (key : HssKey) (g j q leaf : ℕ) (tree_key : TreeKey) (parent level : KeptLevel) → length key.id ≡ 16
    → j < length key.levels → IsOnWay key g j parent
    → q ≡ leaf_at key g j → tree_of tree_key ≡ tree_at key g (j + 1) → leaf ≡ leaf_at key g (j + 1)
    → IsKeptChild parent q tree_key leaf level
    → IsOnWay key g (j + 1) level
child-on key g j q leaf tree_key parent level sixteen there on place at below made =
    let tree = tree_of parent.tree.key in
    let text = public_key_of (tree_of tree_key) in
    let next : suc j ≡ j + 1 = omega arith in
    let one = length-along tree q (derived tree q for_randomizer) text made.signature
    (length-derived tree q for_randomizer) made.along in
    let sets = ap₂ lms_signature_length (ap (λ (t : Tree). t.lms) on.tree ∙ level-lms key g j)
    (ap (λ (t : Tree). t.ots) on.tree ∙ level-ots key g j) in
    let two : length text ≡ lms_public_key_length
    = ap (λ t. length (public_key_of t)) at
    ∙ length-public_key (tree_at key g (j + 1)) (length-id key g (j + 1) sixteen) in
    let whole : length level.signed.items ≡ signed_length key (suc j)
    = ap length made.signed ∙ (length-append made.signature text ∙ omega (arith, one, sets, two)) in
    record {
      tree = ap tree_of made.key ∙ at;
      served = subst (ServesLeaf level.tree) below made.served;
      shape = made.shape;
      signed = whole ∙ ap (signed_length key) next;
    }

-- the next level has its own key signed
pub child-signs : (key : HssKey) (g j q leaf : ℕ) (tree_key : TreeKey) (parent level : KeptLevel)
    → IsOnWay key g j parent
    → q ≡ leaf_at key g j → tree_of tree_key ≡ tree_at key g (j + 1) → IsKeptChild parent q tree_key leaf level
    → SignsOwnKey key g j level
child-signs key g j q leaf tree_key parent level on place at made =
    let along = subst
    (λ t. IsSignatureAlong t q (derived t q for_randomizer) (public_key_of (tree_of tree_key)) made.signature)
    on.tree made.along in
    record {
      signature = made.signature;
      along = subst₂ (λ q t. IsSignatureAlong (tree_at key g j) q (derived (tree_at key g j) q for_randomizer)
          (public_key_of t) made.signature) place at along;
      signed = made.signed ∙ ap (λ t. made.signature ++ public_key_of t) at;
    }

-- below genuine nodes it is genuine
pub child-genuine : (key : HssKey) (g j q leaf : ℕ) (tree_key : TreeKey) (parent level : KeptLevel)
    → IsOnWay key g j parent
    → q ≡ leaf_at key g j → tree_of tree_key ≡ tree_at key g (j + 1) → IsKeptChild parent q tree_key leaf level
    → IsGenuine key g j parent
    → IsGenuine key g (j + 1) level
unfolding signed_key
child-genuine key g j q leaf tree_key parent level on place at made genuine =
    let signed : Tree → ℕ → Tree → List ℕ =
    λ t q next. lms_signature t q (derived t q for_randomizer) (public_key_of next) ++ public_key_of next in
    let next : suc j ≡ j + 1 = omega arith in
    let parts : level.signed.items ≡ signed_key key g j
    = made.signed
    ∙ (ap (λ signature. signature ++ public_key_of (tree_of tree_key)) (made.right genuine.nodes)
    ∙ (ap₂ (λ t next. signed t q next) on.tree at
    ∙ ap (λ q. signed (tree_at key g j) q (tree_at key g (j + 1))) place)) in
    record { nodes = made.nodes; signed = parts ∙ ap (signed_text key g) next }

-- a level above the last one that two ways share is on both
pub shared-on : (key : HssKey) (at g k : ℕ) (level : KeptLevel) → k < length key.levels
    → tree_number key at (k + 1) ≡ tree_number key g (k + 1)
    → IsOnWay key at k level → IsOnWay key g k level
shared-on key at g k level there same on = record {
  tree = on.tree ∙ tree-same key k at g there (above-same key k at g there same);
  served = subst (ServesLeaf level.tree) (leaf-same key k at g same) on.served;
  shape = on.shape;
  signed = on.signed;
}

-- and genuine on both
pub shared-genuine : (key : HssKey) (at g k : ℕ) (level : KeptLevel) → k < length key.levels
    → tree_number key at k ≡ tree_number key g k
    → IsGenuine key at k level → IsGenuine key g k level
shared-genuine key at g k level there same genuine =
    record { nodes = genuine.nodes; signed = genuine.signed ∙ signed-text-same key k at g there same }

-- the last one that they share goes on to the new leaf
pub moved-on : (key : HssKey) (at g k q : ℕ) (level moved : KeptLevel) → k < length key.levels
    → tree_number key at k ≡ tree_number key g k
    → q ≡ leaf_at key g k → IsOnWay key at k level → IsMoved level q moved → IsOnWay key g k moved
moved-on key at g k q level moved there same leaf on is = record {
  tree = ap tree_of is.key ∙ (on.tree ∙ tree-same key k at g there same);
  served = subst (ServesLeaf moved.tree) leaf is.served;
  shape = is.shape;
  signed = ap (λ v. length v.items) is.signed ∙ on.signed;
}

-- and is genuine where it was
pub moved-genuine : (key : HssKey) (at g k q : ℕ) (level moved : KeptLevel) → k < length key.levels
    → tree_number key at k ≡ tree_number key g k
    → IsMoved level q moved → IsGenuine key at k level → IsGenuine key g k moved
moved-genuine key at g k q level moved there same is genuine =
    record {
      nodes = is.nodes genuine.nodes;
      signed = ap (λ v. v.items) is.signed ∙ (genuine.signed ∙ signed-text-same key k at g there same);
    }
