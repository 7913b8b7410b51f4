-- The bytes of kept nodes determine their trees.
use Rattle.std.proofs.Common.{ℕ, suc, ◌≡◌, ◌/◌, ◌^◌, ◌<◌, ◌==◌, List, [], ◌∷◌, ◌++◌, length, cond, map, get_or, refl}
use Rattle.std.proofs.Common.{sym, ◌∙◌, ap, ap₂, arith, length-append, subst, subst₂}
use Rattle.std.specs.List.{flat_map}
use Rattle.std.proofs.Math.ListN.{get_or-map}
use Rattle.std.proofs.lemmas.List.{length-map}
use Rattle.std.proofs.lemmas.List.Concat.{concat_is}
use Rattle.std.proofs.lemmas.List.Elements.{All-from_get_or}
use Rattle.lms_spec.specs.Hss.{HssKey}
use Rattle.lms_spec.specs.Profile.{leaf_at}
use Rattle.lms_spec.specs.Tree.{Tree}
use Rattle.lms_spec.proofs.Pieces.{Is32, concat-same, same-front, same-rest}
use Rattle.lms_params.specs.declared.lms_type.LmsType.{LmsType}
use Rattle.lms_params.specs.declared.lms_type.LmsType.TheVariants.{H5, H10, H15, H20, H25}
use Rattle.lms_params.specs.declared.ots_type.OtsType.{OtsType}
use Rattle.lms_params.specs.declared.ots_type.OtsType.TheVariants.{W1, W2, W4, W8}
use Rattle.lms_params.specs.LmsType.{lms_set_of}
use Rattle.lms_params.specs.OtsType.{ots_set_of}
use Rattle.lms_tree.specs.declared.tree_key.TreeKey.{TreeKey}
use Rattle.lms_tree.specs.Bands.{bottom_height}
use Rattle.lms_tree.specs.Held.{nodes_in}
use Rattle.lms_tree.specs.Kept.{AreHashes, AreNodes, subtree_rows, upper_rows}
use Rattle.lms_tree.specs.TreeKey.{tree_of}
use Rattle.lms_hss.specs.declared.key.HssKey.{HssKey as KeyOfCode}
use Rattle.lms_hss.specs.Keys.{hss_key_of}
use Rattle.lms_hss.proofs.Keys.{capacity-limit}
use Rattle.lms_kept.specs.declared.kept_level.KeptLevel.{KeptLevel}
use Rattle.lms_kept.specs.Laws.{given_of}
use Rattle.lms_kept.specs.Ways.{AreGenuine, body_text, check_of, IsGenuine, IsOnWay, IsWay, level_length, level_text}
use Rattle.lms_kept.specs.Ways.{nodes_text, Way}
use Rattle.lms_kept.proofs.KeptTexts.{after-same, AreFrom, before-same, check-length, first-on, from-top, length-level}
use Rattle.lms_kept.proofs.KeptTexts.{length-nodes, rest-on, same-index, same-levels, some-bytes}

-- a set tells the type that names it
abbrev type-at : ℕ → LmsType
type-at h = cond (h == 5) H5 (cond (h == 10) H10 (cond (h == 15) H15 (cond (h == 20) H20 H25)))

type-back : (lms : LmsType) → type-at (lms_set_of lms).h ≡ lms
type-back H5 = refl
type-back H10 = refl
type-back H15 = refl
type-back H20 = refl
type-back H25 = refl

abbrev width-at : ℕ → OtsType
width-at w = cond (w == 1) W1 (cond (w == 2) W2 (cond (w == 4) W4 W8))

width-back : (ots : OtsType) → width-at (ots_set_of ots).w ≡ ots
width-back W1 = refl
width-back W2 = refl
width-back W4 = refl
width-back W8 = refl

-- a tree tells its key
key-same : (a b : TreeKey) → tree_of a ≡ tree_of b → a ≡ b
key-same a b e =
    let lms = sym (type-back a.lms) ∙ (ap (λ (t : Tree). type-at t.lms.h) e ∙ type-back b.lms) in
    let ots = sym (width-back a.ots) ∙ (ap (λ (t : Tree). width-at t.ots.w) e ∙ width-back b.ots) in
    let id = ap (λ (t : Tree). t.id) e in
    let seed = ap (λ (t : Tree). t.seed) e in
    λ i. record { lms = lms i; ots = ots i; i = id i; seed = seed i }

-- nodes side by side tell the nodes
nodes-same : (xs ys : List (List ℕ)) → length xs ≡ length ys → AreHashes xs → AreHashes ys
    → flat_map (λ node. node) xs ≡ flat_map (λ node. node) ys → xs ≡ ys
nodes-same xs ys count sizes sizes' e =
    concat-same xs ys count (All-from_get_or Is32 xs [] sizes) (All-from_get_or Is32 ys [] sizes')
    (concat_is xs ∙ (e ∙ sym (concat_is ys)))

-- the bytes of a level on the way determine what was given for it
level-same : (key : HssKey) (g k : ℕ) (x y : KeptLevel) → IsOnWay key g k x → IsOnWay key g k y
    → level_text x ≡ level_text y → given_of x ≡ given_of y
level-same key g k x y on on' e =
    let U = flat_map (λ node. node) x.tree.upper in
    let U' = flat_map (λ node. node) y.tree.upper in
    let L = flat_map (λ node. node) x.tree.lower in
    let L' = flat_map (λ node. node) y.tree.lower in
    let tree : tree_of x.tree.key ≡ tree_of y.tree.key = on.tree ∙ sym on'.tree in
    let h = ap (λ (t : Tree). t.lms.h) tree in
    let in_upper : length x.tree.upper ≡ length y.tree.upper =
    on.shape.upper.count ∙ (ap (λ h. nodes_in (upper_rows h)) h ∙ sym on'.shape.upper.count) in
    let in_lower : length x.tree.lower ≡ length y.tree.lower =
    on.shape.lower.count ∙ (ap (λ h. nodes_in (subtree_rows h 0)) h ∙ sym on'.shape.lower.count) in
    let upper_long : length U ≡ length U' = omega (
      arith,
      length-nodes x.tree.upper on.shape.upper.sizes,
      length-nodes y.tree.upper on'.shape.upper.sizes,
      in_upper,
    ) in
    let lower_long : length L ≡ length L' = omega (
      arith,
      length-nodes x.tree.lower on.shape.lower.sizes,
      length-nodes y.tree.lower on'.shape.lower.sizes,
      in_lower,
    ) in
    let front = before-same (x.signed.items ++ U) (y.signed.items ++ U') L L' lower_long e in
    let own = key-same x.tree.key y.tree.key tree in
    let subtree : x.tree.subtree ≡ y.tree.subtree =
    sym on.served ∙ (ap (λ h. leaf_at key g k / 2 ^ bottom_height h) h ∙ on'.served) in
    let upper = nodes-same x.tree.upper y.tree.upper in_upper on.shape.upper.sizes on'.shape.upper.sizes
    (after-same x.signed.items y.signed.items U U' upper_long front) in
    let lower = nodes-same x.tree.lower y.tree.lower in_lower on.shape.lower.sizes on'.shape.lower.sizes
    (after-same (x.signed.items ++ U) (y.signed.items ++ U') L L' lower_long e) in
    let signed = before-same x.signed.items y.signed.items U U' upper_long front in
    λ i. (record { key = own i; subtree = subtree i; upper = upper i; lower = lower i }, signed i)

-- levels have some bytes
some-text : (key : HssKey) (g i : ℕ) (level : KeptLevel) (levels : List KeptLevel) → AreFrom key g i (level ∷ levels)
    → ¬ ([] ≡ flat_map level_text (level ∷ levels))
some-text key g i level levels each e =
    let long = length-level key g i level (first-on key g i level levels each) in
    omega (arith, long, some-bytes key i, ap length e, length-append (level_text level) (flat_map level_text levels))

-- the bytes of levels from level i on determine what was given for them
levels-same : (key : HssKey) (g i : ℕ) (xs ys : List KeptLevel) → AreFrom key g i xs → AreFrom key g i ys
    → flat_map level_text xs ≡ flat_map level_text ys → map given_of xs ≡ map given_of ys
levels-same key g i [] [] each each' e = refl
levels-same key g i [] (y ∷ ys) each each' e = absurd (some-text key g i y ys each' e)
levels-same key g i (x ∷ xs) [] each each' e = absurd (some-text key g i x xs each (sym e))
levels-same key g i (x ∷ xs) (y ∷ ys) each each' e =
    let on = first-on key g i x xs each in
    let on' = first-on key g i y ys each' in
    let long = length-level key g i x on in
    let long' = length-level key g i y on' in
    let front = same-front (level_length key i) (level_text x) (level_text y) (flat_map level_text xs)
    (flat_map level_text ys) long long' e in
    let rest = same-rest (level_length key i) (level_text x) (level_text y) (flat_map level_text xs)
    (flat_map level_text ys) long long' e in
    ap₂ (λ v vs. v ∷ vs) (level-same key g i x y on on' front)
    (levels-same key g (suc i) xs ys (rest-on key g i x xs each) (rest-on key g i y ys each') rest)

-- an index below the capacity of a key fits eight bytes
index-fits : (way : Way) → IsWay way → way.at < 2 ^ 64
index-fits way is = omega (arith, is.within, capacity-limit way.key is.admitted)

-- the bytes determine the index, and what was given for each level
same-by-text : (a b : Way) → IsWay a → IsWay b → a.key ≡ b.key → nodes_text a ≡ nodes_text b
    → (a.at ≡ b.at) × (map given_of a.levels ≡ map given_of b.levels)
same-by-text a b is is' same e =
    let key = hss_key_of a.key in
    let long : length (check_of key (body_text a)) ≡ length (check_of (hss_key_of b.key) (body_text b))
    = check-length key (body_text a) ∙ sym (check-length (hss_key_of b.key) (body_text b)) in
    let bodies = before-same (body_text a) (body_text b) (check_of key (body_text a))
    (check_of (hss_key_of b.key) (body_text b)) long e in
    let at = same-index a.at b.at (flat_map level_text a.levels) (flat_map level_text b.levels) (index-fits a is)
    (index-fits b is') bodies in
    let each : AreFrom key a.at 0 b.levels = from-top key a.at b.levels
    (subst₂ (λ (key : KeyOfCode) g. (k : ℕ) (other : KeptLevel) → k < length b.levels
    → IsOnWay (hss_key_of key) g k (get_or b.levels k other)) (sym same) (sym at) is'.each) in (
      at,
      levels-same key a.at 0 a.levels b.levels (from-top key a.at a.levels is.each) each
          (same-levels a.at b.at (flat_map level_text a.levels) (flat_map level_text b.levels) bodies),
    )

-- a level for which the same was given is as genuine
level-genuine : (key : HssKey) (g k : ℕ) (x y : KeptLevel) → given_of x ≡ given_of y → IsGenuine key g k x
    → IsGenuine key g k y
level-genuine key g k x y same genuine =
    record {
      nodes = subst AreNodes (ap (λ given. given.0) same) genuine.nodes;
      signed = ap (λ given. given.1) (sym same) ∙ genuine.signed;
    }

-- trees that have the bytes of genuine ones are genuine
pub stays_genuine : (a b : Way) → IsWay a → IsWay b → a.key ≡ b.key → nodes_text a ≡ nodes_text b
    → AreGenuine a → AreGenuine b
stays_genuine a b is is' same e genuine k other low =
    let both = same-by-text a b is is' same e in
    let count : length a.levels ≡ length b.levels =
    omega (arith, length-map a.levels given_of, length-map b.levels given_of, ap length both.1) in
    let given : given_of (get_or a.levels k other) ≡ given_of (get_or b.levels k other)
    = sym (get_or-map given_of a.levels k other)
    ∙ (ap (λ all. get_or all k (given_of other)) both.1 ∙ get_or-map given_of b.levels k other) in
    subst₂ (λ (key : KeyOfCode) g. IsGenuine (hss_key_of key) g k (get_or b.levels k other)) same both.0
    (level-genuine (hss_key_of a.key) a.at k (get_or a.levels k other) (get_or b.levels k other) given
    (genuine k other (omega (arith, low, count))))

pub text-tells : (a b : Way) → IsWay a → IsWay b → a.key ≡ b.key → nodes_text a ≡ nodes_text b
    → (a.at ≡ b.at) × (map given_of a.levels ≡ map given_of b.levels) × (AreGenuine a → AreGenuine b)
text-tells a b is is' same e =
    let both = same-by-text a b is is' same e in (both.0, both.1, stays_genuine a b is is' same e)
