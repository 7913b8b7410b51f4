-- The lines of a signature's levels, one after another, and the index that their leaves make.
use Rattle.std.proofs.Common.{◌≡◌, ◌∙◌, ◌+◌, ◌*◌, ◌^◌, ◌<◌, ◌≤◌, ◌%◌, ℕ, List, [], ◌∷◌, ◌++◌, Option, false, ap}
use Rattle.std.proofs.Common.{refl, sym, subst, append_assoc, append-nil, arith, drop, get_or, length, take}
use Rattle.std.proofs.Common.{mod-eq_of_lt, mul-le-mul_right, nat_lt, pow-add, pow_mono}
use Rattle.std.proofs.lemmas.Bool.Decides.{nat_tests}
use Rattle.std.proofs.lemmas.List.{drop_more, take_more}
use Rattle.std.specs.Io.KnownBytes.{Appends}
use Rattle.std.specs.List.{AllByRecursion}
use Rattle.lms_blocks.proofs.Fronts.{Appends-both}
use Rattle.lms_hss.specs.Levels.{most_height}
use Rattle.lms_params.specs.LmsType.{lms_set_of}
use Rattle.lms_inspect.specs.Indices.{IsInTree, indexed_from}
use Rattle.lms_inspect.specs.Signatures.{SaysThrough}
use Rattle.lms_inspect.specs.Texts.{id_line, keyed_lines, level_line}
use Rattle.lms_inspect.specs.declared.signature.KeyedLevel.{KeyedLevel}

-- one more
pub keyed-push : (xs : List KeyedLevel) (y : KeyedLevel)
    → keyed_lines (xs ++ y ∷ []) ≡ keyed_lines xs ++ (id_line y.id ++ level_line y.level)
keyed-push [] y = append-nil (id_line y.id ++ level_line y.level)
keyed-push (x ∷ xs) y =
    let first = id_line x.id ++ level_line x.level in
    ap (λ l. first ++ l) (keyed-push xs y)
    ∙ sym (append_assoc first (keyed_lines xs) (id_line y.id ++ level_line y.level))

-- the same, of the level at a place
keyed-more : (xs : List KeyedLevel) (k : ℕ) (d : KeyedLevel) → k < length xs
    → keyed_lines (take (k + 1) xs)
    ≡ keyed_lines (take k xs) ++ (id_line (get_or xs k d).id ++ level_line (get_or xs k d).level)
keyed-more xs k d lt = ap keyed_lines (take_more xs k d lt) ∙ keyed-push (take k xs) (get_or xs k d)

-- its two lines are written after those before
pub keyed-appends : (a b e f : Option (List ℕ)) (xs : List KeyedLevel) (k : ℕ) (d : KeyedLevel) → k < length xs
    → Appends a b (keyed_lines (take k xs)) → Appends b e (id_line (get_or xs k d).id)
    → Appends e f (level_line (get_or xs k d).level) → Appends a f (keyed_lines (take (k + 1) xs))
keyed-appends a b e f xs k d lt before id level =
    let y = get_or xs k d in
    subst (λ (t : List ℕ). Appends a f t) (sym (keyed-more xs k d lt))
    (Appends-both a b f (keyed_lines (take k xs)) (id_line y.id ++ level_line y.level) before
    (Appends-both b e f (id_line y.id) (level_line y.level) id level))

-- a leaf of one of so many trees
leaf-below : (many wide index leaf : ℕ) → index < many → leaf < wide → index * wide + leaf < many * wide
leaf-below many wide index leaf lt small =
    let most : (index + 1) * wide ≤ many * wide = mul-le-mul_right wide (omega (arith, lt)) in
    omega (arith, most, small)

-- the index that one more leaf makes, as the code has it
pub index-next : (height own index leaf k : ℕ) (xs : List KeyedLevel) (d : KeyedLevel) → k < length xs
    → own ≡ (lms_set_of (get_or xs k d).level.lms).h → leaf ≡ (get_or xs k d).level.leaf
    → height + own ≤ most_height → index < 2 ^ height
    → AllByRecursion (λ keyed. IsInTree keyed.level) (drop k xs)
    → (indexed_from (height + own) (index * 2 ^ own % 2 ^ 64 + leaf) (drop (k + 1) xs)
    ≡ indexed_from height index (drop k xs))
    × (index * 2 ^ own % 2 ^ 64 + leaf < 2 ^ (height + own))
    × AllByRecursion (λ keyed. IsInTree keyed.level) (drop (k + 1) xs)
index-next height own index leaf k xs d lt same_own same_leaf short small trees =
    let y = get_or xs k d in
    let rest : List KeyedLevel = drop (k + 1) xs in
    let next : drop k xs ≡ y ∷ rest = drop_more xs k d lt in
    let all = subst (λ (l : List KeyedLevel). AllByRecursion (λ keyed. IsInTree keyed.level) l) next trees in
    let below : leaf < 2 ^ own = rw (same_own, same_leaf) all.0 in
    let power : 2 ^ (height + own) ≡ 2 ^ height * 2 ^ own = pow-add 2 height own in
    let fits = leaf-below (2 ^ height) (2 ^ own) index leaf small below in
    let bound : 2 ^ (height + own) ≤ 2 ^ 60 = pow_mono {i = height + own} {j = 60} short in
    let whole : index * 2 ^ own % 2 ^ 64 ≡ index * 2 ^ own = mod-eq_of_lt (omega (arith, fits, power, bound)) in
    let low : height + (lms_set_of y.level.lms).h ≤ 60 = omega (arith, same_own, short) in
    let here : nat_lt 60 (height + (lms_set_of y.level.lms).h) ≡ false = grind (arith, nat_tests) in
    let more : indexed_from (height + own) (index * 2 ^ own % 2 ^ 64 + leaf) rest
    ≡ indexed_from (height + (lms_set_of y.level.lms).h) (index * 2 ^ (lms_set_of y.level.lms).h + y.level.leaf) rest
    = rw (whole, same_own, same_leaf) refl in
    let one : indexed_from height index (y ∷ rest)
    ≡ indexed_from (height + (lms_set_of y.level.lms).h) (index * 2 ^ (lms_set_of y.level.lms).h + y.level.leaf) rest
    = rw here refl in (
      more ∙ sym (ap (λ (l : List KeyedLevel). indexed_from height index l) next ∙ one),
      rw whole (omega (arith, fits, power)),
      all.1,
    )

-- the leaves that are said are in their trees
pub in-trees : (xs : List KeyedLevel) (text rest : List ℕ) → SaysThrough xs text rest
    → AllByRecursion (λ keyed. IsInTree keyed.level) xs
in-trees [] text rest same = tt
in-trees (x ∷ xs) text rest (after, is, more) = (is.signed.leaf_in_tree, in-trees xs after rest more)
