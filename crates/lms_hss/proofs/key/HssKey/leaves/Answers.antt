use Rattle.std.proofs.Common.{ℕ, ◌≡◌, ◌+◌, ◌-◌, ◌*◌, ◌^◌, ◌<◌, ◌≤◌, length, get_or, sym, ◌∙◌, ap, arith, min, pow_pos}
use Rattle.std.proofs.Common.{pow_mono}
use Rattle.std.proofs.lemmas.List.{length-map}
use Rattle.lms_spec.specs.Hss.{Level, level, no_level}
use Rattle.lms_spec.specs.Profile.{leaf_at}
use Rattle.lms_params.specs.declared.lms_type.LmsType.TheVariants.{H5}
use Rattle.lms_params.specs.declared.ots_type.OtsType.TheVariants.{W1}
use Rattle.lms_hss.specs.Levels.{level_of, levels_of}
use Rattle.lms_hss.specs.Keys.{hss_key_of, tree_number}
use Rattle.std.proofs.lemmas.Nat.{mod_below}
use Rattle.lms_hss.proofs.Sets.{level-there}
use Rattle.lms_hss.proofs.Forests.{number-order}
use Rattle.lms_hss.proofs.Ranges.{low-tree, range-leaves, leaf-place}
use Rattle.lms_hss.proofs.key.HssKey.leaves.Goals as goal

pub overflow_sub-tree_number : goal.overflow_sub-tree_number
overflow_sub-tree_number c =
    let key = hss_key_of c.args.self.now in
    let same : c.height.result ≡ (level key c.args.k).lms.h
    = c.height.ensures ∙ ap (λ (l : Level). l.lms.h) (level-there c.as_slice.result.now c.args.k (H5, W1)
    (omega (arith, ap length c.as_slice.ensures.levels, c.requires.there))
    ∙ ap (λ levels. get_or (levels_of levels) c.args.k no_level) c.as_slice.ensures.levels) in
    let there : c.args.k < length key.levels =
    omega (arith, length-map c.args.self.now.levels level_of, c.requires.there) in
    let facts = range-leaves key c.args.k c.args.start c.args.last c.args.number there c.requires.order c.requires.from
    c.requires.to in
    omega (arith, facts, ap (λ h. c.args.number * 2 ^ h) same, c.tree_number-2.ensures)

-- the numbers from which the ends are computed
pub parts : (c : goal.After-min-last) → let key = hss_key_of c.args.self.now in
    let size = 2 ^ (level key c.args.k).lms.h in
    (c.args.k < length key.levels) × (0 < size)
    × (size ≤ 2 ^ 25)
    × (c.saturating_sub-first.result ≡ tree_number key c.args.start (c.args.k + 1) - c.args.number * size)
    × (c.min-last.result ≡ min (tree_number key c.args.last (c.args.k + 1) - c.args.number * size) (size - 1))
    × (c.args.number * size ≤ tree_number key c.args.last (c.args.k + 1))
    × (tree_number key c.args.start (c.args.k + 1) < c.args.number * size + size)
    × (tree_number key c.args.start (c.args.k + 1) ≤ tree_number key c.args.last (c.args.k + 1))
    × (tree_number key c.args.last (c.args.k + 1)
    ≤ tree_number key c.args.start (c.args.k + 1) + (c.args.last - c.args.start))
parts c =
    let key = hss_key_of c.args.self.now in
    let same : c.height.result ≡ (level key c.args.k).lms.h
    = c.height.ensures ∙ ap (λ (l : Level). l.lms.h) (level-there c.as_slice.result.now c.args.k (H5, W1)
    (omega (arith, ap length c.as_slice.ensures.levels, c.requires.there))
    ∙ ap (λ levels. get_or (levels_of levels) c.args.k no_level) c.as_slice.ensures.levels) in
    let again = c.height-2.ensures ∙ sym c.height.ensures in
    let there : c.args.k < length key.levels =
    omega (arith, length-map c.args.self.now.levels level_of, c.requires.there) in
    let facts = range-leaves key c.args.k c.args.start c.args.last c.args.number there c.requires.order c.requires.from
    c.requires.to in
    let before = ap (λ h. c.args.number * 2 ^ h) same in
    let size = ap (λ h. 2 ^ h) same in
    let size_again = ap (λ h. 2 ^ h) again in
    let some = pow_pos (level key c.args.k).lms.h in
    let first = c.saturating_sub-first.ensures in
    let last = c.min-last.ensures in
    let low = c.tree_number.ensures in
    let high = c.tree_number-2.ensures in
    let fits = c.tree_number-2.type_inv in
    let short : 2 ^ c.height-2.result ≤ 2 ^ 25 = pow_mono {i = c.height-2.result} {j = 25}
    (omega (arith, c.height-2.ensures, low-tree (get_or c.as_slice.result.now c.args.k (H5, W1)).0)) in
    (there, some, omega arith, omega arith, omega arith, facts.0, facts.1, facts.2, facts.3)

pub overflow_cast-result : goal.overflow_cast-result
overflow_cast-result c =
    omega (arith, parts c)

pub returns : goal.returns
returns c =
    let key = hss_key_of c.args.self.now in
    let p = parts c in
    let low : (g : ℕ) → leaf_at key g c.args.k < 2 ^ (level key c.args.k).lms.h =
    λ g. mod_below _ (2 ^ (level key c.args.k).lms.h) p.1 in
    record {
      first = omega (arith, p);
      last = omega (arith, p);
      served = record {
        order = omega (arith, p);
        in_tree = omega (arith, p);
        at_most = omega (arith, p, c.requires.at_most);
      };
      from = λ g from e.
          let order = number-order key (c.args.k + 1) c.args.start g from in
          omega (arith, p, leaf-place key g c.args.k c.args.number p.0 e, order);
      to = λ g to e.
          let order = number-order key (c.args.k + 1) g c.args.last to in
          omega (arith, p, leaf-place key g c.args.k c.args.number p.0 e, order, low g);
    }
