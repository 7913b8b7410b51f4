use Rattle.std.proofs.Common.{ℕ, ◌≡◌, ◌+◌, ◌-◌, ◌/◌, ◌%◌, ◌^◌, ◌<◌, ◌≤◌, List, length, get_or}
use Rattle.std.proofs.Common.{sym, ◌∙◌, ap, arith, subst}
use Rattle.std.proofs.lemmas.List.{length-map}
use Rattle.lms_spec.specs.Hss.{Level, level as level_at, no_level}
use Rattle.lms_spec.specs.Profile.{leaf_at}
use Rattle.lms_params.specs.declared.lms_type.LmsType.TheVariants.{H5}
use Rattle.lms_params.specs.declared.ots_type.OtsType.TheVariants.{W1}
use Rattle.lms_params.specs.declared.lms_type.LmsType.{LmsType}
use Rattle.lms_params.specs.declared.ots_type.OtsType.{OtsType}
use Rattle.lms_hss.specs.declared.key.HssKey.{HssKey as KeyOfCode}
use Rattle.lms_hss.specs.declared.level_trees.LevelTrees.{LevelTrees}
use Rattle.lms_hss.specs.declared.signed_tree.SignedTree.{SignedTree}
use Rattle.lms_hss.specs.Levels.{level_of, levels_of}
use Rattle.lms_hss.specs.Keys.{hss_key_of, tree_number}
use Rattle.lms_hss.specs.Forests.{AreLeaves, HoldsLevel}
use Rattle.lms_hss.proofs.Sets.{level-there}
use Rattle.lms_hss.proofs.Forests.{above-from, above-to, parent-is, signed-child, some-index}
use Rattle.lms_hss.proofs.level_trees.LevelTrees.tree_below.Goals as goal

-- the trees of this level are those of as many sets
there : (key : KeyOfCode) (k : ℕ) → k + 1 < length key.levels → k < length (hss_key_of key).levels
there key k below = omega (arith, length-map key.levels level_of, below)

pub tree-above-requires-clause-from : goal.tree-above-requires-clause-from
tree-above-requires-clause-from g c =
    let key = hss_key_of c.args.key.now in
    omega (
      arith,
      c.requires.level.first,
      c.parent-parent.ensures.tree,
      above-from key c.args.k c.args.start c.args.number (there c.args.key.now c.args.k c.requires.below)
          c.requires.from,
    )

pub tree-above-requires-clause-to : goal.tree-above-requires-clause-to
tree-above-requires-clause-to g c =
    let key = hss_key_of c.args.key.now in
    omega (
      arith,
      c.requires.level.count,
      c.parent-parent.ensures.tree,
      above-to key c.args.k c.args.last c.args.number (there c.args.key.now c.args.k c.requires.below)
          c.requires.to,
    )

-- the leaf of the tree above, which serves it
serves : (key : KeyOfCode) (k start last n p q : ℕ) (level : LevelTrees) (parent : SignedTree)
    → k + 1 < length key.levels → HoldsLevel (hss_key_of key) k start last level
    → start ≤ last → tree_number (hss_key_of key) start (k + 1) ≤ n → n ≤ tree_number (hss_key_of key) last (k + 1)
    → p ≡ n / 2 ^ (level_at (hss_key_of key) k).lms.h → q ≡ n % 2 ^ (level_at (hss_key_of key) k).lms.h
    → parent ≡ get_or level.trees.items (p - level.first) parent → (parent.tree.first ≤ q) × (q ≤ parent.tree.last)
serves key k start last n p q level parent below held order from to at leaf found =
    let whole = hss_key_of key in
    let through = some-index whole (k + 1) start last n order from to in
    let is = parent-is whole k start last n p level parent
    (there key k below) held at found through.0 through.1 through.2 through.3 in
    let here : q ≡ leaf_at whole through.0 k = leaf ∙ ap (λ m. m % 2 ^ (level_at whole k).lms.h) (sym through.3) in
    (omega (arith, is.from, here), omega (arith, is.to, here))

pub child-requires-clause-from : goal.child-requires-clause-from
child-requires-clause-from g c κs within =
    (serves c.args.key.now c.args.k c.args.start c.args.last c.args.number c.parent-parent.result.0
    c.parent-parent.result.1 c.args.self.now c.tree-above.result.now
    c.requires.below c.requires.level c.requires.order
    c.requires.from
    c.requires.to c.parent-parent.ensures.tree
    c.parent-parent.ensures.leaf c.tree-above.ensures).0

pub child-requires-clause-to : goal.child-requires-clause-to
child-requires-clause-to g c κs within =
    (serves c.args.key.now c.args.k c.args.start c.args.last c.args.number c.parent-parent.result.0
    c.parent-parent.result.1 c.args.self.now c.tree-above.result.now
    c.requires.below c.requires.level c.requires.order
    c.requires.from
    c.requires.to c.parent-parent.ensures.tree
    c.parent-parent.ensures.leaf c.tree-above.ensures).1

-- the sets of the next level
sets-are : (key : KeyOfCode) (levels : List (LmsType × OtsType)) (k : ℕ) → levels ≡ key.levels
    → k + 1 < length key.levels
    → level_of (get_or levels (k + 1) (H5, W1)) ≡ level_at (hss_key_of key) (k + 1)
sets-are key levels k same below =
    level-there levels (k + 1) (H5, W1) (omega (arith, below, ap length same))
    ∙ ap (λ levels. get_or (levels_of levels) (k + 1) no_level) same

pub child-requires-clause-leaves : goal.child-requires-clause-leaves
child-requires-clause-leaves g c κs within =
    subst (λ (l : Level). AreLeaves l.lms.h c.leaves-leaves.result)
    (sym (sets-are c.args.key.now c.as_slice-levels.result.now c.args.k c.as_slice-levels.ensures.levels
    c.requires.below))
    c.leaves-leaves.ensures.served

pub returns-in_ok-tree-in-None : goal.returns-in_ok-tree-in-None
returns-in_ok-tree-in-None g c i from to e =
    let key = hss_key_of c.args.key.now in
    let k = c.args.k in
    let is = parent-is key k c.args.start c.args.last c.args.number c.parent-parent.result.0 c.args.self.now
    c.tree-above.result.now (there c.args.key.now k c.requires.below)
    c.requires.level c.parent-parent.ensures.tree c.tree-above.ensures in
    let levels = c.as_slice-levels in
    let sets = sets-are c.args.key.now levels.result.now k levels.ensures.levels c.requires.below in
    signed-child key i k c.parent-parent.result.1
    (get_or levels.result.now (k + 1) (H5, W1)) c.leaves-leaves.result c.tree-above.result.now
    c.in_ok-tree-in-None.tree
    (is i from to e)
    (c.parent-parent.ensures.leaf ∙ ap (λ m. m % 2 ^ (level_at key k).lms.h) (sym e)) sets
    (c.leaves-leaves.ensures.from i from e) (c.leaves-leaves.ensures.to i to e) c.in_ok-tree-in-None.ensures
