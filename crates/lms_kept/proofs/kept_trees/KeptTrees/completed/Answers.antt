use Rattle.std.proofs.Common.{ℕ, ◌≡◌, ◌+◌, ◌-◌, ◌<◌, ◌≤◌, List, [], ◌∷◌, ◌++◌, length, get_or, length-append, refl, sym}
use Rattle.std.proofs.Common.{◌∙◌, ap, arith, subst}
use Rattle.std.proofs.lemmas.List.{get_or_append_left}
use Rattle.lms_spec.specs.Hss.{HssKey}
use Rattle.lms_spec.specs.Profile.{leaf_at, tree_at}
use Rattle.lms_tree.specs.declared.tree_key.TreeKey.{TreeKey}
use Rattle.lms_tree.specs.Kept.{ServesLeaf}
use Rattle.lms_tree.specs.TreeKey.{tree_of}
use Rattle.lms_kept.specs.declared.kept_level.KeptLevel.{KeptLevel}
use Rattle.lms_hss.specs.Keys.{hss_key_of}
use Rattle.lms_kept.specs.Ways.{ArePlanned, IsGenuine, IsKeptChild, IsOnWay, IsPlanned, SignOwnKeys}
use Rattle.lms_kept.proofs.Plans.{plan-next, planned-signed}
use Rattle.lms_kept.proofs.Ways.{child-genuine, child-on, child-signs, one-more, one-more-signs}
use Rattle.lms_kept.proofs.kept_trees.KeptTrees.completed.Goals as goal
use Rattle.lms_kept.proofs.kept_trees.KeptTrees.completed.Goals.{After-index}
use Rattle.lms_kept.proofs.kept_trees.KeptTrees.completed.Given.{Over}

-- some levels on the way of an index, and one more below the last of them
record IsNext (key : HssKey) (g k j q leaf : ℕ) (tree_key : TreeKey) (levels after : List KeptLevel)
    (parent child : KeptLevel) : Type 0 where
  there : j < length key.levels
  next : k ≡ j + 1
  count : length levels ≡ k
  found : parent ≡ get_or levels j parent
  on : (i : ℕ) (other : KeptLevel) → i < k → IsOnWay key g i (get_or levels i other)
  place : q ≡ leaf_at key g j
  tree : tree_of tree_key ≡ tree_at key g k
  id_length : length key.id ≡ 16
  below : leaf ≡ leaf_at key g k
  made : IsKeptChild parent q tree_key leaf child
  more : after ≡ levels ++ child ∷ []

module _ (key : HssKey) (g k j q leaf : ℕ) (tree_key : TreeKey) (levels after : List KeptLevel)
    (parent child : KeptLevel)
    (is : IsNext key g k j q leaf tree_key levels after parent child) where
  -- it is one more
  next-count : length after ≡ k + 1
  next-count = omega (arith, is.count, ap length is.more, length-append levels (child ∷ []))

  -- the one above it is on the way
  parent-on : IsOnWay key g j parent
  parent-on = subst (IsOnWay key g j) (sym is.found) (is.on j parent (omega (arith, is.next)))

  -- its tree
  tree-next : tree_of tree_key ≡ tree_at key g (j + 1)
  tree-next = is.tree ∙ ap (tree_at key g) is.next

  -- all are on the way
  next-on : (i : ℕ) (other : KeptLevel) → i < k + 1 → IsOnWay key g i (get_or after i other)
  next-on i other low =
      let here = child-on key g j q leaf tree_key parent child is.id_length is.there parent-on is.place tree-next
      (is.below ∙ ap (leaf_at key g) is.next) is.made in
      subst (λ levels. IsOnWay key g i (get_or levels i other)) (sym is.more)
      (one-more (IsOnWay key g) k levels child is.count is.on
      (subst (λ n. IsOnWay key g n child) (sym is.next) here) i other low)

  -- those before it stay
  next-same : (i : ℕ) (other : KeptLevel) → i < k → get_or after i other ≡ get_or levels i other
  next-same i other low =
      ap (λ levels. get_or levels i other) is.more
      ∙ get_or_append_left levels (child ∷ []) other i (omega (arith, low, is.count))

  -- each has its own key signed
  next-signs : (from : ℕ) → SignOwnKeys key g from levels → SignOwnKeys key g from after
  next-signs from before =
      subst (SignOwnKeys key g from) (sym is.more)
      (one-more-signs key g from k j levels child is.count is.next
      (child-signs key g j q leaf tree_key parent child parent-on is.place tree-next is.made) before)

  -- and is genuine
  next-genuine : ((i : ℕ) (other : KeptLevel) → i < k → IsGenuine key g i (get_or levels i other))
      → (i : ℕ) (other : KeptLevel) → i < k + 1 → IsGenuine key g i (get_or after i other)
  next-genuine before i other low =
      let above = subst (IsGenuine key g j) (sym is.found) (before j parent (omega (arith, is.next))) in
      let here = child-genuine key g j q leaf tree_key parent child parent-on is.place tree-next is.made above in
      subst (λ levels. IsGenuine key g i (get_or levels i other)) (sym is.more)
      (one-more (IsGenuine key g) k levels child is.count before
      (subst (λ n. IsGenuine key g n child) (sym is.next) here) i other low)

-- the level above serves the leaf that signs
parent-serves : (key : HssKey) (g j q : ℕ) (levels : List KeptLevel) (parent : KeptLevel)
    → parent ≡ get_or levels j parent
    → IsOnWay key g j (get_or levels j parent) → q ≡ leaf_at key g j → ServesLeaf parent.tree q
parent-serves key g j q levels parent found on place =
    subst (ServesLeaf parent.tree) (sym place) (subst (IsOnWay key g j) (sym found) on).served

-- the level above is on the way
above-on : (key : HssKey) (g k j : ℕ) (levels : List KeptLevel) (parent : KeptLevel)
    → parent ≡ get_or levels j parent → j < k
    → ((i : ℕ) (other : KeptLevel) → i < k → IsOnWay key g i (get_or levels i other)) → IsOnWay key g j parent
above-on key g k j levels parent found low on = subst (IsOnWay key g j) (sym found) (on j parent low)

-- there is a level above
some-above : (g : Over) (c : After-index g) → 1 ≤ length c.loop-planned.levels.items
some-above g c = omega (arith, c.requires.way.some, c.loop-planned.invariant.at_least)

-- the next one is planned
next-planned : (g : Over) (c : After-index g)
    → IsPlanned (hss_key_of c.args.key) c.args.at (length c.loop-planned.levels.items) c.in-Some.planned
next-planned g c = (plan-next _ _ _ _ _ _ c.loop-planned.invariant.planned c.in-Some.ensures.items).0

pub child-child-requires-clause-served : goal.child-child-requires-clause-served
child-child-requires-clause-served g c κs within =
    let at = (goal.at.child-child-requires-clause-served g c).After-index in
    let some = some-above g at in
    parent-serves _ _ _ _ c.loop-planned.levels.items _ c.index.ensures
    (c.loop-planned.invariant.on _ c.index.result.now (omega (arith, some, c.len-above.ensures))) c.leaf_of.ensures

pub child-child-requires-clause-one_leaf : goal.child-child-requires-clause-one_leaf
child-child-requires-clause-one_leaf g c κs within =
    let is = next-planned g (goal.at.child-child-requires-clause-one_leaf g c).After-index in
    is.first ∙ sym is.last

pub child-child-requires-clause-long : goal.child-child-requires-clause-long
child-child-requires-clause-long g c κs within =
    let at = (goal.at.child-child-requires-clause-long g c).After-index in
    let some = some-above g at in
    let key = hss_key_of c.args.key in
    let levels = c.loop-planned.levels.items in
    let above : c.len-above.result - 1 < length levels = omega (arith, some, c.len-above.ensures) in
    let next : length levels ≡ c.len-above.result - 1 + 1 = omega (arith, some, c.len-above.ensures) in
    planned-signed key c.args.at (length levels) (c.len-above.result - 1) c.in-Some.planned c.index.result.now next
    (next-planned g at)
    (above-on key c.args.at (length levels) (c.len-above.result - 1) levels c.index.result.now c.index.ensures above
    c.loop-planned.invariant.on)

pub loop-planned-preserved : goal.loop-planned-preserved
loop-planned-preserved g c =
    let key = hss_key_of c.args.key in
    let here = c.loop-planned.invariant in
    let levels = c.loop-planned.levels.items in
    let k = length levels in
    let planned : IsPlanned key c.args.at k c.in-Some.planned × ArePlanned key c.args.at (k + 1) c.pop.new.self.items
    = plan-next key c.args.at k c.loop-planned.plans.items c.pop.new.self.items c.in-Some.planned here.planned
    c.in-Some.ensures.items in
    let some : 1 ≤ k = omega (arith, c.requires.way.some, here.at_least) in
    let above : c.len-above.result - 1 ≡ k - 1 = omega (arith, c.len-above.ensures) in
    let is : IsNext key c.args.at k
    (k - 1) c.leaf_of.result c.in-Some.planned.tree.first c.in-Some.planned.tree.key levels
    c.push_reserved.new.self.items c.index.result.now c.child-child.result
    = record {
      there = omega (arith, planned.1.count, some);
      next = omega (arith, some);
      count = refl;
      found = subst (λ j. c.index.result.now ≡ get_or levels j c.index.result.now) above c.index.ensures;
      on = here.on;
      place = c.leaf_of.ensures ∙ ap (leaf_at key c.args.at) above;
      tree = planned.0.tree;
      id_length = c.requires.way.id_length;
      below = planned.0.first;
      made = c.child-child.ensures;
      more = c.push_reserved.ensures.items;
    } in
    let count = next-count _ _ _ _ _ _ _ _ _ _ _ is in
    record {
      planned = subst (λ n. ArePlanned key c.args.at n c.pop.new.self.items) (sym count) planned.1;
      room = omega (arith, here.room, c.push_reserved.ensures.capacity);
      at_least = omega (arith, here.at_least, count);
      on = λ i other low. next-on _ _ _ _ _ _ _ _ _ _ _ is i other (omega (arith, low, count));
      same = λ i other first. next-same _ _ _ _ _ _ _ _ _ _ _ is i other (omega (arith, first, here.at_least))
          ∙ here.same i other first;
      signs = next-signs _ _ _ _ _ _ _ _ _ _ _ is _ here.signs;
      genuine = λ all i other low.
          next-genuine _ _ _ _ _ _ _ _ _ _ _ is (here.genuine all) i other (omega (arith, low, count));
    }
