use Rattle.std.proofs.Common.{ℕ, ◌≡◌, ◌+◌, ◌-◌, ◌^◌, ◌<◌, ◌≤◌, List, [], ◌∷◌, ◌++◌, length, length-append, get_or, take}
use Rattle.std.proofs.Common.{Option, Some, sym, ◌∙◌, ap, arith, subst, subst₂, inl, inr, ⊎_elim, pow_pos}
use Rattle.std.specs.Option.{IfNone, IfSome}
use Rattle.std.proofs.lemmas.Bool.{cases_lt}
use Rattle.std.proofs.lemmas.List.{get_or-take, get_or_append_left, get_or_default, length-take-le}
use Rattle.std.proofs.lemmas.Nat.{mod_below}
use Rattle.std.proofs.Math.Seq.{get_or-append_seam}
use Rattle.lms_spec.specs.Hss.{HssKey, capacity_of, level}
use Rattle.lms_spec.specs.Profile.{leaf_at}
use Rattle.lms_spec.specs.Tree.{Tree}
use Rattle.lms_spec.proofs.Hierarchies.{level-lms}
use Rattle.lms_tree.specs.Kept.{AreNodes}
use Rattle.lms_tree.specs.TreeKey.{tree_of}
use Rattle.lms_kept.specs.declared.kept_level.KeptLevel.{KeptLevel}
use Rattle.lms_hss.specs.Keys.{hss_key_of, tree_number}
use Rattle.lms_kept.specs.Ways.{AreGenuine, ArePlanned, IsGenuine, IsMoved, IsOnWay, SignOwnKeys, SignsNoOther}
use Rattle.lms_kept.specs.Ways.{SignsOwnKey, Way}
use Rattle.lms_kept.proofs.Ways.{levels-count, moved-genuine, moved-on, one-more, shared-genuine, shared-on}
use Rattle.lms_kept.proofs.kept_trees.KeptTrees.moved_to.Given.{Over}
use Rattle.lms_kept.proofs.kept_trees.KeptTrees.moved_to.Goals as goal
use Rattle.lms_kept.proofs.kept_trees.KeptTrees.moved_to.Goals.{After-leaf_of-leaf}

-- the last of some levels that the ways of two indices share, and those above it
record IsLast (key : HssKey) (at g n q : ℕ) (given above : List KeptLevel) (last : KeptLevel) : Type 0 where
  there : n < length key.levels
  within : n < length given
  same : (k : ℕ) → k < n + 1 → tree_number key at k ≡ tree_number key g k
  each : (k : ℕ) (other : KeptLevel) → k < length given → IsOnWay key at k (get_or given k other)
  count : length above ≡ n
  above_given : (k : ℕ) (other : KeptLevel) → k < n → get_or above k other ≡ get_or given k other
  is_last : (other : KeptLevel) → last ≡ get_or given n other
  leaf : q ≡ leaf_at key g n

-- it is on the way
last-on : (key : HssKey) (at g n q : ℕ) (given above : List KeptLevel) (last : KeptLevel)
    → IsLast key at g n q given above last → IsOnWay key at n last
last-on key at g n q given above last is = subst (IsOnWay key at n) (sym (is.is_last last)) (is.each n last is.within)

-- its nodes are right where all is
last-nodes : (key : HssKey) (at g n q : ℕ) (given above : List KeptLevel) (last : KeptLevel)
    → IsLast key at g n q given above last
    → ((k : ℕ) (other : KeptLevel) → k < length given → IsGenuine key at k (get_or given k other)) → AreNodes last.tree
last-nodes key at g n q given above last is genuine =
    (subst (IsGenuine key at n) (sym (is.is_last last)) (genuine n last is.within)).nodes

-- its tree has the leaf that it goes on to
leaf-there : (key : HssKey) (at g n q : ℕ) (given above : List KeptLevel) (last : KeptLevel)
    → IsLast key at g n q given above last
    → q < 2 ^ (tree_of last.tree.key).lms.h
leaf-there key at g n q given above last is =
    let on = last-on key at g n q given above last is in
    let sets : (tree_of last.tree.key).lms.h ≡ (level key n).lms.h =
    ap (λ (t : Tree). t.lms.h) on.tree ∙ ap (λ l. l.h) (level-lms key at n) in
    let low : leaf_at key g n < 2 ^ (level key n).lms.h =
    mod_below _ (2 ^ (level key n).lms.h) (pow_pos (level key n).lms.h) in
    subst₂ (λ q h. q < 2 ^ h) (sym is.leaf) (sym sets) low

-- how many they are with it
moved-count : (key : HssKey) (at g n q : ℕ) (given above after : List KeptLevel) (last moved : KeptLevel)
    → IsLast key at g n q given above last
    → after ≡ above ++ moved ∷ [] → length after ≡ n + 1
moved-count key at g n q given above after last moved is more =
    omega (arith, is.count, ap length more, length-append above (moved ∷ []))

-- once it went on, all are on the new way
moved-each : (key : HssKey) (at g n q : ℕ) (given above after : List KeptLevel) (last moved : KeptLevel)
    → IsLast key at g n q given above last
    → IsMoved last q moved → after ≡ above ++ moved ∷ [] → (k : ℕ) (other : KeptLevel) → k < length after
    → IsOnWay key g k (get_or after k other)
moved-each key at g n q given above after last moved is to more k other low =
    subst (λ levels. IsOnWay key g k (get_or levels k other)) (sym more)
    (one-more (IsOnWay key g) n above moved is.count
    (λ k other low. let first = is.above_given k other low in
    subst (IsOnWay key g k) (sym first)
    (shared-on key at g k (get_or given k other) (omega (arith, is.there, low)) (is.same (k + 1) (omega arith))
    (is.each k other (omega (arith, is.within, low)))))
    (moved-on key at g n q last moved is.there (is.same n (omega arith)) is.leaf
    (last-on key at g n q given above last is) to)
    k other (omega (arith, low, moved-count key at g n q given above after last moved is more)))

-- genuine where all was
moved-genuine-each : (key : HssKey) (at g n q : ℕ) (given above after : List KeptLevel) (last moved : KeptLevel)
    → IsLast key at g n q given above last
    → IsMoved last q moved → after ≡ above ++ moved ∷ []
    → ((k : ℕ) (other : KeptLevel) → k < length given → IsGenuine key at k (get_or given k other))
    → (k : ℕ) (other : KeptLevel) → k < length after → IsGenuine key g k (get_or after k other)
moved-genuine-each key at g n q given above after last moved is to more genuine k other low =
    subst (λ levels. IsGenuine key g k (get_or levels k other)) (sym more)
    (one-more (IsGenuine key g) n above moved is.count
    (λ k other low. let first = is.above_given k other low in
    subst (IsGenuine key g k) (sym first)
    (shared-genuine key at g k (get_or given k other) (omega (arith, is.there, low)) (is.same k (omega arith))
    (genuine k other (omega (arith, is.within, low)))))
    (moved-genuine key at g n q last moved is.there (is.same n (omega arith)) to
    (subst (IsGenuine key at n) (sym (is.is_last last)) (genuine n last is.within)))
    k other (omega (arith, low, moved-count key at g n q given above after last moved is more)))

-- and what is signed of them stays
moved-signed : (key : HssKey) (at g n q : ℕ) (given above : List KeptLevel) (last moved : KeptLevel)
    → IsLast key at g n q given above last → IsMoved last q moved
    → (k : ℕ) (other : KeptLevel) → k < n + 1
    → (get_or (above ++ moved ∷ []) k other).signed ≡ (get_or given k other).signed
moved-signed key at g n q given above last moved is to k other low =
    one-more (λ k level. (d : KeptLevel) → level.signed ≡ (get_or given k d).signed) n above moved is.count
    (λ k other low d. ap (λ (level : KeptLevel). level.signed) (is.above_given k other low
    ∙ get_or_default given k other d (omega (arith, is.within, low))))
    (λ d. to.signed ∙ ap (λ (level : KeptLevel). level.signed) (is.is_last d)) k other low other

-- what is signed below them are own keys
signs-no-other : (given way : Way) (g n q : ℕ) (above after : List KeptLevel) (last moved : KeptLevel)
    → IsLast (hss_key_of given.key) given.at g n q given.levels above last → IsMoved last q moved
    → after ≡ above ++ moved ∷ []
    → way.key ≡ given.key → way.at ≡ g
    → ((k : ℕ) (other : KeptLevel) → k < length after → get_or way.levels k other ≡ get_or after k other)
    → SignOwnKeys (hss_key_of given.key) g (length after) way.levels → SignsNoOther given way
signs-no-other given way g n q above after last moved is to more key at same signs k other low =
    let count = moved-count (hss_key_of given.key) given.at g n q given.levels above after last moved is more in
    ⊎_elim
    (λ lt. inl (record {
      there = omega (arith, is.within);
      tree = subst₂ (λ key g. tree_number (hss_key_of key) g k ≡ tree_number (hss_key_of key) given.at k) (sym key)
          (sym at) (sym (is.same k lt));
      signed = λ other.
          ap (λ (level : KeptLevel). level.signed.items)
          (same k other (omega (arith, count, lt)) ∙ ap (λ levels. get_or levels k other) more)
          ∙ ap (λ v. v.items)
          (moved-signed (hss_key_of given.key) given.at g n q given.levels above last moved is to k other lt);
    }))
    (λ le. let next : (k - 1) + 1 ≡ k = omega (arith, le) in
    inr (
      omega (arith, le),
      subst₂ (λ key g. SignsOwnKey (hss_key_of key) g (k - 1) (get_or way.levels k other)) (sym key) (sym at)
          (subst (λ m. SignsOwnKey (hss_key_of given.key) g (k - 1) (get_or way.levels m other)) next
          (signs (k - 1) other (omega (arith, count, le)) (omega (arith, le, low)))),
    ))
    (cases_lt k (n + 1))

-- the last of some levels that were cut off
cut-last : (s n : ℕ) (given cut above : List KeptLevel) (last : KeptLevel) → cut ≡ take s given
    → cut ≡ above ++ last ∷ [] → s ≤ length given → n + 1 ≡ s
    → (length above ≡ n) × ((k : ℕ) (other : KeptLevel) → k < n → get_or above k other ≡ get_or given k other)
    × ((other : KeptLevel) → last ≡ get_or given n other)
cut-last s n given cut above last taken parts most next =
    let whole : above ++ last ∷ [] ≡ take s given = sym parts ∙ taken in
    let count : length above ≡ n
    = omega (arith, next, ap length whole, length-append above (last ∷ []), length-take-le s given most) in (
      count,
      λ k other low.
          sym (get_or_append_left above (last ∷ []) other k (omega (arith, low, count)))
          ∙ (ap (λ levels. get_or levels k other) whole ∙ get_or-take s given k other (omega (arith, low, next))),
      λ other.
          sym (get_or-append_seam above last [] other)
          ∙ (ap (λ i. get_or (above ++ last ∷ []) i other) count
          ∙ (ap (λ levels. get_or levels n other) whole ∙ get_or-take s given n other (omega (arith, next)))),
    )

-- what it goes on to
moved-is : (last : KeptLevel) (q : ℕ) (r : Option KeptLevel) (moved : KeptLevel) → r ≡ Some moved
    → IfSome r (IsMoved last q) → IsMoved last q moved
moved-is last q r moved e is = subst (λ r. IfSome r (IsMoved last q)) e is

-- the one that was taken off is that
last-of : (g : Over) (c : After-leaf_of-leaf g)
    → IsLast (hss_key_of c.self.inside.key) c.self.inside.at c.args.g (c.min-shared.result - 1) c.leaf_of-leaf.result
    c.self.inside.levels.items c.pop.new.self.items c.in-Some.last
last-of g c =
    let key = c.self.inside.key in
    let given = c.self.inside.levels.items in
    let s = c.min-shared.result in
    let some : 1 ≤ s =
    omega (arith, c.min-shared.ensures, c.shared_levels.ensures.some, c.len.ensures, c.self.invariant.some) in
    let most : s ≤ length given = omega (arith, c.min-shared.ensures, c.len.ensures) in
    let shared : s ≤ c.shared_levels.result = omega (arith, c.min-shared.ensures) in
    let parts = cut-last s (s - 1) given c.truncate.new.self.items c.pop.new.self.items c.in-Some.last
    c.truncate.ensures.items c.in-Some.ensures.items most
    (omega (arith, some)) in
    record {
      there = omega (arith, some, c.shared_levels.ensures.at_most, shared, levels-count key);
      within = omega (arith, some, most);
      same = λ k below. c.shared_levels.ensures.same k (omega (arith, below, shared, some));
      each = c.self.invariant.each;
      count = parts.0;
      above_given = parts.1;
      is_last = parts.2;
      leaf = c.leaf_of-leaf.ensures;
    }

pub moved_to-requires-clause-leaf : goal.moved_to-requires-clause-leaf
moved_to-requires-clause-leaf g c κs within =
    leaf-there _ _ _ _ _ _ _ _ (last-of g (goal.at.moved_to-requires-clause-leaf g c).After-leaf_of-leaf)

pub returns-in_default-2-clause-refused : goal.returns-in_default-2-clause-refused
returns-in_default-2-clause-refused g c genuine =
    let is = last-of g (goal.at.returns-in_default-2-clause-refused g c).After-leaf_of-leaf in
    let all : AreGenuine
    (record { key = c.self.inside.key; at = c.self.inside.at; levels = c.self.inside.levels.items })
    = subst AreGenuine (sym c.self.view_is) genuine in
    let never = subst (λ r. IfNone r (¬ AreNodes c.in-Some.last.tree)) c.in_default-2.is c.in_ok-last.ensures.refused in
    never (last-nodes _ _ _ _ _ _ _ _ is all)

-- the list of levels, once the last of them went on
more-of : (g : Over) (c : After-leaf_of-leaf g) (reserved after : List KeptLevel) (moved : KeptLevel)
    → reserved ≡ c.pop.new.self.items → after ≡ reserved ++ moved ∷ [] → after ≡ c.pop.new.self.items ++ moved ∷ []
more-of g c reserved after moved same more = more ∙ ap (λ levels. levels ++ moved ∷ []) same

pub completed-requires-clause-way : goal.completed-requires-clause-way
completed-requires-clause-way g c κs within =
    let at = (goal.at.completed-requires-clause-way g c).After-leaf_of-leaf in
    let is = last-of g at in
    let to = moved-is _ _ _ _ c.in-Some-2.is c.in_ok-last.ensures.moved in
    let more = more-of g at _ c.push_reserved.new.self.items _ c.reserve.ensures.items c.push_reserved.ensures.items in
    let count = moved-count _ _ _ _ _ _ _ c.push_reserved.new.self.items _ _ is more in
    record {
      id_length = c.self.invariant.id_length;
      within = subst (λ key. c.args.g < capacity_of (hss_key_of key))
          (sym (ap (λ (v : Way). v.key) c.self.view_is)) c.requires;
      some = omega (arith, count);
      at_most = omega (arith, count, is.there, levels-count c.self.inside.key);
      each = moved-each _ _ _ _ _ _ _ c.push_reserved.new.self.items _ _ is to more;
      admitted = c.self.invariant.admitted;
    }

pub completed-requires-clause-planned : goal.completed-requires-clause-planned
completed-requires-clause-planned g c κs within =
    let at = (goal.at.completed-requires-clause-planned g c).After-leaf_of-leaf in
    let is = last-of g at in
    let more = more-of g at _ c.push_reserved.new.self.items _ c.reserve.ensures.items c.push_reserved.ensures.items in
    let count = moved-count _ _ _ _ _ _ _ c.push_reserved.new.self.items _ _ is more in
    let some : 1 ≤ c.min-shared.result
    = omega (arith, c.min-shared.ensures, c.shared_levels.ensures.some, c.len.ensures, c.self.invariant.some) in
    let all : length c.push_reserved.new.self.items ≡ c.min-shared.result = omega (arith, count, some) in
    subst (λ n. ArePlanned (hss_key_of c.self.inside.key) c.args.g n c.in_ok-below.below.items)
    (sym all) c.in_ok-below.ensures

pub returns-clause-signs : goal.returns-clause-signs
returns-clause-signs g c =
    let trees = c.completed.result in
    let given : Way = record { key = c.self.inside.key; at = c.self.inside.at; levels = c.self.inside.levels.items } in
    let at = (goal.at.returns-clause-signs g c).After-leaf_of-leaf in
    let is = last-of g at in
    let to = moved-is _ _ _ _ c.in-Some-2.is c.in_ok-last.ensures.moved in
    let more = more-of g at _ c.push_reserved.new.self.items _ c.reserve.ensures.items c.push_reserved.ensures.items in
    subst (λ (given : Way). SignsNoOther given trees) c.self.view_is
    (signs-no-other given trees c.args.g _ _ _ c.push_reserved.new.self.items _ _ is to more c.completed.ensures.key
    c.completed.ensures.at c.completed.ensures.same c.completed.ensures.signs)

pub returns-clause-genuine : goal.returns-clause-genuine
returns-clause-genuine g c genuine =
    let at = (goal.at.returns-clause-genuine g c).After-leaf_of-leaf in
    let is = last-of g at in
    let to = moved-is _ _ _ _ c.in-Some-2.is c.in_ok-last.ensures.moved in
    let more = more-of g at _ c.push_reserved.new.self.items _ c.reserve.ensures.items c.push_reserved.ensures.items in
    let all : AreGenuine
    (record { key = c.self.inside.key; at = c.self.inside.at; levels = c.self.inside.levels.items })
    = subst AreGenuine (sym c.self.view_is) genuine in
    c.completed.ensures.genuine (moved-genuine-each _ _ _ _ _ _ _ c.push_reserved.new.self.items _ _ is to more all)
