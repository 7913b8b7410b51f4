-- Which rows of a tree are held, where a range of its leaves is served.
use Rattle.std.specs.Prelude.{ℕ, ◌≡◌, ◌+◌, ◌-◌, ◌*◌, ◌/◌, ◌^◌, ◌<◌, ◌≤◌, ◌==◌, ◌&&◌, if◌then◌else◌, List, length, min}
use Rattle.lms_tree.specs.declared.tree_key.TreeKey.{TreeKey}
use Rattle.lms_tree.specs.declared.band.Rows.{Rows}
use Rattle.lms_tree.specs.TreeKey.{tree_of}
use Rattle.lms_tree.specs.Held.{RowsOf, nodes_in}

-- what contracts see of a `BandTree` and of a `PlannedTree`: a key, and the first and the last of the
-- leaves that are served
pub record ServedLeaves : Type 0 where
  pub key : TreeKey
  pub first : ℕ
  pub last : ℕ

-- the root, and all nodes below it in so many more rows
abbrev pub root_rows : ℕ → Rows
root_rows depth = record { first = 1; width = 1; depth = depth }

-- the most leaves that are served, so that two bottom subtrees at most hold them
abbrev pub most_served : ℕ
most_served = 1024

-- the greatest height of a bottom subtree
abbrev pub tallest_subtree : ℕ
tallest_subtree = 10

-- the height of the bottom subtrees of a tree of height h
abbrev pub bottom_height : ℕ → ℕ
bottom_height h = min h tallest_subtree

-- the number of bottom subtrees that hold the leaves from `first` to `last`
abbrev pub subtrees : ℕ → ℕ → ℕ → ℕ
subtrees h first last = last / 2 ^ bottom_height h - first / 2 ^ bottom_height h + 1

-- all rows of the bottom subtrees that hold the leaves from `first` to `last`
abbrev pub lower_rows : ℕ → ℕ → ℕ → Rows
lower_rows h first last = record {
  first = 2 ^ (h - bottom_height h) + first / 2 ^ bottom_height h;
  width = subtrees h first last;
  depth = bottom_height h;
}

-- how many leaves are computed so that those from `first` to `last` are served, after those from
-- `old_first` to `old_last`: none where the first ones are in one bottom subtree, and the last ones
-- too, else all leaves of the bottom subtrees that hold the new ones
abbrev pub moved_leaves : ℕ → ℕ → ℕ → ℕ → ℕ → ℕ
moved_leaves h old_first old_last first last =
    if (first / 2 ^ bottom_height h == old_first / 2 ^ bottom_height h)
    && (last / 2 ^ bottom_height h == old_last / 2 ^ bottom_height h)
    then 0 else subtrees h first last * 2 ^ bottom_height h

-- the number of nodes that are held: the nodes from the root down to the roots of the bottom
-- subtrees, and all nodes of each subtree that holds one of the leaves
abbrev pub kept_nodes : ℕ → ℕ → ℕ → ℕ
kept_nodes h first last =
    2 ^ (h - bottom_height h + 1) - 1 + subtrees h first last * (2 ^ (bottom_height h + 1) - 1)

-- the most nodes that are held: those of a tree of height 25 where two of its bottom subtrees hold
-- the leaves
abbrev pub most_kept : ℕ
most_kept = 69629

-- the most nodes that are held of a tree of height 20 or less
abbrev pub most_kept_of_20 : ℕ
most_kept_of_20 = 6141

-- a `BandTree` can serve the leaves from `first` to `last`
pub record CanServe (key : TreeKey) (first last : ℕ) : Type 0 where
  pub order : first ≤ last
  pub in_tree : last < 2 ^ (tree_of key).lms.h
  pub at_most : last - first < most_served

-- a `BandTree` can serve the leaves from `first` to `last`, and both lists have as many places for
-- nodes as that takes
pub record HasRoom (key : TreeKey) (first last : ℕ) (upper lower : List (List ℕ)) : Type 0 where
  pub can : CanServe key first last
  pub upper_count : length upper
      ≡ nodes_in (root_rows ((tree_of key).lms.h - bottom_height (tree_of key).lms.h))
  pub lower_count : length lower ≡ nodes_in (lower_rows (tree_of key).lms.h first last)

-- these two bands are what serves the leaves from `first` to `last`
pub record HoldsBands (first last : ℕ) (upper lower : RowsOf) : Type 0 where
  pub order : first ≤ last
  pub in_tree : last < 2 ^ (tree_of upper.key).lms.h
  pub at_most : last - first < most_served
  pub upper_rows : upper.rows
      ≡ root_rows ((tree_of upper.key).lms.h - bottom_height (tree_of upper.key).lms.h)
  pub lower_key : lower.key ≡ upper.key
  pub lower_rows_are : lower.rows ≡ lower_rows (tree_of upper.key).lms.h first last
