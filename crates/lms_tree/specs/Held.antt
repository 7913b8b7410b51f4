-- Rows of nodes of a tree, in one list.
use Rattle.std.specs.Prelude.{ℕ, ◌≡◌, ◌+◌, ◌-◌, ◌*◌, ◌^◌, ◌<◌, ◌≤◌, List, [], length}
use Rattle.std.specs.List.{slice_index_or}
use Rattle.lms_spec.specs.Tree.{node}
use Rattle.lms_tree.specs.declared.tree_key.TreeKey.{TreeKey}
use Rattle.lms_tree.specs.declared.band.Row.{Row}
use Rattle.lms_tree.specs.declared.band.Rows.{Rows}
use Rattle.lms_tree.specs.TreeKey.{tree_of}

-- what contracts see of a `Band`: the key of a tree, and rows of it
pub record RowsOf : Type 0 where
  pub key : TreeKey
  pub rows : Rows

-- rows of a tree of height h
pub record AreInTree (h : ℕ) (rows : Rows) : Type 0 where
  pub from_root : 1 ≤ rows.first
  pub some : 1 ≤ rows.width
  pub to_leaves : (rows.first + rows.width) * 2 ^ rows.depth ≤ 2 * 2 ^ h

-- row `level`, counted from the top; its place is after all rows above it
abbrev pub row_of : Rows → ℕ → Row
row_of rows level = record {
  first = rows.first * 2 ^ level;
  count = rows.width * 2 ^ level;
  place = rows.width * 2 ^ level - rows.width;
}

-- the row below another; its place is after that one
abbrev pub row_below : Row → Row
row_below row =
    record { first = 2 * row.first; count = 2 * row.count; place = row.place + row.count }

-- the number of nodes of all rows
abbrev pub nodes_in : Rows → ℕ
nodes_in rows = rows.width * (2 ^ (rows.depth + 1) - 1)

-- the nodes of a row are at their places
abbrev pub HoldsRow : TreeKey → Row → List (List ℕ) → Type 0
HoldsRow key row nodes =
    (i : ℕ) → i < row.count
    → slice_index_or nodes (row.place + i) [] ≡ node (tree_of key) (row.first + i)

-- so many nodes side by side are the tree's, from node `first` on
abbrev pub AreNodesFrom : TreeKey → ℕ → ℕ → List (List ℕ) → Type 0
AreNodesFrom key first count nodes =
    (i : ℕ) → i < count → slice_index_or nodes i [] ≡ node (tree_of key) (first + i)

-- all nodes of all rows, each at its place
pub record HoldsRows (key : TreeKey) (rows : Rows) (nodes : List (List ℕ)) : Type 0 where
  pub in_tree : AreInTree (tree_of key).lms.h rows
  pub count : length nodes ≡ nodes_in rows
  pub each : (level : ℕ) → level ≤ rows.depth → HoldsRow key (row_of rows level) nodes
