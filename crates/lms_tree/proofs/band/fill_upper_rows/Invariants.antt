use Rattle.std.proofs.Common.{ℕ, ◌≡◌, ◌≤◌, length}
use Rattle.lms_tree.specs.Held.{nodes_in, row_of, HoldsRow}
use Rattle.lms_tree.proofs.band.fill_upper_rows.Given as goal

abbrev pub invariant-loop-level : goal.invariant-loop-level
invariant-loop-level l = record {
  down : l.level ≤ l.fn.rows.depth;
  count : length l.nodes ≡ nodes_in l.fn.rows;
  held : (level : ℕ) → l.level ≤ level → level ≤ l.fn.rows.depth → HoldsRow l.key (row_of l.fn.rows level) l.nodes;
}

abbrev pub decreases-loop-level : goal.decreases-loop-level
decreases-loop-level l = l.level
