use Rattle.std.proofs.Common.{◌≡◌, ◌≤◌, ◌++◌, take, vec_capacity}
use Rattle.lms_spec.specs.Bytes.{u32str}
use Rattle.lms_kept.specs.Ways.{bottom_of, signed_keys}
use Rattle.lms_kept.proofs.kept_trees.KeptTrees.signed_keys.Given as goal

abbrev pub invariant-loop-level : goal.invariant-loop-level
invariant-loop-level l = record {
  text : l.text.items ≡ u32str (bottom_of l.self.key) ++ signed_keys (take l.level-index l.level-items);
  room : vec_capacity l.fn.memory ≤ vec_capacity l.text;
}
