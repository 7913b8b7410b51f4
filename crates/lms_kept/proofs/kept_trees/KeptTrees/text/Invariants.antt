use Rattle.std.proofs.Common.{◌≡◌, ◌++◌, take}
use Rattle.std.specs.List.{flat_map}
use Rattle.lms_kept.specs.Ways.{level_text, nodes_header}
use Rattle.lms_kept.proofs.kept_trees.KeptTrees.text.Given as goal

abbrev pub invariant-loop-level : goal.invariant-loop-level
invariant-loop-level l = l.text.items ≡ nodes_header l.self.at ++ flat_map level_text (take l.level-index l.level-items)
