use Rattle.std.proofs.Common.{◌≡◌, ◌+◌, ◌*◌, ◌/◌, ◌^◌, map, take}
use Rattle.std.specs.List.{concat}
use Rattle.lms_spec.specs.Bytes.{below}
use Rattle.lms_spec.specs.Tree.{node, sibling}
use Rattle.lms_tree.specs.TreeKey.{tree_of}
use Rattle.lms_tree.proofs.signing.write_path.Given as goal

abbrev pub invariant-loop-level : goal.invariant-loop-level
invariant-loop-level g l =
    let tree = tree_of (g.N.NodeSource.tree_key l.source) in
    g.N.NodeSource.are_nodes l.source → take (32 * l.level) l.out
    ≡ concat (map (λ level. node tree (sibling ((2 ^ tree.lms.h + l.q) / 2 ^ level))) (below l.level))
