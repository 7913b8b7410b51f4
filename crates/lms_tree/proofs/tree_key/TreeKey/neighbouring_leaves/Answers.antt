use Rattle.std.proofs.Common.{◌≡◌, ◌∙◌, ◌+◌, ◌-◌, ◌^◌, ℕ, ap, sym, arith}
use Rattle.lms_spec.specs.Ots.{public_hash}
use Rattle.lms_spec.specs.Tree.{leaf_hash}
use Rattle.lms_spec.proofs.Nodes.{node-leaf}
use Rattle.lms_tree.specs.TreeKey.{tree_of}
use Rattle.lms_tree.proofs.tree_key.TreeKey.neighbouring_leaves.Goals as goal

pub returns-clause-values : goal.returns-clause-values
returns-clause-values c = λ k lt.
    let key = c.args.self.now in
    let tree = tree_of key in
    let r : ℕ = 2 ^ tree.lms.h + c.args.q + k in
    let back : c.args.q + k ≡ r - 2 ^ tree.lms.h = omega arith in
    c.lanes.invariant.done k (omega (arith, lt))
    ∙ ap (leaf_hash key.i r)
    (c.eight_public_hashes-ots_publics.ensures.hashes k lt ∙ ap (public_hash tree.ots key.i key.seed) back)
    ∙ sym (node-leaf tree r (omega arith))
