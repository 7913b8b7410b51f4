use Rattle.std.proofs.Common.{◌≡◌, ◌+◌, ◌-◌, ◌^◌, ◌∙◌, sym, ap, ap₂, arith}
use Rattle.lms_spec.specs.Ots.{public_hash}
use Rattle.lms_spec.specs.Tree.{leaf_hash}
use Rattle.lms_spec.proofs.Nodes.{node-leaf}
use Rattle.lms_tree.specs.TreeKey.{tree_of}
use Rattle.lms_tree.proofs.tree_key.TreeKey.leaf.Goals as goal

pub returns : goal.returns
returns c =
    let key = c.args.self.now in
    let tree = tree_of key in
    let q = c.args.q in
    let r = 2 ^ tree.lms.h + q in
    let number : c.leaf_count.result + q ≡ r = omega (arith, c.leaf_count.ensures.count) in
    let back : q ≡ r - 2 ^ tree.lms.h = omega arith in
    c.leaf_hash.ensures
    ∙ (ap₂ (λ r k.
    leaf_hash key.i r k) number (c.public_hash-ots_public.ensures ∙ ap (public_hash tree.ots key.i key.seed) back)
    ∙ sym (node-leaf tree r (omega arith)))
