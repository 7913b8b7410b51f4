use Rattle.std.proofs.Common.{◌∙◌, ap₂}
use Rattle.lms_spec.specs.Tree.{lms_public_key, public_key_of}
use Rattle.lms_tree.specs.TreeKey.{tree_of}
use Rattle.lms_tree.proofs.signing.public_bytes.Goals as goal

pub returns : goal.returns
unfolding public_key_of
returns g c right =
    c.public_key_bytes.ensures
    ∙ ap₂ (λ key root. lms_public_key (tree_of key).lms (tree_of key).ots key.i root)
    c.key-key.ensures.key (c.node.ensures right)
