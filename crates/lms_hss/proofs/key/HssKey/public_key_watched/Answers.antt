use Rattle.std.proofs.Common.{◌∙◌, ap}
use Rattle.lms_tree.specs.Bands.{ServedLeaves}
use Rattle.lms_tree.specs.TreeKey.{tree_of}
use Rattle.lms_hss.proofs.key.HssKey.public_key_watched.Goals as goal

pub public_key_over-requires : goal.public_key_over-requires
public_key_over-requires g c = ap (λ (t : ServedLeaves). tree_of t.key) c.in_ok-tree.ensures ∙ c.top_tree.ensures
