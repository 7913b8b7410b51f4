use Rattle.std.proofs.Common.{subst}
use Rattle.lms_hss.specs.Keys.{hss_key_of}
use Rattle.lms_hss.specs.Forests.{AreLeaves}
use Rattle.lms_hss.proofs.Numbered.{moved-serves, numbered-height}
use Rattle.lms_hss.proofs.level_trees.moved.Goals as goal

pub moved_to-requires-after_bounds : goal.moved_to-requires-after_bounds
moved_to-requires-after_bounds g c κs within =
    let key = hss_key_of c.args.key.now in
    subst (λ h. AreLeaves h c.leaves-leaves.result)
    (numbered-height key c.args.k c.args.number c.args.start c.args.last c.args.tree c.requires.order c.requires.from
    c.requires.to c.requires.numbered) c.leaves-leaves.ensures.served

pub returns : goal.returns
returns g c =
    moved-serves (hss_key_of c.args.key.now) c.args.k c.args.number c.args.start c.args.last c.leaves-leaves.result
    c.args.tree c.in_ok-tree.tree c.requires.numbered c.leaves-leaves.ensures c.in_ok-tree.ensures
