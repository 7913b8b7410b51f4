use Rattle.lms_hss.proofs.level_trees.top_tree.Goals as goal

pub returns-in_ok-tree-in-None : goal.returns-in_ok-tree-in-None
returns-in_ok-tree-in-None g c i from to at =
    c.in_ok-tree-in-None.ensures i (c.leaves-leaves.ensures.from i from at) (c.leaves-leaves.ensures.to i to at)
