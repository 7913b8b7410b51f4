use Rattle.lms_slow.proofs.tree.SlowTree.+chain.Given as goal

abbrev pub decreases-chain : goal.decreases-chain
decreases-chain l = l.steps
