use Rattle.lms_slow.proofs.digits.+lacking.Given as goal

abbrev pub decreases-lacking : goal.decreases-lacking
decreases-lacking l = l.count
