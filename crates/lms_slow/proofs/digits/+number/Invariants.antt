use Rattle.lms_slow.proofs.digits.+number.Given as goal

abbrev pub decreases-number : goal.decreases-number
decreases-number l = l.count
