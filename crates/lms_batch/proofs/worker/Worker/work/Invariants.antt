use Rattle.lms_batch.proofs.worker.Worker.work.Given as goal

abbrev pub decreases-loop-self : goal.decreases-loop-self
decreases-loop-self g l = l.self.to_sign
