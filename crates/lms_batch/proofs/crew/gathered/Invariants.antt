use Rattle.std.proofs.Common.{◌≡◌}
use Rattle.lms_batch.proofs.crew.gathered.Given as goal

abbrev pub invariant-loop-worker : goal.invariant-loop-worker
invariant-loop-worker l = (l.collector.key ≡ l.fn.collector.key) × (l.collector.start ≡ l.fn.collector.start)
    × (l.collector.jobs ≡ l.fn.collector.jobs)

abbrev pub invariant-loop-receipt : goal.invariant-loop-receipt
invariant-loop-receipt l = (l.collector.key ≡ l.fn.collector.key) × (l.collector.start ≡ l.fn.collector.start)
    × (l.collector.jobs ≡ l.fn.collector.jobs)
