use Rattle.lms_batch.proofs.crew.gathered.Goals as goal

pub returns : goal.returns
returns c =
    let same = c.loop-worker.invariant in
    (c.loop-worker.collector.slots, rw (← same.0, ← same.1, ← same.2) c.finish.ensures)
