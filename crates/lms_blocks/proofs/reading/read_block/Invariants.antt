use Rattle.std.specs.Io.KnownBytes.{Keeps}
use Rattle.lms_blocks.proofs.reading.read_block.Given as goal

abbrev pub invariant-loop-try : goal.invariant-loop-try
invariant-loop-try g l = Keeps (g.R.Read.remaining l.initial.reader) (g.R.Read.remaining l.reader)
