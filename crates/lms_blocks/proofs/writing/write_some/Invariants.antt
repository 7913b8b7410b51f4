use Rattle.std.specs.Io.KnownBytes.{Keeps}
use Rattle.lms_blocks.proofs.writing.write_some.Given as goal

abbrev pub invariant-loop-try : goal.invariant-loop-try
invariant-loop-try g l = Keeps (g.W.Write.contents l.initial.writer) (g.W.Write.contents l.writer)
