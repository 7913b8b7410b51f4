use Rattle.std.proofs.Common.{take}
use Rattle.std.specs.Io.KnownBytes.{Appends}
use Rattle.lms_inspect.specs.Texts.{keyed_lines}
use Rattle.lms_inspect.proofs.text.write_keyed.Given as goal

abbrev pub invariant-loop-keyed : goal.invariant-loop-keyed
invariant-loop-keyed g l =
    Appends (g.O.Write.contents l.initial.text) (g.O.Write.contents l.text)
    (keyed_lines (take l.keyed-index l.below))
