use Rattle.std.specs.Prelude.{ℕ, List}
use Rattle.std.specs.Io.KnownBytes.{Consumes}
use Rattle.lms_disk.proofs.contents.hand_blocks.Given as goal

abbrev pub invariant-loop-turn : goal.invariant-loop-turn
invariant-loop-turn g l = (bytes : List ℕ)
    × Consumes (g.F.Read.remaining l.fn.file) (g.F.Read.remaining l.file) bytes
    × g.T.Taker.after l.fn.taker bytes l.taker
