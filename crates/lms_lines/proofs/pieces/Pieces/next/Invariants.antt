use Rattle.std.proofs.Common.{◌≡◌, ◌≤◌, ◌+◌, List, ℕ, ◌++◌, length}
use Rattle.std.specs.Io.KnownBytes.{Consumes}
use Rattle.lms_lines.specs.JobLines.{longest_line}
use Rattle.lms_lines.proofs.pieces.Pieces.next.Given as goal

abbrev pub invariant-loop-turn : goal.invariant-loop-turn
invariant-loop-turn g l = (read : List ℕ)
    × Consumes (g.R.Read.remaining l.fn.reader) (g.R.Read.remaining l.reader) read
    × (l.self ≡ l.fn.self ++ read)
    × (l._turn ≤ length l.self) × (l._turn ≤ longest_line + 1)
