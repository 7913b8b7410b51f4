use Rattle.std.proofs.Common.{◌≡◌, ◌-◌, ◌≤◌, length, take}
use Rattle.lms_lines.specs.Pieces.{EndsLine}
use Rattle.lms_lines.specs.TextLines.{lines_of}
use Rattle.lms_lines.proofs.pieces.end_of_lines.Given as goal

abbrev pub invariant-loop-lines : goal.invariant-loop-lines
invariant-loop-lines l = (l.end ≤ length l.bytes) × (l.lines ≤ l.most)
    × (l.lines ≡ length (lines_of (take l.end l.bytes)))
    × (1 ≤ l.lines → EndsLine (take l.end l.bytes))
    × (l.lines ≡ 0 → l.end ≡ 0)

abbrev pub decreases-loop-lines : goal.decreases-loop-lines
decreases-loop-lines l = l.most - l.lines
