use Rattle.std.proofs.Common.{◌≡◌, ◌≤◌, ◌+◌, ◌*◌, List, ℕ, length}
use Rattle.lms_batch.specs.Jobs.{most_jobs}
use Rattle.lms_lines.specs.TextLines.{lines_of}
use Rattle.lms_batch_commands.specs.Serving.{AnswersPieces, due_of, whole_text}
use Rattle.lms_world.specs.Held.{Follows}
use Rattle.lms_batch_commands.proofs.serve.serve_locked.Given as goal

abbrev pub invariant-loop-group : goal.invariant-loop-group
invariant-loop-group g l = (texts : List (List ℕ))
    × AnswersPieces (g.I.Read.remaining l.fn.input) (g.I.Read.remaining l.input) texts l.pieces (due_of l.ongoing.due)
    l.fn.output l.output (g.W.World.events l.fn.world) (g.W.World.events l.world)
    × (l.before ≡ length (lines_of (whole_text texts)))
    × (l.before ≤ l._group * most_jobs)
    × (l._group + 1 ≤ length texts)
    × Follows (g.W.World.memory l.fn.world) (g.W.World.events l.fn.world)
    (g.W.World.memory l.world) (g.W.World.events l.world)
