-- That `serve` takes one turn at its state after another.
use Rattle.std.specs.Prelude.{◌≡◌, ℕ, List, [], Option, None}
use Rattle.lms_world.specs.Names.{Bytes}
use Rattle.lms_commands.specs.Histories.{AreLinked, ArePrinted, AreWholeTurns, TakenTurn, turn_signatures, whole_calls}
use Rattle.lms_commands.specs.Logs.{WorldCalls}
use Rattle.lms_batch_commands.specs.Serving.{LogsServe, LogsServeFailed}
use Rattle.lms_commands.specs.declared.fault.Fault.{Fault}

-- these calls are those of turns, one after another, each of which reads what was stored last before,
-- if anything was; and what is printed is a beginning of the lines of their signatures
abbrev pub PrintsInTurns : List ℕ → List ℕ → WorldCalls → Type 0
PrintsInTurns before printed whole =
    (turns : List TakenTurn) × (whole_calls turns ≡ whole) × AreWholeTurns turns × AreLinked None turns
    × ArePrinted (turn_signatures turns) whole before printed

abbrev pub ServesInTurns : Type 0
ServesInTurns = (state workers : Bytes) (input rest : Option (List ℕ)) (before printed : List ℕ)
    (whole : WorldCalls) → LogsServe state workers input rest before printed [] whole
    → PrintsInTurns before printed whole

abbrev pub FailsInTurns : Type 0
FailsInTurns = (state workers : Bytes) (input rest : Option (List ℕ)) (before printed : List ℕ)
    (fault : Fault) (whole : WorldCalls)
    → LogsServeFailed state workers input rest before printed fault [] whole
    → PrintsInTurns before printed whole
