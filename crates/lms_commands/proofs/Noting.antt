-- The call by which a witness is written.
use Rattle.std.proofs.Common.{◌≡◌, ◌+◌, ◌-◌, ◌≤◌, ℕ, zero, suc, List, ◌∷◌, ◌++◌, Some, Err, ◌∙◌, ap}
use Rattle.std.proofs.Common.{arith}
use Rattle.std.specs.Prelude.{◌⊎◌}
use Rattle.lms_texts.specs.Witnesses.{witness_text}
use Rattle.lms_world.specs.Events.{WitnessWritten, Writing}
use Rattle.lms_world.specs.declared.fault.WorldFault.{WorldFault}
use Rattle.lms_commands.specs.Logs.{WorldCalls}
use Rattle.lms_commands.specs.Watching.{FailsToNote, notes}
use Rattle.lms_commands.specs.declared.fault.Fault.{Fault}
use Rattle.lms_commands.specs.declared.fault.Fault.TheVariants.{WriteWitnessBurnt}

pub notes_some : (n : ℕ) (text id : List ℕ) (start : ℕ) (answer : Writing) (log new : WorldCalls) → 1 ≤ n
    → new ≡ WitnessWritten (witness_text id (start + n)) answer ∷ log
    → new ≡ notes n (Some text) id start answer ++ log
notes_some zero text id start answer log new some is = absurd (omega (arith, some))
notes_some (suc n) text id start answer log new some is = is

-- no call is made, or it fails
pub not_noted : (n : ℕ) (text id : List ℕ) (start : ℕ) (fault : Fault) (log new : WorldCalls) → 1 ≤ n
    → fault ≡ WriteWitnessBurnt start (start + (n - 1))
    → (new ≡ log) ⊎ ((cause : WorldFault) × (new ≡ WitnessWritten (witness_text id (start + n)) (Err cause) ∷ log))
    → FailsToNote n (Some text) id start fault log new
not_noted zero text id start fault log new some at is = absurd (omega (arith, some))
not_noted (suc n) text id start fault log new some at is =
    (at ∙ ap (λ (m : ℕ). WriteWitnessBurnt start (start + m)) (omega arith), is)
