-- What a crash leaves of a state while `resume` burns indices.
use Rattle.std.specs.Prelude.{◌≡◌, ◌⊎◌, ◌<◌, ◌≤◌, ℕ, List}
use Rattle.lms_book.specs.Stops.{StoreView, LeavesWithin, MayLeave}
use Rattle.lms_commands.specs.Logs.{image_below}
use Rattle.lms_commands.specs.Logs.{KeyState}
use Rattle.lms_commands.specs.declared.fault.Fault.{Fault}
use Rattle.lms_key_commands.specs.ResumeLogs.{CountsInPart, CountsTo}

-- an image that counts some indices more than the state does, at most those below this end
abbrev pub CountsMore : ℕ → KeyState → List ℕ → Type 0
CountsMore end state text = (at : ℕ) × (state.index < at) × (at ≤ end) × (text ≡ image_below at state)

-- a crash at any moment while indices below an end are burnt, all or some, leaves what it could leave
-- before, or an image that counts some of them
abbrev pub ResumeLeavesNoOtherText : Type 0
ResumeLeavesNoOtherText = (end : ℕ) (state : KeyState) (fault : Fault) (read left : StoreView)
    → CountsTo end state read left ⊎ CountsInPart end state fault read left
    → (text : List ℕ) → LeavesWithin read left text → MayLeave read text ⊎ CountsMore end state text
