-- What `resume` hands out.
use Rattle.std.specs.Prelude.{◌≡◌, ◌⊎◌, ℕ, List, []}
use Rattle.lms_commands.specs.Logs.{WorldCalls}
use Rattle.lms_commands.specs.Histories.{Prints, written_in}
use Rattle.lms_key_commands.specs.ResumeLogs.{burnt_line}

-- no file is written, and at most the line on the indices that were burnt is printed
abbrev pub HandsResumed : WorldCalls → List ℕ → List ℕ → Type 0
HandsResumed whole before printed =
    (written_in whole ≡ [])
    × ((printed ≡ before) ⊎ ((start end : ℕ) × Prints before printed (burnt_line start end)))
