-- What `inspect` hands out.
use Rattle.std.specs.Prelude.{ℕ, ◌≡◌, ◌⊎◌, List, [], Option}
use Rattle.lms_commands.specs.Logs.{WorldCalls}
use Rattle.lms_commands.specs.Histories.{Prints, written_in}
use Rattle.lms_inspect.specs.Found.{IsFound}
use Rattle.lms_inspect.specs.Texts.{found_text}
use Rattle.lms_inspect.specs.declared.found.Found.{Found}

-- no file is written, and at most what bytes are is printed
abbrev pub HandsDescription : WorldCalls → List ℕ → List ℕ → Type 0
HandsDescription whole before printed =
    (written_in whole ≡ [])
    × ((printed ≡ before)
    ⊎ ((bytes : List ℕ) × (found : Found) × (witness : Option ℕ) × IsFound found bytes
    × Prints before printed (found_text found bytes witness)))
