-- What `verify` hands out.
use Rattle.std.specs.Prelude.{◌≡◌, ◌⊎◌, ℕ, List, []}
use Rattle.lms_signature_commands.specs.Verdicts.{line_of}
use Rattle.lms_signature_commands.specs.declared.verdict.Verdict.{Verdict}
use Rattle.lms_commands.specs.Logs.{WorldCalls}
use Rattle.lms_commands.specs.Histories.{Prints, written_in}

-- no file is written, and at most a verdict is printed
abbrev pub HandsVerdict : WorldCalls → List ℕ → List ℕ → Type 0
HandsVerdict whole before printed =
    (written_in whole ≡ [])
    × ((printed ≡ before) ⊎ ((verdict : Verdict) × Prints before printed (line_of verdict)))
