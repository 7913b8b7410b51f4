-- What a run of the program comes to, from the arguments, the files and the states to the bytes
-- printed.
use Rattle.std.specs.Prelude.{ℕ, ◌≡◌, ◌≤◌, ◌<◌, ◌⊎◌, Bool, false, true, List, Option}
use Rattle.clap.specs.Words.{Text}
use Rattle.lms_commands.specs.Faults.{status_number}
use Rattle.lms_commands.specs.Logs.{WorldCalls}
use Rattle.lms_commands.specs.declared.status.Status.{Status}
use Rattle.lms_commands.specs.declared.status.Status.TheVariants as status
use Rattle.lms_world.specs.Held.{Follows, Memory}
use Rattle.lms_cli.specs.Deeds.{IsAsked}
use Rattle.lms_cli.specs.RunLogs.{LogsRun, TellsPlainly}

-- the arguments ask for `serve`
abbrev pub AsksToServe : List Text → Type 0
AsksToServe = IsAsked (λ may. may.serves)

-- the arguments ask for `batch` or `serve`
abbrev pub AsksToSignLines : List Text → Type 0
AsksToSignLines = IsAsked (λ may. may.signs_lines)

-- the arguments ask for a command that reads standard input: `batch` and `serve` do, and `keygen` where
-- its seed is there
abbrev pub AsksToRead : List Text → Type 0
AsksToRead = IsAsked (λ may. may.reads)

-- what a run of the program finds or leaves: what is known of the world and the calls on it; the
-- input and what is still to be read of it; what is printed to the output; standard error and
-- the text that it is known to have taken
pub record Setting (I E : Type 0) : Type 0 where
  pub memory : Memory
  pub calls : WorldCalls
  pub input : I
  pub remaining : Option (List ℕ)
  pub output : List ℕ
  pub errors : E
  pub error_text : Option (List ℕ)

abbrev pub setting : {I E : Type 0} → Memory → WorldCalls → I → Option (List ℕ) → List ℕ → E
    → Option (List ℕ) → Setting I E
setting memory calls input remaining output errors error_text =
    record {
      memory = memory;
      calls = calls;
      input = input;
      remaining = remaining;
      output = output;
      errors = errors;
      error_text = error_text;
    }

-- what a run of the program is, where somebody looks on or not: how it ends, all calls that it makes, and what stays
-- as it was
pub record Runs {I E : Type 0} (looked_on : Bool) (old new : Setting I E) (words : List Text)
    (end : Status) : Type 0 where
  pub logged : LogsRun words end old.remaining new.remaining old.output new.output
      old.error_text new.error_text old.calls new.calls
  pub follows : Follows old.memory old.calls new.memory new.calls
  pub plain : looked_on ≡ false → TellsPlainly end old.error_text new.error_text
  pub quiet : status_number end < 2 → (new.errors ≡ old.errors)
      ⊎ ((end ≡ status.Negative) × (AsksToSignLines words ⊎ (looked_on ≡ true)))
  pub silent : 2 ≤ status_number end → status_number end < 6
      → (new.output ≡ old.output) ⊎ AsksToServe words
  pub unread : (new.input ≡ old.input) ⊎ AsksToRead words
