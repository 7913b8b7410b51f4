-- What a run of the program leaves in a world in memory, by its calls.
use Rattle.std.specs.Prelude.{ℕ, ◌≡◌, ◌≤◌, ◌<◌, List, Option, Some}
use Rattle.clap.specs.Words.{Text}
use Rattle.lms_commands.specs.Faults.{status_number}
use Rattle.lms_commands.specs.InMemory.{OnlyFiles}
use Rattle.lms_commands.specs.Logs.{WorldCalls}
use Rattle.lms_commands.specs.declared.status.Status.{Status}
use Rattle.lms_world.specs.Held.{Follows, Held, answer_in}
use Rattle.lms_cli.specs.Deeds.{IsAsked}
use Rattle.lms_cli.specs.RunLogs.{LogsRun}

-- of a world in memory, at statuses 2 to 5 no file is changed
abbrev pub FilesStay : Type 0
FilesStay = (words : List Text) (end : Status) (input rest : Option (List ℕ))
    (before printed : List ℕ) (errors_before errors_after : Option (List ℕ)) (old new : Held)
    (earlier now : WorldCalls)
    → LogsRun words end input rest before printed errors_before errors_after earlier now
    → Follows (Some old) earlier (Some new) now
    → 2 ≤ status_number end → status_number end < 6 → new.files ≡ old.files

-- only what a command that the arguments ask for may change is changed: of files the one that it may write; without a
-- command that locks a state, nothing but files; and without one that writes a file either, nothing at all
pub record ChangesAsked (words : List Text) (old new : Held) : Type 0 where
  pub files : (name : Text) → ¬ IsAsked (λ may. may.writes name) words
      → answer_in new.files name ≡ answer_in old.files name
  pub state : ¬ IsAsked (λ may. may.stores) words → new.state ≡ old.state
  pub nodes : ¬ IsAsked (λ may. may.keeps) words → new.nodes ≡ old.nodes
  pub witness : ¬ IsAsked (λ may. may.watches) words → new.witness ≡ old.witness
  pub in_use : new.in_use ≡ old.in_use
  pub only : ¬ IsAsked (λ may. may.locks) words → OnlyFiles old new
  pub all : ¬ IsAsked (λ may. may.locks) words
      → ¬ IsAsked (λ may. (name : Text) × may.writes name) words → new ≡ old

-- of a world in memory, that is so of any run
abbrev pub ChangesAskedInMemory : Type 0
ChangesAskedInMemory = (words : List Text) (end : Status) (input rest : Option (List ℕ))
    (before printed : List ℕ) (errors_before errors_after : Option (List ℕ)) (old new : Held)
    (earlier now : WorldCalls)
    → LogsRun words end input rest before printed errors_before errors_after earlier now
    → Follows (Some old) earlier (Some new) now
    → ChangesAsked words old new
