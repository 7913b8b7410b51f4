-- Runs of the program at one state, one after another, each perhaps cut off by a crash.
use Rattle.std.specs.Prelude.{◌≡◌, ◌⊎◌, ℕ, List, [], ◌∷◌, ◌++◌, length, AllPairs, None, Option}
use Rattle.clap.specs.Words.{Text}
use Rattle.lms_commands.specs.Expectations.{Expected, IsCarriedAlong}
use Rattle.lms_commands.specs.Histories.{AreCutTurns, AreLinked, IsBeginning, IsEarlier, Signature, TakenTurn}
use Rattle.lms_commands.specs.Histories.{all_left, begun_calls, turn_signatures, whole_calls}
use Rattle.lms_commands.specs.Logs.{WorldCalls}
use Rattle.lms_commands.specs.declared.status.Status.{Status}
use Rattle.lms_command_line.specs.Commands.{AreTakenAs, AsksForHelp}
use Rattle.lms_cli.specs.Deeds.{deed}
use Rattle.lms_cli.specs.RunLogs.{LogsRun}
use Rattle.lms_cli.specs.Runs.{AsksToServe}
use Rattle.lms_command_line.specs.declared.command.types.Command.{Command}

-- a run of the program: what it is handed and what comes of it, by the contract of `run` on its
-- calls; all calls that it would make, and those that it began before it ended or crashed
pub record ProgramRun : Type 0 where
  pub words : List Text
  pub end : Status
  pub input : Option (List ℕ)
  pub rest : Option (List ℕ)
  pub before : List ℕ
  pub printed : List ℕ
  pub errors_before : Option (List ℕ)
  pub errors_after : Option (List ℕ)
  pub whole : WorldCalls
  pub begun : WorldCalls
  pub logged : LogsRun words end input rest before printed errors_before errors_after [] whole
  pub first : IsBeginning begun whole

-- nothing is called, and nothing is printed but help; or what the arguments ask for hands out these
-- signatures
abbrev pub HandsOutAll : ProgramRun → List Signature → Type 0
HandsOutAll run signatures =
    ((run.whole ≡ []) × (signatures ≡ []) × (AsksForHelp run.words ⊎ (run.printed ≡ run.before)))
    ⊎ ((command : Command) × AreTakenAs run.words command
    × (deed command).hands signatures run.whole run.before run.printed)

-- a run takes these turns at its state, one after another: `serve` any number, and every other
-- command one
pub record TakesTurns (run : ProgramRun) (turns : List TakenTurn) : Type 0 where
  pub whole : whole_calls turns ≡ run.whole
  pub begun : begun_calls turns ≡ run.begun
  pub are_turns : AreCutTurns turns
  -- each turn reads what the run stored last, if it stored anything before
  pub linked : AreLinked None turns
  pub one : (length turns ≡ 1) ⊎ AsksToServe run.words
  pub hands : HandsOutAll run (turn_signatures turns)

-- each run takes its turns
abbrev pub TakeTurns : List ProgramRun → List (List TakenTurn) → Type 0
TakeTurns [] [] = Unit {0}
TakeTurns (run ∷ runs) (turns ∷ more) = TakesTurns run turns × TakeTurns runs more
TakeTurns [] (turns ∷ more) = ⊥
TakeTurns (run ∷ runs) [] = ⊥

-- the turns of all runs
abbrev pub all_turns : List (List TakenTurn) → List TakenTurn
all_turns [] = []
all_turns (turns ∷ more) = turns ++ all_turns more

-- runs of the program take turns at their state and its witness; and where these carry along what
-- both should be, no two signatures that left are by one index of a key. Of what a run finds the
-- first time that it uses indices, state and witness, one at least must be what it should be
abbrev pub NoIndexLeavesTwice : Type 0
NoIndexLeavesTwice = (runs : List ProgramRun)
    → (turns : List (List TakenTurn)) × TakeTurns runs turns
    × ((held : Expected) → IsCarriedAlong held (all_turns turns)
    → AllPairs IsEarlier (all_left (all_turns turns)))
