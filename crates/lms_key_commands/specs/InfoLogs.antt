-- The calls that `info` makes on its world: it writes nothing, and stores nothing.
use Rattle.std.specs.Prelude.{◌≡◌, ◌⊎◌, List, [], ◌∷◌, ◌++◌, ℕ, Some}
use Rattle.lms_blocks.specs.Writing.{AppendsFront}
use Rattle.lms_world.specs.Names.{Bytes}
use Rattle.lms_world.specs.Events.{Acquired, Locked, Unlocked, Printing, after}
use Rattle.lms_texts.specs.Descriptions.{info_text}
use Rattle.lms_commands.specs.Logs.{IsLockRefused, KeyState, LeavesState, WorldCalls, LogsUnopened}
use Rattle.lms_commands.specs.Logs.{lock_answer}
use Rattle.lms_commands.specs.declared.fault.Fault.{Fault}
use Rattle.lms_commands.specs.declared.fault.Fault.TheVariants.{WriteOutput}

-- what `info` prints of a state
abbrev pub info_of : KeyState → List ℕ
info_of read = info_text read.key read.index read.openings read.burnt

-- a state is read, and then an output begins to be printed to, where this was printed before
pub record ReadsToPrint (read : KeyState) (before : List ℕ) (old new : WorldCalls) : Type 0 where
  pub until_read : WorldCalls
  pub reads : LeavesState read old until_read
  pub prints : new ≡ after (Printing before ∷ []) until_read

-- all calls of `info`, from its lock on until that is handed back; the lines of the state that was
-- read are printed
abbrev pub LogsInfo : Bytes → List ℕ → List ℕ → WorldCalls → WorldCalls → Type 0
LogsInfo state before printed old new =
    (read : KeyState) × (last : WorldCalls)
    × ReadsToPrint read before (after (Locked state Acquired ∷ []) old) last
    × (printed ≡ before ++ info_of read) × (new ≡ after (Unlocked ∷ []) last)

-- why a state is not described under a lock: it is not opened, or a beginning at most of its lines
-- is printed
abbrev pub LogsUndescribed : List ℕ → List ℕ → Fault → WorldCalls → WorldCalls → Type 0
LogsUndescribed before printed fault old new = (LogsUnopened fault old new × (printed ≡ before))
    ⊎ ((fault ≡ WriteOutput)
    × ((read : KeyState) × ReadsToPrint read before old new
    × AppendsFront (Some before) (Some printed) (info_of read)))

-- all calls of `info` where it fails
abbrev pub LogsInfoFailed : Bytes → List ℕ → List ℕ → Fault → WorldCalls → WorldCalls → Type 0
LogsInfoFailed state before printed fault old new =
    (IsLockRefused fault × (new ≡ after (Locked state (lock_answer fault) ∷ []) old) × (printed ≡ before))
    ⊎ ((last : WorldCalls)
    × LogsUndescribed before printed fault (after (Locked state Acquired ∷ []) old) last
    × (new ≡ after (Unlocked ∷ []) last))
