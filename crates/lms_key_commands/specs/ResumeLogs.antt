-- The calls that `resume` makes on its world: it uses up the indices that a state counts as unused and its
-- witness as used, and signs nothing.
use Rattle.std.specs.Prelude.{◌≡◌, ◌≢◌, ◌⊎◌, ◌+◌, ◌-◌, ◌<◌, ◌≤◌, ℕ, List, [], ◌∷◌, ◌++◌, Some, None, Ok, codes}
use Rattle.std.specs.Prelude.{decimal}
use Rattle.lms_spec.specs.Hss.{capacity_of}
use Rattle.lms_hss.specs.Keys.{hss_key_of}
use Rattle.lms_book.specs.Stops.{StoreView, FailsToWrite}
use Rattle.lms_blocks.specs.Writing.{AppendsFront}
use Rattle.lms_world.specs.Names.{Bytes}
use Rattle.lms_world.specs.Events.{Acquired, Locked, Printing, PutBack, Taken, Taking, Unlocked, WitnessRead, after}
use Rattle.lms_commands.specs.Logs.{IsLockRefused, KeyState, LeavesState, LogsUnopened, ReadsState, WorldCalls}
use Rattle.lms_commands.specs.Logs.{StoresUpTo, image_below, lock_answer, used_after}
use Rattle.lms_commands.specs.Watching.{LogsUnseen, Says}
use Rattle.lms_commands.specs.declared.fault.Fault.{Fault}
use Rattle.lms_commands.specs.declared.fault.Fault.TheVariants.{BadCounter, BadWitness, Exhausted, OtherCounter}
use Rattle.lms_commands.specs.declared.fault.Fault.TheVariants.{OutOfMemory, ReadWitness, StateNotOlder, WriteOutput}
use Rattle.lms_commands.specs.declared.fault.Fault.TheVariants.{WriteStateBurnt}
use Rattle.lms_key_commands.specs.WitnessLogs.{IsDecimal}

-- what `resume` says of the indices from one on and below another
abbrev pub burnt_text : ℕ → ℕ → List ℕ
burnt_text start end =
    codes "indices " ++ (decimal start ++ (codes " to " ++ (decimal (end - 1)
    ++ codes " burnt; right only if the witness is the newest")))

-- the line that it prints: that and LF
abbrev pub burnt_line : ℕ → ℕ → List ℕ
burnt_line start end = burnt_text start end ++ codes "\n"

-- the witness says that all indices of the state's key below this one are used, which are more than the
-- state counts, and the key has them
pub record IsOlder (end : ℕ) (state : KeyState) (text : List ℕ) : Type 0 where
  pub says : Says text state.key.i end
  pub more : state.index < end
  pub within : end ≤ capacity_of (hss_key_of state.key)

-- why a state is not resumed that was read, where this end is asked for: its witness is none of its key,
-- does not say more, says another end, or one that the key does not have
abbrev pub IsNotResumed : ℕ → List ℕ → KeyState → Fault → Type 0
IsNotResumed end text state fault =
    ((fault ≡ BadWitness) × ((counter : ℕ) → ¬ Says text state.key.i counter))
    ⊎ ((counter : ℕ) × Says text state.key.i counter
    × (((fault ≡ StateNotOlder) × (counter ≤ state.index))
    ⊎ (((fault ≡ OtherCounter counter) × (state.index < counter) × (counter ≢ end))
    ⊎ ((fault ≡ Exhausted (capacity_of (hss_key_of state.key) - state.index)) × (state.index < counter)
    × (counter ≡ end) × (capacity_of (hss_key_of state.key) < counter)))))

-- images are stored one after another, each for certain; the last of them, if there is one, counts up to this
-- end, and else the state does
abbrev pub CountsTo : ℕ → KeyState → StoreView → StoreView → Type 0
CountsTo end state read left =
    (ends : List ℕ) × (used_after state ends ≡ end) × StoresUpTo state ends read left

-- images are stored so up to an index below this end, and then memory runs out, or the next image is not stored for
-- certain
abbrev pub CountsInPart : ℕ → KeyState → Fault → StoreView → StoreView → Type 0
CountsInPart end state fault read left =
    (at : ℕ) × (mid : StoreView) × (at < end) × CountsTo at state read mid
    × (((fault ≡ OutOfMemory) × (left ≡ mid))
    ⊎ ((len : ℕ) × (fault ≡ WriteStateBurnt at len) × (1 ≤ len) × (at + len ≤ end)
    × FailsToWrite (image_below (at + len) state) mid left))

-- a witness is read, and then a state that is older; the store is taken out and put back as what is left
-- of it
pub record ReadsOlder (end : ℕ) (read : KeyState) (old new : WorldCalls) : Type 0 where
  pub text : List ℕ
  pub older : IsOlder end read text
  pub taken : Taking
  pub given : StoreView
  pub left : StoreView
  pub reads : ReadsState read taken.view given
  pub calls : new ≡ after (WitnessRead (Ok (Some text)) ∷ Taken (Some taken) ∷ PutBack left ∷ []) old

-- in the end it counts as many indices as the witness, for certain
abbrev pub BurnsBelow : ℕ → KeyState → WorldCalls → WorldCalls → Type 0
BurnsBelow end read old new = (is : ReadsOlder end read old new) × CountsTo end read is.given is.left

-- it does not, for certain: a fault came before
abbrev pub BurnsInPart : ℕ → Fault → WorldCalls → WorldCalls → Type 0
BurnsInPart end fault old new =
    (read : KeyState) × (is : ReadsOlder end read old new) × CountsInPart end read fault is.given is.left

-- nothing is stored: the witness can't be read, or is not there; or it is read, and then the state can't
-- be; or this is read, and not resumed
abbrev pub LeavesUnburnt : ℕ → Fault → WorldCalls → WorldCalls → Type 0
LeavesUnburnt end fault old new =
    LogsUnseen fault old new
    ⊎ (((fault ≡ ReadWitness) × (new ≡ after (WitnessRead (Ok None) ∷ []) old))
    ⊎ ((text : List ℕ) × (LogsUnopened fault (after (WitnessRead (Ok (Some text)) ∷ []) old) new
    ⊎ ((read : KeyState) × IsNotResumed end text read fault
    × LeavesState read (after (WitnessRead (Ok (Some text)) ∷ []) old) new))))

-- no index is burnt, or not all
abbrev pub LogsUnburnt : ℕ → Fault → WorldCalls → WorldCalls → Type 0
LogsUnburnt end fault old new = LeavesUnburnt end fault old new ⊎ BurnsInPart end fault old new

-- all are, and then an output begins to be printed to, where this was printed before
pub record BurnsToPrint (end : ℕ) (read : KeyState) (before : List ℕ) (old new : WorldCalls) : Type 0 where
  pub until_burnt : WorldCalls
  pub burns : BurnsBelow end read old until_burnt
  pub prints : new ≡ after (Printing before ∷ []) until_burnt

-- all calls of `resume`, from its lock on until that is handed back, where the text is that of the end; the
-- line on the indices is printed
abbrev pub LogsResume : Bytes → Bytes → List ℕ → List ℕ → WorldCalls → WorldCalls → Type 0
LogsResume state counter before printed old new =
    (end : ℕ) × IsDecimal counter end × (read : KeyState) × (last : WorldCalls)
    × BurnsToPrint end read before (after (Locked state Acquired ∷ []) old) last
    × (printed ≡ before ++ burnt_line read.index end) × (new ≡ after (Unlocked ∷ []) last)

-- why a state is not resumed under a lock, or this is not printed
abbrev pub LogsUnresumed : ℕ → List ℕ → List ℕ → Fault → WorldCalls → WorldCalls → Type 0
LogsUnresumed end before printed fault old new =
    (LogsUnburnt end fault old new × (printed ≡ before))
    ⊎ ((fault ≡ WriteOutput)
    × ((read : KeyState) × BurnsToPrint end read before old new
    × AppendsFront (Some before) (Some printed) (burnt_line read.index end)))

-- all calls of `resume`, where it fails: at a text that is no number's it makes none
abbrev pub LogsResumeFailed : Bytes → Bytes → List ℕ → List ℕ → Fault → WorldCalls → WorldCalls → Type 0
LogsResumeFailed state counter before printed fault old new =
    ((fault ≡ BadCounter) × ((number : ℕ) → ¬ IsDecimal counter number) × (new ≡ old) × (printed ≡ before))
    ⊎ ((end : ℕ) × IsDecimal counter end
    × ((IsLockRefused fault × (new ≡ after (Locked state (lock_answer fault) ∷ []) old) × (printed ≡ before))
    ⊎ ((last : WorldCalls)
    × LogsUnresumed end before printed fault (after (Locked state Acquired ∷ []) old) last
    × (new ≡ after (Unlocked ∷ []) last))))
