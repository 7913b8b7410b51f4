-- The calls that `serve` makes on its world: under one lock those of `batch`, for one group of lines
-- after another.
use Rattle.std.specs.Prelude.{◌≡◌, ◌⊎◌, ◌+◌, ◌-◌, ◌^◌, ◌<◌, ◌≤◌, ℕ, zero, suc, Bool, true, false, if◌then◌else◌, List}
use Rattle.std.specs.Prelude.{[], ◌∷◌, ◌++◌, length, map, min}
use Rattle.std.specs.Prelude.{Option, Some, None, ◌≢◌}
use Rattle.std.specs.Io.KnownBytes.{Consumes, IsAtEnd}
use Rattle.lms_batch.specs.Jobs.{JobText, most_jobs}
use Rattle.lms_batch.specs.declared.collector.Batch.{Batch}
use Rattle.lms_image.specs.declared.image.Image.{Image}
use Rattle.lms_lines.specs.JobsTexts.{ReadsJobs}
use Rattle.lms_lines.specs.Gathered.{HasNoEnd}
use Rattle.lms_lines.specs.Pieces.{CutsNone, EndsLine, EndsPiece}
use Rattle.lms_lines.specs.TextLines.{lines_of}
use Rattle.lms_lines.specs.declared.fault.JobsFault.{JobsFault}
use Rattle.lms_lines.specs.declared.fault.JobsFault.TheVariants as jobs
use Rattle.lms_texts.specs.Options.{AreWorkers}
use Rattle.lms_world.specs.Names.{Bytes}
use Rattle.lms_world.specs.Events.{Acquired, Locked, Unlocked, after}
use Rattle.lms_batch_commands.specs.BatchLogs.{AnswersJobs, AreUnread, LogsAnswers}
use Rattle.lms_batch_commands.specs.Batches.{IsUnprinted}
use Rattle.lms_commands.specs.Logs.{IsLockRefused, KeyState, WorldCalls, lock_answer, state_in}
use Rattle.lms_commands.specs.Watching.{BurnsWatched, LeavesWatched, LogsUnwatched, SparesWatched}
use Rattle.lms_commands.specs.declared.fault.Fault.{Fault}
use Rattle.lms_commands.specs.declared.fault.Fault.TheVariants.{BadJob, BadState, BadWorkers, Exhausted, OutOfMemory}
use Rattle.lms_commands.specs.declared.fault.Fault.TheVariants.{ReadInput, ReadState, TooManyJobs}

-- lines that were taken as an input of `batch`, and why they were not all answered, where they were
-- not
pub record Group : Type 0 where
  pub text : List ℕ
  pub fault : Option Fault

abbrev pub answered : List ℕ → Group
answered text = record { text = text; fault = None }

abbrev pub tried : List ℕ → Fault → Group
tried text fault = record { text = text; fault = Some fault }

-- what a state is to say when it is opened again: anything, this alone, or nothing, since it is not
-- opened again
pub data Due : Type 0 where
  AnyState : Due
  Only : (state : KeyState) → Due
  NoState : Due

abbrev pub IsDue : Due → KeyState → Type 0
IsDue AnyState state = Unit {0}
IsDue (Only due) state = state ≡ due
IsDue NoState state = ⊥

-- what is due by the image that a run opened or stored last, if it did
abbrev pub due_of : Option Image → Due
due_of None = AnyState
due_of (Some image) = Only (state_in image)

-- what a state says once n indices of it are used: where there are any, it counts their opening, too
abbrev pub having_used : ℕ → KeyState → KeyState
having_used zero state = state
having_used (suc n) state = record {
  key = state.key;
  index = state.index + suc n;
  openings = state.openings + 1;
  burnt = state.burnt;
}

-- a state is opened that is not due, and left as it is
abbrev pub FindsAnother : Due → WorldCalls → WorldCalls → Type 0
FindsAnother due old new = (state : KeyState) × LeavesWatched state old new × (¬ IsDue due state)

-- the calls of `batch` for these lines, under a lock, on a state that is due, and what is due then
abbrev pub AnswersGroup : List ℕ → Due → Due → List ℕ → List ℕ → WorldCalls → WorldCalls → Type 0
AnswersGroup text due next before printed old new =
    (rest : Option (List ℕ)) × (count : ℕ)
    × (is : LogsAnswers (Some text) rest before printed count count old new)
    × IsDue due is.1.signs.state × (next ≡ Only (having_used count is.1.signs.state))

abbrev pub is_bad_state : Fault → Bool
is_bad_state (BadState bad) = true
is_bad_state other = false

-- the fault at which a state is not opened, by its cause: bytes that are no image are not what is due
abbrev pub unopened_fault : Due → Fault → Fault
unopened_fault AnyState cause = cause
unopened_fault (Only state) cause = if is_bad_state cause then ReadState else cause
unopened_fault NoState cause = cause

-- no state is opened that is due: nothing is stored
abbrev pub FindsNoState : Fault → Due → WorldCalls → WorldCalls → Type 0
FindsNoState fault due old new =
    ((cause : Fault) × LogsUnwatched cause old new × (fault ≡ unopened_fault due cause))
    ⊎ ((fault ≡ ReadState) × FindsAnother due old new)

-- these lines are not signed, by a state that is left as it was
abbrev pub LeavesGroup : List ℕ → Fault → KeyState → WorldCalls → WorldCalls → Type 0
LeavesGroup text fault state old new =
    (AreUnread (Some text) fault × LeavesWatched state old new)
    ⊎ ((rest : Option (List ℕ)) × (jobs : List JobText) × ReadsJobs (Some text) rest jobs
    × (1 ≤ length jobs) × SparesWatched (length jobs) fault state old new)

-- the indices of these lines are used, or perhaps, and the lines are not all answered
abbrev pub UsesGroup : List ℕ → Fault → KeyState → List ℕ → List ℕ → WorldCalls → WorldCalls → Type 0
UsesGroup text fault state before printed old new =
    ((rest : Option (List ℕ)) × (jobs : List JobText) × ReadsJobs (Some text) rest jobs
    × (1 ≤ length jobs) × BurnsWatched (length jobs) fault state old new × (printed ≡ before))
    ⊎ ((rest : Option (List ℕ)) × (batch : Batch)
    × (answers : AnswersJobs (Some text) rest before batch old new)
    × (answers.signs.state ≡ state) × IsUnprinted batch (length answers.signs.jobs) (Some before) (Some printed) fault)

-- why these lines are not answered, where no index is used. Afterwards that is due which was before, if
-- no state that is due was opened, and else the state that was
abbrev pub SparesGroup : List ℕ → Fault → Due → Due → List ℕ → List ℕ → WorldCalls → WorldCalls → Type 0
SparesGroup text fault due next before printed old new =
    (printed ≡ before)
    × ((FindsNoState fault due old new × (next ≡ due))
    ⊎ ((state : KeyState) × IsDue due state × LeavesGroup text fault state old new
    × (next ≡ Only state)))

-- why they are not all answered, where indices are used, or perhaps
abbrev pub SpendsGroup : List ℕ → Fault → Due → List ℕ → List ℕ → WorldCalls → WorldCalls → Type 0
SpendsGroup text fault due before printed old new =
    (state : KeyState) × IsDue due state × UsesGroup text fault state before printed old new

-- why these lines are not all answered, and what is due then
abbrev pub FailsGroup : List ℕ → Fault → Due → Due → List ℕ → List ℕ → WorldCalls → WorldCalls → Type 0
FailsGroup text fault due next before printed old new =
    SparesGroup text fault due next before printed old new
    ⊎ (SpendsGroup text fault due before printed old new × (next ≡ NoState))

abbrev pub LogsGroup : List ℕ → Option Fault → Due → Due → List ℕ → List ℕ → WorldCalls → WorldCalls
    → Type 0
LogsGroup text None due next before printed old new = AnswersGroup text due next before printed old new
LogsGroup text (Some fault) due next before printed old new =
    FailsGroup text fault due next before printed old new

-- the calls for one group after another, the newest first
abbrev pub LogsGroups : List Group → Due → Due → List ℕ → List ℕ → WorldCalls → WorldCalls → Type 0
LogsGroups [] due next before printed old new = (printed ≡ before) × (new ≡ old) × (next ≡ due)
LogsGroups (group ∷ earlier) due next before printed old new =
    (between : List ℕ) × (mid : WorldCalls) × (later_due : Due)
    × LogsGroups earlier due later_due before between old mid
    × LogsGroup group.text group.fault later_due next between printed mid new

-- the first n lines of a text that end with LF, or all that do
pub record IsFront (n : ℕ) (text front : List ℕ) : Type 0 where
  pub rest : List ℕ
  pub parts : text ≡ front ++ rest
  pub few : length (lines_of front) ≤ n
  pub ends : 1 ≤ length (lines_of front) → EndsLine front
  pub all : length (lines_of front) < n → HasNoEnd rest

-- the groups that are tried for lines that are not all answered: all lines, as `batch` does; and where too few indices
-- are left for them, though not none, the first lines, which get these. The fault is then that none is left, or the one
-- that kept the first lines from being answered
abbrev pub TriesLines : List ℕ → Fault → List Group → Type 0
TriesLines text fault groups =
    ((groups ≡ tried text fault ∷ []) × ((left : ℕ) → fault ≢ Exhausted (suc left)))
    ⊎ ((left : ℕ) × (front : List ℕ) × (1 ≤ left) × IsFront left text front
    × (((fault ≡ Exhausted 0)
    × (groups ≡ answered front ∷ tried text (Exhausted left) ∷ []))
    ⊎ (groups ≡ tried front fault ∷ tried text (Exhausted left) ∷ [])))

-- the calls for lines that are not all answered; at a line that is no job line it is known what is
-- due, so that those before it can be answered
abbrev pub FailsLines : List ℕ → Fault → Due → Due → List ℕ → List ℕ → WorldCalls → WorldCalls → Type 0
FailsLines text fault due next before printed old new =
    (groups : List Group) × TriesLines text fault groups × (later_due : Due)
    × LogsGroups groups due later_due before printed old new
    × ((line : ℕ) → fault ≡ BadJob line → later_due ≡ next)

-- the number of a line where so many came before; at 2^64 - 1 it stays
abbrev pub numbered : ℕ → ℕ → ℕ
numbered before line = min (before + line) (2 ^ 64 - 1)

-- the groups that are tried for a piece of the input that is not all answered; where a line is no job line, those
-- before it are answered, if there are any, and it has its number in the whole input
abbrev pub TriesPiece : ℕ → List ℕ → Fault → List Group → Type 0
TriesPiece before text fault groups =
    (TriesLines text fault groups × ((line : ℕ) → fault ≢ BadJob line))
    ⊎ ((line : ℕ) × (first : List Group) × TriesLines text (BadJob line) first
    × (((line ≤ 1) × (fault ≡ BadJob (numbered before line)) × (groups ≡ first))
    ⊎ ((2 ≤ line) × (front : List ℕ) × IsFront (line - 1) text front
    × (((fault ≡ BadJob (numbered before line)) × (groups ≡ answered front ∷ first))
    ⊎ ((more : List Group) × TriesLines front fault more × (groups ≡ more ++ first))))))

-- bytes of an input are read, and with those that were held cut into a piece, whose lines are answered, and what is
-- held then
pub record ServesPiece (input rest : Option (List ℕ)) (held left : List ℕ) (lines : ℕ) (is_last : Bool)
    (due next : Due) (before printed : List ℕ) (old new : WorldCalls) : Type 0 where
  pub text : List ℕ
  pub read : List ℕ
  pub consumed : Consumes input rest read
  pub parts : held ++ read ≡ text ++ left
  pub count : lines ≡ length (lines_of text)
  pub few : lines ≤ most_jobs
  pub ends : EndsPiece is_last text left rest
  pub logs : AnswersGroup text due next before printed old new

-- the fault of a piece that is not cut, where so many lines came before
abbrev pub unread_fault : ℕ → JobsFault → Fault
unread_fault before jobs.Read = ReadInput
unread_fault before (jobs.BadJob line) = BadJob (numbered before line)
unread_fault before jobs.TooManyJobs = TooManyJobs
unread_fault before jobs.OutOfMemory = OutOfMemory

-- a piece is cut so, before which `count` lines came, and its lines are not all answered
pub record TriesNext (count : ℕ) (input rest : Option (List ℕ)) (held : List ℕ) (fault : Fault)
    (due : Due) (before printed : List ℕ) (old new : WorldCalls) : Type 0 where
  pub text : List ℕ
  pub is_last : Bool
  pub left : List ℕ
  pub read : List ℕ
  pub consumed : Consumes input rest read
  pub parts : held ++ read ≡ text ++ left
  pub few : length (lines_of text) ≤ most_jobs
  pub ends : EndsPiece is_last text left rest
  pub groups : List Group
  pub tries : TriesPiece count text fault groups
  pub next : Due
  pub logs : LogsGroups groups due next before printed old new

-- why serving stops, where so many lines were answered before: no piece is cut off what is read, and
-- nothing is called; or one is, and its lines are not all answered
abbrev pub StopsServing : ℕ → Option (List ℕ) → Option (List ℕ) → List ℕ → Fault → Due → List ℕ
    → List ℕ → WorldCalls → WorldCalls → Type 0
StopsServing count input rest held fault due before printed old new =
    ((cause : JobsFault) × CutsNone held input rest cause × (fault ≡ unread_fault count cause)
    × (printed ≡ before) × (new ≡ old))
    ⊎ TriesNext count input rest held fault due before printed old new

-- the most groups of a run
abbrev pub most_groups : ℕ
most_groups = 2 ^ 53

-- the lines of pieces, of which the newest is first
abbrev pub whole_text : List (List ℕ) → List ℕ
whole_text [] = []
whole_text (text ∷ earlier) = whole_text earlier ++ text

-- each piece is whole lines, or nothing
abbrev pub AreWhole : List (List ℕ) → Type 0
AreWhole [] = Unit {0}
AreWhole (text ∷ earlier) = ((text ≡ []) ⊎ EndsLine text) × AreWhole earlier

-- the first of these pieces, which is the oldest, is nothing: the state is opened for it, and nothing
-- is signed
abbrev pub OpensFirst : List (List ℕ) → Type 0
OpensFirst texts = (later : List (List ℕ)) × (texts ≡ later ++ [] ∷ [])

-- pieces of what was read, the newest first, all of whole lines, are answered one after another; a
-- beginning of the next is held
pub record AnswersPieces (input rest : Option (List ℕ)) (texts : List (List ℕ)) (held : List ℕ)
    (next : Due) (before printed : List ℕ) (old new : WorldCalls) : Type 0 where
  pub consumed : Consumes input rest (whole_text texts ++ held)
  pub opens : OpensFirst texts
  pub whole : AreWhole texts
  pub logs : LogsGroups (map answered texts) AnyState next before printed old new

-- all of an input is answered, piece by piece
pub record AnswersAll (input rest : Option (List ℕ)) (before printed : List ℕ)
    (old new : WorldCalls) : Type 0 where
  pub last : List ℕ
  pub earlier : List (List ℕ)
  pub consumed : Consumes input rest (whole_text earlier ++ last)
  pub at_end : IsAtEnd rest
  pub opens : OpensFirst earlier
  pub whole : AreWhole earlier
  pub one_line : HasNoEnd last
  pub next : Due
  pub logs : LogsGroups (map answered (last ∷ earlier)) AnyState next before printed old new

-- some of it is, and then no more
pub record AnswersSome (input rest : Option (List ℕ)) (fault : Fault) (before printed : List ℕ)
    (old new : WorldCalls) : Type 0 where
  pub texts : List (List ℕ)
  pub held : List ℕ
  pub until : Option (List ℕ)
  pub between : List ℕ
  pub mid : WorldCalls
  pub due : Due
  pub answers : AnswersPieces input until texts held due before between old mid
  pub fails : StopsServing (length (lines_of (whole_text texts))) until rest held fault due between printed
      mid new

-- why not all of an input is answered under a lock: the state is not opened; or memory for its trees
-- or for what is read is refused; or after some pieces no more is answered; or they are too many
abbrev pub FailsToServe : Option (List ℕ) → Option (List ℕ) → Fault → List ℕ → List ℕ → WorldCalls
    → WorldCalls → Type 0
FailsToServe input rest fault before printed old new =
    ((next : Due) × FailsGroup [] fault AnyState next before printed old new × (rest ≡ input))
    ⊎ (((fault ≡ OutOfMemory) × (next : Due) × AnswersGroup [] AnyState next before printed old new
    × (rest ≡ input))
    ⊎ (AnswersSome input rest fault before printed old new
    ⊎ ((fault ≡ TooManyJobs)
    × ((texts : List (List ℕ)) × (held : List ℕ) × (next : Due) × (most_groups ≤ length texts)
    × AnswersPieces input rest texts held next before printed old new))))

-- all calls of `serve`, which answers the whole input, from its lock on until that is handed back
abbrev pub LogsServe : Bytes → Bytes → Option (List ℕ) → Option (List ℕ) → List ℕ → List ℕ
    → WorldCalls → WorldCalls → Type 0
LogsServe state workers input rest before printed old new = (last : WorldCalls)
    × AnswersAll input rest before printed (after (Locked state Acquired ∷ []) old) last
    × (new ≡ after (Unlocked ∷ []) last) × AreWorkers workers

-- the same, where it fails
abbrev pub LogsServeFailed : Bytes → Bytes → Option (List ℕ) → Option (List ℕ) → List ℕ → List ℕ
    → Fault → WorldCalls → WorldCalls → Type 0
LogsServeFailed state workers input rest before printed fault old new =
    ((fault ≡ BadWorkers) × (new ≡ old) × (printed ≡ before) × (¬ AreWorkers workers)
    × (rest ≡ input))
    ⊎ ((IsLockRefused fault × (new ≡ after (Locked state (lock_answer fault) ∷ []) old)
    × (printed ≡ before) × AreWorkers workers × (rest ≡ input))
    ⊎ ((last : WorldCalls)
    × FailsToServe input rest fault before printed (after (Locked state Acquired ∷ []) old) last
    × (new ≡ after (Unlocked ∷ []) last) × AreWorkers workers))
