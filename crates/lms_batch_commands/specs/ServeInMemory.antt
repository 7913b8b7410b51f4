-- What `serve` leaves in a world in memory, by its calls: one group of lines after another, what
-- `batch` leaves.
use Rattle.std.specs.Prelude.{◌≡◌, ◌⊎◌, List, [], ◌∷◌, ◌++◌, length, map, false, ℕ, Option, Some, None}
use Rattle.std.specs.Io.KnownBytes.{Consumes}
use Rattle.lms_batch.specs.Jobs.{JobText}
use Rattle.lms_batch.specs.declared.collector.Batch.{Batch}
use Rattle.lms_lines.specs.AnswerLines.{answer_text}
use Rattle.lms_lines.specs.JobsTexts.{ReadsJobs}
use Rattle.lms_lines.specs.SignedLines.{signatures_in}
use Rattle.lms_texts.specs.Options.{AreWorkers}
use Rattle.lms_world.specs.Names.{Bytes}
use Rattle.lms_world.specs.Events.{Acquired, Locked, Unlocked, after}
use Rattle.lms_world.specs.Held.{Follows, Held}
use Rattle.lms_commands.specs.InMemory.{FailsToLock, FailsToWatch, FindsState, IsWatched, SignsNone}
use Rattle.lms_commands.specs.Logs.{WorldCalls}
use Rattle.lms_commands.specs.declared.fault.Fault.{Fault}
use Rattle.lms_commands.specs.declared.fault.Fault.TheVariants.{BadWorkers, ReadState}
use Rattle.lms_batch_commands.specs.BatchInMemory.{SignsInPart, SignsJobs}
use Rattle.lms_batch_commands.specs.BatchLogs.{AreUnread}
use Rattle.lms_batch_commands.specs.Serving.{AnyState, Due, FailsToServe, Group, IsDue, LogsGroups, LogsServe}
use Rattle.lms_batch_commands.specs.Serving.{LogsServeFailed, Only, answered, having_used, unopened_fault}
use Rattle.lms_batch_commands.specs.Serving.{whole_text}

-- a group's lines are signed as a batch by the next indices of the state that is due, and answered
abbrev pub SignsGroup : List ℕ → Due → Due → List ℕ → List ℕ → Held → Held → Type 0
SignsGroup text due next before printed old new =
    (rest : Option (List ℕ)) × (batch : Batch) × (signs : SignsJobs (Some text) rest batch old new)
    × (signatures_in batch ≡ length signs.jobs) × (printed ≡ before ++ answer_text batch)
    × IsDue due signs.state × (next ≡ Only (having_used (length signs.jobs) signs.state))

-- why it is not answered, and nothing is printed: the state is not opened, or is not what is due; its
-- lines are not read; or their jobs are not signed
abbrev pub SignsNoGroup : List ℕ → Fault → Due → Held → Held → Type 0
SignsNoGroup text fault due old new =
    ((cause : Fault) × FailsToWatch cause old new × (fault ≡ unopened_fault due cause))
    ⊎ (((fault ≡ ReadState)
    × ((found : FindsState old new) × IsWatched found.state old.witness × (¬ IsDue due found.state)))
    ⊎ ((AreUnread (Some text) fault
    × ((found : FindsState old new) × IsWatched found.state old.witness × IsDue due found.state))
    ⊎ ((rest : Option (List ℕ)) × (jobs : List JobText) × ReadsJobs (Some text) rest jobs
    × SignsNone (length jobs) fault old new)))

-- what a group does in a world in memory, which is answered or has this fault
abbrev pub GroupInMemory : List ℕ → Option Fault → Due → Due → List ℕ → List ℕ → Held → Held → Type 0
GroupInMemory text None due next before printed old new =
    SignsGroup text due next before printed old new
GroupInMemory text (Some fault) due next before printed old new =
    ((printed ≡ before) × SignsNoGroup text fault due old new)
    ⊎ ((rest : Option (List ℕ)) × SignsInPart (Some text) rest before printed fault old new)

-- what groups do, one after another, the newest first
abbrev pub GroupsInMemory : List Group → Due → Due → List ℕ → List ℕ → Held → Held → Type 0
GroupsInMemory [] due next before printed old new = (printed ≡ before) × (new ≡ old) × (next ≡ due)
GroupsInMemory (group ∷ earlier) due next before printed old new =
    (between : List ℕ) × (mid : Held) × (later_due : Due)
    × GroupsInMemory earlier due later_due before between old mid
    × GroupInMemory group.text group.fault later_due next between printed mid new

-- of a world in memory, the groups that `serve` tries under its lock do so
abbrev pub TriesInMemory : Type 0
TriesInMemory = (state : Bytes) (groups : List Group) (next : Due) (before printed : List ℕ)
    (old new : Held) (earlier last now : WorldCalls)
    → LogsGroups groups AnyState next before printed (after (Locked state Acquired ∷ []) earlier) last
    → now ≡ after (Unlocked ∷ []) last
    → Follows (Some old) earlier (Some new) now
    → (old.in_use ≡ false) × GroupsInMemory groups AnyState next before printed old new

-- at status 0 these groups are all lines that it read, and each is answered
abbrev pub ServesInMemory : Type 0
ServesInMemory = (state workers : Bytes) (input rest : Option (List ℕ))
    (before printed : List ℕ) (old new : Held) (earlier now : WorldCalls)
    → LogsServe state workers input rest before printed earlier now
    → Follows (Some old) earlier (Some new) now
    → (old.in_use ≡ false) × ((texts : List (List ℕ)) × (next : Due)
    × Consumes input rest (whole_text texts)
    × GroupsInMemory (map answered texts) AnyState next before printed old new)

-- where it fails, no group is tried, and nothing is done; or those that its calls tell of
abbrev pub FailsToServeInMemory : Type 0
FailsToServeInMemory = (state workers : Bytes) (input rest : Option (List ℕ))
    (before printed : List ℕ) (fault : Fault) (old new : Held) (earlier now : WorldCalls)
    → LogsServeFailed state workers input rest before printed fault earlier now
    → Follows (Some old) earlier (Some new) now
    → ((fault ≡ BadWorkers) × (¬ AreWorkers workers) × (new ≡ old))
    ⊎ (AreWorkers workers
    × (FailsToLock fault old new
    ⊎ ((old.in_use ≡ false) × ((last : WorldCalls)
    × FailsToServe input rest fault before printed (after (Locked state Acquired ∷ []) earlier) last
    × (now ≡ after (Unlocked ∷ []) last)))))
