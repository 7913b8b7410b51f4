-- The calls that `public` makes on its world: it stores nothing.
use Rattle.std.specs.Prelude.{ℕ, ◌≡◌, ◌⊎◌, List, [], ◌∷◌}
use Rattle.lms_spec.specs.Profile.{hss_public_key}
use Rattle.lms_hss.specs.Keys.{hss_key_of}
use Rattle.lms_hss.specs.declared.key.HssKey.{HssKey as KeyOfCode}
use Rattle.lms_world.specs.Names.{Bytes}
use Rattle.lms_world.specs.Events.{Acquired, Locked, Unlocked, after}
use Rattle.lms_key_commands.specs.KeygenLogs.{capacity_line}
use Rattle.lms_commands.specs.Logs.{FailsToPublish, IsLockRefused, KeyState, LeavesState, LogsUnopened, Publishes}
use Rattle.lms_commands.specs.Logs.{WorldCalls, lock_answer}
use Rattle.lms_commands.specs.declared.fault.Fault.{Fault}
use Rattle.lms_commands.specs.declared.fault.Fault.TheVariants.{OutOfMemory}

-- a state is read under its lock, which is handed back
pub record ReadsKey (state : Bytes) (read : KeyState) (old new : WorldCalls) : Type 0 where
  pub until_read : WorldCalls
  pub reads : LeavesState read (after (Locked state Acquired ∷ []) old) until_read
  pub unlocks : new ≡ after (Unlocked ∷ []) until_read

-- why it is not read: it is not locked; or it is, and not opened, and its lock is handed back
abbrev pub LogsUnread : Bytes → Fault → WorldCalls → WorldCalls → Type 0
LogsUnread state fault old new =
    (IsLockRefused fault × (new ≡ after (Locked state (lock_answer fault) ∷ []) old))
    ⊎ ((last : WorldCalls) × LogsUnopened fault (after (Locked state Acquired ∷ []) old) last
    × (new ≡ after (Unlocked ∷ []) last))

-- RFC 8554's public key of a key is written to a file, once, and then the key's capacity is printed
abbrev pub PublishesOf : KeyOfCode → Bytes → List ℕ → List ℕ → WorldCalls → WorldCalls → Type 0
PublishesOf key public = Publishes public (hss_public_key (hss_key_of key)) (capacity_line key)

-- why it is not
abbrev pub FailsToPublishOf : KeyOfCode → Bytes → List ℕ → List ℕ → Fault → WorldCalls → WorldCalls
    → Type 0
FailsToPublishOf key public =
    FailsToPublish public (hss_public_key (hss_key_of key)) (capacity_line key)

-- all calls of `public`: the state's key is read, and then published
abbrev pub LogsPublic : Bytes → Bytes → List ℕ → List ℕ → WorldCalls → WorldCalls → Type 0
LogsPublic state public before printed old new =
    (read : KeyState) × (last : WorldCalls) × ReadsKey state read old last
    × PublishesOf read.key public before printed last new

-- the same, where it fails: the key is not read, memory is refused for what its file needs or for its top tree, or it
-- is not published
abbrev pub LogsPublicFailed : Bytes → Bytes → List ℕ → List ℕ → Fault → WorldCalls → WorldCalls
    → Type 0
LogsPublicFailed state public before printed fault old new =
    (LogsUnread state fault old new × (printed ≡ before))
    ⊎ ((read : KeyState) × (last : WorldCalls) × ReadsKey state read old last
    × (((fault ≡ OutOfMemory) × (new ≡ last) × (printed ≡ before))
    ⊎ FailsToPublishOf read.key public before printed fault last new))
