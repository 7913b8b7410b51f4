-- What `join` and `join-public` leave in a world in memory, by their calls.
use Rattle.std.specs.Prelude.{ℕ, ◌≡◌, ◌⊎◌, List, Some, Ok}
use Rattle.lms_join.specs.Joined.{joined_public}
use Rattle.lms_join.specs.Keys.{AreJoinable}
use Rattle.lms_world.specs.Names.{Bytes}
use Rattle.lms_world.specs.Held.{Follows, Held, MayRefuse, answer_in}
use Rattle.lms_commands.specs.InMemory.{IsUnreadable, OnlyFiles, WritesFile}
use Rattle.lms_commands.specs.Logs.{IsWriteRefused, WorldCalls, write_cause}
use Rattle.lms_commands.specs.declared.fault.Fault.{Fault}
use Rattle.lms_commands.specs.declared.fault.Fault.TheVariants.{BadPublicKey, OutOfMemory, ReadInput}
use Rattle.lms_join_commands.specs.JoinLogs.{AreUnjoined, JoinNames, JoinParts, JoinsParts, LogsJoin, LogsJoinFailed}
use Rattle.lms_join_commands.specs.JoinLogs.{LogsJoinKeys, LogsJoinKeysFailed}

-- the four files hold these parts
pub record HoldsParts (names : JoinNames) (parts : JoinParts) (held : Held) : Type 0 where
  pub public : answer_in held.files names.public ≡ Ok parts.public
  pub endorsement : answer_in held.files names.endorsement ≡ Ok parts.endorsement
  pub signer : answer_in held.files names.signer ≡ Ok parts.signer
  pub signature : answer_in held.files names.signature ≡ Ok parts.signature

-- the file holds the joined signature of what four files held, and nothing else is changed
pub record JoinsIn (names : JoinNames) (old new : Held) : Type 0 where
  pub parts : JoinParts
  pub joined : List ℕ
  pub held : HoldsParts names parts old
  pub joins : JoinsParts parts joined
  pub file : WritesFile names.out joined old.files new.files
  pub only : OnlyFiles old new

-- of a world in memory, `join` at status 0 does so
abbrev pub JoinsInMemory : Type 0
JoinsInMemory = (names : JoinNames) (old new : Held) (earlier now : WorldCalls)
    → LogsJoin names earlier now
    → Follows (Some old) earlier (Some new) now
    → JoinsIn names old new

-- why nothing is joined, or the joined signature is not written
abbrev pub FailsToJoin : JoinNames → Fault → Held → Type 0
FailsToJoin names fault held =
    (fault ≡ OutOfMemory)
    ⊎ (((fault ≡ ReadInput)
    × (IsUnreadable names.public held ⊎ (IsUnreadable names.endorsement held
    ⊎ (IsUnreadable names.signer held ⊎ IsUnreadable names.signature held))))
    ⊎ ((parts : JoinParts) × HoldsParts names parts held
    × (AreUnjoined parts fault
    ⊎ (IsWriteRefused fault × MayRefuse held names.out (write_cause fault)
    × ((joined : List ℕ) × JoinsParts parts joined)))))

-- of a world in memory, this is why `join` fails, and changes nothing
abbrev pub FailsToJoinInMemory : Type 0
FailsToJoinInMemory = (names : JoinNames) (fault : Fault) (old new : Held)
    (earlier now : WorldCalls)
    → LogsJoinFailed names fault earlier now
    → Follows (Some old) earlier (Some new) now
    → FailsToJoin names fault old × (new ≡ old)

-- two files hold two public keys that can be joined, a third is given the joined one, and nothing
-- else is changed
pub record JoinsKeysIn (public signer out : Bytes) (old new : Held) : Type 0 where
  pub top_public : List ℕ
  pub signer_public : List ℕ
  pub top_public_is : answer_in old.files public ≡ Ok top_public
  pub signer_public_is : answer_in old.files signer ≡ Ok signer_public
  pub joinable : AreJoinable top_public signer_public
  pub file : WritesFile out (joined_public top_public signer_public) old.files new.files
  pub only : OnlyFiles old new

-- of a world in memory, `join-public` at status 0 does so
abbrev pub JoinsKeysInMemory : Type 0
JoinsKeysInMemory = (public signer out : Bytes) (old new : Held) (earlier now : WorldCalls)
    → LogsJoinKeys public signer out earlier now
    → Follows (Some old) earlier (Some new) now
    → JoinsKeysIn public signer out old new

-- why no keys are joined, or the joined one is not written
abbrev pub FailsToJoinKeys : Bytes → Bytes → Bytes → Fault → Held → Type 0
FailsToJoinKeys public signer out fault held =
    (fault ≡ OutOfMemory)
    ⊎ (((fault ≡ ReadInput) × (IsUnreadable public held ⊎ IsUnreadable signer held))
    ⊎ ((top_public signer_public : List ℕ) × (answer_in held.files public ≡ Ok top_public)
    × (answer_in held.files signer ≡ Ok signer_public)
    × (((fault ≡ BadPublicKey) × ¬ AreJoinable top_public signer_public)
    ⊎ (IsWriteRefused fault × MayRefuse held out (write_cause fault)
    × AreJoinable top_public signer_public))))

-- of a world in memory, this is why `join-public` fails, and changes nothing
abbrev pub FailsToJoinKeysInMemory : Type 0
FailsToJoinKeysInMemory = (public signer out : Bytes) (fault : Fault) (old new : Held)
    (earlier now : WorldCalls)
    → LogsJoinKeysFailed public signer out fault earlier now
    → Follows (Some old) earlier (Some new) now
    → FailsToJoinKeys public signer out fault old × (new ≡ old)
