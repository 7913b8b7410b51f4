-- What `join` and `join-public` find and leave in a world in memory, by their calls.
use Rattle.std.proofs.Common.{◌≡◌, ◌∙◌, ◌∷◌, [], ℕ, List, Some, Ok, Err, refl, inl, inr, ⊎_elim}
use Rattle.lms_join.specs.Joined.{joined_public}
use Rattle.lms_world.specs.Names.{Bytes}
use Rattle.lms_world.specs.Events.{Event, Read}
use Rattle.lms_world.specs.Held.{Follows, Held}
use Rattle.lms_commands.specs.Logs.{WorldCalls, read_cause}
use Rattle.lms_commands.specs.declared.fault.Fault.{Fault}
use Rattle.lms_commands.proofs.Telling.{Adds, Told, and_then, read_refused, same_held, told, written_file}
use Rattle.lms_join_commands.specs.JoinLogs.{JoinNames, JoinParts, LogsJoinFailed, ReadsParts, ReadsTwo}
use Rattle.lms_join_commands.specs.JoinInMemory.{FailsToJoin, FailsToJoinInMemory, FailsToJoinKeysInMemory, HoldsParts}
use Rattle.lms_join_commands.specs.JoinInMemory.{JoinsInMemory, JoinsKeysInMemory}

-- ---- `join`

abbrev four_reads : JoinNames → JoinParts → List Event
four_reads names parts =
    Read names.signature (Ok parts.signature) ∷ Read names.signer (Ok parts.signer)
    ∷ Read names.endorsement (Ok parts.endorsement) ∷ Read names.public (Ok parts.public) ∷ []

abbrev read_so : (names : JoinNames) (parts : JoinParts) {earlier last : WorldCalls}
    → ReadsParts names parts earlier last
    → Adds earlier last
read_so names parts reads = record { calls = four_reads names parts; are = reads }

-- what the files held that were read first
held_parts : (names : JoinNames) (parts : JoinParts) (old new : Held) → Told (four_reads names parts) old new
    → HoldsParts names parts old
held_parts names parts old new is = record {
  public = is.tell.0.0.0.1;
  endorsement = is.tell.0.0.1;
  signer = is.tell.0.1;
  signature = is.tell.1;
}

pub joins_in_memory : JoinsInMemory
joins_in_memory names old new earlier now (parts, joined, last, reads, joins, calls) follows =
    let is = told old new (and_then (read_so names parts reads) calls) follows in
    record {
      parts = parts;
      joined = joined;
      held = record {
        public = is.tell.0.0.0.0.1;
        endorsement = is.tell.0.0.0.1;
        signer = is.tell.0.0.1;
        signature = is.tell.0.1;
      };
      joins = joins;
      file = written_file names.out joined old.files new.files is.files;
      only = same_held (record old { files = new.files }) new refl is.state is.may_fail is.in_use
          is.nodes is.nodes_fault is.witness;
    }

module _ (names : JoinNames) (earlier : WorldCalls) (old new : Held) where
  abbrev Unchanged : Fault → Type 0
  Unchanged fault = FailsToJoin names fault old × (new ≡ old)

  unjoined : (fault : Fault) (now : WorldCalls) → LogsJoinFailed names fault earlier now
      → Follows (Some old) earlier (Some new) now → Unchanged fault
  unjoined fault now (inl (inl (refused, inl calls))) follows =
      let first = Read names.public (Err (read_cause fault)) ∷ [] in
      let is = told old new (record { calls = first; are = calls }) follows in
      let why = read_refused fault names.public old.files refused is.tell.1 in (
        ⊎_elim inl (λ at. inr (inl (at.0, inl at.1))) why,
        same_held old new is.files is.state is.may_fail is.in_use is.nodes is.nodes_fault is.witness,
      )
  unjoined fault now (inl (inl (refused, inr (one, calls)))) follows =
      let first = Read names.endorsement (Err (read_cause fault)) ∷ Read names.public (Ok one) ∷ [] in
      let is = told old new (record { calls = first; are = calls }) follows in
      let why = read_refused fault names.endorsement old.files refused is.tell.1 in (
        ⊎_elim inl (λ at. inr (inl (at.0, inr (inl at.1)))) why,
        same_held old new is.files is.state is.may_fail is.in_use is.nodes is.nodes_fault is.witness,
      )
  unjoined fault now (inl (inr (one, two, last, reads, (refused, inl calls)))) follows =
      let first = Read names.endorsement (Ok two) ∷ Read names.public (Ok one) ∷ [] in
      let both : Adds earlier last = record { calls = first; are = reads } in
      let is = told old new (and_then both calls) follows in
      let why = read_refused fault names.signer old.files refused is.tell.1 in (
        ⊎_elim inl (λ at. inr (inl (at.0, inr (inr (inl at.1))))) why,
        same_held old new is.files is.state is.may_fail is.in_use is.nodes is.nodes_fault is.witness,
      )
  unjoined fault now (inl (inr (one, two, last, reads, (refused, inr (three, calls))))) follows =
      let first = Read names.endorsement (Ok two) ∷ Read names.public (Ok one) ∷ [] in
      let both : Adds earlier last = record { calls = first; are = reads } in
      let then = and_then {now = Read names.signer (Ok three) ∷ last} both refl in
      let is = told old new (and_then then calls) follows in
      let why = read_refused fault names.signature old.files refused is.tell.1 in (
        ⊎_elim inl (λ at. inr (inl (at.0, inr (inr (inr at.1))))) why,
        same_held old new is.files is.state is.may_fail is.in_use is.nodes is.nodes_fault is.witness,
      )
  unjoined fault now (inr (parts, last, reads, inl (why, none))) follows =
      let added : Adds earlier now = record { calls = four_reads names parts; are = none ∙ reads } in
      let is = told old new added follows in (
        inr (inr (parts, held_parts names parts old new is, inl why)),
        same_held old new is.files is.state is.may_fail is.in_use is.nodes is.nodes_fault is.witness,
      )
  unjoined fault now (inr (parts, last, reads, inr (joined, joins, refused, calls))) follows =
      let is = told old new (and_then (read_so names parts reads) calls) follows in
      let held : HoldsParts names parts old = record {
        public = is.tell.0.0.0.0.1;
        endorsement = is.tell.0.0.0.1;
        signer = is.tell.0.0.1;
        signature = is.tell.0.1;
      } in (
        inr (inr (parts, held, inr (refused, is.tell.1, (joined, joins)))),
        same_held old new is.files is.state is.may_fail is.in_use is.nodes is.nodes_fault is.witness,
      )

pub fails_to_join_in_memory : FailsToJoinInMemory
fails_to_join_in_memory names fault old new earlier now failed follows =
    unjoined names earlier old new fault now failed follows

-- ---- `join-public`

abbrev both_read : (public signer : Bytes) (top_public signer_public : List ℕ) {earlier last : WorldCalls}
    → ReadsTwo public signer top_public signer_public earlier last → Adds earlier last
both_read public signer top_public signer_public reads =
    record { calls = Read signer (Ok signer_public) ∷ Read public (Ok top_public) ∷ []; are = reads }

pub joins_keys_in_memory : JoinsKeysInMemory
joins_keys_in_memory public signer out old new earlier now
    (top_public, signer_public, last, reads, joinable, calls) follows =
    let is = told old new (and_then (both_read public signer top_public signer_public reads) calls) follows in
    record {
      top_public = top_public;
      signer_public = signer_public;
      top_public_is = is.tell.0.0.1;
      signer_public_is = is.tell.0.1;
      joinable = joinable;
      file = written_file out (joined_public top_public signer_public) old.files new.files is.files;
      only = same_held (record old { files = new.files }) new refl is.state is.may_fail is.in_use
          is.nodes is.nodes_fault is.witness;
    }

pub fails_to_join_keys_in_memory : FailsToJoinKeysInMemory
fails_to_join_keys_in_memory public signer out fault old new earlier now (inl (refused, inl calls)) follows =
    let first = Read public (Err (read_cause fault)) ∷ [] in
    let is = told old new (record { calls = first; are = calls }) follows in
    let why = read_refused fault public old.files refused is.tell.1 in (
      ⊎_elim inl (λ at. inr (inl (at.0, inl at.1))) why,
      same_held old new is.files is.state is.may_fail is.in_use is.nodes is.nodes_fault is.witness,
    )
fails_to_join_keys_in_memory public signer out fault old new earlier now (inl (refused, inr (one, calls))) follows =
    let first = Read signer (Err (read_cause fault)) ∷ Read public (Ok one) ∷ [] in
    let is = told old new (record { calls = first; are = calls }) follows in
    let why = read_refused fault signer old.files refused is.tell.1 in (
      ⊎_elim inl (λ at. inr (inl (at.0, inr at.1))) why,
      same_held old new is.files is.state is.may_fail is.in_use is.nodes is.nodes_fault is.witness,
    )
fails_to_join_keys_in_memory public signer out fault old new earlier now
    (inr (top_public, signer_public, last, reads, inl (inr (at, joinable), none))) follows =
    let first = Read signer (Ok signer_public) ∷ Read public (Ok top_public) ∷ [] in
    let added : Adds earlier now = record { calls = first; are = none ∙ reads } in
    let is = told old new added follows in
    (inl at, same_held old new is.files is.state is.may_fail is.in_use is.nodes is.nodes_fault is.witness)
fails_to_join_keys_in_memory public signer out fault old new earlier now
    (inr (top_public, signer_public, last, reads, inl (inl (at, apart), none))) follows =
    let first = Read signer (Ok signer_public) ∷ Read public (Ok top_public) ∷ [] in
    let added : Adds earlier now = record { calls = first; are = none ∙ reads } in
    let is = told old new added follows in (
      inr (inr (top_public, signer_public, is.tell.0.1, is.tell.1, inl (at, apart))),
      same_held old new is.files is.state is.may_fail is.in_use is.nodes is.nodes_fault is.witness,
    )
fails_to_join_keys_in_memory public signer out fault old new earlier now
    (inr (top_public, signer_public, last, reads, inr (joinable, refused, calls))) follows =
    let is = told old new (and_then (both_read public signer top_public signer_public reads) calls) follows in (
      inr (inr (top_public, signer_public, is.tell.0.0.1, is.tell.0.1, inr (refused, is.tell.1, joinable))),
      same_held old new is.files is.state is.may_fail is.in_use is.nodes is.nodes_fault is.witness,
    )
