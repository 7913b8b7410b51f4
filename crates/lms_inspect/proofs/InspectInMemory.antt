-- What `inspect` finds in a world in memory, by its calls.
use Rattle.std.proofs.Common.{◌≡◌, ◌∙◌, ◌∷◌, [], ℕ, List, Option, Some, None, Ok, Err, ap, inl, inr, sym, ⊎_elim}
use Rattle.lms_world.specs.Names.{Bytes}
use Rattle.lms_world.specs.Events.{Opened, Printing, WitnessRead}
use Rattle.lms_world.specs.Held.{Follows, Held, MayRefuseWitness, answer_in}
use Rattle.lms_world.specs.declared.fault.WorldFault.TheVariants as world
use Rattle.lms_commands.specs.Logs.{WorldCalls, read_cause}
use Rattle.lms_commands.specs.declared.fault.Fault.{Fault}
use Rattle.lms_commands.proofs.Telling.{Adds, Tells, and_then, read_refused, same_held, told}
use Rattle.lms_inspect.specs.Found.{IsFound}
use Rattle.lms_inspect.specs.InspectInMemory.{FailsToInspect, FailsToInspectInMemory, Finds, InspectsInMemory}
use Rattle.lms_inspect.specs.InspectInMemory.{IsWitnessed}
use Rattle.lms_inspect.specs.InspectLogs.{Inspects, IsHeld, LogsInspectFailed, LooksAtWitness, LooksInVain}
use Rattle.lms_inspect.specs.declared.found.Found.{Found}
use Rattle.lms_inspect.specs.declared.found.Found.TheVariants.{State, Public, Signature, Nothing}

by_device : (held : Held) → MayRefuseWitness held world.Device → held.witness ≡ Err world.Device
by_device held (inl is) = is
by_device held (inr memory) = cc memory

-- what was read is what the file holds
given : (file : Bytes) (old : Held) (held : Option (List ℕ)) (bytes : List ℕ) → IsHeld held bytes
    → Tells (Opened file (Ok held)) [] old → answer_in old.files file ≡ Ok bytes
given file old None bytes is never = absurd never
given file old (Some it) bytes is tells = tells ∙ ap (λ (text : List ℕ). Ok text) (sym is)

module _ (file : Bytes) {earlier : WorldCalls} (old new : Held) where
  -- what the world holds, and that it stays, before the beginning of printing
  looked : {last : WorldCalls} (held : Option (List ℕ)) (bytes : List ℕ) (found : Found) (witness : Option ℕ)
      → IsHeld held bytes → LooksAtWitness found witness (Opened file (Ok held) ∷ earlier) last → Follows (Some old) earlier (Some new) last
      → (answer_in old.files file ≡ Ok bytes) × IsWitnessed found witness old × (new ≡ old)
  looked held bytes (State image) witness is_held (seen, calls, says) follows =
      let is = told old new (record { calls = WitnessRead (Ok seen) ∷ Opened file (Ok held) ∷ []; are = calls }) follows in (
        given file old held bytes is_held is.tell.0.1,
        (seen, is.tell.1, says),
        same_held old new is.files is.state is.may_fail is.in_use is.nodes is.nodes_fault is.witness,
      )
  looked held bytes (Public parts) witness is_held (calls, none) follows =
      let is = told old new (record { calls = Opened file (Ok held) ∷ []; are = calls }) follows in
      (given file old held bytes is_held is.tell.1, tt, same_held old new is.files is.state is.may_fail is.in_use is.nodes is.nodes_fault is.witness)
  looked held bytes (Signature parts) witness is_held (calls, none) follows =
      let is = told old new (record { calls = Opened file (Ok held) ∷ []; are = calls }) follows in
      (given file old held bytes is_held is.tell.1, tt, same_held old new is.files is.state is.may_fail is.in_use is.nodes is.nodes_fault is.witness)
  looked held bytes Nothing witness is_held (calls, none) follows =
      let is = told old new (record { calls = Opened file (Ok held) ∷ []; are = calls }) follows in
      (given file old held bytes is_held is.tell.1, tt, same_held old new is.files is.state is.may_fail is.in_use is.nodes is.nodes_fault is.witness)

  -- the same, after it
  printed_of : {last now : WorldCalls} (before : List ℕ) (held : Option (List ℕ)) (bytes : List ℕ) (found : Found)
      (witness : Option ℕ) → IsHeld held bytes → LooksAtWitness found witness (Opened file (Ok held) ∷ earlier) last → now ≡ Printing before ∷ last
      → Follows (Some old) earlier (Some new) now
      → (answer_in old.files file ≡ Ok bytes) × IsWitnessed found witness old × (new ≡ old)
  printed_of {last} before held bytes (State image) witness is_held (seen, looks, says) calls follows =
      let first : Adds earlier last =
      record { calls = WitnessRead (Ok seen) ∷ Opened file (Ok held) ∷ []; are = looks } in
      let is = told old new (and_then first calls) follows in (
        given file old held bytes is_held is.tell.0.0.1,
        (seen, is.tell.0.1, says),
        same_held old new is.files is.state is.may_fail is.in_use is.nodes is.nodes_fault is.witness,
      )
  printed_of {last} before held bytes (Public parts) witness is_held (looks, none) calls follows =
      let first : Adds earlier last = record { calls = Opened file (Ok held) ∷ []; are = looks } in
      let is = told old new (and_then first calls) follows in
      (given file old held bytes is_held is.tell.0.1, tt, same_held old new is.files is.state is.may_fail is.in_use is.nodes is.nodes_fault is.witness)
  printed_of {last} before held bytes (Signature parts) witness is_held (looks, none) calls follows =
      let first : Adds earlier last = record { calls = Opened file (Ok held) ∷ []; are = looks } in
      let is = told old new (and_then first calls) follows in
      (given file old held bytes is_held is.tell.0.1, tt, same_held old new is.files is.state is.may_fail is.in_use is.nodes is.nodes_fault is.witness)
  printed_of {last} before held bytes Nothing witness is_held (looks, none) calls follows =
      let first : Adds earlier last = record { calls = Opened file (Ok held) ∷ []; are = looks } in
      let is = told old new (and_then first calls) follows in
      (given file old held bytes is_held is.tell.0.1, tt, same_held old new is.files is.state is.may_fail is.in_use is.nodes is.nodes_fault is.witness)

  finds : {last now : WorldCalls} (before : List ℕ) → Inspects file earlier last → now ≡ Printing before ∷ last
      → Follows (Some old) earlier (Some new) now → Finds file old × (new ≡ old)
  finds before inspects calls follows =
      let is = printed_of before inspects.held inspects.bytes inspects.found inspects.witness inspects.is_held
      inspects.looks calls follows in (
        record {
          bytes = inspects.bytes;
          found = inspects.found;
          witness = inspects.witness;
          given = is.0;
          is = inspects.is;
          witnessed = is.1;
        },
        is.2,
      )

  in_vain : (held : Option (List ℕ)) (bytes : List ℕ) (found : Found) (fault : Fault) (before printed : List ℕ)
      (now : WorldCalls) → IsHeld held bytes → IsFound found bytes → LooksInVain found fault (Opened file (Ok held) ∷ earlier) now
      → Follows (Some old) earlier (Some new) now → FailsToInspect file fault before printed old × (new ≡ old)
  in_vain held bytes (State image) fault before printed now is_held is_found (inl (inl (at, calls))) follows =
      let first = WitnessRead (Err world.Device) ∷ Opened file (Ok held) ∷ [] in
      let is = told old new (record { calls = first; are = calls }) follows in (
        inr (inr (inl (image, (bytes, given file old held bytes is_held is.tell.0.1, is_found), inl (at, by_device old is.tell.1)))),
        same_held old new is.files is.state is.may_fail is.in_use is.nodes is.nodes_fault is.witness,
      )
  in_vain held bytes (State image) fault before printed now is_held is_found (inl (inr (at, calls))) follows =
      let first = WitnessRead (Err world.OutOfMemory) ∷ Opened file (Ok held) ∷ [] in
      let is = told old new (record { calls = first; are = calls }) follows in (
        inl at,
        same_held old new is.files is.state is.may_fail is.in_use is.nodes is.nodes_fault is.witness,
      )
  in_vain held bytes (State image) fault before printed now is_held is_found (inr (at, (text, calls, none))) follows =
      let first = WitnessRead (Ok (Some text)) ∷ Opened file (Ok held) ∷ [] in
      let is = told old new (record { calls = first; are = calls }) follows in (
        inr (inr (inl (image, (bytes, given file old held bytes is_held is.tell.0.1, is_found), inr (at, (text, is.tell.1, none))))),
        same_held old new is.files is.state is.may_fail is.in_use is.nodes is.nodes_fault is.witness,
      )
  in_vain held bytes (Public parts) fault before printed now is_held is_found never follows = absurd never
  in_vain held bytes (Signature parts) fault before printed now is_held is_found never follows = absurd never
  in_vain held bytes Nothing fault before printed now is_held is_found never follows = absurd never

  fails : (fault : Fault) (before printed : List ℕ) (now : WorldCalls)
      → LogsInspectFailed file fault before printed earlier now → Follows (Some old) earlier (Some new) now
      → FailsToInspect file fault before printed old × (new ≡ old)
  unfolding finds
  fails fault before printed now (inl (same, inl (refused, calls))) follows =
      let is = told old new (record { calls = Opened file (Err (read_cause fault)) ∷ []; are = calls }) follows in
      let why = read_refused fault file old.files refused is.tell.1 in (
        ⊎_elim inl (λ at. inr (inl at)) why,
        same_held old new is.files is.state is.may_fail is.in_use is.nodes is.nodes_fault is.witness,
      )
  fails fault before printed now (inl (same, inr (inl (refused, calls)))) follows =
      absurd (told old new (record { calls = Opened file (Ok None) ∷ []; are = calls }) follows).tell.1
  fails fault before printed now (inl (same, inr (inr (inl (at, (held, calls)))))) follows =
      let is = told old new (record { calls = Opened file (Ok held) ∷ []; are = calls }) follows in
      (inl at, same_held old new is.files is.state is.may_fail is.in_use is.nodes is.nodes_fault is.witness)
  fails fault before printed now (inl (same, inr (inr (inr (inl (at, inspects)))))) follows =
      let is = looked inspects.held inspects.bytes inspects.found inspects.witness inspects.is_held inspects.looks follows
      in (inl at, is.2)
  fails fault before printed now (inl (same, inr (inr (inr (inr (held, bytes, is_held, found, is, never)))))) follows =
      in_vain held bytes found fault before printed now is_held is never follows
  fails fault before printed now (inr (at, (last, inspects, calls, text))) follows =
      let is = finds before inspects calls follows in (inr (inr (inr (at, (is.0, text)))), is.1)

pub inspects_in_memory : InspectsInMemory
unfolding finds
inspects_in_memory file end before printed old new earlier now (last, inspects, end_is, text, calls) follows =
    let is = finds file old new before inspects calls follows in (is.0, end_is, text, is.1)

pub fails_to_inspect_in_memory : FailsToInspectInMemory
fails_to_inspect_in_memory file fault before printed old new earlier now failed follows =
    fails file old new fault before printed now failed follows
