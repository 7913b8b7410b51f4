-- What `witness` leaves in a world in memory, by its calls.
use Rattle.std.proofs.Common.{◌≡◌, ◌∙◌, ◌∷◌, [], ◌++◌, ℕ, List, Option, Some, None, Ok, Err, false, ap, refl, subst}
use Rattle.std.proofs.Common.{inl, inr, sym}
use Rattle.std.specs.Prelude.{◌≢◌, ◌⊎◌, Result}
use Rattle.lms_book.specs.Stops.{StoreView}
use Rattle.lms_blocks.specs.Writing.{AppendsFront}
use Rattle.lms_world.specs.Names.{Bytes}
use Rattle.lms_world.specs.Events.{Acquired, Event, Locked, PutBack, Taken, Unlocked, WitnessMade, WitnessRead}
use Rattle.lms_world.specs.Held.{Follows, Held}
use Rattle.lms_world.specs.Outcomes.{witness_after}
use Rattle.lms_world.specs.declared.fault.WorldFault.{WorldFault}
use Rattle.lms_world.specs.declared.fault.WorldFault.TheVariants as world
use Rattle.lms_commands.specs.InMemory.{FindsState, Stays, WitnessHeld}
use Rattle.lms_commands.specs.Logs.{KeyState, WorldCalls}
use Rattle.lms_commands.specs.declared.fault.Fault.{Fault}
use Rattle.lms_commands.specs.declared.fault.Fault.TheVariants.{OtherCounter, OutOfMemory}
use Rattle.lms_commands.proofs.AtState.{AreStill, finds, locked_still, not_locked, unopened}
use Rattle.lms_commands.proofs.Telling.{Adds, AllTell, Tells, WitnessRefused, and_then, nothing_done, told, told_stays}
use Rattle.lms_commands.proofs.Telling.{was_state}
use Rattle.lms_key_commands.specs.WitnessInMemory.{FailsToMakeWitness, FailsToMakeWitnessInMemory, MakesWitnessIn}
use Rattle.lms_key_commands.specs.WitnessInMemory.{MakesWitnessInMemory, WitnessWasThere}
use Rattle.lms_key_commands.specs.WitnessLogs.{IsDecimal, LeavesUnwatched, LogsUnwitnessed, LogsWitnessThere}
use Rattle.lms_key_commands.specs.WitnessLogs.{MakesToPrint, RefusesWitness, made_text, of_making, witness_line}

-- a refused witness is one that is held, or memory ran out
device_refused : (held : WitnessHeld) → WitnessRefused world.Device held → held ≡ Err world.Device
device_refused held (inl is) = is
device_refused held (inr never) = cc never

-- after calls that change nothing, and before the lock is handed back
module _ (base : List Event) (still : AreStill base) {before mid last now : WorldCalls} (begins : mid ≡ base ++ before)
    (ends : now ≡ Unlocked ∷ last) (old new : Held) (follows : Follows (Some old) before (Some new) now) where
  -- a witness was looked for, and nothing else is done
  looked_for : (answer : Result (Option (List ℕ)) WorldFault) → last ≡ WitnessRead answer ∷ mid
      → AllTell base old × (Tells (WitnessRead answer) base old × Stays old new)
  looked_for answer calls =
      let begun : Adds before mid = record { calls = base; are = begins } in
      let is = told old new (and_then (and_then begun calls) ends) follows in
      let stays = told_stays is (still.files old.files) (is.state ∙ still.state old.state) (still.nodes old.nodes)
      (still.witness old.witness) in
      (is.tell.0.0, (is.tell.0.1, stays))

  -- there is one, or it can't be read
  pub there : (fault : Fault) → LogsWitnessThere fault mid last
      → AllTell base old × ((fault ≡ OutOfMemory) ⊎ WitnessWasThere fault old) × Stays old new
  there fault (inl (inl (at, calls))) =
      let is = looked_for (Err world.Device) calls in
      let held : old.witness ≡ Err world.Device =
      sym (still.witness old.witness) ∙ device_refused (witness_after base old.witness) is.1.0 in
      (is.0, inr (inr (at, held)), is.1.1)
  there fault (inl (inr (at, calls))) =
      let is = looked_for (Err world.OutOfMemory) calls in (is.0, inl at, is.1.1)
  there fault (inr (at, (text, calls))) =
      let is = looked_for (Ok (Some text)) calls in
      (is.0, inr (inl (at, (text, sym (still.witness old.witness) ∙ is.1.0))), is.1.1)

-- the state was locked, and had no witness
unwatched_still : {state : Bytes} → AreStill (WitnessRead (Ok None) ∷ Locked state Acquired ∷ [])
unwatched_still = record {
  files = λ f. refl;
  state = λ s. refl;
  nodes = λ n. refl;
  witness = λ w. refl;
  may_fail = λ a b is. is;
}

-- no device refuses a witness that was not there
not_refused : (held : WitnessHeld) → held ≡ Ok None
    → WitnessRefused world.Device held ⊎ ((world.Device ≡ world.Device) × (held ≢ Ok None)) → ⊥
not_refused held none (inl (inl refused)) = cc (sym none ∙ refused)
not_refused held none (inl (inr never)) = cc never
not_refused held none (inr (at, some)) = some none

-- from the lock on until it is handed back
module _ (state place : Bytes) {earlier last now : WorldCalls} (calls : now ≡ Unlocked ∷ last)
    (old new : Held) (follows : Follows (Some old) earlier (Some new) now) where
  abbrev locked : WorldCalls
  locked = Locked state Acquired ∷ earlier

  -- a witness was made of the state that was read
  makes : (counter : Bytes) (read : KeyState) (made : Bytes) (before : List ℕ) → IsDecimal counter read.index
      → MakesToPrint read place made before locked last
      → (old.in_use ≡ false) × ((makes : MakesWitnessIn counter old new) × (makes.state ≡ read))
  makes counter read made before counter_is is =
      let (taken, left, reads, back) = is.reads in
      let first = PutBack left ∷ Taken (Some taken) ∷ WitnessRead (Ok None) ∷ Locked state Acquired ∷ [] in
      let read_so : Adds earlier is.until_read = record { calls = first; are = back } in
      let made_so = and_then {now = WitnessMade place (witness_line read) (Ok made) ∷ is.until_read} read_so refl in
      let all = told old new (and_then (and_then made_so is.prints) calls) follows in
      let found = all.tell.0.0.0.0.1.0 in
      let makes : MakesWitnessIn counter old new = record {
        state = read;
        was = was_state read reads found;
        counter_is = counter_is;
        none_was = all.tell.0.0.0.0.0.1;
        witness = all.witness;
        files = all.files;
        state_stays = all.state ∙ (ap (λ (v : StoreView). v.now) reads.given ∙ found);
        nodes = all.nodes;
        in_use = all.in_use;
        nodes_fault = all.nodes_fault;
      } in
      (all.tell.0.0.0.0.0.0.1, (makes, refl))

  -- it was read, and nothing else done
  finds_so : (read : KeyState) → LeavesUnwatched read locked last
      → (old.in_use ≡ false) × (old.witness ≡ Ok None) × ((found : FindsState old new) × (found.state ≡ read))
  finds_so read leaves =
      let is = finds (WitnessRead (Ok None) ∷ Locked state Acquired ∷ []) unwatched_still {before = earlier} refl calls
      old new follows read leaves in
      (is.0.0.1, is.0.1, is.1)

  -- no witness of it was made, though that was tried
  not_made : (read : KeyState) (until_read : WorldCalls) (cause : WorldFault) → LeavesUnwatched read locked until_read
      → last ≡ WitnessMade place (witness_line read) (Err cause) ∷ until_read
      → (old.in_use ≡ false) × (old.witness ≡ Ok None) × (cause ≡ world.OutOfMemory) × Stays old new
  not_made read until_read cause (taken, left, reads, back) tried =
      let first = PutBack left ∷ Taken (Some taken) ∷ WitnessRead (Ok None) ∷ Locked state Acquired ∷ [] in
      let read_so : Adds earlier until_read = record { calls = first; are = back } in
      let all = told old new (and_then (and_then read_so tried) calls) follows in
      let found = all.tell.0.0.0.1.0 in
      let stays = told_stays all refl (all.state ∙ (ap (λ (v : StoreView). v.now) reads.given ∙ found)) refl refl in
      (all.tell.0.0.0.0.0.1, all.tell.0.0.0.0.1, by_cause cause all.tell.0.0.0.0.1 all.tell.0.1, stays)
    where
      by_cause : (cause : WorldFault) → old.witness ≡ Ok None
          → WitnessRefused cause old.witness ⊎ ((cause ≡ world.Device) × (old.witness ≢ Ok None))
          → cause ≡ world.OutOfMemory
      by_cause world.Device none refused = absurd (not_refused old.witness none refused)
      by_cause world.OutOfMemory none refused = refl

  module _ (counter : Bytes) (number : ℕ) (counter_is : IsDecimal counter number) (before printed : List ℕ)
      (fault : Fault) where
    abbrev Fails : Type 0
    Fails = FailsToMakeWitness counter before printed fault old new

    refuses : (read : KeyState) (until_read : WorldCalls) → LeavesUnwatched read locked until_read
        → RefusesWitness number place read fault until_read last → Fails
    refuses read until_read leaves (inl (at, other, same)) =
        let is = finds_so read (subst (λ (log : WorldCalls). LeavesUnwatched read locked log) (sym same) leaves) in
        let at_found = subst (λ (s : KeyState). fault ≡ OtherCounter s.index) (sym is.2.1) at in
        let other_found = subst (λ (s : KeyState). s.index ≢ number) (sym is.2.1) other in
        inr (number, counter_is, inr (is.0, inr (is.1, inr (inl (is.2.0, at_found, other_found)))))
    refuses read until_read leaves (inr (counted, inl (at, same))) =
        let is = finds_so read (subst (λ (log : WorldCalls). LeavesUnwatched read locked log) (sym same) leaves) in
        inr (number, counter_is, inr (is.0, inr (is.1, inl (inl at, is.2.0.stays))))
    refuses read until_read leaves (inr (counted, inr (cause, at, tried))) =
        let is = not_made read until_read cause leaves tried in
        let memory = at ∙ ap of_making is.2 in
        inr (number, counter_is, inr (is.0, inr (is.1, inl (inl memory, is.3))))

    unwitnessed : LogsUnwitnessed number place before printed fault locked last → Fails
    unwitnessed (inl (same, inl witnessed)) =
        let is = there (Locked state Acquired ∷ []) locked_still {before = earlier} refl calls old new follows fault
        witnessed in
        inr (number, counter_is, inr (is.0.1, inl (is.1, is.2)))
    unwitnessed (inl (same, inr (inl never))) =
        let is = unopened (WitnessRead (Ok None) ∷ Locked state Acquired ∷ []) unwatched_still {before = earlier} refl
        calls old new follows fault never in
        inr (number, counter_is, inr (is.0.0.1, inr (is.0.1, inl is.1)))
    unwitnessed (inl (same, inr (inr (read, until_read, leaves, refused)))) = refuses read until_read leaves refused
    unwitnessed (inr (at, (read, made, counted, is, lines))) =
        let decimal_is = subst (λ (n : ℕ). IsDecimal counter n) (sym counted) counter_is in
        let done = makes counter read made before decimal_is is in
        let front = subst (λ (s : KeyState). AppendsFront (Some before) (Some printed) (made_text s made))
        (sym done.1.1) lines in
        let none = done.1.0.none_was in
        inr (number, counter_is, inr (done.0, inr (none, inr (inr (at, (done.1.0, made, front))))))

pub makes_witness_in_memory : MakesWitnessInMemory
makes_witness_in_memory state place counter before printed old new earlier now
    (read, made, last, counter_is, is, lines, calls) follows =
    let done = makes state place calls old new follows counter read made before counter_is is in
    (done.0, (done.1.0, made, lines ∙ ap (λ (s : KeyState). before ++ made_text s made) (sym done.1.1)))

pub fails_to_make_witness_in_memory : FailsToMakeWitnessInMemory
fails_to_make_witness_in_memory state place counter before printed fault old new earlier now
    (inl (at, none, nothing, same)) follows =
    inl (at, none, nothing_done old new nothing follows)
fails_to_make_witness_in_memory state place counter before printed fault old new earlier now
    (inr (number, counter_is, inl (refused, calls, same))) follows =
    inr (number, counter_is, inl (not_locked fault state earlier now old new refused calls follows))
fails_to_make_witness_in_memory state place counter before printed fault old new earlier now
    (inr (number, counter_is, inr (last, never, calls))) follows =
    unwitnessed state place calls old new follows counter number counter_is before printed fault never
