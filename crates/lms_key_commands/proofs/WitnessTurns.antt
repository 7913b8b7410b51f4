-- What `witness` does with its state, by the calls that it makes: it stores nothing, and makes a witness
-- at most.
use Rattle.std.proofs.Common.{◌≡◌, ◌∙◌, ◌∷◌, [], ℕ, List, None, Ok, Err, Result, ap, refl, subst, sym, inl, inr}
use Rattle.std.specs.List.{list_any}
use Rattle.lms_world.specs.Names.{Bytes}
use Rattle.lms_world.specs.Events.{Acquired, Locked, Printing, Unlocked, WitnessMade, WitnessRead}
use Rattle.lms_world.specs.declared.fault.WorldFault.{WorldFault}
use Rattle.lms_commands.specs.Histories.{IsTurn, StoresNothing, Turn, Watches, found_in, hands_out, store_calls}
use Rattle.lms_commands.specs.Histories.{witness_calls, written_in}
use Rattle.lms_commands.specs.Logs.{KeyState, WorldCalls}
use Rattle.lms_commands.specs.declared.fault.Fault.{Fault}
use Rattle.lms_commands.proofs.Turns.{Ends, begun, idle_as, left_so, one_more, unopened, whole_text}
use Rattle.lms_key_commands.specs.KeyTurns.{HandsWitness}
use Rattle.lms_key_commands.specs.WitnessLogs.{LeavesUnwatched, LogsUnwitnessed, LogsWitness, LogsWitnessFailed}
use Rattle.lms_key_commands.specs.WitnessLogs.{LogsWitnessThere, MakesToPrint, RefusesWitness, made_text, witness_line}

-- a turn in which no file is written
abbrev Silently : WorldCalls → Type 0
Silently calls = (turn : Turn) × IsTurn turn [] calls × (written_in calls ≡ [])

module _ (state : Bytes) where
  abbrev locked : WorldCalls
  locked = Locked state Acquired ∷ []

  -- a witness of a state that was read is made, or may be
  tried : (place : Bytes) (read : KeyState) (answer : Result Bytes WorldFault) (until_read last : WorldCalls)
      → LeavesUnwatched read locked until_read → last ≡ WitnessMade place (witness_line read) answer ∷ until_read
      → Silently last
  tried place read answer until_read last (taken, left, reads, back) calls = (
    Watches read reads.text,
    begun (Watches read reads.text) [] last (record {
      taken = taken;
      given = left;
      read = reads;
      text_is = refl;
      one_use = ap store_calls calls ∙ ap store_calls back;
      seen = ap found_in calls ∙ ap found_in back;
      name = place;
      answer = answer;
      makes = ap witness_calls calls
          ∙ ap (λ (log : WorldCalls). WitnessMade place (witness_line read) answer ∷ witness_calls log) back;
    })
        (ap (list_any hands_out) calls ∙ ap (list_any hands_out) back) refl,
    ap written_in calls ∙ ap written_in back,
  )

  -- and then begins to be printed
  printing : (place made : Bytes) (read : KeyState) (before : List ℕ) (last : WorldCalls)
      → MakesToPrint read place made before locked last → Silently last
  printing place made read before last is =
      let turn = tried place read (Ok made) is.until_read _ is.reads refl in
      (turn.0, one_more last (Printing before) refl is.prints turn.1, ap written_in is.prints ∙ turn.2)

  -- the state was read at most
  there : (last : WorldCalls) (fault : Fault) → LogsWitnessThere fault locked last → Silently last
  there last fault (inl (inl (at, calls))) = (StoresNothing, idle_as last _ calls refl refl, ap written_in calls)
  there last fault (inl (inr (at, calls))) = (StoresNothing, idle_as last _ calls refl refl, ap written_in calls)
  there last fault (inr (at, (text, calls))) = (StoresNothing, idle_as last _ calls refl refl, ap written_in calls)

  left : (read : KeyState) (until_read last : WorldCalls) → LeavesUnwatched read locked until_read → last ≡ until_read
      → Silently last
  left read until_read last leaves same =
      let reads = subst (λ (log : WorldCalls). LeavesUnwatched read locked log) (sym same) leaves in
      let is = left_so (WitnessRead (Ok None) ∷ locked) refl refl read last reads in
      (StoresNothing, is.takes, is.unwritten)

  refused : (number : ℕ) (place : Bytes) (read : KeyState) (fault : Fault) (until_read last : WorldCalls)
      → LeavesUnwatched read locked until_read → RefusesWitness number place read fault until_read last
      → Silently last
  refused number place read fault until_read last leaves (inl (at, other, same)) = left read until_read last leaves same
  refused number place read fault until_read last leaves (inr (counted, inl (at, same))) =
      left read until_read last leaves same
  refused number place read fault until_read last leaves (inr (counted, inr (cause, at, calls))) =
      tried place read (Err cause) until_read last leaves calls

  unwitnessed : (number : ℕ) (place : Bytes) (before printed : List ℕ) (fault : Fault) (last : WorldCalls)
      → LogsUnwitnessed number place before printed fault locked last → Ends HandsWitness last before printed
  unwitnessed number place before printed fault last (inl (same, inl witnessed)) =
      let is = there last fault witnessed in (is.0, is.1, (is.2, inl same))
  unwitnessed number place before printed fault last (inl (same, inr (inl never))) =
      let is = unopened (WitnessRead (Ok None) ∷ locked) refl refl last fault never in
      (StoresNothing, is.takes, (is.unwritten, inl same))
  unwitnessed number place before printed fault last (inl (same, inr (inr (read, until_read, leaves, never)))) =
      let is = refused number place read fault until_read last leaves never in (is.0, is.1, (is.2, inl same))
  unwitnessed number place before printed fault last (inr (at, (read, made, counted, is, lines))) =
      let turn = printing place made read before last is in
      (turn.0, turn.1, (turn.2, inr (read.key.i, read.index, made, lines)))

  -- the lock is handed back
  then_unlocked : (before printed : List ℕ) (last whole : WorldCalls) → whole ≡ Unlocked ∷ last
      → Ends HandsWitness last before printed → Ends HandsWitness whole before printed
  then_unlocked before printed last whole calls (turn, is, hands) =
      (turn, one_more whole Unlocked refl calls is, (ap written_in calls ∙ hands.0, hands.1))

pub witness_turn : (state place counter : Bytes) (before printed : List ℕ) (whole : WorldCalls)
    → LogsWitness state place counter before printed [] whole → Ends HandsWitness whole before printed
witness_turn state place counter before printed whole (read, made, last, counter_is, is, lines, calls) =
    let turn = printing state place made read before last is in
    let text = whole_text before printed (made_text read made) lines in
    then_unlocked state before printed last whole calls
    (turn.0, turn.1, (turn.2, inr (read.key.i, read.index, made, text)))

pub witness_failed_turn : (state place counter : Bytes) (before printed : List ℕ) (fault : Fault) (whole : WorldCalls)
    → LogsWitnessFailed state place counter before printed fault [] whole → Ends HandsWitness whole before printed
witness_failed_turn state place counter before printed fault whole (inl (at, none, nothing, same)) =
    (StoresNothing, idle_as whole _ nothing refl refl, (ap written_in nothing, inl same))
witness_failed_turn state place counter before printed fault whole
    (inr (number, counter_is, inl (refused, calls, same))) =
    (StoresNothing, idle_as whole _ calls refl refl, (ap written_in calls, inl same))
witness_failed_turn state place counter before printed fault whole
    (inr (number, counter_is, inr (last, never, calls))) =
    then_unlocked state before printed last whole calls
    (unwitnessed state number place before printed fault last never)
