-- Worked cases of what is carried along from run to run. With no witness, by the calls on the state
-- alone: the use of a key's first index is stored, that of the second not for certain, and, since it may
-- be, that of the third; the first and the third sign. With a witness: between the uses of two indices
-- an older state is put back, and the key goes on by what its witness says.
use Rattle.std.specs.Prelude.{ℕ, ◌≡◌, ◌≢◌, ◌≤◌, ◌+◌, List, [], ◌∷◌, ◌++◌, Contains, Some, None, Ok, false, map}
use Rattle.lms_spec.specs.Hss.{capacity_of}
use Rattle.lms_hss.specs.Keys.{hss_key_of}
use Rattle.lms_hss.specs.declared.key.HssKey.{HssKey as KeyOfCode}
use Rattle.lms_image.specs.Image.{HasImage, image_of}
use Rattle.lms_book.specs.Stops.{StoreView, Texts, after_failure, after_write, having_given, moved, only, or_else}
use Rattle.lms_texts.specs.Witnesses.{witness_text}
use Rattle.lms_world.specs.Events.{PutBack, Taken, Taking, WitnessRead, WitnessWritten, Written}
use Rattle.lms_world.specs.Names.{Bytes}
use Rattle.lms_commands.specs.Expectations.{CameToNeither, Expected, FindsExpected, IsCarried, IsCarriedAlong}
use Rattle.lms_commands.specs.Expectations.{StateTexts}
use Rattle.lms_commands.specs.Histories.{AreLinked, IsSignature, IsTurn, Resumes, Signature, TakenTurn, Uses, all_left}
use Rattle.lms_commands.specs.Logs.{KeyState, WorldCalls}
use Rattle.lms_commands.specs.Watching.{Watch, watch_calls}

-- a key's state after so many signatures, each of an opening of its own
abbrev pub state_at : KeyOfCode → ℕ → KeyState
state_at key n = record { key = key; index = n; openings = n; burnt = 0 }

-- its image
abbrev pub image_after : KeyOfCode → ℕ → List ℕ
image_after key n = image_of key n n 0

-- the turn that a run is said to take is one
abbrev pub IsRight : TakenTurn → Type 0
IsRight run = IsTurn run.turn run.signatures run.whole

-- ---- with no witness

-- the state should be one of these, and there is no witness
abbrev pub unwatched : StateTexts → Expected
unwatched states = record { states = states; witnesses = [] }

-- these signatures are written to a file
abbrev pub delivery : Bytes → List Signature → WorldCalls
delivery name signatures = map (λ (one : Signature). Written name one.bytes (Ok tt)) signatures

-- no witness is found, and what keeps the state is left so
abbrev pub unwatched_calls : Taking → StoreView → WorldCalls
unwatched_calls taken left = PutBack left ∷ Taken (Some taken) ∷ WitnessRead (Ok None) ∷ []

-- a run that finds no witness, reads the image after so many signatures, leaves its store so, and then
-- writes these signatures to a file
abbrev pub run_at : KeyOfCode → ℕ → Taking → StoreView → Bytes → List Signature → TakenTurn
run_at key n taken left name signatures =
    let calls = delivery name signatures ++ unwatched_calls taken left in
    record {
      turn = Uses 1 (state_at key n) (image_after key n) None;
      due = None;
      signatures = signatures;
      whole = calls;
      begun = calls;
    }

-- what may be stored after the second run: the image that was tried, or the one before
abbrev pub one_of_two : KeyOfCode → StoreView → StoreView
one_of_two key given =
    after_failure (moved (or_else (image_after key 2) (only (image_after key 1))) given)

-- three such runs, of which the second stored its image not for certain, and wrote no signature
abbrev pub three_runs : KeyOfCode → Taking → StoreView → Bytes → Signature → Signature → List TakenTurn
three_runs key taken given name first third =
    run_at key 0 taken (after_write (image_after key 1) given) name (first ∷ [])
    ∷ run_at key 1 taken (one_of_two key given) name []
    ∷ run_at key 2 taken (after_write (image_after key 3) given) name (third ∷ []) ∷ []

-- they carry along what the state should be, and both signatures leave; no witness is needed for that
abbrev pub WorkedRuns : Type 0
WorkedRuns = (key : KeyOfCode) (taken : Taking) (given : StoreView) (name : Bytes) (first third : Signature)
    → IsCarriedAlong (unwatched (Some (image_after key 0) ∷ [])) (three_runs key taken given name first third)
    × (all_left (three_runs key taken given name first third) ≡ first ∷ third ∷ [])

-- two turns of one run, the second after the first stored its image for certain
abbrev pub next_turn : KeyOfCode → Taking → StoreView → TakenTurn
next_turn key taken given =
    record (run_at key 1 taken (after_write (image_after key 2) given) [] []) { due = Some (image_after key 1) }

abbrev pub both_turns : KeyOfCode → Taking → StoreView → List TakenTurn
both_turns key taken given =
    run_at key 0 taken (after_write (image_after key 1) given) [] [] ∷ next_turn key taken given ∷ []

-- they are linked, and carry along what is stored, though nothing is said of what was found by the
-- second
abbrev pub WorkedLink : Type 0
WorkedLink = (key : KeyOfCode) (taken : Taking) (given : StoreView)
    → AreLinked None (both_turns key taken given)
    × IsCarriedAlong (unwatched (Some (image_after key 0) ∷ [])) (both_turns key taken given)
    × ((held : Expected) → FindsExpected (next_turn key taken given).turn (next_turn key taken given).due held)

-- a store that holds one of these byte strings, as it is taken out
abbrev pub holding : Texts → Taking
holding held = record { view = record { now = held; past = []; given = None; failures = 0 }; may_fail = false }

-- a store of these, once it gave the image after so many signatures
abbrev pub given_by : KeyOfCode → ℕ → Texts → StoreView
given_by key n held = having_given (image_after key n) (holding held).view

-- a store of these, once the image after so many signatures was read and the next one stored for certain
abbrev pub next_by : KeyOfCode → ℕ → Texts → StoreView
next_by key n held = after_write (image_after key (n + 1)) (given_by key n held)

-- a run that finds the image after so many signatures among these, stores the next one for certain, and
-- then writes its signature to a file
abbrev pub storing_run : KeyOfCode → ℕ → Texts → Bytes → Signature → TakenTurn
storing_run key n held name one = run_at key n (holding held) (next_by key n held) name (one ∷ [])

-- the run between, whose image may not be stored
abbrev pub trying_run : KeyOfCode → TakenTurn
trying_run key =
    let held = only (image_after key 1) in
    run_at key 1 (holding held) (one_of_two key (given_by key 1 held)) [] []

-- of a key with an image and with three indices, such runs take their turns, and the first and the
-- third sign
abbrev pub WorkedTurns : Type 0
WorkedTurns = (key : KeyOfCode) (name : Bytes) (first third : Signature) → HasImage key 0 0 0
    → 3 ≤ capacity_of (hss_key_of key)
    → IsSignature first → (first.key ≡ key) → (first.index ≡ 0)
    → IsSignature third → (third.key ≡ key) → (third.index ≡ 2)
    → IsRight (storing_run key 0 (only (image_after key 0)) name first)
    × IsRight (trying_run key)
    × IsRight (storing_run key 2 (or_else (image_after key 2) (only (image_after key 1))) name third)

-- ---- with a witness

-- what a witness says after so many signatures
abbrev pub witness_after : KeyOfCode → ℕ → List ℕ
witness_after key n = witness_text key.i n

-- state and witness should both be what they are after so many signatures
abbrev pub watched_at : KeyOfCode → ℕ → Expected
watched_at key n =
    record { states = Some (image_after key n) ∷ []; witnesses = witness_after key n ∷ [] }

-- a run that finds a state and its witness, both after so many signatures: it stores the next image for
-- certain, then so the next witness, and then writes its signature to a file
abbrev pub watched_run : KeyOfCode → ℕ → Bytes → Signature → TakenTurn
watched_run key n name one =
    let held = only (image_after key n) in
    let calls = Written name one.bytes (Ok tt) ∷ WitnessWritten (witness_after key (n + 1)) (Ok tt)
    ∷ PutBack (next_by key n held) ∷ Taken (Some (holding held))
    ∷ watch_calls (Some (witness_after key n)) in
    record {
      turn = Uses 1 (state_at key n) (image_after key n) (Some (witness_after key n));
      due = None;
      signatures = one ∷ [];
      whole = calls;
      begun = calls;
    }

-- a run that finds the state before any signature, and the witness after one: it stores the image after
-- one, by what the witness says
abbrev pub resuming_run : KeyOfCode → TakenTurn
resuming_run key =
    let held = only (image_after key 0) in
    let calls = PutBack (next_by key 0 held) ∷ Taken (Some (holding held))
    ∷ WitnessRead (Ok (Some (witness_after key 1))) ∷ [] in
    record {
      turn = Resumes 1 (state_at key 0) (witness_after key 1);
      due = None;
      signatures = [];
      whole = calls;
      begun = calls;
    }

-- whatever should be there after a run, it is not this state
abbrev pub IsNoneAfter : TakenTurn → Expected → List ℕ → Type 0
IsNoneAfter run held text = (left : Expected) → IsCarried run held left → ¬ Contains left.states (Some text)

-- a key's first index signs; then the state from before lies at its name again, and a run resumes by the
-- witness; then the second index signs. These runs take their turns, and carry along what state and
-- witness should be, although the state that the second finds is none that should be there
abbrev pub WorkedResume : Type 0
WorkedResume = (key : KeyOfCode) (name : Bytes) (first second : Signature) → HasImage key 0 0 0
    → 2 ≤ capacity_of (hss_key_of key)
    → IsSignature first → (first.key ≡ key) → (first.index ≡ 0)
    → IsSignature second → (second.key ≡ key) → (second.index ≡ 1)
    → IsRight (watched_run key 0 name first) × IsRight (resuming_run key)
    × IsRight (watched_run key 1 name second)
    × IsCarriedAlong (watched_at key 0)
    (watched_run key 0 name first ∷ resuming_run key ∷ watched_run key 1 name second ∷ [])
    × IsNoneAfter (watched_run key 0 name first) (watched_at key 0) (image_after key 0)

-- a run that uses the state before any signature, with this witness or none, and stored nothing before
abbrev pub UsesOlder : KeyOfCode → Watch → TakenTurn → Type 0
UsesOlder key watch run =
    (run.turn ≡ Uses 1 (state_at key 0) (image_after key 0) watch) × (run.due ≡ None) × ¬ CameToNeither run

-- after the first index signed, no run that uses that older state carries anything along, unless it
-- finds the witness that was written
abbrev pub WorkedOlder : Type 0
WorkedOlder = (key : KeyOfCode) (name : Bytes) (first : Signature) (watch : Watch) (run : TakenTurn)
    → HasImage key 0 0 0 → 1 ≤ capacity_of (hss_key_of key)
    → UsesOlder key watch run → watch ≢ Some (witness_after key 1)
    → ¬ IsCarriedAlong (watched_at key 0) (watched_run key 0 name first ∷ run ∷ [])
