-- What state and witness of a key should be from turn to turn of the program's runs: what storage owes.
use Rattle.std.specs.Prelude.{◌≡◌, ◌⊎◌, ◌+◌, ℕ, List, [], ◌∷◌, Contains, Option, Some, None, Ok}
use Rattle.lms_hss.specs.declared.key.HssKey.{HssKey as KeyOfCode}
use Rattle.lms_texts.specs.Witnesses.{witness_text}
use Rattle.lms_world.specs.Events.{WitnessWritten}
use Rattle.lms_commands.specs.Histories.{IsStored, Makes, Resumes, StoresNothing, TakenTurn, Turn, Uses, Watches}
use Rattle.lms_commands.specs.Histories.{image_by, store_calls, witness_calls}
use Rattle.lms_commands.specs.Logs.{WorldCalls}
use Rattle.lms_commands.specs.Watching.{Watch}

-- the bytes that a turn reads as a state that may sign; the one that a turn resumes may not
abbrev pub read_by : Turn → Option (List ℕ)
read_by StoresNothing = None
read_by (Makes key) = None
read_by (Uses count state text watch) = Some text
read_by (Watches state text) = Some text
read_by (Resumes count state watch) = None

-- the bytes that a turn writes as its witness, for certain or not
abbrev pub note_by : Turn → Option (List ℕ)
note_by StoresNothing = None
note_by (Makes key) = None
note_by (Uses count state text None) = None
note_by (Uses count state text (Some watch)) = Some (witness_text state.key.i (state.index + count))
note_by (Watches state text) = Some (witness_text state.key.i state.index)
note_by (Resumes count state watch) = None

-- a turn uses indices, and finds no witness
abbrev pub IsUnwatched : Turn → Type 0
IsUnwatched (Uses count state text None) = Unit {0}
IsUnwatched other = ⊥

-- the last call that wrote or made a witness replaced it by these bytes, for certain
abbrev pub IsNoted : List ℕ → WorldCalls → Type 0
IsNoted text calls = (earlier : WorldCalls) × (witness_calls calls ≡ WitnessWritten text (Ok tt) ∷ earlier)

-- what may be stored as the state, one of these: bytes, or `None` for no state at all
abbrev pub StateTexts : Type 0
StateTexts = List (Option (List ℕ))

-- what state and witness should be: the state one of `states`, the witness one of `witnesses`. What is there may be
-- none of these, as where an older file was put back
pub record Expected : Type 0 where
  pub states : StateTexts
  pub witnesses : List (List ℕ)

-- the calls that came to their end for certain: all but the last that was begun
abbrev pub ended : WorldCalls → WorldCalls
ended [] = []
ended (last ∷ earlier) = earlier

-- a witness that was read is what it should be; a missing one never is
abbrev pub IsExpectedWitness : Watch → Expected → Type 0
IsExpectedWitness None expected = ⊥
IsExpectedWitness (Some text) expected = Contains expected.witnesses text

-- a turn that uses indices finds state and witness, one of both at least as it should be; nothing is asked where its
-- run stored an image before, which is all that it reads. One that makes a key finds that there is no state, as it
-- should be; one that makes a witness finds the state as it should be, and one that resumes the witness
abbrev pub FindsExpected : Turn → Option (List ℕ) → Expected → Type 0
FindsExpected StoresNothing due expected = Unit {0}
FindsExpected (Makes key) due expected = Contains expected.states None
FindsExpected (Uses count state text watch) None expected =
    Contains expected.states (Some text) ⊎ IsExpectedWitness watch expected
FindsExpected (Uses count state text watch) (Some image) expected = Unit {0}
FindsExpected (Watches state text) due expected = Contains expected.states (Some text)
FindsExpected (Resumes count state watch) due expected = Contains expected.witnesses watch

-- this is what the state should be, and nothing else
abbrev pub IsOnly : List ℕ → StateTexts → Type 0
IsOnly image states = (found : Option (List ℕ)) → Contains states found → found ≡ Some image

-- so of the witness
abbrev pub IsOnlyNote : List ℕ → List (List ℕ) → Type 0
IsOnlyNote text witnesses = (found : List ℕ) → Contains witnesses found → found ≡ text

-- what storage owes, once a turn came to it, which found what it should. From then on the state should be what it
-- should have been, what the turn read, or the image that it stored (the last one, of a turn that resumes); and that
-- image alone where it was stored for certain. The witness should be what it should have been, or what the turn wrote; that alone where it was replaced for
-- certain and another call was begun after that; and whatever is there as a witness is not what it should be where the
-- use of indices was stored for certain by a turn that found none
pub record Moves (taken : TakenTurn) (expected left : Expected) : Type 0 where
  pub found : FindsExpected taken.turn taken.due expected
  pub states : (text : Option (List ℕ)) → Contains left.states text → Contains expected.states text
      ⊎ ((bytes : List ℕ) × (text ≡ Some bytes)
      × ((read_by taken.turn ≡ Some bytes) ⊎ (image_by taken.turn ≡ Some bytes)))
  pub stored : (image : List ℕ) → IsStored image taken.begun → IsOnly image left.states
  pub witnesses : (text : List ℕ) → Contains left.witnesses text
      → Contains expected.witnesses text ⊎ (note_by taken.turn ≡ Some text)
  pub noted : (text : List ℕ) → IsNoted text (ended taken.begun) → IsOnlyNote text left.witnesses
  pub unwatched : IsUnwatched taken.turn → (image : List ℕ) → IsStored image taken.begun
      → left.witnesses ≡ []

-- a key was made, and what both should be stays, as where its state was lost and there should have been one
abbrev pub MakesAgain : TakenTurn → Expected → Expected → Type 0
MakesAgain taken expected left = (key : KeyOfCode) × (taken.turn ≡ Makes key) × (left ≡ expected)

-- a turn came neither to its state nor to its witness
abbrev pub CameToNeither : TakenTurn → Type 0
CameToNeither taken = (store_calls taken.begun ≡ []) × (witness_calls taken.begun ≡ [])

-- what both should be before and after a turn; where it came to neither, that is the same
abbrev pub IsCarried : TakenTurn → Expected → Expected → Type 0
IsCarried taken expected left =
    (CameToNeither taken × (left ≡ expected))
    ⊎ (¬ CameToNeither taken × (Moves taken expected left ⊎ MakesAgain taken expected left))

-- turns one after another carry along what both should be, from this on
abbrev pub IsCarriedAlong : Expected → List TakenTurn → Type 0
IsCarriedAlong expected [] = Unit {0}
IsCarriedAlong expected (taken ∷ later) =
    (left : Expected) × IsCarried taken expected left × IsCarriedAlong left later
