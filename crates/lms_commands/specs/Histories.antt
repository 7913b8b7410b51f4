-- Runs of the program at one state, one after another, each perhaps cut off by a crash: what each
-- does with the state and its witness, and which signatures leave it.
use Rattle.std.specs.Prelude.{◌≡◌, ◌⊎◌, ◌+◌, ◌<◌, ◌≤◌, ℕ, List, [], ◌∷◌, ◌++◌, Bool, true, false, if◌then◌else◌}
use Rattle.std.specs.Prelude.{Contains, codes, filter, map, Option, Some, None, Result, Ok}
use Rattle.std.specs.List.{list_any}
use Rattle.lms_spec.specs.Hss.{capacity_of}
use Rattle.lms_spec.specs.Profile.{hss_signature}
use Rattle.lms_hss.specs.Keys.{hss_key_of}
use Rattle.lms_hss.specs.declared.key.HssKey.{HssKey as KeyOfCode}
use Rattle.lms_image.specs.Image.{image_of}
use Rattle.lms_book.specs.Stops.{StoreView, FailsToWrite, after_write}
use Rattle.lms_kept.specs.Signed.{IsSignedBy}
use Rattle.lms_kept.specs.Ways.{Way}
use Rattle.lms_lines.specs.AnswerLines.{answer_line}
use Rattle.lms_blocks.specs.Writing.{AppendsFront}
use Rattle.lms_world.specs.Events.{Event, Written, Asked, Taken, Taking, PutBack, Printing, Writing}
use Rattle.lms_world.specs.Names.{Bytes}
use Rattle.lms_world.specs.declared.fault.WorldFault.{WorldFault}
use Rattle.lms_world.specs.Events.{WitnessMade, WitnessRead, WitnessWritten}
use Rattle.lms_texts.specs.Witnesses.{witness_text}
use Rattle.lms_texts.specs.Descriptions.{number_line}
use Rattle.lms_commands.specs.Logs.{KeyState, WorldCalls, ReadsState, StoresSome, image_using}
use Rattle.lms_commands.specs.Watching.{IsAdmitted, Says, Watch, notes}

-- bytes that are a signature by an index of a key
pub record Signature : Type 0 where
  pub key : KeyOfCode
  pub index : ℕ
  pub bytes : List ℕ

-- they are the standard's of some message, or one by nodes that are kept of the key's trees
abbrev pub IsSignature : Signature → Type 0
IsSignature one =
    (randomizer message : List ℕ)
    × ((one.bytes ≡ hss_signature (hss_key_of one.key) one.index randomizer message)
    ⊎ ((nodes : Option Way) × IsSignedBy nodes one.key one.index randomizer message one.bytes))

-- signatures by indices of a key from one on and below another, each index above those before
abbrev pub AreInOrder : KeyOfCode → ℕ → ℕ → List Signature → Type 0
AreInOrder key start end [] = Unit {0}
AreInOrder key start end (one ∷ later) =
    IsSignature one × (one.key ≡ key) × (start ≤ one.index) × (one.index < end)
    × AreInOrder key (one.index + 1) end later

-- what a turn of a run does with its state and its witness
pub data Turn : Type 0 where
  -- it stores nothing
  StoresNothing : Turn
  -- it finds no state, and stores that of a key of which no index is used
  Makes : (key : KeyOfCode) → Turn
  -- it reads bytes, the image of a state that its witness does not refuse, where it has one; it stores
  -- the image that counts so many indices more, and then has the witness say so
  Uses : (count : ℕ) (state : KeyState) (text : List ℕ) (watch : Watch) → Turn
  -- it reads bytes, the image of a state that has no witness, and makes one that says what it counts
  Watches : (state : KeyState) (text : List ℕ) → Turn
  -- it reads the image of a state that counts so many indices less than its witness says, and stores images that count
  -- more, up to the one that counts as many
  Resumes : (count : ℕ) (state : KeyState) (watch : List ℕ) → Turn

-- the image that a turn stores, for certain or not; of one that resumes the last, before which it may store others
abbrev pub image_by : Turn → Option (List ℕ)
image_by StoresNothing = None
image_by (Makes key) = Some (image_of key 0 0 0)
image_by (Uses count state text watch) = Some (image_using count state)
image_by (Watches state text) = None
image_by (Resumes count state watch) = Some (image_using count state)

-- a call that takes out or puts back what keeps the state
abbrev pub is_of_store : Event → Bool
is_of_store (Taken (Some store)) = true
is_of_store (PutBack store) = true
is_of_store other = false

abbrev pub store_calls : WorldCalls → WorldCalls
store_calls calls = filter is_of_store calls

-- a call that writes a witness, or makes one
abbrev pub is_of_witness : Event → Bool
is_of_witness (WitnessWritten text answer) = true
is_of_witness (WitnessMade name text answer) = true
is_of_witness other = false

abbrev pub witness_calls : WorldCalls → WorldCalls
witness_calls calls = filter is_of_witness calls

-- what was read of the witness, `None` where there was none; reads that failed are left out
abbrev pub found_in : WorldCalls → List Watch
found_in [] = []
found_in (WitnessRead (Ok found) ∷ calls) = found ∷ found_in calls
found_in (other ∷ calls) = found_in calls

-- a call with which something leaves: bytes are written to a file, or an output begins to be
-- printed to
abbrev pub hands_out : Event → Bool
hands_out (Written name bytes answer) = true
hands_out (Printing before) = true
hands_out other = false

-- the bytes that are written to files
abbrev pub written_in : WorldCalls → List (List ℕ)
written_in [] = []
written_in (Written name bytes answer ∷ calls) = bytes ∷ written_in calls
written_in (other ∷ calls) = written_in calls

-- what keeps the state is taken out and put back, once
abbrev pub IsOneUse : Taking → StoreView → WorldCalls → Type 0
IsOneUse taken left calls = store_calls calls ≡ PutBack left ∷ Taken (Some taken) ∷ []

-- an image is stored, for certain or not, and no other
abbrev pub Stores : List ℕ → StoreView → StoreView → Type 0
Stores image taken left = (left ≡ after_write image taken) ⊎ FailsToWrite image taken left

-- nothing is stored: what a crash leaves stays
abbrev pub IsUnwritten : StoreView → StoreView → Type 0
IsUnwritten taken left = (left.now ≡ taken.now) × (left.past ≡ taken.past)

-- a state is asked for before anything is done with it, and is not there
abbrev pub FindsNone : WorldCalls → Type 0
FindsNone calls =
    (later earlier : WorldCalls) × (calls ≡ later ++ Asked false ∷ earlier)
    × (store_calls earlier ≡ [])

-- the witness was written, for certain or not, to say that so many more indices are used; or none was written
abbrev pub NotesAtMost : ℕ → KeyState → Watch → WorldCalls → Type 0
NotesAtMost count state watch calls =
    (witness_calls calls ≡ [])
    ⊎ ((answer : Writing) × (witness_calls calls ≡ notes count watch state.key.i state.index answer))

-- bytes are read, the image of a state that its witness does not refuse; the image that counts so many indices more is
-- stored, for certain or not; and the witness is written, for certain or not, or is not
pub record CountsIndices (count : ℕ) (state : KeyState) (text : List ℕ) (watch : Watch)
    (calls : WorldCalls) : Type 0 where
  pub taken : Taking
  pub given : StoreView
  pub left : StoreView
  pub read : ReadsState state taken.view given
  pub text_is : read.text ≡ text
  pub some : 1 ≤ count
  pub within : state.index + count ≤ capacity_of (hss_key_of state.key)
  pub stores : Stores (image_using count state) given left
  pub one_use : IsOneUse taken left calls
  pub seen : found_in calls ≡ watch ∷ []
  pub admitted : IsAdmitted watch state.key.i state.index
  pub notes_so : NotesAtMost count state watch calls

-- bytes are read, the image of a state that has no witness; nothing is stored, and a witness is made,
-- for certain or not
pub record MakesWitness (state : KeyState) (text : List ℕ) (calls : WorldCalls) : Type 0 where
  pub taken : Taking
  pub given : StoreView
  pub read : ReadsState state taken.view given
  pub text_is : read.text ≡ text
  pub one_use : IsOneUse taken given calls
  pub seen : found_in calls ≡ None ∷ []
  pub name : Bytes
  pub answer : Result Bytes WorldFault
  pub makes : witness_calls calls ≡ WitnessMade name (witness_text state.key.i state.index) answer ∷ []

-- bytes are read, the image of a state that is older than its witness, and what is stored then counts at
-- most as much as that says
pub record CountsUp (count : ℕ) (state : KeyState) (watch : List ℕ) (calls : WorldCalls) : Type 0 where
  pub taken : Taking
  pub given : StoreView
  pub left : StoreView
  pub read : ReadsState state taken.view given
  pub some : 1 ≤ count
  pub within : state.index + count ≤ capacity_of (hss_key_of state.key)
  pub stores : StoresSome (state.index + count) state given left
  pub one_use : IsOneUse taken left calls
  pub seen : found_in calls ≡ Some watch ∷ []
  pub says : Says watch state.key.i (state.index + count)
  pub unnoted : witness_calls calls ≡ []

-- the calls that a turn makes on the state and its witness, and no other
abbrev pub IsDoneBy : Turn → WorldCalls → Type 0
IsDoneBy StoresNothing calls =
    (witness_calls calls ≡ [])
    × ((store_calls calls ≡ [])
    ⊎ ((taken : Taking) × (left : StoreView) × IsUnwritten taken.view left
    × IsOneUse taken left calls))
IsDoneBy (Makes key) calls =
    (witness_calls calls ≡ []) × FindsNone calls
    × ((taken : Taking) × (left : StoreView) × Stores (image_of key 0 0 0) taken.view left
    × IsOneUse taken left calls)
IsDoneBy (Uses count state text watch) calls = CountsIndices count state text watch calls
IsDoneBy (Watches state text) calls = MakesWitness state text calls
IsDoneBy (Resumes count state watch) calls = CountsUp count state watch calls

-- the last that was done with the state is that this image was stored, for certain
abbrev pub IsStored : List ℕ → WorldCalls → Type 0
IsStored image calls =
    (before : StoreView) × (earlier : WorldCalls)
    × (store_calls calls ≡ PutBack (after_write image before) ∷ earlier)

-- the use of so many indices is stored for certain, and said by the witness, where there is one
abbrev pub AreCounted : ℕ → KeyState → Watch → WorldCalls → Type 0
AreCounted count state watch calls =
    IsStored (image_using count state) calls
    × (witness_calls calls ≡ notes count watch state.key.i state.index (Ok tt))

-- the signatures that leave after these calls: none, or by indices whose use is counted for certain
abbrev pub Signs : Turn → List Signature → WorldCalls → Type 0
Signs (Uses count state text watch) signatures calls =
    AreInOrder state.key state.index (state.index + count) signatures
    × ((signatures ≡ []) ⊎ AreCounted count state watch calls)
Signs other signatures calls = signatures ≡ []

-- all calls of a turn: at first those on its state and its witness, while nothing leaves; then those with which
-- something may leave, while nothing is done with the state, and no witness is written
pub record IsTurn (turn : Turn) (signatures : List Signature) (whole : WorldCalls) : Type 0 where
  pub first : WorldCalls
  pub later : WorldCalls
  pub calls : whole ≡ later ++ first
  pub does : IsDoneBy turn first
  pub nothing_leaves : list_any hands_out first ≡ false
  pub signs : Signs turn signatures first
  pub nothing_stored : store_calls later ≡ []
  pub nothing_noted : witness_calls later ≡ []

-- what is written to files are these signatures
abbrev pub AreWritten : List Signature → WorldCalls → Type 0
AreWritten signatures whole = written_in whole ≡ map (λ (one : Signature). one.bytes) signatures

-- the lines of signatures
abbrev pub signature_lines : List Signature → List ℕ
signature_lines [] = []
signature_lines (one ∷ later) = answer_line one.index one.bytes ++ signature_lines later

-- a beginning of this text is printed
abbrev pub Prints : List ℕ → List ℕ → List ℕ → Type 0
Prints before printed text = AppendsFront (Some before) (Some printed) text

-- no file is written, and what is printed is a beginning of the lines of these signatures
abbrev pub ArePrinted : List Signature → WorldCalls → List ℕ → List ℕ → Type 0
ArePrinted signatures whole before printed =
    (written_in whole ≡ []) × Prints before printed (signature_lines signatures)

-- these signatures are written to files; and nothing is printed or, of one signature, a beginning of its index's line
abbrev pub AreDelivered : List Signature → WorldCalls → List ℕ → List ℕ → Type 0
AreDelivered signatures whole before printed = AreWritten signatures whole
    × ((printed ≡ before)
    ⊎ ((one : Signature) × (signatures ≡ one ∷ [])
    × Prints before printed (number_line (codes "index") one.index)))

-- no file is written, and nothing is printed
abbrev pub HandsNothing : WorldCalls → List ℕ → List ℕ → Type 0
HandsNothing whole before printed = (written_in whole ≡ []) × (printed ≡ before)

-- the calls that were begun before a crash, the last perhaps cut off, are the first of all that
-- would have been
abbrev pub IsBeginning : WorldCalls → WorldCalls → Type 0
IsBeginning begun whole = (later : WorldCalls) × (whole ≡ later ++ begun)

-- a turn of a run: what it does with the state, the signatures that leave it if it comes so far, all
-- calls that it would make, and those that it began before the run ended or crashed
pub record TakenTurn : Type 0 where
  pub turn : Turn
  -- the image that the run stored last before it, if it stored any
  pub due : Option (List ℕ)
  pub signatures : List Signature
  pub whole : WorldCalls
  pub begun : WorldCalls

-- the signatures that left, each perhaps in part: all, once anything did
abbrev pub left_in : TakenTurn → List Signature
left_in taken = if list_any hands_out taken.begun then taken.signatures else []

-- where its run stored an image before, that is what a turn reads that uses indices
abbrev pub Continues : Turn → Option (List ℕ) → Type 0
Continues (Uses count state text watch) (Some image) = text ≡ image
Continues (Uses count state text watch) None = Unit {0}
Continues StoresNothing due = Unit {0}
Continues (Makes key) due = Unit {0}
Continues (Watches state text) due = Unit {0}
Continues (Resumes count state watch) due = Unit {0}

-- the image that a run stored last, after a turn; a run that makes a key or a witness, or resumes, takes no other turn,
-- so that `None` will do
abbrev pub stored_last : Turn → Option (List ℕ) → Option (List ℕ)
stored_last StoresNothing due = due
stored_last (Makes key) due = None
stored_last (Uses count state text watch) due = Some (image_using count state)
stored_last (Watches state text) due = None
stored_last (Resumes count state watch) due = None

-- turns of one run, one after another, each of which reads what the run stored last, if it stored
-- anything before
abbrev pub AreLinked : Option (List ℕ) → List TakenTurn → Type 0
AreLinked due [] = Unit {0}
AreLinked due (taken ∷ later) =
    (taken.due ≡ due) × Continues taken.turn due × AreLinked (stored_last taken.turn due) later

-- all signatures that left, in order
abbrev pub all_left : List TakenTurn → List Signature
all_left [] = []
all_left (taken ∷ later) = left_in taken ++ all_left later

-- of one key, the second is by a later index
abbrev pub IsEarlier : Signature → Signature → Type 0
IsEarlier first second = first.key ≡ second.key → first.index < second.index

-- all calls that turns would make, one turn after another
abbrev pub whole_calls : List TakenTurn → WorldCalls
whole_calls [] = []
whole_calls (taken ∷ later) = whole_calls later ++ taken.whole

-- those that they began
abbrev pub begun_calls : List TakenTurn → WorldCalls
begun_calls [] = []
begun_calls (taken ∷ later) = begun_calls later ++ taken.begun

-- the signatures that leave them if all come so far
abbrev pub turn_signatures : List TakenTurn → List Signature
turn_signatures [] = []
turn_signatures (taken ∷ later) = taken.signatures ++ turn_signatures later

-- turns one after another, cut off somewhere: where one is not begun to its end, nothing is begun of
-- those after it
abbrev pub AreCutTurns : List TakenTurn → Type 0
AreCutTurns [] = Unit {0}
AreCutTurns (taken ∷ later) = IsTurn taken.turn taken.signatures taken.whole
    × IsBeginning taken.begun taken.whole
    × ((taken.begun ≡ taken.whole) ⊎ (begun_calls later ≡ [])) × AreCutTurns later

-- turns one after another, none of them cut off
abbrev pub AreWholeTurns : List TakenTurn → Type 0
AreWholeTurns [] = Unit {0}
AreWholeTurns (taken ∷ later) = IsTurn taken.turn taken.signatures taken.whole × AreWholeTurns later
