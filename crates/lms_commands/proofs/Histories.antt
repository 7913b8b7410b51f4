-- No index leaves twice.
use Rattle.std.proofs.Common.{◌≡◌, ◌∙◌, ℕ, zero, suc, ◌+◌, ◌<◌, ◌≤◌, Bool, true, false, ◌||◌, Option, None, Some}
use Rattle.std.proofs.Common.{List, [], ◌∷◌, ◌++◌, get_or, length, append_assoc, ap, refl, subst, sym, inl, inr, ⊎_elim}
use Rattle.std.proofs.Common.{arith}
use Rattle.std.specs.Prelude.{◌≢◌, ◌⊎◌, All, Contains, AllPairs, IfSome, cond, filter, if◌then◌else◌, slice_index}
use Rattle.std.specs.List.{AllByRecursion, list_any}
use Rattle.std.proofs.lemmas.Bool.{true≢false}
use Rattle.std.proofs.lemmas.List.Elements.{All-head, All-tail, filter-append}
use Rattle.lms_image.specs.Image.{HasImage, IsImage, id_size}
use Rattle.lms_image.proofs.Images.{image-same}
use Rattle.lms_spec.specs.Hss.{capacity_of}
use Rattle.lms_hss.specs.Keys.{hss_key_of}
use Rattle.lms_hss.specs.declared.key.HssKey.{HssKey as KeyOfCode}
use Rattle.lms_hss.proofs.Keys.{capacity-limit}
use Rattle.lms_book.specs.Stops.{StoreView}
use Rattle.lms_book.proofs.Overlap.{pairs_cons}
use Rattle.lms_texts.specs.Witnesses.{witness_text}
use Rattle.lms_texts.proofs.Witnesses.{witness_same}
use Rattle.lms_world.specs.Events.{Event, Printing, Written}
use Rattle.lms_commands.specs.Expectations.{CameToNeither, Expected, FindsExpected, IsCarried, IsExpectedWitness}
use Rattle.lms_commands.specs.Expectations.{IsOnly, IsOnlyNote, IsUnwatched, Moves, ended, note_by, read_by}
use Rattle.lms_commands.specs.Histories.{AreCounted, AreInOrder, Continues, CountsIndices, CountsUp}
use Rattle.lms_commands.specs.Histories.{IsBeginning, IsDoneBy, IsEarlier}
use Rattle.lms_commands.specs.Histories.{IsTurn}
use Rattle.lms_commands.specs.Histories.{Signature, Signs, TakenTurn}
use Rattle.lms_commands.specs.Histories.{Turn, StoresNothing, Makes, Uses, Watches, Resumes, all_left, hands_out}
use Rattle.lms_commands.specs.Histories.{image_by, is_of_store, is_of_witness, left_in, store_calls}
use Rattle.lms_commands.specs.Histories.{witness_calls}
use Rattle.lms_commands.specs.Logs.{KeyState, ReadsState, WorldCalls, image_using}
use Rattle.lms_commands.specs.Watching.{IsAdmitted, Says, Watch}

-- ---- what was handed out comes after all that was done with state and witness

no_first : (kind : Event → Bool) (event : Event) (calls : WorldCalls) (b : Bool) → kind event ≡ b
    → filter kind (event ∷ calls) ≡ [] → filter kind calls ≡ []
no_first kind event calls true is none =
    absurd (cc (subst (λ (c : Bool). cond c (event ∷ filter kind calls) (filter kind calls) ≡ []) is none))
no_first kind event calls false is none =
    subst (λ (c : Bool). cond c (event ∷ filter kind calls) (filter kind calls) ≡ []) is none

any_behind : (rest begun : WorldCalls) → list_any hands_out begun ≡ true → list_any hands_out (rest ++ begun) ≡ true
any_behind [] begun some = some
any_behind (event ∷ rest) begun some = or_true (hands_out event) (any_behind rest begun some)
  where
    or_true : (b : Bool) {c : Bool} → c ≡ true → (b || c) ≡ true
    or_true true is = refl
    or_true false is = is

-- once something was handed out, all calls of a kind that has none later were begun
all_done : (kind : Event → Bool) (rest later first begun : WorldCalls) → later ++ first ≡ rest ++ begun
    → list_any hands_out first ≡ false → filter kind later ≡ []
    → list_any hands_out begun ≡ true → filter kind begun ≡ filter kind first
all_done kind [] later first begun same quiet none some =
    ap (filter kind) (sym same)
    ∙ (filter-append kind later first ∙ ap (λ (calls : WorldCalls). calls ++ filter kind first) none)
all_done kind (event ∷ rest) [] first begun same quiet none some =
    absurd (true≢false (sym (any_behind (event ∷ rest) begun some) ∙ (ap (list_any hands_out) (sym same) ∙ quiet)))
all_done kind (event ∷ rest) (other ∷ later) first begun same quiet none some =
    all_done kind rest later first begun (cc same) quiet (no_first kind other later (kind other) refl none) some

-- and came to their end, where what hands out is of another kind
all_ended : (kind : Event → Bool) → ((event : Event) → hands_out event ≡ true → kind event ≡ false)
    → (rest later first begun : WorldCalls) → later ++ first ≡ rest ++ begun
    → list_any hands_out first ≡ false → filter kind later ≡ []
    → list_any hands_out begun ≡ true → filter kind (ended begun) ≡ filter kind first
all_ended kind other rest later first [] same quiet none some = absurd (true≢false (sym some))
all_ended kind other rest later first (event ∷ earlier) same quiet none some = by_last (hands_out event) refl
  where
    by_last : (b : Bool) → hands_out event ≡ b → filter kind earlier ≡ filter kind first
    by_last true is =
        sym (ap (λ (c : Bool). cond c (event ∷ filter kind earlier) (filter kind earlier)) (other event is))
        ∙ all_done kind rest later first (event ∷ earlier) same quiet none some
    by_last false is =
        all_done kind (rest ++ event ∷ []) later first earlier
        (same ∙ sym (append_assoc rest (event ∷ []) earlier)) quiet none
        (sym (ap (λ (b : Bool). b || list_any hands_out earlier) is) ∙ some)

-- what hands out writes no witness
no_witness : (event : Event) → hands_out event ≡ true → is_of_witness event ≡ false
no_witness (Written name bytes answer) is = refl
no_witness (Printing before) is = refl
no_witness other is = cc

-- ---- signatures whose use is counted

-- a state that has an image
abbrev IsState : KeyState → Type 0
IsState state = HasImage state.key state.index state.openings state.burnt

-- these bytes are the image of this state
record IsImageOf (state : KeyState) (text : List ℕ) : Type 0 where
  counted : IsState state
  image : IsImage text state.key state.index state.openings state.burnt

image_read : {taken given : StoreView} (state : KeyState) (text : List ℕ) (read : ReadsState state taken given)
    → read.text ≡ text → IsImageOf state text
image_read state text read is = record {
  counted = read.counted;
  image = subst (λ (t : List ℕ). IsImage t state.key state.index state.openings state.burnt) is read.image;
}

-- a state that counts so many indices more
abbrev using : ℕ → KeyState → KeyState
using count state = record {
  key = state.key;
  index = state.index + count;
  openings = state.openings + 1;
  burnt = state.burnt;
}

image_stored : (count : ℕ) (state : KeyState) → IsState state → 1 ≤ count
    → state.index + count ≤ capacity_of (hss_key_of state.key)
    → IsImageOf (using count state) (image_using count state)
image_stored count state has some within = record {
  counted = record {
    admitted = has.admitted;
    seed_length = has.seed_length;
    seed_bytes = has.seed_bytes;
    id_length = has.id_length;
    id_bytes = has.id_bytes;
    within = within;
    openings_within = omega (arith, has.openings_within, some);
    burnt_within = omega (arith, has.burnt_within);
  };
  image = inl refl;
}

-- every element is a byte
abbrev AreBytes : List ℕ → Type 0
AreBytes xs = (i : ℕ) → slice_index xs i < 256

-- an identifier, as keys have it
record IsId (id : List ℕ) : Type 0 where
  long : length id ≡ id_size
  bytes : AreBytes id

bytes_of : (xs : List ℕ) → All (λ b. b < 256) xs → AreBytes xs
bytes_of [] all = λ i. omega arith
bytes_of (x ∷ xs) all = by_place (All-head (λ b. b < 256) x xs all) (bytes_of xs (All-tail (λ b. b < 256) x xs all))
  where
    by_place : x < 256 → AreBytes xs → (i : ℕ) → slice_index (x ∷ xs) i < 256
    by_place here later zero = here
    by_place here later (suc i) = later i

id_of : (state : KeyState) → IsState state → IsId state.key.i
id_of state has = record { long = has.id_length; bytes = bytes_of state.key.i has.id_bytes }

-- a signature is of another identifier, or by an index below this
abbrev IsUsed : Signature → List ℕ → ℕ → Type 0
IsUsed one id counter = one.key.i ≡ id → one.index < counter

-- any state with this image counts it
abbrev Counts : Signature → List ℕ → Type 0
Counts one text = (state : KeyState) → IsImageOf state text → IsUsed one state.key.i state.index

-- and no state counts nothing
abbrev CountsText : Signature → Option (List ℕ) → Type 0
CountsText one None = ⊥
CountsText one (Some text) = Counts one text

-- so do these bytes, whatever they say as a witness
abbrev CountsBy : Signature → List ℕ → Type 0
CountsBy one text = (id : List ℕ) (counter : ℕ) → IsId id → Says text id counter → IsUsed one id counter

-- two states of one image are of one key, and count the same
counts_image : (one : Signature) (state : KeyState) (text : List ℕ) → IsImageOf state text
    → IsUsed one state.key.i state.index → Counts one text
counts_image one state text is used = λ other at same_id.
    let same = image-same text state.key other.key state.index other.index state.openings other.openings state.burnt
    other.burnt is.counted at.counted is.image at.image in
    omega (arith, used (same_id ∙ sym (ap (λ (k : KeyOfCode). k.i) same.0)), same.1)

-- the image that counts so many indices more
counts_stored : (one : Signature) (count : ℕ) (state : KeyState) → IsState state → 1 ≤ count
    → state.index + count ≤ capacity_of (hss_key_of state.key)
    → IsUsed one state.key.i (state.index + count) → Counts one (image_using count state)
counts_stored one count state has some within used =
    counts_image one (using count state) (image_using count state) (image_stored count state has some within) used

-- two witnesses of one text are of one identifier, and say the same
counts_noted : (one : Signature) (counter : ℕ) (state : KeyState) → IsState state
    → counter ≤ capacity_of (hss_key_of state.key)
    → IsUsed one state.key.i counter → CountsBy one (witness_text state.key.i counter)
counts_noted one counter state has within used = λ id other is says same_id.
    let own = id_of state has in
    let limit = capacity-limit state.key has.admitted in
    let same = witness_same state.key.i id counter other (own.long ∙ sym is.long) own.bytes is.bytes
    (omega (arith, within, limit)) says.fits says.text_is in
    omega (arith, used (same_id ∙ sym same.0), same.1)

-- the image that a run stored last counts it, where there is one
abbrev CountsDue : Signature → Option (List ℕ) → Type 0
CountsDue one due = IfSome due (λ image. Counts one image)

-- so does all that state and witness should be
record IsCounted (one : Signature) (due : Option (List ℕ)) (held : Expected) : Type 0 where
  states : (text : Option (List ℕ)) → Contains held.states text → CountsText one text
  witnesses : (text : List ℕ) → Contains held.witnesses text → CountsBy one text
  due_so : CountsDue one due

-- ---- what a turn finds counts what was counted

-- a state that its witness does not refuse, of which one is what it should be
used_found : (one : Signature) (state : KeyState) (text : List ℕ) (watch : Watch) (due : Option (List ℕ))
    (held : Expected) → IsImageOf state text → IsAdmitted watch state.key.i state.index
    → Contains held.states (Some text) ⊎ IsExpectedWitness watch held → IsCounted one due held
    → IsUsed one state.key.i state.index
used_found one state text watch due held is admitted (inl there) counts = counts.states (Some text) there state is
used_found one state text None due held is admitted (inr never) counts = absurd never
used_found one state text (Some seen) due held is admitted (inr there) counts = λ same.
    let below = counts.witnesses seen there state.key.i admitted.0 (id_of state is.counted) admitted.1 same in
    omega (arith, below, admitted.2)

-- or that the run stored before
used_before : (one : Signature) (count : ℕ) (state : KeyState) (text : List ℕ) (watch : Watch) (first : WorldCalls)
    (due : Option (List ℕ)) (held : Expected) → CountsIndices count state text watch first
    → Continues (Uses count state text watch) due → FindsExpected (Uses count state text watch) due held
    → IsCounted one due held → IsUsed one state.key.i state.index
used_before one count state text watch first None held does goes found counts =
    used_found one state text watch None held (image_read state text does.read does.text_is) does.admitted found counts
used_before one count state text watch first (Some image) held does goes found counts =
    subst (Counts one) (sym goes) counts.due_so state (image_read state text does.read does.text_is)

-- one that is older than a witness that is what it should be
used_resumed : (one : Signature) (count : ℕ) (state : KeyState) (watch : List ℕ) (first : WorldCalls)
    (due : Option (List ℕ)) (held : Expected) → CountsUp count state watch first → Contains held.witnesses watch
    → IsCounted one due held → IsUsed one state.key.i (state.index + count)
used_resumed one count state watch first due held does found counts =
    counts.witnesses watch found state.key.i (state.index + count) (id_of state does.read.counted) does.says

-- ---- what was counted stays so

same_some : {x y : List ℕ} → Some x ≡ Some y → x ≡ y
same_some is = cc is

-- by what a turn read or stored
states_stay : (one : Signature) (turn : Turn) (due : Option (List ℕ)) (first : WorldCalls) (held : Expected)
    (bytes : List ℕ) → IsDoneBy turn first → Continues turn due → FindsExpected turn due held
    → (read_by turn ≡ Some bytes) ⊎ (image_by turn ≡ Some bytes) → IsCounted one due held → Counts one bytes
states_stay one StoresNothing due first held bytes does goes found (inl is) counts = absurd (cc is)
states_stay one StoresNothing due first held bytes does goes found (inr is) counts = absurd (cc is)
states_stay one (Makes key) due first held bytes does goes found is counts = absurd (counts.states None found)
states_stay one (Uses count state text watch) due first held bytes does goes found (inl is) counts =
    subst (Counts one) (same_some is)
    (counts_image one state text (image_read state text does.read does.text_is)
    (used_before one count state text watch first due held does goes found counts))
states_stay one (Uses count state text watch) due first held bytes does goes found (inr is) counts =
    let used = used_before one count state text watch first due held does goes found counts in
    subst (Counts one) (same_some is)
    (counts_stored one count state does.read.counted does.some does.within (λ same. omega (arith, used same)))
states_stay one (Watches state text) due first held bytes does goes found (inl is) counts =
    subst (Counts one) (same_some is) (counts.states (Some text) found)
states_stay one (Watches state text) due first held bytes does goes found (inr is) counts = absurd (cc is)
states_stay one (Resumes count state watch) due first held bytes does goes found (inl is) counts = absurd (cc is)
states_stay one (Resumes count state watch) due first held bytes does goes found (inr is) counts =
    subst (Counts one) (same_some is)
    (counts_stored one count state does.read.counted does.some does.within
    (used_resumed one count state watch first due held does found counts))

-- by what it wrote as the witness
witness_stays : (one : Signature) (turn : Turn) (due : Option (List ℕ)) (first : WorldCalls) (held : Expected)
    (note : List ℕ) → IsDoneBy turn first → Continues turn due → FindsExpected turn due held
    → note_by turn ≡ Some note → IsCounted one due held → CountsBy one note
witness_stays one StoresNothing due first held note does goes found is counts = absurd (cc is)
witness_stays one (Makes key) due first held note does goes found is counts = absurd (cc is)
witness_stays one (Uses count state text None) due first held note does goes found is counts = absurd (cc is)
witness_stays one (Uses count state text (Some watch)) due first held note does goes found is counts =
    let used = used_before one count state text (Some watch) first due held does goes found counts in
    subst (CountsBy one) (same_some is)
    (counts_noted one (state.index + count) state does.read.counted does.within (λ same. omega (arith, used same)))
witness_stays one (Watches state text) due first held note does goes found is counts =
    subst (CountsBy one) (same_some is)
    (counts_noted one state.index state does.read.counted does.read.counted.within
    (counts.states (Some text) found state (image_read state text does.read does.text_is)))
witness_stays one (Resumes count state watch) due first held note does goes found is counts = absurd (cc is)

-- a turn goes on from what was stored last, as far as is known; or it came to nothing
abbrev pub Links : Option (List ℕ) → TakenTurn → Type 0
Links due run = (run.due ≡ None) ⊎ ((run.due ≡ due) ⊎ CameToNeither run)

-- what is known to be stored last after a turn that made so many calls on its state
abbrev pub known_by : Turn → WorldCalls → Option (List ℕ) → Option (List ℕ)
known_by StoresNothing calls due = due
known_by (Makes key) calls due = None
known_by (Uses count state text watch) [] due = None
known_by (Uses count state text watch) (call ∷ calls) due = Some (image_using count state)
known_by (Watches state text) calls due = None
known_by (Resumes count state watch) calls due = None

abbrev pub known_after : Option (List ℕ) → TakenTurn → Option (List ℕ)
known_after due run = known_by run.turn (store_calls run.begun) due

-- that counts it where the image that the turn stored does
due_counted : (one : Signature) (turn : Turn) (calls : WorldCalls) (due : Option (List ℕ)) → CountsDue one due
    → ((image : List ℕ) → calls ≢ [] → image_by turn ≡ Some image → Counts one image)
    → CountsDue one (known_by turn calls due)
due_counted one StoresNothing calls due counts stored = counts
due_counted one (Makes key) calls due counts stored = tt
due_counted one (Uses count state text watch) [] due counts stored = tt
due_counted one (Uses count state text watch) (call ∷ calls) due counts stored =
    stored (image_using count state) (λ none. cc none) refl
due_counted one (Watches state text) calls due counts stored = tt
due_counted one (Resumes count state watch) calls due counts stored = tt

-- a turn that came to something goes on from what counts all that was counted
linked : (one : Signature) (due : Option (List ℕ)) (run : TakenTurn) (held : Expected) → Links due run
    → ¬ CameToNeither run → IsCounted one due held → IsCounted one run.due held
linked one due run held links came counts = record {
  states = counts.states;
  witnesses = counts.witnesses;
  due_so = by_link links;
}
  where
    by_link : Links due run → CountsDue one run.due
    by_link (inl none) = subst (CountsDue one) (sym none) tt
    by_link (inr (inl same)) = subst (CountsDue one) (sym same) counts.due_so
    by_link (inr (inr nothing)) = absurd (came nothing)

-- what both should be stays
same_counted : (one : Signature) (due known : Option (List ℕ)) (held left : Expected) → left ≡ held
    → CountsDue one known → IsCounted one due held → IsCounted one known left
same_counted one due known held left same known_so counts =
    subst (λ (h : Expected). IsCounted one known h) (sym same)
    (record { states = counts.states; witnesses = counts.witnesses; due_so = known_so })

-- or it moves
moves_counted : (one : Signature) (due : Option (List ℕ)) (run : TakenTurn) (held left : Expected)
    → IsTurn run.turn run.signatures run.whole → Continues run.turn run.due → Moves run held left
    → CountsDue one due → IsCounted one run.due held → IsCounted one (known_after due run) left
moves_counted one due run held left turn goes moves due_so counts = record {
  states = λ text there.
      ⊎_elim (counts.states text)
      (λ (bytes, is, by). subst (CountsText one) (sym is) (state_so bytes by))
      (moves.states text there);
  witnesses = λ text there.
      ⊎_elim (counts.witnesses text)
      (λ is. witness_stays one run.turn run.due turn.first held text turn.does goes moves.found is counts)
      (moves.witnesses text there);
  due_so = due_counted one run.turn (store_calls run.begun) due due_so (λ image some is. state_so image (inr is));
}
  where
    state_so : (bytes : List ℕ) → (read_by run.turn ≡ Some bytes) ⊎ (image_by run.turn ≡ Some bytes)
        → Counts one bytes
    state_so bytes is = states_stay one run.turn run.due turn.first held bytes turn.does goes moves.found is counts

stays_counted : (one : Signature) (due : Option (List ℕ)) (run : TakenTurn) (held left : Expected)
    → IsTurn run.turn run.signatures run.whole → Links due run → Continues run.turn run.due
    → IsCarried run held left → IsCounted one due held → IsCounted one (known_after due run) left
stays_counted one due run held left turn links goes (inl (nothing, same)) counts =
    same_counted one due (known_after due run) held left same
    (due_counted one run.turn (store_calls run.begun) due counts.due_so
    (λ image some is. absurd (some nothing.0))) counts
stays_counted one due run held left turn links goes (inr (came, inl moves)) counts =
    moves_counted one due run held left turn goes moves counts.due_so (linked one due run held links came counts)
stays_counted one due run held left turn links goes (inr (came, inr (key, makes, same))) counts =
    same_counted one due (known_after due run) held left same
    (subst (λ (t : Turn). CountsDue one (known_by t (store_calls run.begun) due)) (sym makes) tt) counts

-- ---- signatures of one run

-- all are by indices from here on
from_start : (key : KeyOfCode) (start end : ℕ) (signatures : List Signature) (one : Signature)
    → (one.key ≡ key → one.index < start) → AreInOrder key start end signatures
    → AllByRecursion (IsEarlier one) signatures
from_start key start end [] one before is = tt
from_start key start end (next ∷ later) one before (made, of_key, from, below, rest) = (
  λ same. omega (arith, before (same ∙ of_key), from),
  from_start key (next.index + 1) end later one (λ same. omega (arith, before same, from)) rest,
)

in_order : (key : KeyOfCode) (start end : ℕ) (signatures : List Signature) → AreInOrder key start end signatures
    → AllPairs IsEarlier signatures
in_order key start end [] is = λ i j d lt long. absurd (omega arith)
in_order key start end (next ∷ later) (made, of_key, from, below, rest) =
    pairs_cons IsEarlier next later (from_start key (next.index + 1) end later next (λ same. omega arith) rest)
    (in_order key (next.index + 1) end later rest)

-- all are by indices below the end
each_below : (P : Signature → Type 0) (key : KeyOfCode) (start end : ℕ) (signatures : List Signature)
    → ((one : Signature) → one.index < end → P one) → AreInOrder key start end signatures
    → AllByRecursion P signatures
each_below P key start end [] so is = tt
each_below P key start end (one ∷ later) so (made, of_key, from, below, rest) =
    (so one below, each_below P key (one.index + 1) end later so rest)

-- what one turn leaves: in order, each counted by what should be there then, and after what was counted
-- by what should have been there before
record IsLeftInOrder (due known : Option (List ℕ)) (held left : Expected) (signatures : List Signature) : Type 0 where
  pairs : AllPairs IsEarlier signatures
  counted : AllByRecursion (λ one. IsCounted one known left) signatures
  behind : (one : Signature) → IsCounted one due held → AllByRecursion (IsEarlier one) signatures

none_left : (due known : Option (List ℕ)) (held left : Expected) → IsLeftInOrder due known held left []
none_left due known held left =
    record { pairs = λ i j d lt long. absurd (omega arith); counted = tt; behind = λ one counts. tt }

-- state and witness once a turn has handed something out
record IsCertain (run : TakenTurn) (held left : Expected) (count : ℕ) (state : KeyState) : Type 0 where
  came : ¬ CameToNeither run
  moves : Moves run held left
  states : IsOnly (image_using count state) left.states
  witnesses : IsOnlyNote (witness_text state.key.i (state.index + count)) left.witnesses

-- the witness says so for certain, or no witness will do
only_noted : (run : TakenTurn) (held left : Expected) (count : ℕ) (state : KeyState) (text : List ℕ) (watch : Watch)
    → 1 ≤ count → run.turn ≡ Uses count state text watch → Moves run held left
    → AreCounted count state watch run.begun
    → witness_calls (ended run.begun) ≡ witness_calls run.begun
    → IsOnlyNote (witness_text state.key.i (state.index + count)) left.witnesses
only_noted run held left zero state text watch some turn_is moves counted same = absurd (omega (arith, some))
only_noted run held left (suc n) state text None some turn_is moves counted same = λ found there.
    let unwatched = moves.unwatched (subst IsUnwatched (sym turn_is) tt) (image_using (suc n) state) counted.0 in
    absurd (nothing_in found (subst (λ (list : List (List ℕ)). Contains list found) unwatched there))
  where
    nothing_in : (found : List ℕ) → Contains [] found → ⊥
    nothing_in found there = omega (arith, there.1)
only_noted run held left (suc n) state text (Some watch) some turn_is moves counted same =
    moves.noted (witness_text state.key.i (state.index + suc n)) ([], same ∙ counted.1)

is_certain : (run : TakenTurn) (held left : Expected) (turn : IsTurn run.turn run.signatures run.whole)
    → IsBeginning run.begun run.whole → IsCarried run held left
    → list_any hands_out run.begun ≡ true → (count : ℕ) (state : KeyState) (text : List ℕ) (watch : Watch)
    → 1 ≤ count → run.turn ≡ Uses count state text watch
    → AreCounted count state watch turn.first → IsCertain run held left count state
is_certain run held left turn (rest, begins) kept some count state text watch one turn_is
    ((before, earlier, last), notes_are) = by_case kept
  where
    same : turn.later ++ turn.first ≡ rest ++ run.begun
    same = sym turn.calls ∙ begins

    stored : store_calls run.begun ≡ store_calls turn.first
    stored = all_done is_of_store rest turn.later turn.first run.begun same turn.nothing_leaves turn.nothing_stored some

    noted : witness_calls run.begun ≡ witness_calls turn.first
    noted = all_done is_of_witness rest turn.later turn.first run.begun same turn.nothing_leaves turn.nothing_noted some

    noted_ended : witness_calls (ended run.begun) ≡ witness_calls turn.first
    noted_ended = all_ended is_of_witness no_witness rest turn.later turn.first run.begun same turn.nothing_leaves
        turn.nothing_noted some

    counted : AreCounted count state watch run.begun
    counted = ((before, earlier, stored ∙ last), noted ∙ notes_are)

    by_case : IsCarried run held left → IsCertain run held left count state
    by_case (inl none) = absurd (cc (sym none.0.0 ∙ (stored ∙ last)))
    by_case (inr (came, inl moves)) = record {
      came = came;
      moves = moves;
      states = moves.stored (image_using count state) counted.0;
      witnesses = only_noted run held left count state text watch one turn_is moves counted
          (noted_ended ∙ sym noted);
    }
    by_case (inr (came, inr (key, makes, same))) = absurd (cc (sym turn_is ∙ makes))

-- all that state and witness should be then counts each signature that left
certain_counted : (one : Signature) (due : Option (List ℕ)) (run : TakenTurn) (held left : Expected) (count : ℕ)
    (state : KeyState) (text : List ℕ) (watch : Watch) (first : WorldCalls)
    → CountsIndices count state text watch first → run.turn ≡ Uses count state text watch
    → IsCertain run held left count state → one.index < state.index + count
    → IsCounted one (known_after due run) left
certain_counted one due run held left count state text watch first does same certain below = record {
  states = λ found there. subst (CountsText one) (sym (certain.states found there)) stored;
  witnesses = λ found there. subst (CountsBy one) (sym (certain.witnesses found there))
      (counts_noted one (state.index + count) state does.read.counted does.within (λ same. below));
  due_so = subst (λ (t : Turn). CountsDue one (known_by t (store_calls run.begun) due)) (sym same)
      (by_calls (store_calls run.begun));
}
  where
    stored : Counts one (image_using count state)
    stored = counts_stored one count state does.read.counted does.some does.within (λ same. below)

    by_calls : (calls : WorldCalls) → CountsDue one (known_by (Uses count state text watch) calls due)
    by_calls [] = tt
    by_calls (call ∷ calls) = stored

leaves_in_order : (due : Option (List ℕ)) (run : TakenTurn) (held left : Expected)
    (turn : IsTurn run.turn run.signatures run.whole)
    → IsBeginning run.begun run.whole → Links due run → Continues run.turn run.due → IsCarried run held left
    → list_any hands_out run.begun ≡ true → IsLeftInOrder due (known_after due run) held left run.signatures
leaves_in_order due run held left turn begins links goes kept some = by_turn run.turn refl
  where
    nothing : run.signatures ≡ [] → IsLeftInOrder due (known_after due run) held left run.signatures
    nothing none = subst (λ (ones : List Signature). IsLeftInOrder due (known_after due run) held left ones) (sym none)
        (none_left due (known_after due run) held left)

    signs_as : (is : Turn) → run.turn ≡ is → Signs is run.signatures turn.first
    signs_as is same = subst (λ (t : Turn). Signs t run.signatures turn.first) same turn.signs

    by_turn : (is : Turn) → run.turn ≡ is → IsLeftInOrder due (known_after due run) held left run.signatures
    by_turn StoresNothing same = nothing (signs_as StoresNothing same)
    by_turn (Makes key) same = nothing (signs_as (Makes key) same)
    by_turn (Watches state text) same = nothing (signs_as (Watches state text) same)
    by_turn (Resumes count state watch) same = nothing (signs_as (Resumes count state watch) same)
    by_turn (Uses count state text watch) same =
        let does = subst (λ (t : Turn). IsDoneBy t turn.first) same turn.does in
        let signs = signs_as (Uses count state text watch) same in
        ⊎_elim nothing
        (λ counted. let certain = is_certain run held left turn begins kept some count state text watch does.some same
        counted in
        let found : FindsExpected (Uses count state text watch) run.due held =
        subst (λ (t : Turn). FindsExpected t run.due held) same certain.moves.found in
        let on : Continues (Uses count state text watch) run.due =
        subst (λ (t : Turn). Continues t run.due) same goes in
        record {
          pairs = in_order state.key state.index (state.index + count) run.signatures signs.0;
          counted = each_below (λ one. IsCounted one (known_after due run) left) state.key state.index
              (state.index + count) run.signatures
              (λ one below. certain_counted one due run held left count state text watch turn.first does same certain
              below) signs.0;
          behind = λ one counts.
              let used = used_before one count state text watch turn.first run.due held does on found
              (linked one due run held links certain.came counts) in
              from_start state.key state.index (state.index + count) run.signatures one
              (λ of_key. used (ap (λ (k : KeyOfCode). k.i) of_key)) signs.0;
        })
        signs.1

one_run : (due : Option (List ℕ)) (run : TakenTurn) (held left : Expected)
    → IsTurn run.turn run.signatures run.whole
    → IsBeginning run.begun run.whole → Links due run → Continues run.turn run.due → IsCarried run held left
    → IsLeftInOrder due (known_after due run) held left (left_in run)
one_run due run held left turn begins links goes kept = by_test (list_any hands_out run.begun) refl
  where
    by_test : (some : Bool) → list_any hands_out run.begun ≡ some
        → IsLeftInOrder due (known_after due run) held left (if some then run.signatures else [])
    by_test true some = leaves_in_order due run held left turn begins links goes kept some
    by_test false none = none_left due (known_after due run) held left

-- ---- all runs

-- turns one after another, of one run or of several, carry along what both should be
abbrev pub IsHistory : Option (List ℕ) → Expected → List TakenTurn → Type 0
IsHistory due held [] = Unit {0}
IsHistory due held (run ∷ runs) =
    IsTurn run.turn run.signatures run.whole × IsBeginning run.begun run.whole
    × Links due run × Continues run.turn run.due
    × ((left : Expected) × IsCarried run held left × IsHistory (known_after due run) left runs)

both_all : {X : Type 0} (P : X → Type 0) (xs ys : List X) → AllByRecursion P xs → AllByRecursion P ys
    → AllByRecursion P (xs ++ ys)
both_all P [] ys first second = second
both_all P (x ∷ xs) ys (here, first) second = (here, both_all P xs ys first second)

both_pairs : {X : Type 0} (R : X → X → Type 0) (Q : X → Type 0) (xs ys : List X) → AllPairs R xs → AllByRecursion Q xs
    → ((x : X) → Q x → AllByRecursion (R x) ys)
    → AllPairs R ys → AllPairs R (xs ++ ys)
both_pairs R Q [] ys first all across second = second
both_pairs R Q (x ∷ xs) ys first (here, all) across second =
    pairs_cons R x (xs ++ ys) (both_all (R x) xs ys (head_pairs R x xs first) (across x here))
    (both_pairs R Q xs ys (λ i j d lt long. first (suc i) (suc j) d (omega arith) (omega arith)) all across second)
  where
    head_pairs : {X : Type 0} (R : X → X → Type 0) (x : X) (xs : List X) → AllPairs R (x ∷ xs) → AllByRecursion (R x) xs
    head_pairs R x xs pairs = behind R x xs (λ j d lt. pairs 0 (suc j) d (omega arith) (omega arith))
      where
        behind : {X : Type 0} (R : X → X → Type 0) (x : X) (xs : List X)
            → ((j : ℕ) (d : X) → j < length xs → R x (get_or xs j d)) → AllByRecursion (R x) xs
        behind R x [] each = tt
        behind R x (y ∷ ys) each = (each 0 y (omega arith), behind R x ys (λ j d lt. each (suc j) d (omega arith)))

-- what is counted is earlier than all that leaves later
later_all : (one : Signature) (due : Option (List ℕ)) (held : Expected) (runs : List TakenTurn)
    → IsHistory due held runs → IsCounted one due held → AllByRecursion (IsEarlier one) (all_left runs)
later_all one due held [] history counts = tt
later_all one due held (run ∷ runs) (turn, begins, links, goes, (left, kept, history)) counts =
    both_all (IsEarlier one) (left_in run) (all_left runs)
    ((one_run due run held left turn begins links goes kept).behind one counts)
    (later_all one (known_after due run) left runs history
    (stays_counted one due run held left turn links goes kept counts))

pub no_index_twice : (due : Option (List ℕ)) (held : Expected) (runs : List TakenTurn) → IsHistory due held runs
    → AllPairs IsEarlier (all_left runs)
no_index_twice due held [] history = λ i j d lt long. absurd (omega arith)
no_index_twice due held (run ∷ runs) (turn, begins, links, goes, (left, kept, history)) =
    let one = one_run due run held left turn begins links goes kept in
    both_pairs IsEarlier (λ (s : Signature). IsCounted s (known_after due run) left) (left_in run) (all_left runs)
    one.pairs one.counted
    (λ s counts. later_all s (known_after due run) left runs history counts)
    (no_index_twice (known_after due run) left runs history)
