-- What commands do with their state, by the calls that they make.
use Rattle.std.proofs.Common.{append-nil, ◌++◌, ◌≡◌, ◌∙◌, ℕ, zero, suc, ◌+◌, ◌≤◌, Bool, true, false, ◌||◌, List, []}
use Rattle.std.proofs.Common.{◌∷◌, Option, Some, None, Ok, Err, ap, refl, subst, sym, inl, inr, ⊎_elim}
use Rattle.std.specs.Prelude.{◌⊎◌, cond}
use Rattle.std.specs.List.{list_any}
use Rattle.lms_spec.specs.Hss.{capacity_of}
use Rattle.lms_hss.specs.Keys.{hss_key_of}
use Rattle.lms_image.specs.Image.{IsImage}
use Rattle.lms_book.specs.Stops.{StoreView, after_failure, after_write, having_given}
use Rattle.lms_kept.specs.Ways.{Way}
use Rattle.lms_world.specs.Events.{Event, PutBack, Taken, Taking, WitnessDrafted, WitnessRead, Writing}
use Rattle.lms_commands.specs.Histories.{AreInOrder, CountsIndices, IsDoneBy, IsOneUse, IsStored, IsTurn, IsUnwritten}
use Rattle.lms_commands.specs.Histories.{Prints, StoresNothing, Stores}
use Rattle.lms_commands.specs.Histories.{Signature, Signs, Turn, Uses, found_in, hands_out, is_of_store, is_of_witness}
use Rattle.lms_commands.specs.Histories.{store_calls, witness_calls, written_in}
use Rattle.lms_commands.specs.Logs.{KeyState, LeavesState, LeavesUnsigned, WorldCalls, LogsKeeping, LogsUnopened}
use Rattle.lms_commands.specs.Logs.{ReadsState, StoresUse, image_using}
use Rattle.lms_commands.specs.Watching.{Admits, BurnsWatched, FailsToNote, LeavesWatched, LogsUndrafted}
use Rattle.lms_commands.specs.Watching.{LogsUnwatched, SparesWatched, UnsignedWatched, UsesWatched, Watch, notes}
use Rattle.lms_commands.specs.Watching.{watched}
use Rattle.lms_commands.specs.Watching.{watch_calls}
use Rattle.lms_commands.specs.declared.fault.Fault.{Fault}

-- ---- turns, call by call

-- nothing left yet
pub begun : (turn : Turn) (signatures : List Signature) (calls : WorldCalls) → IsDoneBy turn calls
    → list_any hands_out calls ≡ false → Signs turn signatures calls
    → IsTurn turn signatures calls
begun turn signatures calls does quiet signs =
    record {
      first = calls;
      later = [];
      calls = refl;
      does = does;
      nothing_leaves = quiet;
      signs = signs;
      nothing_stored = refl;
      nothing_noted = refl;
    }

-- the calls on the state, and those on the witness
abbrev pub kept_calls : WorldCalls → WorldCalls
kept_calls calls = store_calls calls ++ witness_calls calls

abbrev pub is_kept : Event → Bool
is_kept event = is_of_store event || is_of_witness event

both_none : {X : Type 0} (xs ys : List X) → xs ++ ys ≡ [] → (xs ≡ []) × (ys ≡ [])
both_none [] ys none = (refl, none)
both_none (x ∷ xs) ys none = cc none

neither : (a b : Bool) → (a || b) ≡ false → (a ≡ false) × (b ≡ false)
neither true b is = cc is
neither false b is = (refl, is)

-- one call more, neither on the state nor on the witness
pub one_more : {turn : Turn} {signatures : List Signature} {calls : WorldCalls} (new : WorldCalls) (event : Event)
    → is_kept event ≡ false → new ≡ event ∷ calls
    → IsTurn turn signatures calls → IsTurn turn signatures new
one_more new event other more turn = record {
  first = turn.first;
  later = event ∷ turn.later;
  calls = more ∙ ap (λ (log : WorldCalls). event ∷ log) turn.calls;
  does = turn.does;
  nothing_leaves = turn.nothing_leaves;
  signs = turn.signs;
  nothing_stored = subst (λ (b : Bool). cond b (event ∷ store_calls turn.later) (store_calls turn.later) ≡ [])
      (sym (neither (is_of_store event) (is_of_witness event) other).0) turn.nothing_stored;
  nothing_noted = subst (λ (b : Bool). cond b (event ∷ witness_calls turn.later) (witness_calls turn.later) ≡ [])
      (sym (neither (is_of_store event) (is_of_witness event) other).1) turn.nothing_noted;
}

-- a turn in which nothing leaves, and no file is written
pub record IsQuiet (turn : Turn) (old new : WorldCalls) : Type 0 where
  pub takes : IsTurn turn [] new
  pub unwritten : written_in new ≡ written_in old

abbrev pub Quietly : WorldCalls → WorldCalls → Type 0
Quietly old new = (turn : Turn) × IsQuiet turn old new

-- trees are kept or not
pub keeping : {turn : Turn} {signatures : List Signature} (trees : Option Way) (old new : WorldCalls)
    → LogsKeeping trees old new → IsTurn turn signatures old
    → IsTurn turn signatures new × (written_in new ≡ written_in old)
keeping {turn} {signatures} trees old new (inl same) is =
    (subst (λ (log : WorldCalls). IsTurn turn signatures log) (sym same) is, ap written_in same)
keeping trees old new (inr (way, done, trees_are, calls)) is =
    (one_more new _ refl calls is, ap written_in calls)

-- from calls on in which nothing left, and nothing was done with the state or its witness
module _ (old : WorldCalls) (quiet : list_any hands_out old ≡ false) (none : kept_calls old ≡ []) where
  unstored : store_calls old ≡ []
  unstored = (both_none (store_calls old) (witness_calls old) none).0

  unnoted : witness_calls old ≡ []
  unnoted = (both_none (store_calls old) (witness_calls old) none).1

  -- none of these is made in between
  pub one_use : (new : WorldCalls) (taken : Taking) (left : StoreView) → new ≡ PutBack left ∷ Taken (Some taken) ∷ old
      → IsOneUse taken left new
  one_use new taken left calls =
      ap store_calls calls ∙ ap (λ (log : WorldCalls). PutBack left ∷ Taken (Some taken) ∷ log) unstored

  pub unwritten : (new : WorldCalls) (taken : Taking) (left : StoreView) → new ≡ PutBack left ∷ Taken (Some taken) ∷ old
      → IsUnwritten taken.view left → IsQuiet StoresNothing old new
  unwritten new taken left calls same = record {
    takes = begun StoresNothing [] new
        (ap witness_calls calls ∙ unnoted, inr (taken, left, same, one_use new taken left calls))
        (ap (list_any hands_out) calls ∙ quiet) refl;
    unwritten = ap written_in calls;
  }

  pub left_so : (state : KeyState) (new : WorldCalls) → LeavesState state old new → IsQuiet StoresNothing old new
  left_so state new (taken, read, reads, calls) =
      unwritten new taken read calls
      (ap (λ (v : StoreView). v.now) reads.given, ap (λ (v : StoreView). v.past) reads.given)

  -- a call that changes neither
  unchanged : (new : WorldCalls) (event : Event) → is_kept event ≡ false
      → written_in (event ∷ old) ≡ written_in old → new ≡ event ∷ old → IsQuiet StoresNothing old new
  unchanged new event other silent calls = record {
    takes = one_more new event other calls
        (begun StoresNothing [] old (unnoted, inl unstored) quiet refl);
    unwritten = ap written_in calls ∙ silent;
  }

  pub unopened : (new : WorldCalls) (fault : Fault) → LogsUnopened fault old new → IsQuiet StoresNothing old new
  unopened new fault (inl (at, calls)) = unchanged new (Taken None) refl refl calls
  unopened new fault (inr (taken, inl (at, calls))) = unwritten new taken taken.view calls (refl, refl)
  unopened new fault (inr (taken, inr (inl (at, fails, calls)))) =
      unwritten new taken (after_failure taken.view) calls (refl, refl)
  unopened new fault (inr (taken, inr (inr (bad, text, at, may, is, calls)))) =
      unwritten new taken (having_given text taken.view) calls (refl, refl)

  -- none is used
  kept : (count : ℕ) (state : KeyState) (new : WorldCalls) (fault : Fault)
      → LeavesUnsigned count fault state old new → IsQuiet StoresNothing old new
  kept count state new fault (inl (at, lacks, is)) = left_so state new is
  kept count state new fault (inr (at, is)) = left_so state new is

  -- bytes are read, and an image is stored, for certain or not; the witness that was found is as it was
  counts : (count : ℕ) (state : KeyState) (by : Admits state) (new : WorldCalls) (taken : Taking)
      (read left : StoreView) → found_in old ≡ by.watch ∷ [] → (reads : ReadsState state taken.view read) → 1 ≤ count
      → state.index + count ≤ capacity_of (hss_key_of state.key) → Stores (image_using count state) read left
      → new ≡ PutBack left ∷ Taken (Some taken) ∷ old → CountsIndices count state reads.text by.watch new
  counts count state by new taken read left seen reads some within stores calls = record {
    taken = taken;
    given = read;
    left = left;
    read = reads;
    text_is = refl;
    some = some;
    within = within;
    stores = stores;
    one_use = one_use new taken left calls;
    seen = ap found_in calls ∙ seen;
    admitted = by.admitted;
    notes_so = inl (ap witness_calls calls ∙ unnoted);
  }

-- ---- with a witness

-- that it was read, and a draft of it made, is neither
watch_is_calm : (watch : Watch) (old : WorldCalls) → list_any hands_out old ≡ false → kept_calls old ≡ []
    → found_in old ≡ []
    → (list_any hands_out (watch_calls watch ++ old) ≡ false) × (kept_calls (watch_calls watch ++ old) ≡ [])
    × (found_in (watch_calls watch ++ old) ≡ watch ∷ []) × (written_in (watch_calls watch ++ old) ≡ written_in old)
watch_is_calm None old quiet none unseen =
    (quiet, none, ap (λ (found : List Watch). None ∷ found) unseen, refl)
watch_is_calm (Some text) old quiet none unseen =
    (quiet, none, ap (λ (found : List Watch). Some text ∷ found) unseen, refl)

-- what its writing adds to calls
record IsNote (noted log new : WorldCalls) : Type 0 where
  quiet : list_any hands_out new ≡ list_any hands_out log
  stored : store_calls new ≡ store_calls log
  notes_are : witness_calls new ≡ noted ++ witness_calls log
  found : found_in new ≡ found_in log
  unwritten : written_in new ≡ written_in log

note_only : (n : ℕ) (watch : Watch) (id : List ℕ) (start : ℕ) (answer : Writing) (log : WorldCalls)
    → IsNote (notes n watch id start answer) log (notes n watch id start answer ++ log)
note_only zero watch id start answer log =
    record { quiet = refl; stored = refl; notes_are = refl; found = refl; unwritten = refl }
note_only (suc n) None id start answer log =
    record { quiet = refl; stored = refl; notes_are = refl; found = refl; unwritten = refl }
note_only (suc n) (Some text) id start answer log =
    record { quiet = refl; stored = refl; notes_are = refl; found = refl; unwritten = refl }

-- it is not written for certain, or no call for that is made
unsaid_so : (n : ℕ) (watch : Watch) (id : List ℕ) (start : ℕ) (fault : Fault) (last new : WorldCalls)
    → FailsToNote n watch id start fault last new
    → (new ≡ last) ⊎ ((answer : Writing) × (new ≡ notes n watch id start answer ++ last))
unsaid_so zero watch id start fault last new never = absurd never
unsaid_so (suc n) None id start fault last new never = absurd never
unsaid_so (suc n) (Some text) id start fault last new (at, inl same) = inl same
unsaid_so (suc n) (Some text) id start fault last new (at, inr (cause, calls)) = inr (Err cause, calls)

module _ (old : WorldCalls) (quiet : list_any hands_out old ≡ false) (none : kept_calls old ≡ [])
    (unseen : found_in old ≡ []) where
  -- what was done once the witness was read
  then_quiet : (watch : Watch) (turn : Turn) (new : WorldCalls) → IsQuiet turn (watch_calls watch ++ old) new
      → IsQuiet turn old new
  then_quiet watch turn new is =
      record { takes = is.takes; unwritten = is.unwritten ∙ (watch_is_calm watch old quiet none unseen).3 }

  pub left_watched : (state : KeyState) (new : WorldCalls) → LeavesWatched state old new
      → IsQuiet StoresNothing old new
  left_watched state new (by, is) =
      let calm = watch_is_calm by.watch old quiet none unseen in
      then_quiet by.watch StoresNothing new (left_so (watched by old) calm.0 calm.1 state new is)

  pub unwatched : (new : WorldCalls) (fault : Fault) → LogsUnwatched fault old new → IsQuiet StoresNothing old new
  unwatched new fault (inl (inl (at, calls))) = unchanged old quiet none new _ refl refl calls
  unwatched new fault (inl (inr (at, calls))) = unchanged old quiet none new _ refl refl calls
  unwatched new fault (inr (inl (text, undrafted))) = not_drafted text undrafted
    where
      read : (text : List ℕ) → IsQuiet StoresNothing old (WitnessRead (Ok (Some text)) ∷ old)
      read text = unchanged old quiet none _ _ refl refl refl

      drafted : (text : List ℕ) (answer : Writing) → new ≡ WitnessDrafted answer ∷ WitnessRead (Ok (Some text)) ∷ old
          → IsQuiet StoresNothing old new
      drafted text answer calls = record {
        takes = one_more new (WitnessDrafted answer) refl calls (read text).takes;
        unwritten = ap written_in calls;
      }

      not_drafted : (text : List ℕ) → LogsUndrafted fault (WitnessRead (Ok (Some text)) ∷ old) new
          → IsQuiet StoresNothing old new
      not_drafted text (inl (at, calls)) = drafted text _ calls
      not_drafted text (inr (at, inl same)) = record {
        takes = subst (λ (log : WorldCalls). IsTurn StoresNothing [] log) (sym same) (read text).takes;
        unwritten = ap written_in same;
      }
      not_drafted text (inr (at, inr calls)) = drafted text _ calls
  unwatched new fault (inr (inr (inl (watch, never)))) =
      let calm = watch_is_calm watch old quiet none unseen in
      then_quiet watch StoresNothing new (unopened (watch_calls watch ++ old) calm.0 calm.1 new fault never)
  unwatched new fault (inr (inr (inr (watch, state, refused, is)))) =
      let calm = watch_is_calm watch old quiet none unseen in
      then_quiet watch StoresNothing new (left_so (watch_calls watch ++ old) calm.0 calm.1 state new is)

  pub spared : (count : ℕ) (state : KeyState) (new : WorldCalls) (fault : Fault)
      → SparesWatched count fault state old new → IsQuiet StoresNothing old new
  spared count state new fault (by, is) =
      let calm = watch_is_calm by.watch old quiet none unseen in
      then_quiet by.watch StoresNothing new (kept (watched by old) calm.0 calm.1 count state new fault is)

  -- an image is stored for certain, and then the witness at most is written
  counted : (count : ℕ) (state : KeyState) (by : Admits state) (last log noted : WorldCalls) → IsNote noted last log
      → (uses : StoresUse count state (watched by old) last) → 1 ≤ count
      → (noted ≡ []) ⊎ ((answer : Writing) × (noted ≡ notes count by.watch state.key.i state.index answer))
      → CountsIndices count state uses.2.text by.watch log × (witness_calls log ≡ noted)
      × IsStored (image_using count state) log × (list_any hands_out log ≡ false)
      × (written_in log ≡ written_in old)
  unfolding counts
  counted count state by last log noted note (taken, read, reads, within, calls) some are =
      let calm = watch_is_calm by.watch old quiet none unseen in
      let does = counts (watched by old) calm.0 calm.1 count state by last taken read _ calm.2 reads some within
      (inl refl) calls in
      let notes_are : witness_calls log ≡ noted =
      note.notes_are ∙ (ap (λ (later : WorldCalls). noted ++ later)
      (ap witness_calls calls ∙ unnoted (watched by old) calm.0 calm.1) ∙ append-nil noted) in
      let once : IsOneUse taken (after_write (image_using count state) read) log = note.stored ∙ does.one_use in (
        record {
          taken = taken;
          given = read;
          left = after_write (image_using count state) read;
          read = reads;
          text_is = refl;
          some = some;
          within = within;
          stores = inl refl;
          one_use = once;
          seen = note.found ∙ does.seen;
          admitted = by.admitted;
          notes_so = ⊎_elim (λ nothing. inl (notes_are ∙ nothing)) (λ (answer, is). inr (answer, notes_are ∙ is)) are;
        },
        notes_are,
        (read, _, once),
        note.quiet ∙ (ap (list_any hands_out) calls ∙ calm.0),
        note.unwritten ∙ (ap written_in calls ∙ calm.3),
      )

  -- the use of n indices is stored for certain, and so is the witness
  pub used : (count : ℕ) (state : KeyState) (new : WorldCalls) (uses : UsesWatched count state old new) → 1 ≤ count
      → (signatures : List Signature) → AreInOrder state.key state.index (state.index + count) signatures
      → IsTurn (Uses count state uses.2.2.text uses.0.watch) signatures new × (written_in new ≡ written_in old)
  used count state new (by, last, uses, calls) some signatures are =
      let noted = notes count by.watch state.key.i state.index (Ok tt) in
      let is = counted count state by last (noted ++ last) noted
      (note_only count by.watch state.key.i state.index (Ok tt) last) uses some (inr (Ok tt, refl)) in (
        subst (λ (log : WorldCalls). IsTurn (Uses count state uses.2.text by.watch) signatures log) (sym calls)
            (begun (Uses count state uses.2.text by.watch) signatures (noted ++ last) is.0 is.3
            (are, inr (is.2, is.1))),
        ap written_in calls ∙ is.4,
      )

  -- what a turn reads whose indices sign nothing
  pub record Burns (count : ℕ) (state : KeyState) (new : WorldCalls) : Type 0 where
    pub text : List ℕ
    pub watch : Watch
    pub image : IsImage text state.key state.index state.openings state.burnt
    pub turn : IsQuiet (Uses count state text watch) old new

  unsaid : (count : ℕ) (state : KeyState) (by : Admits state) (last log noted new : WorldCalls) → IsNote noted last log
      → (uses : StoresUse count state (watched by old) last) → 1 ≤ count
      → (noted ≡ []) ⊎ ((answer : Writing) × (noted ≡ notes count by.watch state.key.i state.index answer))
      → new ≡ log → Burns count state new
  unsaid count state by last log noted new note uses some are same =
      let is = counted count state by last log noted note uses some are in
      record {
        text = uses.2.text;
        watch = by.watch;
        image = uses.2.image;
        turn = record {
          takes = subst (λ (calls : WorldCalls). IsTurn (Uses count state uses.2.text by.watch) [] calls) (sym same)
              (begun (Uses count state uses.2.text by.watch) [] log is.0 is.3 (tt, inl refl));
          unwritten = ap written_in same ∙ is.4;
        };
      }

  -- their use is stored, for certain or not; or it is for certain, and the witness is not
  pub burnt : (count : ℕ) (state : KeyState) (new : WorldCalls) → 1 ≤ count → (fault : Fault)
      → BurnsWatched count fault state old new → Burns count state new
  burnt count state new some fault (by, inl (inl (at, (taken, read, left, reads, within, fails, calls)))) =
      let calm = watch_is_calm by.watch old quiet none unseen in
      record {
        text = reads.text;
        watch = by.watch;
        image = reads.image;
        turn = then_quiet by.watch _ new
            (record {
              takes = begun (Uses count state reads.text by.watch) [] new
                  (counts (watched by old) calm.0 calm.1 count state by new taken read left calm.2 reads some within
                  (inr fails) calls)
                  (ap (list_any hands_out) calls ∙ calm.0) (tt, inl refl);
              unwritten = ap written_in calls;
            });
      }
  burnt count state new some fault (by, inl (inr (at, uses))) =
      unsaid count state by new new [] new
      (record { quiet = refl; stored = refl; notes_are = refl; found = refl; unwritten = refl }) uses
      some (inl refl) refl
  burnt count state new some fault (by, inr (last, uses, fails)) =
      by_end (unsaid_so count by.watch state.key.i state.index fault last new fails)
    where
      by_end : (new ≡ last) ⊎ ((answer : Writing) × (new ≡ notes count by.watch state.key.i state.index answer ++ last))
          → Burns count state new
      by_end (inl same) =
          unsaid count state by last last [] new
          (record { quiet = refl; stored = refl; notes_are = refl; found = refl; unwritten = refl }) uses some
          (inl refl) same
      by_end (inr (answer, calls)) =
          unsaid count state by last _ _ new (note_only count by.watch state.key.i state.index answer last) uses some
          (inr (answer, refl)) calls

  pub unsigned : (count : ℕ) (state : KeyState) (new : WorldCalls) → 1 ≤ count → (fault : Fault)
      → UnsignedWatched count fault state old new → Quietly old new
  unsigned count state new some fault (inl spares) = (StoresNothing, spared count state new fault spares)
  unsigned count state new some fault (inr burns) =
      let is = burnt count state new some fault burns in (Uses count state is.text is.watch, is.turn)

-- a run that does nothing but such calls
idle : (calls : WorldCalls) → kept_calls calls ≡ [] → list_any hands_out calls ≡ false → IsTurn StoresNothing [] calls
idle calls none quiet =
    let are = both_none (store_calls calls) (witness_calls calls) none in
    begun StoresNothing [] calls (are.1, inl are.0) quiet refl

pub idle_as : (new calls : WorldCalls) → new ≡ calls → kept_calls calls ≡ [] → list_any hands_out calls ≡ false
    → IsTurn StoresNothing [] new
idle_as new calls same none quiet =
    subst (λ (log : WorldCalls). IsTurn StoresNothing [] log) (sym same) (idle calls none quiet)

-- ---- what is printed

-- a beginning of any text, where nothing is printed
pub no_text : (before printed text : List ℕ) → printed ≡ before → Prints before printed text
no_text before printed text same =
    record { front = []; rest = text; whole = refl; appended = same ∙ sym (append-nil before) }

-- the whole of it
pub whole_text : (before printed text : List ℕ) → printed ≡ before ++ text → Prints before printed text
whole_text before printed text all = record { front = text; rest = []; whole = sym (append-nil text); appended = all }

-- a turn of a run that ends with what it handed out
abbrev pub Ends : (WorldCalls → List ℕ → List ℕ → Type 0) → WorldCalls → List ℕ → List ℕ → Type 0
Ends Hands whole before printed = (turn : Turn) × IsTurn turn [] whole × Hands whole before printed
