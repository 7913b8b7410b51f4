-- What becomes of a state in memory that is not locked, not opened, or whose indices sign nothing.
use Rattle.std.proofs.Common.{◌≡◌, ◌∙◌, ◌∷◌, [], ◌++◌, ◌+◌, ℕ, zero, suc, List, Bool, Option, Some, None, Ok, Err, ap}
use Rattle.std.proofs.Common.{refl, subst, subst₂, sym, inl, inr, append_assoc, arith}
use Rattle.std.specs.Prelude.{◌⊎◌, ◌-◌, ◌<◌, Result}
use Rattle.lms_spec.specs.Hss.{capacity_of}
use Rattle.lms_hss.specs.Keys.{hss_key_of}
use Rattle.lms_book.specs.Stops.{StoreView, FailsToWrite, IsAmong, IsLeftBy, Texts, after_failure, after_write}
use Rattle.lms_book.specs.Stops.{having_given}
use Rattle.lms_world.specs.Names.{Bytes}
use Rattle.lms_world.specs.Events.{Acquired, Event, Locked, PutBack, Taken, Taking, Unlocked, WitnessDrafted}
use Rattle.lms_world.specs.Events.{WitnessRead}
use Rattle.lms_world.specs.Events.{WitnessWritten, Writing}
use Rattle.lms_world.specs.Held.{Answers, Follows, Held}
use Rattle.lms_world.specs.Outcomes.{files_after, nodes_after, state_after, witness_after}
use Rattle.lms_world.specs.declared.fault.WorldFault.{WorldFault}
use Rattle.lms_world.specs.declared.fault.WorldFault.TheVariants.{Device}
use Rattle.lms_world.specs.declared.fault.WorldFault.TheVariants.{OutOfMemory as NoMemoryLeft}
use Rattle.lms_commands.specs.InMemory.{BurnsIndices, FailsToLock, FailsToOpen, FailsToWatch, FindsState, IsWatched}
use Rattle.lms_commands.specs.InMemory.{LacksIndices, SignsNone, Stays, UsesIndices, WasBad, WitnessHeld}
use Rattle.lms_commands.specs.Logs.{IsLockRefused, KeyState, LeavesState, LogsUnopened, LogsUnsigned, PutsBack}
use Rattle.lms_commands.specs.Logs.{StoresUse, TriesUse, WorldCalls, image_using, lock_answer}
use Rattle.lms_commands.specs.Watching.{Admits, FailsToNote, IsRefusedBy, LeavesWatched, LogsUndrafted, LogsUnseen}
use Rattle.lms_commands.specs.Watching.{LogsUnwatched, UnsignedWatched, Watch, watch_calls}
use Rattle.lms_commands.specs.declared.fault.Fault.{Fault}
use Rattle.lms_commands.specs.declared.fault.Fault.TheVariants.{WriteWitnessBurnt}
use Rattle.lms_commands.proofs.Telling.{Adds, AllTell, MayFailAfter, Tells, WitnessRefused, and_then, same_held, told}
use Rattle.lms_commands.proofs.Telling.{Told, told_stays, unlocked, was_state}

pub lock_refused : (fault : Fault) (state : Bytes) (earlier : WorldCalls) (old new : Held) → IsLockRefused fault
    → Tells (Locked state (lock_answer fault)) earlier old → new ≡ old → FailsToLock fault old new
lock_refused fault state earlier old new (inl at) tells same =
    (inr (at, subst (λ (f : Fault). Tells (Locked state (lock_answer f)) earlier old) at tells), same)
lock_refused fault state earlier old new (inr at) tells same = (inl at, same)

-- the lock is the first that is asked for
pub not_locked : (fault : Fault) (state : Bytes) (before now : WorldCalls) (old new : Held) → IsLockRefused fault
    → now ≡ Locked state (lock_answer fault) ∷ before → Follows (Some old) before (Some new) now
    → FailsToLock fault old new
not_locked fault state before now old new refused calls follows =
    let is = told old new (record { calls = Locked state (lock_answer fault) ∷ []; are = calls }) follows in
    let same = same_held old new is.files is.state is.may_fail is.in_use is.nodes is.nodes_fault is.witness in
    lock_refused fault state [] old new refused is.tell.1 same

-- calls that change nothing
pub record AreStill (calls : List Event) : Type 0 where
  pub files : (files : Answers) → files_after calls files ≡ files
  pub state : (state : Texts) → state_after calls state ≡ state
  pub nodes : (nodes : Option (List ℕ)) → nodes_after calls nodes ≡ nodes
  pub witness : (witness : Result (Option (List ℕ)) WorldFault) → witness_after calls witness ≡ witness
  pub may_fail : (old new : Bool) → MayFailAfter calls old new → new ≡ old

pub locked_still : {state : Bytes} → AreStill (Locked state Acquired ∷ [])
locked_still =
    record { files = λ f. refl; state = λ s. refl; nodes = λ n. refl; witness = λ w. refl; may_fail = λ a b is. is }

pub stays_still : {calls : List Event} {old new : Held} → AreStill calls → Told calls old new → Stays old new
stays_still {calls} {old} still is =
    told_stays is (still.files old.files) (is.state ∙ still.state old.state) (still.nodes old.nodes)
    (still.witness old.witness)

-- calls after others, which change nothing more
pub record AddNothing (later : List Event) : Type 0 where
  pub files : (earlier : List Event) (files : Answers)
      → files_after (later ++ earlier) files ≡ files_after earlier files
  pub state : (earlier : List Event) (state : Texts) → state_after (later ++ earlier) state ≡ state_after earlier state
  pub nodes : (earlier : List Event) (nodes : Option (List ℕ))
      → nodes_after (later ++ earlier) nodes ≡ nodes_after earlier nodes
  pub witness : (earlier : List Event) (held : WitnessHeld)
      → witness_after (later ++ earlier) held ≡ witness_after earlier held
  pub tell : (earlier : List Event) (old : Held) → AllTell (later ++ earlier) old → AllTell earlier old

none_added : AddNothing []
none_added = record {
  files = λ e f. refl;
  state = λ e s. refl;
  nodes = λ e n. refl;
  witness = λ e w. refl;
  tell = λ e o tell. tell;
}

unsaid_added : (text : List ℕ) (cause : WorldFault) → AddNothing (WitnessWritten text (Err cause) ∷ [])
unsaid_added text cause = record {
  files = λ e f. refl;
  state = λ e s. refl;
  nodes = λ e n. refl;
  witness = λ e w. refl;
  tell = λ e o tell. tell.0;
}

-- a write failed, over what the state was
pub left_by : (image : List ℕ) (read left : StoreView) (old new : Texts) → FailsToWrite image read left → read.now ≡ old
    → new ≡ left.now → (new ≡ old) ⊎ IsLeftBy image old new
left_by image read left old new (inl is) was state = inl (state ∙ (ap (λ (v : StoreView). v.now) is ∙ was))
left_by image read left old new (inr (texts, by, is)) was state =
    let left_is : texts ≡ new = sym (state ∙ ap (λ (v : StoreView). v.now) is) in
    inr (subst₂ (λ (a b : Texts). IsLeftBy image a b) was left_is by)

-- after calls that change nothing, and before the lock is handed back
module _ (base : List Event) (still : AreStill base) {before mid last now : WorldCalls} (begins : mid ≡ base ++ before)
    (ends : now ≡ Unlocked ∷ last) (old new : Held) (follows : Follows (Some old) before (Some new) now) where
  abbrev begun : Adds before mid
  begun = record { calls = base; are = begins }

  -- a store is taken out and put back
  record Back (taken : Taking) (left : StoreView) : Type 0 where
    first : AllTell base old
    found : taken.view.now ≡ old.state
    may_fail : taken.may_fail ≡ old.may_fail
    files : new.files ≡ old.files
    state : new.state ≡ left.now
    nodes : new.nodes ≡ old.nodes
    in_use : new.in_use ≡ old.in_use
    nodes_fault : new.nodes_fault ≡ old.nodes_fault
    witness : new.witness ≡ old.witness

  back_then : (later : List Event) → AddNothing later → (taken : Taking) (left : StoreView)
      → last ≡ later ++ PutBack left ∷ Taken (Some taken) ∷ mid → Back taken left
  back_then later nothing taken left calls =
      let store : List Event = PutBack left ∷ Taken (Some taken) ∷ base in
      let adds : Adds before now = record {
        calls = Unlocked ∷ later ++ store;
        are = ends ∙ ap (λ (log : WorldCalls). Unlocked ∷ log)
            (calls ∙ (ap (λ (log : WorldCalls). later ++ PutBack left ∷ Taken (Some taken) ∷ log) begins
            ∙ sym (append_assoc later store before)));
      } in
      let is = told old new adds follows in
      let tell = nothing.tell store old is.tell.0 in
      record {
        first = tell.0.0;
        found = tell.0.1.0 ∙ still.state old.state;
        may_fail = still.may_fail old.may_fail taken.may_fail tell.0.1.1;
        files = is.files ∙ (nothing.files store old.files ∙ still.files old.files);
        state = is.state ∙ nothing.state store old.state;
        nodes = is.nodes ∙ (nothing.nodes store old.nodes ∙ still.nodes old.nodes);
        in_use = is.in_use;
        nodes_fault = is.nodes_fault;
        witness = is.witness ∙ (nothing.witness store old.witness ∙ still.witness old.witness);
      }

  put_back : (taken : Taking) (left : StoreView) → PutsBack taken left mid last → Back taken left
  put_back taken left calls = back_then [] none_added taken left calls

  stays_so : {taken : Taking} {left : StoreView} → Back taken left → left.now ≡ taken.view.now → Stays old new
  stays_so back same =
      record {
        files = back.files;
        state = back.state ∙ (same ∙ back.found);
        nodes = back.nodes;
        in_use = back.in_use;
        nodes_fault = back.nodes_fault;
        witness = back.witness;
      }

  pub unopened : (fault : Fault) → LogsUnopened fault mid last → AllTell base old × FailsToOpen fault old new
  unopened fault (inl (at, calls)) =
      let is = told old new (and_then (and_then begun calls) ends) follows in
      let stays = told_stays is (still.files old.files) (is.state ∙ still.state old.state) (still.nodes old.nodes)
      (still.witness old.witness) in
      (is.tell.0.0, (inl at, stays))
  unopened fault (inr (taken, inl (at, calls))) =
      let back = put_back taken taken.view calls in (back.first, (inl at, stays_so back refl))
  unopened fault (inr (taken, inr (inl (at, fails, calls)))) =
      let back = put_back taken (after_failure taken.view) calls in
      (back.first, (inr (inl (at, sym back.may_fail ∙ fails)), stays_so back refl))
  unopened fault (inr (taken, inr (inr (bad, text, at, may, is, calls)))) =
      let back = put_back taken (having_given text taken.view) calls in
      let was_bad : WasBad old.state bad = (text, subst (λ texts. IsAmong texts text) back.found may, is) in
      (back.first, (inr (inr (bad, at, was_bad)), stays_so back refl))

  pub finds : (state : KeyState) → LeavesState state mid last
      → AllTell base old × ((found : FindsState old new) × (found.state ≡ state))
  finds state (taken, read, reads, calls) =
      let back = put_back taken read calls in
      let found : FindsState old new = record {
        state = state;
        was = was_state state reads back.found;
        stays = stays_so back (ap (λ (v : StoreView). v.now) reads.given);
      } in
      (back.first, (found, refl))

  -- these calls, no file, and what the state comes to
  abbrev EndsSo : Type 0 → Type 0
  EndsSo P = AllTell base old × ((new.files ≡ old.files) × P)

  burns : (n : ℕ) (state : KeyState) → (AllTell base old → IsWatched state old.witness)
      → TriesUse n state mid last → EndsSo (BurnsIndices n state.index old new)
  burns n state watched (taken, read, left, reads, within, fails, calls) =
      let back = put_back taken left calls in
      let was : read.now ≡ old.state = ap (λ (v : StoreView). v.now) reads.given ∙ back.found in
      let is : BurnsIndices n state.index old new = record {
        state = state;
        was = was_state state reads back.found;
        watched = watched back.first;
        start_is = refl;
        within = within;
        files = back.files;
        nodes = back.nodes;
        witness = back.witness;
        left = left_by (image_using n state) read left old.state new.state fails was back.state;
      } in
      (back.first, (back.files, is))

  -- they are stored as used, whatever came then
  stores_then : (later : List Event) → AddNothing later → (n : ℕ) (state : KeyState)
      → (AllTell base old → IsWatched state old.witness) → (stored : WorldCalls)
      → StoresUse n state mid stored → last ≡ later ++ stored
      → AllTell base old × ((uses : UsesIndices n old new) × (uses.state ≡ state))
  stores_then later nothing n state watched stored (taken, read, reads, within, calls) are =
      let back = back_then later nothing taken (after_write (image_using n state) read)
      (are ∙ ap (λ (log : WorldCalls). later ++ log) calls) in
      let uses : UsesIndices n old new = record {
        state = state;
        was = was_state state reads back.found;
        watched = watched back.first;
        within = within;
        files = back.files;
        nodes = back.nodes;
        witness = back.witness;
        stored = back.state;
      } in
      (back.first, (uses, refl))

  pub unsigned : (n : ℕ) (state : KeyState) (fault : Fault) → (AllTell base old → IsWatched state old.witness)
      → LogsUnsigned n fault state mid last → EndsSo (SignsNone n fault old new)
  unsigned n state fault watched (inl (inl (at, few, leaves))) =
      let is = finds state leaves in
      let lacks : LacksIndices n _ old new = record {
        finds = is.1.0;
        watched = subst (λ (s : KeyState). IsWatched s old.witness) (sym is.1.1) (watched is.0);
        few = subst (λ (s : KeyState). capacity_of (hss_key_of s.key) < s.index + n) (sym is.1.1) few;
        left_is = ap (λ (s : KeyState). capacity_of (hss_key_of s.key) - s.index) (sym is.1.1);
      } in
      (is.0, (is.1.0.stays.files, inr (inl (_, at, lacks))))
  unsigned n state fault watched (inl (inr (at, leaves))) =
      let is = finds state leaves in
      let found = subst (λ (s : KeyState). IsWatched s old.witness) (sym is.1.1) (watched is.0) in
      (is.0, (is.1.0.stays.files, inl (at, (is.1.0, found))))
  unsigned n state fault watched (inr (inl (at, tries))) =
      let is = burns n state watched tries in (is.0, (is.1.0, inr (inr (inl (_, at, is.1.1)))))
  unsigned n state fault watched (inr (inr (at, is))) =
      let uses = stores_then [] none_added n state watched last is refl in
      (uses.0, (uses.1.0.files, inr (inr (inr (inl (at, uses.1.0))))))

-- ---- with a witness

read_still : (answer : Result (Option (List ℕ)) WorldFault) (base : List Event) → AreStill base
    → AreStill (WitnessRead answer ∷ base)
read_still answer base still = record {
  files = still.files;
  state = still.state;
  nodes = still.nodes;
  witness = still.witness;
  may_fail = still.may_fail;
}

drafted_still : (answer : Writing) (base : List Event) → AreStill base → AreStill (WitnessDrafted answer ∷ base)
drafted_still answer base still = record {
  files = still.files;
  state = still.state;
  nodes = still.nodes;
  witness = still.witness;
  may_fail = still.may_fail;
}

-- that a witness was read, and a draft of it made, changes nothing
still_watched : (watch : Watch) (base : List Event) → AreStill base → AreStill (watch_calls watch ++ base)
still_watched None base still = read_still (Ok None) base still
still_watched (Some text) base still = drafted_still (Ok tt) _ (read_still (Ok (Some text)) base still)

-- what they tell
watch_tells : (watch : Watch) (base : List Event) (old : Held) → AreStill base → AllTell (watch_calls watch ++ base) old
    → AllTell base old × (old.witness ≡ Ok watch)
watch_tells None base old still tell = (tell.0, sym (still.witness old.witness) ∙ tell.1)
watch_tells (Some text) base old still tell = (tell.0.0, sym (still.witness old.witness) ∙ tell.0.1)

-- a refused witness is one that is held, or memory ran out
device_refused : (held : WitnessHeld) → WitnessRefused Device held → held ≡ Err Device
device_refused held (inl is) = is
device_refused held (inr never) = cc never

module _ (base : List Event) (still : AreStill base) {before mid last now : WorldCalls} (begins : mid ≡ base ++ before)
    (ends : now ≡ Unlocked ∷ last) (old new : Held) (follows : Follows (Some old) before (Some new) now) where
  -- once the witness was read
  begins_watched : (watch : Watch) → watch_calls watch ++ mid ≡ (watch_calls watch ++ base) ++ before
  begins_watched watch =
      ap (λ (log : WorldCalls). watch_calls watch ++ log) begins ∙ sym (append_assoc (watch_calls watch) base before)

  pub finds_watched : (state : KeyState) → LeavesWatched state mid last
      → AllTell base old
      × ((found : FindsState old new) × (found.state ≡ state) × IsWatched found.state old.witness)
  finds_watched state (by, leaves) =
      let is = finds (watch_calls by.watch ++ base) (still_watched by.watch base still) (begins_watched by.watch) ends
      old new follows state leaves in
      let tell = watch_tells by.watch base old still is.0 in
      let watched : IsWatched state old.witness = (by.watch, tell.1, by.admitted) in
      (tell.0, (is.1.0, is.1.1, subst (λ (s : KeyState). IsWatched s old.witness) (sym is.1.1) watched))

  -- nothing but calls that change nothing
  unchanged : (calls : List Event) → AreStill calls → last ≡ calls ++ before → AllTell calls old × Stays old new
  unchanged calls is_still are =
      let adds : Adds before last = record { calls = calls; are = are } in
      let is = unlocked (told old new (and_then adds ends) follows) in
      (is.tell, stays_still is_still is)

  drafted : (text : List ℕ) (answer : Writing) → last ≡ WitnessDrafted answer ∷ WitnessRead (Ok (Some text)) ∷ mid
      → AllTell (WitnessDrafted answer ∷ WitnessRead (Ok (Some text)) ∷ base) old × Stays old new
  drafted text answer calls =
      unchanged (WitnessDrafted answer ∷ WitnessRead (Ok (Some text)) ∷ base)
      (drafted_still answer _ (read_still (Ok (Some text)) base still))
      (calls ∙ ap (λ (log : WorldCalls). WitnessDrafted answer ∷ WitnessRead (Ok (Some text)) ∷ log) begins)

  unseen : (fault : Fault) → LogsUnseen fault mid last → AllTell base old × FailsToWatch fault old new
  unseen fault (inl (at, calls)) =
      let is = unchanged (WitnessRead (Err Device) ∷ base) (read_still (Err Device) base still)
      (calls ∙ ap (λ (log : WorldCalls). WitnessRead (Err Device) ∷ log) begins) in
      let held : old.witness ≡ Err Device =
      sym (still.witness old.witness) ∙ device_refused (witness_after base old.witness) is.0.1 in
      (is.0.0, inr (inl (at, held, is.1)))
  unseen fault (inr (at, calls)) =
      let is = unchanged (WitnessRead (Err NoMemoryLeft) ∷ base) (read_still (Err NoMemoryLeft) base still)
      (calls ∙ ap (λ (log : WorldCalls). WitnessRead (Err NoMemoryLeft) ∷ log) begins) in
      (is.0.0, inl (at, is.1))

  undrafted : (fault : Fault) (text : List ℕ) → LogsUndrafted fault (WitnessRead (Ok (Some text)) ∷ mid) last
      → AllTell base old × FailsToWatch fault old new
  undrafted fault text (inl (at, calls)) =
      let is = drafted text (Err Device) calls in absurd (found_so (witness_after base old.witness) is.0.0.1 is.0.1)
    where
      found_so : (held : WitnessHeld) → held ≡ Ok (Some text) → WitnessRefused Device held → ⊥
      found_so held found (inl refused) = cc (sym found ∙ refused)
      found_so held found (inr never) = cc never
  undrafted fault text (inr (at, inl same)) =
      let is = unchanged (WitnessRead (Ok (Some text)) ∷ base) (read_still (Ok (Some text)) base still)
      (same ∙ ap (λ (log : WorldCalls). WitnessRead (Ok (Some text)) ∷ log) begins) in
      (is.0.0, inl (at, is.1))
  undrafted fault text (inr (at, inr calls)) =
      let is = drafted text (Err NoMemoryLeft) calls in (is.0.0.0, inl (at, is.1))

  pub unwatched : (fault : Fault) → LogsUnwatched fault mid last → AllTell base old × FailsToWatch fault old new
  unwatched fault (inl never) = unseen fault never
  unwatched fault (inr (inl (text, never))) = undrafted fault text never
  unwatched fault (inr (inr (inl (watch, never)))) =
      let is = unopened (watch_calls watch ++ base) (still_watched watch base still) (begins_watched watch) ends
      old new follows fault never in
      let tell = watch_tells watch base old still is.0 in
      (tell.0, inr (inr (inl (watch, tell.1, is.1))))
  unwatched fault (inr (inr (inr (watch, state, refused, leaves)))) =
      let is = finds (watch_calls watch ++ base) (still_watched watch base still) (begins_watched watch) ends
      old new follows state leaves in
      let tell = watch_tells watch base old still is.0 in
      (tell.0, inr (inr (inr (refuses watch state refused is.1 tell.1))))
    where
      refuses : (watch : Watch) (state : KeyState) → IsRefusedBy watch state.key.i state.index fault
          → (found : FindsState old new) × (found.state ≡ state) → old.witness ≡ Ok watch
          → (found : FindsState old new) × (text : List ℕ) × (old.witness ≡ Ok (Some text))
          × IsRefusedBy (Some text) found.state.key.i found.state.index fault
      refuses None state never found held = absurd never
      refuses (Some text) state refused found held = (
        found.0,
        text,
        held,
        subst (λ (s : KeyState). IsRefusedBy (Some text) s.key.i s.index fault) (sym found.1) refused,
      )

  -- what calls tell once a witness was read that does not refuse the state
  watched_so : (state : KeyState) (by : Admits state) → AllTell (watch_calls by.watch ++ base) old
      → IsWatched state old.witness
  watched_so state by tell = (by.watch, (watch_tells by.watch base old still tell).1, by.admitted)

  -- n indices sign nothing
  pub unsigned_watched : (n : ℕ) (state : KeyState) (fault : Fault) → UnsignedWatched n fault state mid last
      → AllTell base old × ((new.files ≡ old.files) × SignsNone n fault old new)
  unsigned_watched n state fault (inl (by, spares)) =
      let is = unsigned (watch_calls by.watch ++ base) (still_watched by.watch base still)
      (begins_watched by.watch) ends
      old new follows n state fault (watched_so state by) (inl spares) in
      ((watch_tells by.watch base old still is.0).0, is.1)
  unsigned_watched n state fault (inr (by, inl burns)) =
      let is = unsigned (watch_calls by.watch ++ base) (still_watched by.watch base still)
      (begins_watched by.watch) ends
      old new follows n state fault (watched_so state by) (inr burns) in
      ((watch_tells by.watch base old still is.0).0, is.1)
  unsigned_watched n state fault (inr (by, inr (stored, uses, fails))) = by_note n by.watch refl refl fails
    where
      ends_so : (later : List Event) → AddNothing later → last ≡ later ++ stored → (text : List ℕ)
          → by.watch ≡ Some text → fault ≡ WriteWitnessBurnt state.index (state.index + n - 1)
          → AllTell base old × ((new.files ≡ old.files) × SignsNone n fault old new)
      ends_so later nothing are text there at =
          let is = stores_then (watch_calls by.watch ++ base) (still_watched by.watch base still)
          (begins_watched by.watch) ends old new follows later nothing n state (watched_so state by) stored uses are in
          let tell = watch_tells by.watch base old still is.0 in
          let of_state = subst (λ (s : KeyState). fault ≡ WriteWitnessBurnt s.index (s.index + n - 1))
          (sym is.1.1) at in
          let held = tell.1 ∙ ap (λ (watch : Watch). Ok watch) there in
          (tell.0, (is.1.0.files, inr (inr (inr (inr (is.1.0, (text, held), of_state))))))

      last_of : (m : ℕ) → suc m ≡ n → state.index + m ≡ state.index + n - 1
      last_of m same = omega (arith, same)

      by_note : (m : ℕ) (watch : Watch) → m ≡ n → by.watch ≡ watch
          → FailsToNote m watch state.key.i state.index fault stored last
          → AllTell base old × ((new.files ≡ old.files) × SignsNone n fault old new)
      by_note zero watch same of never = absurd never
      by_note (suc m) None same of never = absurd never
      by_note (suc m) (Some text) same of (at, inl nothing) =
          ends_so [] none_added nothing text of
          (at ∙ ap (λ (end : ℕ). WriteWitnessBurnt state.index end) (last_of m same))
      by_note (suc m) (Some text) same of (at, inr (cause, calls)) =
          ends_so _ (unsaid_added _ cause) calls text of
          (at ∙ ap (λ (end : ℕ). WriteWitnessBurnt state.index end) (last_of m same))

-- no file is changed where a state is not opened with its witness
pub unwatched_files : {fault : Fault} {old new : Held} → FailsToWatch fault old new → new.files ≡ old.files
unwatched_files (inl (at, stays)) = stays.files
unwatched_files (inr (inl (at, held, stays))) = stays.files
unwatched_files (inr (inr (inl (watch, held, never)))) = never.1.files
unwatched_files (inr (inr (inr (found, text, held, refused)))) = found.stays.files
