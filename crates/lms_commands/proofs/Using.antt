-- What becomes of a world in memory where indices of a state are used, or none, and its witness says so.
use Rattle.std.proofs.Common.{◌≡◌, ◌∙◌, ◌≤◌, ◌+◌, ◌∷◌, ◌++◌, ℕ, zero, suc, List, Option, None, Some, Ok, ap, arith}
use Rattle.std.proofs.Common.{append_assoc, refl, subst, sym}
use Rattle.lms_spec.specs.Hss.{capacity_of}
use Rattle.lms_hss.specs.Keys.{hss_key_of}
use Rattle.lms_book.specs.Stops.{StoreView, Texts, after_write}
use Rattle.lms_world.specs.Events.{Event, PutBack, Taken, Taking}
use Rattle.lms_world.specs.Held.{Answers, Held}
use Rattle.lms_world.specs.Outcomes.{files_after, nodes_after, state_after, witness_after}
use Rattle.lms_commands.specs.InMemory.{CountsUses, WitnessHeld, noted}
use Rattle.lms_commands.specs.Logs.{KeyState, ReadsState, WorldCalls}
use Rattle.lms_commands.specs.Watching.{IsAdmitted, UsesAll, Watch, notes, watch_calls}
use Rattle.lms_commands.proofs.Telling.{AllTell}

-- the state is read with its witness, and n indices of it are used, or none
pub record UsesSo (n : ℕ) (state : KeyState) (before now : WorldCalls) : Type 0 where
  pub calls : List Event
  pub are : now ≡ calls ++ before
  pub watch : Watch
  pub admitted : IsAdmitted watch state.key.i state.index
  pub taken : Taking
  pub read : StoreView
  pub reads : ReadsState state taken.view read
  pub within : state.index + n ≤ capacity_of (hss_key_of state.key)
  pub left : Texts
  pub counted : CountsUses n state taken.view.now left
  pub files : (earlier : List Event) (files : Answers)
      → files_after (calls ++ earlier) files ≡ files_after earlier files
  pub nodes : (earlier : List Event) (nodes : Option (List ℕ))
      → nodes_after (calls ++ earlier) nodes ≡ nodes_after earlier nodes
  pub state_is : (earlier : List Event) (texts : Texts) → state_after (calls ++ earlier) texts ≡ left
  pub witness : (earlier : List Event) (held : WitnessHeld) → witness_after earlier held ≡ Ok watch
      → witness_after (calls ++ earlier) held ≡ noted n state (witness_after earlier held)
  pub tell : (earlier : List Event) (old : Held) → AllTell (calls ++ earlier) old
      → AllTell earlier old × (taken.view.now ≡ state_after earlier old.state)
      × (witness_after earlier old.witness ≡ Ok watch)

-- the calls of these, where so many indices are noted
module _ (n : ℕ) (state : KeyState) (watch : Watch) (taken : Taking) (left : StoreView) where
  abbrev noting : List Event
  noting = notes n watch state.key.i state.index (Ok tt)

  abbrev storing : List Event
  storing = PutBack left ∷ Taken (Some taken) ∷ watch_calls watch

  then_so : (earlier : List Event) → (noting ++ storing) ++ earlier ≡ noting ++ (storing ++ earlier)
  then_so earlier = append_assoc noting storing earlier

files_noted : (n : ℕ) (watch : Watch) (id : List ℕ) (start : ℕ) (earlier : List Event) (files : Answers)
    → files_after (notes n watch id start (Ok tt) ++ earlier) files ≡ files_after earlier files
files_noted zero watch id start earlier files = refl
files_noted (suc n) None id start earlier files = refl
files_noted (suc n) (Some text) id start earlier files = refl

nodes_noted : (n : ℕ) (watch : Watch) (id : List ℕ) (start : ℕ) (earlier : List Event) (nodes : Option (List ℕ))
    → nodes_after (notes n watch id start (Ok tt) ++ earlier) nodes ≡ nodes_after earlier nodes
nodes_noted zero watch id start earlier nodes = refl
nodes_noted (suc n) None id start earlier nodes = refl
nodes_noted (suc n) (Some text) id start earlier nodes = refl

state_noted : (n : ℕ) (watch : Watch) (id : List ℕ) (start : ℕ) (earlier : List Event) (texts : Texts)
    → state_after (notes n watch id start (Ok tt) ++ earlier) texts ≡ state_after earlier texts
state_noted zero watch id start earlier texts = refl
state_noted (suc n) None id start earlier texts = refl
state_noted (suc n) (Some text) id start earlier texts = refl

tell_noted : (n : ℕ) (watch : Watch) (id : List ℕ) (start : ℕ) (earlier : List Event) (old : Held)
    → AllTell (notes n watch id start (Ok tt) ++ earlier) old → AllTell earlier old
tell_noted zero watch id start earlier old tell = tell
tell_noted (suc n) None id start earlier old tell = tell
tell_noted (suc n) (Some text) id start earlier old tell = tell.0

witness_noted : (n : ℕ) (state : KeyState) (watch : Watch) (earlier : List Event) (held : WitnessHeld)
    → witness_after earlier held ≡ Ok watch
    → witness_after (notes n watch state.key.i state.index (Ok tt) ++ earlier) held ≡ noted n state (Ok watch)
witness_noted zero state watch earlier held is = is
witness_noted (suc n) state None earlier held is = is
witness_noted (suc n) state (Some text) earlier held is = refl

files_watched : (watch : Watch) (earlier : List Event) (files : Answers)
    → files_after (watch_calls watch ++ earlier) files ≡ files_after earlier files
files_watched None earlier files = refl
files_watched (Some text) earlier files = refl

nodes_watched : (watch : Watch) (earlier : List Event) (nodes : Option (List ℕ))
    → nodes_after (watch_calls watch ++ earlier) nodes ≡ nodes_after earlier nodes
nodes_watched None earlier nodes = refl
nodes_watched (Some text) earlier nodes = refl

witness_watched : (watch : Watch) (earlier : List Event) (held : WitnessHeld)
    → witness_after (watch_calls watch ++ earlier) held ≡ witness_after earlier held
witness_watched None earlier held = refl
witness_watched (Some text) earlier held = refl

tell_watched : (watch : Watch) (earlier : List Event) (old : Held) (taken : Taking)
    → AllTell (Taken (Some taken) ∷ (watch_calls watch ++ earlier)) old
    → AllTell earlier old × (taken.view.now ≡ state_after earlier old.state)
    × (witness_after earlier old.witness ≡ Ok watch)
tell_watched None earlier old taken tell = (tell.0.0, tell.1.0, tell.0.1)
tell_watched (Some text) earlier old taken tell = (tell.0.0.0, tell.1.0, tell.0.0.1)

-- a store is taken out and put back as this is left
noted_so : (n : ℕ) (state : KeyState) (watch : Watch) (taken : Taking) (read left : StoreView) {before now : WorldCalls}
    → IsAdmitted watch state.key.i state.index → ReadsState state taken.view read
    → state.index + n ≤ capacity_of (hss_key_of state.key) → CountsUses n state taken.view.now left.now
    → now ≡ notes n watch state.key.i state.index (Ok tt)
    ++ (PutBack left ∷ Taken (Some taken) ∷ (watch_calls watch ++ before))
    → UsesSo n state before now
unfolding then_so
noted_so n state watch taken read left {before} {now} admitted reads within counted calls =
    let by_id = state.key.i in
    let start = state.index in
    let one = storing n state watch taken left in
    record {
      calls = noting n state watch taken left ++ one;
      are = calls ∙ sym (then_so n state watch taken left before);
      watch = watch;
      admitted = admitted;
      taken = taken;
      read = read;
      reads = reads;
      within = within;
      left = left.now;
      counted = counted;
      files = λ earlier files.
          ap (λ (log : List Event). files_after log files) (then_so n state watch taken left earlier)
          ∙ (files_noted n watch by_id start (one ++ earlier) files ∙ files_watched watch earlier files);
      nodes = λ earlier nodes.
          ap (λ (log : List Event). nodes_after log nodes) (then_so n state watch taken left earlier)
          ∙ (nodes_noted n watch by_id start (one ++ earlier) nodes ∙ nodes_watched watch earlier nodes);
      state_is = λ earlier texts.
          ap (λ (log : List Event). state_after log texts) (then_so n state watch taken left earlier)
          ∙ state_noted n watch by_id start (one ++ earlier) texts;
      witness = λ earlier held is. ap (λ (log : List Event). witness_after log held)
          (then_so n state watch taken left earlier)
          ∙ (witness_noted n state watch (one ++ earlier) held (witness_watched watch earlier held ∙ is)
          ∙ ap (noted n state) (sym is));
      tell = λ earlier old tell. tell_watched watch earlier old taken
          (tell_noted n watch by_id start (one ++ earlier) old
          (subst (λ (log : List Event). AllTell log old) (then_so n state watch taken left earlier) tell)).0;
    }

pub uses_so : (n : ℕ) (state : KeyState) {before now : WorldCalls} → UsesAll n state before now
    → UsesSo n state before now
uses_so zero state (by, (taken, read, reads, calls)) =
    noted_so zero state by.watch taken read read by.admitted reads (omega (arith, reads.counted.within))
    (ap (λ (v : StoreView). v.now) reads.given) calls
uses_so (suc n) state (by, last, (taken, read, reads, within, calls), noted_is) =
    noted_so (suc n) state by.watch taken read (after_write _ read) by.admitted reads within refl
    (noted_is ∙ ap (λ (log : List Event). notes (suc n) by.watch state.key.i state.index (Ok tt) ++ log) calls)
