-- What calls tell of a world in memory, and what it holds after them.
use Rattle.std.proofs.Common.{◌≡◌, ◌∙◌, ◌∷◌, ◌++◌, [], List, ℕ, Bool, true, false, Option, Some, None, Ok, Err, ap}
use Rattle.std.proofs.Common.{refl, subst, sym, append_assoc, inl, inr}
use Rattle.std.specs.Prelude.{◌⊎◌, ◌≢◌, IfSome, Result}
use Rattle.std.proofs.lemmas.List.{append_cancel_right}
use Rattle.lms_book.specs.Stops.{IsAmong, StoreView, Texts}
use Rattle.lms_kept.specs.Ways.{Way}
use Rattle.lms_world.specs.Names.{Bytes}
use Rattle.lms_world.specs.Events.{Event, Read, Opened, Written, Locked, Unlocked, Asked}
use Rattle.lms_world.specs.Events.{Acquired, NotAvailable, NoMemory}
use Rattle.lms_world.specs.Events.{Taken, PutBack, NodesRead, NodesWritten, Printing, Printed}
use Rattle.lms_world.specs.Events.{WitnessDrafted, WitnessMade, WitnessRead, WitnessWritten}
use Rattle.lms_world.specs.Held.{Acts, Answers, Follows, Held, MayRefuseMaking, Replays, answer_in, is_there}
use Rattle.lms_world.specs.Outcomes.{files_after, nodes_after, state_after, witness_after}
use Rattle.lms_world.specs.declared.fault.WorldFault.{WorldFault}
use Rattle.lms_world.specs.declared.fault.WorldFault.TheVariants as world
use Rattle.lms_world.proofs.Answering.{answer_first, answer_other}
use Rattle.lms_world.proofs.Outcomes.{holds_after}
use Rattle.lms_commands.specs.InMemory.{KeepsNodes, Stays, WasState, WritesFile}
use Rattle.lms_commands.specs.Logs.{IsReadRefused, KeyState, LogsKeeping, ReadsState, read_cause}
use Rattle.lms_commands.specs.declared.fault.Fault.{Fault}
use Rattle.lms_commands.specs.declared.fault.Fault.TheVariants.{OutOfMemory, ReadInput}

-- whether a read of the state may fail, as before, or none is taken out; of one that was put back
-- nothing is known
abbrev pub MayFailAfter : List Event → Bool → Bool → Type 0
MayFailAfter [] old new = new ≡ old
MayFailAfter (Taken (Some store) ∷ earlier) old new = new ≡ true
MayFailAfter (PutBack store ∷ earlier) old new = Unit {0}
MayFailAfter (other ∷ earlier) old new = MayFailAfter earlier old new

-- a read or a write is refused by this fault
abbrev pub IsRefused : Bytes → WorldFault → Answers → Type 0
IsRefused name fault files = (answer_in files name ≡ Err fault) ⊎ (fault ≡ world.OutOfMemory)

-- a read or a write of the witness is refused by this fault
abbrev pub WitnessRefused : WorldFault → Result (Option (List ℕ)) WorldFault → Type 0
WitnessRefused fault witness = (witness ≡ Err fault) ⊎ (fault ≡ world.OutOfMemory)

-- what a call tells of what was held, after earlier calls
abbrev pub Tells : Event → List Event → Held → Type 0
Tells (Read name (Ok bytes)) earlier old = answer_in (files_after earlier old.files) name ≡ Ok bytes
Tells (Read name (Err fault)) earlier old = IsRefused name fault (files_after earlier old.files)
Tells (Opened name (Ok (Some bytes))) earlier old = answer_in (files_after earlier old.files) name ≡ Ok bytes
Tells (Opened name (Ok None)) earlier old = ⊥
Tells (Opened name (Err fault)) earlier old = IsRefused name fault (files_after earlier old.files)
Tells (Written name bytes (Err fault)) earlier old = IsRefused name fault (files_after earlier old.files)
Tells (Locked name Acquired) earlier old = old.in_use ≡ false
Tells (Locked name NotAvailable) earlier old = old.in_use ≡ true
Tells (Asked there) earlier old = there ≡ is_there (state_after earlier old.state)
Tells (Taken (Some store)) earlier old =
    (store.view.now ≡ state_after earlier old.state) × MayFailAfter earlier old.may_fail store.may_fail
Tells (NodesRead text) earlier old = IfSome text (λ bytes. nodes_after earlier old.nodes ≡ Some bytes)
Tells (WitnessRead (Ok found)) earlier old = witness_after earlier old.witness ≡ Ok found
Tells (WitnessRead (Err fault)) earlier old = WitnessRefused fault (witness_after earlier old.witness)
Tells (WitnessDrafted (Err fault)) earlier old = WitnessRefused fault (witness_after earlier old.witness)
Tells (WitnessWritten text (Err fault)) earlier old = WitnessRefused fault (witness_after earlier old.witness)
Tells (WitnessMade name text (Ok place)) earlier old = witness_after earlier old.witness ≡ Ok None
Tells (WitnessMade name text (Err fault)) earlier old =
    WitnessRefused fault (witness_after earlier old.witness)
    ⊎ ((fault ≡ world.Device) × (witness_after earlier old.witness ≢ Ok None))
Tells other earlier old = Unit {0}

abbrev pub AllTell : List Event → Held → Type 0
AllTell [] old = Unit {0}
AllTell (event ∷ earlier) old = AllTell earlier old × Tells event earlier old

-- all that calls say
pub record Told (calls : List Event) (old new : Held) : Type 0 where
  pub tell : AllTell calls old
  pub files : new.files ≡ files_after calls old.files
  pub state : new.state ≡ state_after calls old.state
  pub nodes : new.nodes ≡ nodes_after calls old.nodes
  pub in_use : new.in_use ≡ old.in_use
  pub nodes_fault : new.nodes_fault ≡ old.nodes_fault
  pub witness : new.witness ≡ witness_after calls old.witness
  pub may_fail : MayFailAfter calls old.may_fail new.may_fail

module _ (earlier : List Event) (old between new : Held) (is : Told earlier old between) where
  abbrev ToldOne : Event → Type 0
  ToldOne event = Tells event earlier old × MayFailAfter (event ∷ earlier) old.may_fail new.may_fail

  fails_as : (fails : Bool) → fails ≡ between.may_fail → MayFailAfter earlier old.may_fail fails
  fails_as fails same = subst (λ (b : Bool). MayFailAfter earlier old.may_fail b) (sym same) is.may_fail

  still : new ≡ between → MayFailAfter earlier old.may_fail new.may_fail
  still same = fails_as new.may_fail (ap (λ (h : Held). h.may_fail) same)

  refused : (name : Bytes) (fault : WorldFault) → IsRefused name fault between.files
      → IsRefused name fault (files_after earlier old.files)
  refused name fault at = subst (λ (files : Answers). IsRefused name fault files) is.files at

  witness_refused : (fault : WorldFault) → WitnessRefused fault between.witness
      → WitnessRefused fault (witness_after earlier old.witness)
  witness_refused fault at =
      subst (λ (witness : Result (Option (List ℕ)) WorldFault). WitnessRefused fault witness) is.witness at

  not_made : (fault : WorldFault) → MayRefuseMaking between fault
      → WitnessRefused fault (witness_after earlier old.witness)
      ⊎ ((fault ≡ world.Device) × (witness_after earlier old.witness ≢ Ok None))
  not_made fault (inl refused) = inl (witness_refused fault refused)
  not_made fault (inr (at, there)) = inr (at, λ none. there (is.witness ∙ none))

  told_one : (event : Event) → Acts event between new → ToldOne event
  told_one (Read name (Ok bytes)) acts =
      (ap (λ (files : Answers). answer_in files name) (sym is.files) ∙ acts.1, still acts.0)
  told_one (Read name (Err fault)) acts = (refused name fault acts.1, still acts.0)
  told_one (Opened name (Ok (Some bytes))) acts =
      (ap (λ (files : Answers). answer_in files name) (sym is.files) ∙ acts.1, still acts.0)
  told_one (Opened name (Ok None)) never = absurd never
  told_one (Opened name (Err fault)) acts = (refused name fault acts.1, still acts.0)
  told_one (Written name bytes (Ok done)) acts = (tt, fails_as new.may_fail (ap (λ (h : Held). h.may_fail) acts))
  told_one (Written name bytes (Err fault)) acts = (refused name fault acts.1, still acts.0)
  told_one (Locked name Acquired) acts = (sym is.in_use ∙ acts.1, still acts.0)
  told_one (Locked name NotAvailable) acts = (sym is.in_use ∙ acts.1, still acts.0)
  told_one (Locked name NoMemory) acts = (tt, still acts)
  told_one Unlocked acts = (tt, still acts)
  told_one (Asked there) acts = (acts.1 ∙ ap is_there is.state, still acts.0)
  told_one (Taken (Some store)) acts = (
    (acts.0 ∙ is.state, fails_as store.may_fail acts.1),
    ap (λ (h : Held). h.may_fail) acts.2,
  )
  told_one (Taken None) acts = (tt, still acts)
  told_one (PutBack store) acts = (tt, tt)
  told_one (NodesRead (Some text)) acts = (sym is.nodes ∙ acts.1, still acts.0)
  told_one (NodesRead None) acts = (tt, still acts)
  told_one (NodesWritten text (Ok done)) acts = (tt, fails_as new.may_fail (ap (λ (h : Held). h.may_fail) acts))
  told_one (NodesWritten text (Err fault)) acts = (tt, still acts.0)
  told_one (WitnessRead (Ok found)) acts = (sym is.witness ∙ acts.1, still acts.0)
  told_one (WitnessRead (Err fault)) acts = (witness_refused fault acts.1, still acts.0)
  told_one (WitnessDrafted (Ok done)) acts = (tt, still acts)
  told_one (WitnessDrafted (Err fault)) acts = (witness_refused fault acts.1, still acts.0)
  told_one (WitnessWritten text (Ok done)) acts = (tt, fails_as new.may_fail (ap (λ (h : Held). h.may_fail) acts))
  told_one (WitnessWritten text (Err fault)) acts = (witness_refused fault acts.1, still acts.0)
  told_one (WitnessMade name text (Ok place)) acts =
      (sym is.witness ∙ acts.1, fails_as new.may_fail (ap (λ (h : Held). h.may_fail) acts.0))
  told_one (WitnessMade name text (Err fault)) acts = (not_made fault acts.1, still acts.0)
  told_one (Printing before) acts = (tt, still acts)
  told_one (Printed bytes) acts = (tt, still acts)

told_by : (old new : Held) (calls : List Event) → Replays old calls new → Told calls old new
told_by old new [] same =
    let holds = holds_after old new [] same in
    record {
      tell = tt;
      files = holds.0;
      state = holds.1;
      nodes = holds.2;
      in_use = holds.3;
      nodes_fault = holds.4;
      witness = holds.5;
      may_fail = ap (λ (h : Held). h.may_fail) same;
    }
told_by old new (event ∷ earlier) is =
    let holds = holds_after old new (event ∷ earlier) is in
    let before = told_by old is.0 earlier is.1 in
    let here = told_one earlier old is.0 new before event is.2 in
    record {
      tell = (before.tell, here.0);
      files = holds.0;
      state = holds.1;
      nodes = holds.2;
      in_use = holds.3;
      nodes_fault = holds.4;
      witness = holds.5;
      may_fail = here.1;
    }

-- ---- which calls were added

pub record Adds (before now : List Event) : Type 0 where
  pub calls : List Event
  pub are : now ≡ calls ++ before

abbrev pub and_then : {before mid now : List Event} {event : Event} → Adds before mid → now ≡ event ∷ mid
    → Adds before now
and_then {before} {mid} {now} {event} adds is =
    record { calls = event ∷ adds.calls; are = is ∙ ap (λ (log : List Event). event ∷ log) adds.are }

replayed : {before now : List Event} (old new : Held) (adds : Adds before now)
    → Follows (Some old) before (Some new) now → Replays old adds.calls new
replayed {before} {now} old new adds follows =
    let same = append_cancel_right follows.calls.0 adds.calls before (sym follows.calls.1 ∙ adds.are) in
    subst (λ (calls : List Event). Replays old calls new) same follows.calls.2

pub told : {before now : List Event} (old new : Held) (adds : Adds before now)
    → Follows (Some old) before (Some new) now → Told adds.calls old new
told old new adds follows = told_by old new adds.calls (replayed old new adds follows)

-- ---- calls that change nothing

-- a call that leaves all as it is may be left out
pub left_out : {calls : List Event} {old new : Held} (event : Event)
    → files_after (event ∷ calls) old.files ≡ files_after calls old.files
    → state_after (event ∷ calls) old.state ≡ state_after calls old.state
    → nodes_after (event ∷ calls) old.nodes ≡ nodes_after calls old.nodes
    → witness_after (event ∷ calls) old.witness ≡ witness_after calls old.witness
    → (MayFailAfter (event ∷ calls) old.may_fail new.may_fail → MayFailAfter calls old.may_fail new.may_fail)
    → Told (event ∷ calls) old new → Told calls old new
left_out event files state nodes witness fails is = record {
  tell = is.tell.0;
  files = is.files ∙ files;
  state = is.state ∙ state;
  nodes = is.nodes ∙ nodes;
  in_use = is.in_use;
  nodes_fault = is.nodes_fault;
  witness = is.witness ∙ witness;
  may_fail = fails is.may_fail;
}

-- the lock is handed back
pub unlocked : {calls : List Event} {old new : Held} → Told (Unlocked ∷ calls) old new → Told calls old new
unlocked is = left_out Unlocked refl refl refl refl (λ fails. fails) is

-- an output begins to be printed to
pub until_printing : {calls : List Event} {old new : Held} {before : List ℕ}
    → Told (Printing before ∷ calls) old new → Told calls old new
until_printing {calls} {old} {new} {before} is = left_out (Printing before) refl refl refl refl (λ fails. fails) is

abbrev held : Answers → Texts → Bool → Bool → Option (List ℕ) → Option WorldFault
    → Result (Option (List ℕ)) WorldFault → Held
held files state may_fail in_use nodes nodes_fault witness =
    record {
      files = files;
      state = state;
      may_fail = may_fail;
      in_use = in_use;
      nodes = nodes;
      nodes_fault = nodes_fault;
      witness = witness;
    }

pub same_held : (old new : Held) → new.files ≡ old.files → new.state ≡ old.state → new.may_fail ≡ old.may_fail
    → new.in_use ≡ old.in_use → new.nodes ≡ old.nodes → new.nodes_fault ≡ old.nodes_fault
    → new.witness ≡ old.witness → new ≡ old
same_held old new files state may_fail in_use nodes nodes_fault witness = λ i.
    held (files i) (state i) (may_fail i) (in_use i) (nodes i) (nodes_fault i) (witness i)

pub nothing_done : {before now : List Event} (old new : Held) → now ≡ before
    → Follows (Some old) before (Some new) now → new ≡ old
nothing_done old new none follows =
    let is = told old new (record { calls = []; are = none }) follows in
    same_held old new is.files is.state is.may_fail is.in_use is.nodes is.nodes_fault is.witness

-- all that the calls say of is as it was
pub told_stays : {calls : List Event} {old new : Held} → Told calls old new → files_after calls old.files ≡ old.files
    → new.state ≡ old.state → nodes_after calls old.nodes ≡ old.nodes → witness_after calls old.witness ≡ old.witness
    → Stays old new
told_stays is files state nodes witness = record {
  files = is.files ∙ files;
  state = state;
  nodes = is.nodes ∙ nodes;
  in_use = is.in_use;
  nodes_fault = is.nodes_fault;
  witness = is.witness ∙ witness;
}

-- ---- calls that change nodes alone

-- trees are kept, or not
pub record KeepsOnly (trees : Option Way) (before now : List Event) : Type 0 where
  pub calls : List Event
  pub are : now ≡ calls ++ before
  pub files : (earlier : List Event) (files : Answers)
      → files_after (calls ++ earlier) files ≡ files_after earlier files
  pub state : (earlier : List Event) (state : Texts) → state_after (calls ++ earlier) state ≡ state_after earlier state
  pub nodes : (earlier : List Event) (nodes : Option (List ℕ))
      → KeepsNodes trees (nodes_after earlier nodes) (nodes_after (calls ++ earlier) nodes)
  pub witness : (earlier : List Event) (held : Result (Option (List ℕ)) WorldFault)
      → witness_after (calls ++ earlier) held ≡ witness_after earlier held
  pub tell : (earlier : List Event) (old : Held) → AllTell (calls ++ earlier) old → AllTell earlier old

pub keeps_only : (trees : Option Way) {before now : List Event} → LogsKeeping trees before now
    → KeepsOnly trees before now
keeps_only trees (inl same) = record {
  calls = [];
  are = same;
  files = λ earlier files. refl;
  state = λ earlier state. refl;
  nodes = λ earlier nodes. inl refl;
  witness = λ earlier held. refl;
  tell = λ earlier old tell. tell;
}
keeps_only trees (inr (way, Ok done, trees_are, is)) = record {
  calls = NodesWritten _ (Ok done) ∷ [];
  are = is;
  files = λ earlier files. refl;
  state = λ earlier state. refl;
  nodes = λ earlier nodes. inr (way, trees_are, refl);
  witness = λ earlier held. refl;
  tell = λ earlier old tell. tell.0;
}
keeps_only trees (inr (way, Err fault, trees_are, is)) = record {
  calls = NodesWritten _ (Err fault) ∷ [];
  are = is;
  files = λ earlier files. refl;
  state = λ earlier state. refl;
  nodes = λ earlier nodes. inl refl;
  witness = λ earlier held. refl;
  tell = λ earlier old tell. tell.0;
}

abbrev pub and_kept : {trees : Option Way} {before mid now : List Event} → Adds before mid → KeepsOnly trees mid now
    → Adds before now
and_kept {trees} {before} {mid} {now} adds keeps = record {
  calls = keeps.calls ++ adds.calls;
  are =
      keeps.are ∙ ap (λ (log : List Event). keeps.calls ++ log) adds.are
      ∙ sym (append_assoc keeps.calls adds.calls before);
}

-- ---- files and states

-- a file was written, and nothing after that
pub written_file : (name : Bytes) (bytes : List ℕ) (old new : Answers) → new ≡ (name, Ok bytes) ∷ old
    → WritesFile name bytes old new
written_file name bytes old new is = record {
  holds = ap (λ (files : Answers). answer_in files name) is ∙ answer_first name (Ok bytes) old;
  others =
      λ other differs.
      ap (λ (files : Answers). answer_in files other) is ∙ answer_other name other (Ok bytes) old differs;
}

-- the state that was read was there
pub was_state : {taken read : StoreView} {held : Texts} (state : KeyState) → ReadsState state taken read
    → taken.now ≡ held → WasState state held
was_state state reads found = record {
  text = reads.text;
  there = subst (λ texts. IsAmong texts reads.text) found reads.left;
  counted = reads.counted;
  image = reads.image;
}

-- ---- reads that fail

no_memory : world.Device ≡ world.OutOfMemory → ⊥
no_memory is = cc is

pub read_refused : (fault : Fault) (name : Bytes) (files : Answers) → IsReadRefused fault
    → IsRefused name (read_cause fault) files
    → (fault ≡ OutOfMemory) ⊎ ((fault ≡ ReadInput) × (answer_in files name ≡ Err world.Device))
read_refused fault name files (inl at) (inl refused) = inr (at, refused ∙ ap (λ (f : Fault). Err (read_cause f)) at)
read_refused fault name files (inl at) (inr memory) = absurd (no_memory (sym (ap read_cause at) ∙ memory))
read_refused fault name files (inr at) refused = inl at
