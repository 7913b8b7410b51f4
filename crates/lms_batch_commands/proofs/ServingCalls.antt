-- The calls of `serve` write no file and no nodes.
use Rattle.std.proofs.Common.{◌≡◌, ◌∙◌, ℕ, zero, suc, List, [], ◌∷◌, ◌++◌, length, map, Option, Some, None, Ok, Err, ap}
use Rattle.std.proofs.Common.{refl}
use Rattle.std.specs.Prelude.{Result}
use Rattle.std.proofs.Common.{sym, inl, inr}
use Rattle.std.proofs.Common.{append-nil}
use Rattle.std.proofs.lemmas.List.{append_cancel_right}
use Rattle.lms_book.specs.Stops.{StoreView}
use Rattle.lms_world.specs.Names.{Bytes}
use Rattle.lms_world.specs.Events.{Acquired, Event, Locked, Locking, Printing, PutBack, Taken, Taking, Unlocked}
use Rattle.lms_world.specs.Events.{WitnessDrafted, WitnessRead, Writing}
use Rattle.lms_world.specs.declared.fault.WorldFault.{WorldFault}
use Rattle.lms_world.specs.Held.{Answers, Follows, Held}
use Rattle.lms_world.specs.Outcomes.{files_after, nodes_after}
use Rattle.lms_world.proofs.Outcomes.{holds_what_is_logged}
use Rattle.lms_batch.specs.declared.collector.Batch.{Batch}
use Rattle.lms_batch_commands.specs.BatchLogs.{AnswersJobs}
use Rattle.lms_commands.specs.Histories.{written_in}
use Rattle.lms_commands.specs.Logs.{BurnsUnsigned, KeyState, LeavesState, LeavesUnsigned, LogsUnopened, StoresUse}
use Rattle.lms_commands.specs.Logs.{WorldCalls}
use Rattle.lms_commands.specs.Watching.{BurnsWatched, FailsToNote, LeavesWatched, LogsUnwatched, SparesWatched, UsesAll, Watch}
use Rattle.lms_commands.specs.Watching.{notes, watch_calls}
use Rattle.lms_batch_commands.specs.Serving.{AnyState, Due, FailsGroup, FailsToServe, Group, LeavesGroup, LogsGroup}
use Rattle.lms_batch_commands.specs.Serving.{LogsGroups, LogsServe, LogsServeFailed, StopsServing, UsesGroup}
use Rattle.lms_batch_commands.specs.Serving.{answered}
use Rattle.lms_commands.specs.declared.fault.Fault.{Fault}

-- calls more, none of which writes a file or nodes
pub record Keeps (base log : WorldCalls) : Type 0 where
  pub added : WorldCalls
  pub are : log ≡ added ++ base
  pub files : (files : Answers) → files_after added files ≡ files
  pub nodes : (nodes : Option (List ℕ)) → nodes_after added nodes ≡ nodes
  pub unwritten : written_in added ≡ []

pub keeps_none : (base : WorldCalls) → Keeps base base
keeps_none base = record {
  added = [];
  are = refl;
  files = λ files. refl;
  nodes = λ nodes. refl;
  unwritten = refl;
}

module _ {base old new : WorldCalls} (was : Keeps base old) where
  more : (event : Event) → new ≡ event ∷ old → new ≡ event ∷ was.added ++ base
  more event calls = calls ∙ ap (λ (log : WorldCalls). event ∷ log) was.are

  keeps_as : new ≡ old → Keeps base new
  keeps_as same = record {
    added = was.added;
    are = same ∙ was.are;
    files = was.files;
    nodes = was.nodes;
    unwritten = was.unwritten;
  }

  keeps_store : (taken : Taking) (left : StoreView) → new ≡ PutBack left ∷ Taken (Some taken) ∷ old → Keeps base new
  keeps_store taken left calls = record {
    added = PutBack left ∷ Taken (Some taken) ∷ was.added;
    are = calls ∙ ap (λ (log : WorldCalls). PutBack left ∷ Taken (Some taken) ∷ log) was.are;
    files = was.files;
    nodes = was.nodes;
    unwritten = was.unwritten;
  }

  keeps_untaken : new ≡ Taken None ∷ old → Keeps base new
  keeps_untaken calls = record {
    added = Taken None ∷ was.added;
    are = more (Taken None) calls;
    files = was.files;
    nodes = was.nodes;
    unwritten = was.unwritten;
  }

  keeps_printing : (before : List ℕ) → new ≡ Printing before ∷ old → Keeps base new
  keeps_printing before calls = record {
    added = Printing before ∷ was.added;
    are = more (Printing before) calls;
    files = was.files;
    nodes = was.nodes;
    unwritten = was.unwritten;
  }

  keeps_unlocked : new ≡ Unlocked ∷ old → Keeps base new
  keeps_unlocked calls = record {
    added = Unlocked ∷ was.added;
    are = more Unlocked calls;
    files = was.files;
    nodes = was.nodes;
    unwritten = was.unwritten;
  }

  keeps_locked : (name : Bytes) (answer : Locking) → new ≡ Locked name answer ∷ old → Keeps base new
  keeps_locked name answer calls = record {
    added = Locked name answer ∷ was.added;
    are = more (Locked name answer) calls;
    files = was.files;
    nodes = was.nodes;
    unwritten = was.unwritten;
  }

-- that a witness was read, and drafted, or that it is written
keeps_read : {base old : WorldCalls} (was : Keeps base old) (answer : Result (Option (List ℕ)) WorldFault)
    → Keeps base (WitnessRead answer ∷ old)
keeps_read was answer = record {
  added = WitnessRead answer ∷ was.added;
  are = ap (λ (log : WorldCalls). WitnessRead answer ∷ log) was.are;
  files = was.files;
  nodes = was.nodes;
  unwritten = was.unwritten;
}

keeps_drafted : {base old : WorldCalls} (was : Keeps base old) (answer : Writing)
    → Keeps base (WitnessDrafted answer ∷ old)
keeps_drafted was answer = record {
  added = WitnessDrafted answer ∷ was.added;
  are = ap (λ (log : WorldCalls). WitnessDrafted answer ∷ log) was.are;
  files = was.files;
  nodes = was.nodes;
  unwritten = was.unwritten;
}

keeps_watch : {base old : WorldCalls} (was : Keeps base old) (watch : Watch) → Keeps base (watch_calls watch ++ old)
keeps_watch was None = keeps_read was (Ok None)
keeps_watch was (Some text) = keeps_drafted (keeps_read was (Ok (Some text))) (Ok tt)

keeps_note : {base old : WorldCalls} (was : Keeps base old) (n : ℕ) (watch : Watch) (id : List ℕ) (start : ℕ)
    (answer : Writing) → Keeps base (notes n watch id start answer ++ old)
keeps_note was zero watch id start answer = was
keeps_note was (suc n) None id start answer = was
keeps_note was (suc n) (Some text) id start answer = record {
  added = notes (suc n) (Some text) id start answer ++ was.added;
  are = ap (λ (log : WorldCalls). notes (suc n) (Some text) id start answer ++ log) was.are;
  files = was.files;
  nodes = was.nodes;
  unwritten = was.unwritten;
}

module _ {base old new : WorldCalls} (was : Keeps base old) where
  left_raw : (state : KeyState) → LeavesState state old new → Keeps base new
  left_raw state (taken, read, reads, calls) = keeps_store was taken read calls

  stored_raw : (n : ℕ) (state : KeyState) → StoresUse n state old new → Keeps base new
  stored_raw n state (taken, read, reads, within, calls) = keeps_store was taken _ calls

  unopened_raw : (fault : Fault) → LogsUnopened fault old new → Keeps base new
  unopened_raw fault (inl (at, calls)) = keeps_untaken was calls
  unopened_raw fault (inr (taken, inl (at, calls))) = keeps_store was taken _ calls
  unopened_raw fault (inr (taken, inr (inl (at, fails, calls)))) = keeps_store was taken _ calls
  unopened_raw fault (inr (taken, inr (inr (bad, text, at, may, is, calls)))) = keeps_store was taken _ calls

  spared_raw : (n : ℕ) (fault : Fault) (state : KeyState) → LeavesUnsigned n fault state old new → Keeps base new
  spared_raw n fault state (inl (at, lacks, is)) = left_raw state is
  spared_raw n fault state (inr (at, is)) = left_raw state is

  burnt_raw : (n : ℕ) (fault : Fault) (state : KeyState) → BurnsUnsigned n fault state old new → Keeps base new
  burnt_raw n fault state (inl (at, (taken, read, left, reads, within, fails, calls))) =
      keeps_store was taken left calls
  burnt_raw n fault state (inr (at, uses)) = stored_raw n state uses

  unsaid : (n : ℕ) (watch : Watch) (id : List ℕ) (start : ℕ) (fault : Fault)
      → FailsToNote n watch id start fault old new → Keeps base new
  unsaid zero watch id start fault never = absurd never
  unsaid (suc n) None id start fault never = absurd never
  unsaid (suc n) (Some text) id start fault (at, inl same) = keeps_as was same
  unsaid (suc n) (Some text) id start fault (at, inr (cause, calls)) =
      keeps_as (keeps_note was (suc n) (Some text) id start (Err cause)) calls

module _ {base old new : WorldCalls} (was : Keeps base old) where
  leaves : (state : KeyState) → LeavesWatched state old new → Keeps base new
  leaves state (by, is) = left_raw (keeps_watch was by.watch) state is

  uses : (n : ℕ) (state : KeyState) → UsesAll n state old new → Keeps base new
  uses zero state is = leaves state is
  uses (suc n) state (by, last, is, noted) =
      keeps_as (keeps_note (stored_raw (keeps_watch was by.watch) (suc n) state is) (suc n) by.watch state.key.i
      state.index (Ok tt)) noted

  unopened : (fault : Fault) → LogsUnwatched fault old new → Keeps base new
  unopened fault (inl (inl (at, calls))) = keeps_as (keeps_read was _) calls
  unopened fault (inl (inr (at, calls))) = keeps_as (keeps_read was _) calls
  unopened fault (inr (inl (text, inl (at, calls)))) = keeps_as (keeps_drafted (keeps_read was _) _) calls
  unopened fault (inr (inl (text, inr (at, inl same)))) = keeps_as (keeps_read was _) same
  unopened fault (inr (inl (text, inr (at, inr calls)))) = keeps_as (keeps_drafted (keeps_read was _) _) calls
  unopened fault (inr (inr (inl (watch, is)))) = unopened_raw (keeps_watch was watch) fault is
  unopened fault (inr (inr (inr (watch, state, refused, is)))) = left_raw (keeps_watch was watch) state is

  spares : (n : ℕ) (fault : Fault) (state : KeyState) → SparesWatched n fault state old new → Keeps base new
  spares n fault state (by, is) = spared_raw (keeps_watch was by.watch) n fault state is

  burns : (n : ℕ) (fault : Fault) (state : KeyState) → BurnsWatched n fault state old new → Keeps base new
  burns n fault state (by, inl is) = burnt_raw (keeps_watch was by.watch) n fault state is
  burns n fault state (by, inr (last, is, fails)) =
      unsaid (stored_raw (keeps_watch was by.watch) n state is) n by.watch state.key.i state.index fault fails

answers_jobs : {base old new : WorldCalls} (was : Keeps base old) (input rest : Option (List ℕ)) (before : List ℕ)
    (batch : Batch) → AnswersJobs input rest before batch old new → Keeps base new
answers_jobs was input rest before batch is =
    keeps_printing (uses was _ is.signs.state is.signs.uses) before is.prints

left_group : {base old new : WorldCalls} (was : Keeps base old) (text : List ℕ) (fault : Fault) (state : KeyState)
    → LeavesGroup text fault state old new → Keeps base new
left_group was text fault state (inl (unread, is)) = leaves was state is
left_group was text fault state (inr (rest, jobs, reads, some, is)) = spares was (length jobs) fault state is

used_group : {base old new : WorldCalls} (was : Keeps base old) (text : List ℕ) (fault : Fault) (state : KeyState)
    (before printed : List ℕ) → UsesGroup text fault state before printed old new → Keeps base new
used_group was text fault state before printed (inl (rest, jobs, reads, some, is, same)) =
    burns was (length jobs) fault state is
used_group was text fault state before printed (inr (rest, batch, is, of, lines)) =
    answers_jobs was (Some text) rest before batch is

fails : {base old new : WorldCalls} (was : Keeps base old) (text : List ℕ) (fault : Fault) (due next : Due)
    (before printed : List ℕ) → FailsGroup text fault due next before printed old new → Keeps base new
fails was text fault due next before printed (inl (same, inl (inl (cause, never, at), is))) = unopened was cause never
fails was text fault due next before printed (inl (same, inl (inr (at, (state, left, other)), is))) =
    leaves was state left
fails was text fault due next before printed (inl (same, inr (state, of, left, is))) =
    left_group was text fault state left
fails was text fault due next before printed (inr ((state, of, used), is)) =
    used_group was text fault state before printed used

pub group_keeps : {base old new : WorldCalls} (was : Keeps base old) (text : List ℕ) (fault : Option Fault)
    (due next : Due) (before printed : List ℕ) → LogsGroup text fault due next before printed old new
    → Keeps base new
group_keeps was text None due next before printed (rest, count, (batch, is, _, _, _), of, next_is) =
    answers_jobs was (Some text) rest before batch is
group_keeps was text (Some fault) due next before printed is = fails was text fault due next before printed is

pub groups_keep : {base old new : WorldCalls} (was : Keeps base old) (groups : List Group) (due next : Due)
    (before printed : List ℕ) → LogsGroups groups due next before printed old new → Keeps base new
groups_keep was [] due next before printed (same, none, is) = keeps_as was none
groups_keep was (group ∷ earlier) due next before printed (between, mid, later_due, logs, one) =
    group_keeps (groups_keep was earlier due later_due before between logs) group.text group.fault later_due
    next between printed
    one

none_served : {base old new : WorldCalls} (was : Keeps base old) (count : ℕ) (input rest : Option (List ℕ))
    (held : List ℕ) (fault : Fault) (due : Due) (before printed : List ℕ)
    → StopsServing count input rest held fault due before printed old new → Keeps base new
none_served was count input rest held fault due before printed (inl (cause, cuts, is, same, none)) = keeps_as was none
none_served was count input rest held fault due before printed (inr next) =
    groups_keep was next.groups due next.next before printed next.logs

pub fails_to_serve : {base old new : WorldCalls} (was : Keeps base old) (input rest : Option (List ℕ)) (fault : Fault)
    (before printed : List ℕ) → FailsToServe input rest fault before printed old new → Keeps base new
fails_to_serve was input rest fault before printed (inl (next, is, same)) =
    fails was [] fault AnyState next before printed is
fails_to_serve was input rest fault before printed (inr (inl (at, next, is, same))) =
    group_keeps was [] None AnyState next before printed is
fails_to_serve was input rest fault before printed (inr (inr (inl some))) =
    none_served
    (groups_keep was (map answered some.texts) AnyState some.due before some.between some.answers.logs) _ some.until
    rest some.held fault some.due some.between printed some.fails
fails_to_serve was input rest fault before printed (inr (inr (inr (at, (texts, held, next, many, is))))) =
    groups_keep was (map answered texts) AnyState next before printed is.logs

pub serve_keeps : (state workers : Bytes) (input rest : Option (List ℕ)) (before printed : List ℕ)
    (old new : WorldCalls) → LogsServe state workers input rest before printed old new → Keeps old new
serve_keeps state workers input rest before printed old new (last, is, calls, are) =
    keeps_unlocked (groups_keep (keeps_locked (keeps_none old) state Acquired refl)
    (map answered (is.last ∷ is.earlier)) AnyState is.next before printed is.logs) calls

pub serve_failed_keeps : (state workers : Bytes) (input rest : Option (List ℕ))
    (before printed : List ℕ) (fault : Fault)
    (old new : WorldCalls) → LogsServeFailed state workers input rest before printed fault old new → Keeps old new
serve_failed_keeps state workers input rest before printed fault old new (inl (at, none, same, are, unread)) =
    keeps_as (keeps_none old) none
serve_failed_keeps state workers input rest before printed fault old new
    (inr (inl (refused, calls, same, are, unread))) =
    keeps_locked (keeps_none old) state _ calls
serve_failed_keeps state workers input rest before printed fault old new (inr (inr (last, is, calls, are))) =
    keeps_unlocked
    (fails_to_serve (keeps_locked (keeps_none old) state Acquired refl) input rest fault before printed is)
    calls

pub writes_none : (whole : WorldCalls) → Keeps [] whole → written_in whole ≡ []
writes_none whole keeps = ap written_in (keeps.are ∙ append-nil keeps.added) ∙ keeps.unwritten

-- of a world in memory, files and nodes stay
pub stays_unwritten : (old new : Held) (before now : WorldCalls) → Keeps before now
    → Follows (Some old) before (Some new) now → (new.files ≡ old.files) × (new.nodes ≡ old.nodes)
stays_unwritten old new before now keeps follows =
    let holds = holds_what_is_logged old new before now follows in
    let same = append_cancel_right holds.0 keeps.added before (sym holds.1 ∙ keeps.are) in (
      holds.2.0 ∙ ap (λ (calls : WorldCalls). files_after calls old.files) same ∙ keeps.files old.files,
      holds.2.2 ∙ ap (λ (calls : WorldCalls). nodes_after calls old.nodes) same ∙ keeps.nodes old.nodes,
    )
