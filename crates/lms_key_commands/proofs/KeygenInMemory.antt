-- What `keygen` leaves in a world in memory, by its calls.
use Rattle.std.proofs.Common.{◌≡◌, ◌∙◌, ◌∷◌, [], ◌++◌, ℕ, List, Option, Some, None, Ok, true, false, ap, subst}
use Rattle.std.proofs.Common.{refl, inl, inr, sym}
use Rattle.lms_spec.specs.Profile.{hss_public_key}
use Rattle.lms_hss.specs.Keys.{hss_key_of}
use Rattle.lms_hss.specs.declared.key.HssKey.{HssKey as KeyOfCode}
use Rattle.lms_image.specs.Image.{image_of}
use Rattle.lms_book.specs.Stops.{StoreView, FailsToWrite, after_write}
use Rattle.lms_world.specs.Names.{Bytes}
use Rattle.lms_world.specs.Events.{Acquired, Asked, Event, Locked, PutBack, Taken, Taking, Unlocked, WitnessRead}
use Rattle.lms_world.specs.Events.{Writing}
use Rattle.lms_world.specs.Held.{Answers, Follows, Held}
use Rattle.lms_world.specs.Outcomes.{files_after}
use Rattle.lms_commands.specs.InMemory.{KeepsNodes}
use Rattle.lms_key_commands.specs.KeygenInMemory.{FailsToMakeKey, FailsToMakeKeyInMemory, MakesKey, MakesKeyInMemory}
use Rattle.lms_key_commands.specs.KeygenInMemory.{MayMakeKey, PublishesIn}
use Rattle.lms_key_commands.specs.KeygenLogs.{LogsUnmade, PublishesKey, WritesKey, finding_none}
use Rattle.lms_commands.specs.Logs.{LogsUnopened, PutsBack, WorldCalls, write_cause}
use Rattle.lms_commands.specs.declared.fault.Fault.{Fault}
use Rattle.lms_commands.specs.declared.fault.Fault.TheVariants.{OutOfMemory}
use Rattle.lms_commands.proofs.AtState.{AreStill, left_by, not_locked, unopened}
use Rattle.lms_commands.proofs.Telling.{Adds, IsRefused, KeepsOnly, Told, and_kept, and_then, keeps_only}
use Rattle.lms_commands.proofs.Telling.{nothing_done, same_held}
use Rattle.lms_commands.proofs.Telling.{told, unlocked, until_printing, written_file}
use Rattle.lms_key_commands.proofs.WitnessInMemory.{there}

-- a key's state is stored, and its public key written to a file, or its write fails
module _ {key : KeyOfCode} {state public : Bytes} {answer : Writing} {earlier last : WorldCalls}
    (writes : WritesKey key public answer (Locked state Acquired ∷ earlier) last) where
  abbrev first : List Event
  first =
      PutBack (after_write (image_of key 0 0 0) writes.stores.0.view) ∷ Taken (Some writes.stores.0)
      ∷ WitnessRead (Ok None) ∷ Asked false ∷ Locked state Acquired ∷ []

  abbrev keeps : KeepsOnly writes.trees writes.until_stored writes.until_kept
  keeps = keeps_only writes.trees writes.keeps

  abbrev all_calls : Adds earlier last
  all_calls = and_then (and_kept (record { calls = first; are = writes.stores.1 }) keeps) writes.writes

  makes : (old new : Held) → Told all_calls.calls old new → MakesKey key old new
  makes old new is =
      let tell = keeps.tell first old is.tell.0 in
      let kept = keeps.nodes first old.nodes in
      record {
        free = tell.0.0.0.0.1;
        none_was = sym tell.0.0.0.1;
        unwatched = tell.0.0.1;
        witness = is.witness ∙ keeps.witness first old.witness;
        stored = is.state ∙ keeps.state first old.state;
        trees = writes.trees;
        genuine = writes.genuine;
        kept = subst (λ (nodes : Option (List ℕ)). KeepsNodes writes.trees old.nodes nodes) (sym is.nodes) kept;
      }

  no_other : (old : Held) → files_after (keeps.calls ++ first) old.files ≡ old.files
  no_other old = keeps.files first old.files

-- the state was locked, and not there
asked_still : {state : Bytes} → AreStill (Asked false ∷ Locked state Acquired ∷ [])
asked_still = record {
  files = λ f. refl;
  state = λ s. refl;
  nodes = λ n. refl;
  witness = λ w. refl;
  may_fail = λ a b is. is;
}

-- and had no witness
unwatched_still : {state : Bytes} → AreStill (WitnessRead (Ok None) ∷ Asked false ∷ Locked state Acquired ∷ [])
unwatched_still = record {
  files = λ f. refl;
  state = λ s. refl;
  nodes = λ n. refl;
  witness = λ w. refl;
  may_fail = λ a b is. is;
}

-- from the lock on until it is handed back
module _ (key : KeyOfCode) (state public : Bytes) {earlier last now : WorldCalls} (calls : now ≡ Unlocked ∷ last)
    (old new : Held) (follows : Follows (Some old) earlier (Some new) now) where
  abbrev locked : WorldCalls
  locked = Locked state Acquired ∷ earlier

  published : (before : List ℕ) → PublishesKey key public before locked last
      → MakesKey key old new × PublishesIn key public old new
  published before publishes =
      let writes = publishes.writes in
      let bytes = hss_public_key (hss_key_of key) in
      let all = and_then (and_then (all_calls writes) publishes.prints) calls in
      let is = until_printing (unlocked (told old new all follows)) in
      let files = is.files ∙ ap (λ (files : Answers). (public, Ok bytes) ∷ files) (no_other writes old) in
      (makes writes old new is, written_file public bytes old.files new.files files)

  -- the state's store failed
  missed : (taken : Taking) (left : StoreView) → FailsToWrite (image_of key 0 0 0) taken.view left
      → PutsBack taken left (finding_none locked) last → MayMakeKey key old new
  missed taken left fails back =
      let first =
      PutBack left ∷ Taken (Some taken) ∷ WitnessRead (Ok None) ∷ Asked false ∷ Locked state Acquired ∷ [] in
      let tried : Adds earlier last = record { calls = first; are = back } in
      let is = told old new (and_then tried calls) follows in
      let found = is.tell.0.0.1.0 in
      record {
        free = is.tell.0.0.0.0.0.1;
        none_was = sym is.tell.0.0.0.0.1;
        unwatched = is.tell.0.0.0.1;
        witness = is.witness;
        files = is.files;
        nodes = is.nodes;
        left = left_by (image_of key 0 0 0) taken.view left old.state new.state fails found is.state;
      }

  -- memory was refused, for the state's store or with that as it was
  not_made : (fault : Fault) → fault ≡ OutOfMemory → LogsUnopened fault (finding_none locked) last
      → FailsToMakeKey key public fault old new
  not_made fault at never =
      let is = unopened _ unwatched_still refl calls old new follows fault never in
      inr (inr (inl (inl at, is.0.0.0.1, sym is.0.0.1, is.1.1)))

  unmade : (before printed : List ℕ) (fault : Fault) → LogsUnmade key public before printed fault locked last
      → FailsToMakeKey key public fault old new
  unmade before printed fault (inl (same, inl (at, asked))) =
      let found : Adds earlier last = record { calls = Asked true ∷ Locked state Acquired ∷ []; are = asked } in
      let is = told old new (and_then found calls) follows in
      let stays = same_held old new is.files is.state is.may_fail is.in_use is.nodes is.nodes_fault is.witness in
      inr (inl (at, is.tell.0.0.1, sym is.tell.0.1, stays))
  unmade before printed fault (inl (same, inr (inl witnessed))) =
      let is = there _ asked_still refl calls old new follows fault witnessed in
      inr (inr (inl (is.1, is.0.0.1, sym is.0.1, is.2)))
  unmade before printed fault (inl (same, inr (inr (inl (inl (at, untaken)))))) = not_made fault at (inl (at, untaken))
  unmade before printed fault (inl (same, inr (inr (inl (inr (taken, left, inl (at, kept), back)))))) =
      let stays = subst (λ (v : StoreView). PutsBack taken v (finding_none locked) last) kept back in
      not_made fault at (inr (taken, inl (at, stays)))
  unmade before printed fault (inl (same, inr (inr (inl (inr (taken, left, inr (at, fails), back)))))) =
      inr (inr (inr (inl (at, missed taken left fails back))))
  unmade before printed fault (inl (same, inr (inr (inr (refused, writes))))) =
      let is = unlocked (told old new (and_then (all_calls writes) calls) follows) in
      let why = subst (λ (files : Answers). IsRefused public (write_cause fault) files)
      (no_other writes old) is.tell.1 in
      inr (inr (inr (inr (makes writes old new is, inl (refused, why, is.files ∙ no_other writes old)))))
  unmade before printed fault (inr (at, publishes, line)) =
      let made = published before publishes in inr (inr (inr (inr (made.0, inr (at, made.1)))))

pub makes_key_in_memory : MakesKeyInMemory
makes_key_in_memory key state public before printed old new earlier now (last, publishes, line, calls) follows =
    published key state public calls old new follows before publishes

pub fails_to_make_key_in_memory : FailsToMakeKeyInMemory
fails_to_make_key_in_memory key state public before printed fault old new earlier now
    (inl (at, calls, same)) follows =
    inl (inl at, nothing_done old new calls follows)
fails_to_make_key_in_memory key state public before printed fault old new earlier now
    (inr (inl (refused, calls, same))) follows =
    inl (not_locked fault state earlier now old new refused calls follows)
fails_to_make_key_in_memory key state public before printed fault old new earlier now
    (inr (inr (last, never, calls))) follows =
    unmade key state public calls old new follows before printed fault never
