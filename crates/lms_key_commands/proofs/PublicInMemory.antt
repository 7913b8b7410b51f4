-- What `public` leaves in a world in memory, by its calls.
use Rattle.std.proofs.Common.{◌≡◌, ◌∙◌, ◌∷◌, ◌++◌, [], ℕ, List, Some, Ok, Err, false, ap, refl, subst, sym, inl, inr}
use Rattle.lms_spec.specs.Profile.{hss_public_key}
use Rattle.lms_hss.specs.Keys.{hss_key_of}
use Rattle.lms_book.specs.Stops.{StoreView}
use Rattle.lms_blocks.specs.Writing.{AppendsFront}
use Rattle.lms_world.specs.Names.{Bytes}
use Rattle.lms_world.specs.declared.fault.WorldFault.{WorldFault}
use Rattle.lms_world.specs.Events.{Acquired, Event, Locked, Printing, PutBack, Taken, Written}
use Rattle.lms_world.specs.Held.{Follows, Held}
use Rattle.lms_commands.specs.InMemory.{FindsState}
use Rattle.lms_key_commands.specs.KeygenLogs.{capacity_line}
use Rattle.lms_commands.specs.Logs.{KeyState, WorldCalls, write_cause}
use Rattle.lms_key_commands.specs.PublicInMemory.{FailsToPublishKeyInMemory, PublishesKeyIn, PublishesKeyInMemory}
use Rattle.lms_key_commands.specs.PublicLogs.{ReadsKey}
use Rattle.lms_commands.proofs.AtState.{locked_still, not_locked, unopened}
use Rattle.lms_commands.proofs.Telling.{Adds, Told, and_then, left_out, told, told_stays, was_state, written_file}

-- a file was not written
unwritten : {calls : List Event} {old new : Held} {name : Bytes} {bytes : List ℕ} {cause : WorldFault}
    → Told (Written name bytes (Err cause) ∷ calls) old new → Told calls old new
unwritten {calls} {old} {new} {name} {bytes} {cause} is =
    left_out (Written name bytes (Err cause)) refl refl refl refl (λ fails. fails) is

-- a state was read under its lock
module _ {state : Bytes} {read : KeyState} {earlier last : WorldCalls} (is : ReadsKey state read earlier last) where
  abbrev left : StoreView
  left = is.reads.1

  abbrev first : List Event
  first = PutBack left ∷ Taken (Some is.reads.0) ∷ Locked state Acquired ∷ []

  abbrev all_calls : Adds earlier last
  all_calls = and_then (record { calls = first; are = is.reads.3 }) is.unlocks

  -- it is there still
  same_state : (old new : Held) → is.reads.0.view.now ≡ old.state → new.state ≡ left.now → new.state ≡ old.state
  same_state old new found stays = stays ∙ (ap (λ (v : StoreView). v.now) is.reads.2.given ∙ found)

  finds : (old new : Held) → Told all_calls.calls old new → (old.in_use ≡ false) × FindsState old new
  finds old new all =
      let found = all.tell.0.0.1.0 in (
        all.tell.0.0.0.1,
        record {
          state = read;
          was = was_state read is.reads.2 found;
          stays = told_stays all refl (same_state old new found all.state) refl refl;
        },
      )

  -- and its key's public key was written
  published : (public : Bytes) (before : List ℕ) (old new : Held) {now : WorldCalls}
      → now ≡ Printing before ∷ Written public (hss_public_key (hss_key_of read.key)) (Ok tt) ∷ last
      → Follows (Some old) earlier (Some new) now
      → (old.in_use ≡ false) × ((publishes : PublishesKeyIn public old new) × (publishes.state ≡ read))
  published public before old new calls follows =
      let text = hss_public_key (hss_key_of read.key) in
      let written = and_then {now = Written public text (Ok tt) ∷ last} all_calls refl in
      let all = told old new (and_then written calls) follows in
      let found = all.tell.0.0.0.0.1.0 in
      let publishes : PublishesKeyIn public old new = record {
        state = read;
        was = was_state read is.reads.2 found;
        file = written_file public text old.files new.files all.files;
        state_stays = same_state old new found all.state;
        nodes = all.nodes;
        in_use = all.in_use;
        witness = all.witness;
      } in
      (all.tell.0.0.0.0.0.1, (publishes, refl))

pub publishes_key_in_memory : PublishesKeyInMemory
publishes_key_in_memory state public before printed old new earlier now (read, last, is, (calls, line)) follows =
    let done = published is public before old new calls follows in
    (done.0, (done.1.0, line ∙ ap (λ (s : KeyState). before ++ capacity_line s.key) (sym done.1.1)))

pub fails_to_publish_key_in_memory : FailsToPublishKeyInMemory
fails_to_publish_key_in_memory state public before printed fault old new earlier now
    (inl (inl (refused, calls), same)) follows =
    inl (not_locked fault state earlier now old new refused calls follows)
fails_to_publish_key_in_memory state public before printed fault old new earlier now
    (inl (inr (last, never, calls), same)) follows =
    let is = unopened (Locked state Acquired ∷ []) locked_still {before = earlier} refl calls old new follows
    fault never in
    inr (is.0.1, inl is.1)
fails_to_publish_key_in_memory state public before printed fault old new earlier now
    (inr (read, last, is, inl (at, none, same))) follows =
    let added : Adds earlier now = record { calls = (all_calls is).calls; are = none ∙ (all_calls is).are } in
    let found = finds is old new (told old new added follows) in
    inr (found.0, inr (inl (inr at, inr (ap write_cause at), found.1)))
fails_to_publish_key_in_memory state public before printed fault old new earlier now
    (inr (read, last, is, inr (inl (refused, calls, same)))) follows =
    let all = told old new (and_then (all_calls is) calls) follows in
    let found = finds is old new (unwritten all) in
    inr (found.0, inr (inl (refused, all.tell.1, found.1)))
fails_to_publish_key_in_memory state public before printed fault old new earlier now
    (inr (read, last, is, inr (inr (at, calls, line)))) follows =
    let done = published is public before old new calls follows in
    let front =
    subst (λ (s : KeyState). AppendsFront (Some before) (Some printed) (capacity_line s.key)) (sym done.1.1) line in
    inr (done.0, inr (inr (at, (done.1.0, front))))
