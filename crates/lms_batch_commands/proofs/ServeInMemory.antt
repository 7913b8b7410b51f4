-- What `serve` leaves in a world in memory, by its calls.
use Rattle.std.proofs.Common.{◌≡◌, ◌∙◌, ◌∷◌, [], ◌++◌, ℕ, List, Option, Some, None, ap, ap₂, refl, subst, subst₂, sym}
use Rattle.std.proofs.Common.{append_assoc, inl, inr, length, map}
use Rattle.std.specs.Prelude.{false}
use Rattle.std.proofs.lemmas.List.{append_cancel_right}
use Rattle.lms_batch.specs.declared.collector.Batch.{Batch}
use Rattle.lms_world.specs.Events.{Acquired, Locked, Unlocked}
use Rattle.lms_world.specs.Held.{Follows, Held, Replays}
use Rattle.lms_world.specs.Names.{Bytes}
use Rattle.lms_commands.specs.InMemory.{FailsToWatch, FindsState, IsWatched, SignsNone}
use Rattle.lms_commands.specs.Logs.{KeyState, WorldCalls}
use Rattle.lms_commands.specs.Watching.{LeavesWatched, LogsUnwatched, UnsignedWatched}
use Rattle.lms_commands.specs.declared.fault.Fault.{Fault}
use Rattle.lms_commands.proofs.AtState.{AreStill, finds_watched, not_locked, unsigned_watched, unwatched}
use Rattle.lms_commands.proofs.Telling.{Adds, nothing_done, told}
use Rattle.lms_batch_commands.specs.BatchInMemory.{SignsJobs}
use Rattle.lms_batch_commands.specs.BatchLogs.{AnswersJobs}
use Rattle.lms_batch_commands.specs.ServeInMemory.{FailsToServeInMemory, GroupInMemory, GroupsInMemory}
use Rattle.lms_batch_commands.specs.ServeInMemory.{ServesInMemory, TriesInMemory}
use Rattle.lms_batch_commands.specs.Serving.{AnyState, Due, FailsGroup, Group, IsDue, LogsGroup, LogsGroups, Only}
use Rattle.lms_batch_commands.specs.Serving.{answered, having_used}
use Rattle.lms_batch_commands.proofs.BatchInMemory.{in_part, signed_so}
use Rattle.lms_batch_commands.proofs.ServingCalls.{Keeps, fails_to_serve, group_keeps, groups_keep, keeps_none}

-- ---- a part of the calls

split : (added later : WorldCalls) (old new : Held) → Replays old (later ++ added) new
    → (mid : Held) × Replays old added mid × Replays mid later new
split added [] old new is = (new, is, refl)
split added (event ∷ later) old new (last, is, acts) =
    let parts = split added later old last is in (parts.0, parts.1, (last, parts.2, acts))

-- calls, and then others
followed : {base mid log : WorldCalls} (old new : Held) (first : Keeps base mid) (later : Keeps mid log)
    → Follows (Some old) base (Some new) log
    → (held : Held) × Replays old first.added held × Replays held later.added new
followed {base} {mid} {log} old new first later follows =
    let are : log ≡ (later.added ++ first.added) ++ base =
    later.are ∙ ap (λ (calls : WorldCalls). later.added ++ calls) first.are
    ∙ sym (append_assoc later.added first.added base) in
    let same = append_cancel_right follows.calls.0 (later.added ++ first.added) base (sym follows.calls.1 ∙ are) in
    split first.added later.added old new (subst (λ (calls : WorldCalls). Replays old calls new) same follows.calls.2)

follows_of : {base log : WorldCalls} (old new : Held) (keeps : Keeps base log) → Replays old keeps.added new
    → Follows (Some old) base (Some new) log
follows_of old new keeps is = record { calls = (keeps.added, keeps.are, is) }

-- one call more, which changes nothing
then_unlocked : {base log : WorldCalls} (old new : Held) → Follows (Some old) base (Some new) log
    → Follows (Some old) base (Some new) (Unlocked ∷ log)
then_unlocked old new follows =
    record {
      calls = (
        Unlocked ∷ follows.calls.0,
        ap (λ (calls : WorldCalls). Unlocked ∷ calls) follows.calls.1,
        (new, follows.calls.2, refl),
      );
    }

none_still : AreStill []
none_still = record {
  files = λ f. refl;
  state = λ s. refl;
  nodes = λ n. refl;
  witness = λ w. refl;
  may_fail = λ a b is. is;
}

-- ---- one group

module _ (text : List ℕ) {earlier now : WorldCalls} (old new : Held) (free : old.in_use ≡ false)
    (follows : Follows (Some old) earlier (Some new) now) where
  group_signed : (rest : Option (List ℕ)) (before : List ℕ) (batch : Batch)
      → (answers : AnswersJobs (Some text) rest before batch earlier now)
      → (signs : SignsJobs (Some text) rest batch old new) × (signs.state ≡ answers.signs.state)
      × (length signs.jobs ≡ length answers.signs.jobs)
  group_signed rest before batch answers = signed_so [] none_still (Some text) rest {earlier = earlier} refl old new
      (λ _. free) (then_unlocked old new follows) before batch answers

  found_so : (state : KeyState) → LeavesWatched state earlier now
      → (found : FindsState old new) × (found.state ≡ state) × IsWatched found.state old.witness
  found_so state leaves =
      (finds_watched [] none_still {before = earlier} refl refl old new (then_unlocked old new follows) state leaves).1

  unsigned_so : (n : ℕ) (state : KeyState) (fault : Fault) → UnsignedWatched n fault state earlier now
      → SignsNone n fault old new
  unsigned_so n state fault is =
      (unsigned_watched [] none_still {before = earlier} refl refl old new
      (then_unlocked old new follows) n state fault is).1.1

  unopened_so : (cause : Fault) → LogsUnwatched cause earlier now → FailsToWatch cause old new
  unopened_so cause is =
      (unwatched [] none_still {before = earlier} refl refl old new (then_unlocked old new follows) cause is).1

  fails_so : (fault : Fault) (due next : Due) (before printed : List ℕ)
      → FailsGroup text fault due next before printed earlier now
      → GroupInMemory text (Some fault) due next before printed old new
  fails_so fault due next before printed (inl (same, inl (inl (cause, never, at), is))) =
      inl (same, inl (cause, unopened_so cause never, at))
  fails_so fault due next before printed (inl (same, inl (inr (at, (state, left, other)), is))) =
      let found = found_so state left in
      inl (
        same,
        inr (inl (at, (found.0, found.2, λ due_is. other (subst (λ (s : KeyState). IsDue due s) found.1 due_is)))),
      )
  fails_so fault due next before printed (inl (same, inr (state, of, inl (unread, left), is))) =
      let found = found_so state left in
      inl (same, inr (inr (inl (unread, (found.0, found.2, subst (λ (s : KeyState). IsDue due s) (sym found.1) of)))))
  fails_so fault due next before printed (inl (same, inr (state, of, inr (rest, jobs, reads, some, left), is))) =
      inl (same, inr (inr (inr (rest, jobs, reads, unsigned_so (length jobs) state fault (inl left)))))
  fails_so fault due next before printed (inr ((state, of, inl (rest, jobs, reads, some, burns, same)), is)) =
      inl (same, inr (inr (inr (rest, jobs, reads, unsigned_so (length jobs) state fault (inr burns)))))
  fails_so fault due next before printed (inr ((state, of, inr (rest, batch, answers, so, lines)), is)) =
      inr (
        rest,
        in_part [] none_still (Some text) rest {earlier = earlier} refl old new (λ _. free)
            (then_unlocked old new follows) before printed fault batch answers lines,
      )

  group_so : (fault : Option Fault) (due next : Due) (before printed : List ℕ)
      → LogsGroup text fault due next before printed earlier now
      → GroupInMemory text fault due next before printed old new
  group_so None due next before printed (rest, count, (batch, answers, signed, asked, lines), of, is) =
      let signs = group_signed rest before batch answers in (
        rest,
        batch,
        signs.0,
        sym signed ∙ (asked ∙ sym signs.2),
        lines,
        subst (λ (s : KeyState). IsDue due s) (sym signs.1) of,
        is ∙ ap₂ (λ (n : ℕ) (s : KeyState). Only (having_used n s)) (asked ∙ sym signs.2) (sym signs.1),
      )
  group_so (Some fault) due next before printed is = fails_so fault due next before printed is

-- ---- all groups

groups_so : (groups : List Group) (due next : Due) (before printed : List ℕ) {base log : WorldCalls} (old new : Held)
    → old.in_use ≡ false → Follows (Some old) base (Some new) log
    → LogsGroups groups due next before printed base log → GroupsInMemory groups due next before printed old new
groups_so [] due next before printed old new free follows (same, none, is) =
    (same, nothing_done old new none follows, is)
groups_so (group ∷ earlier) due next before printed {base} {log} old new free follows
    (between, mid, later, logs, one) =
    let first = groups_keep (keeps_none base) earlier due later before between logs in
    let last = group_keeps (keeps_none mid) group.text group.fault later next between printed one in
    let parts = followed old new first last follows in
    let begun = follows_of old parts.0 first parts.1 in
    let adds : Adds base mid = record { calls = first.added; are = first.are } in (
      between,
      parts.0,
      later,
      groups_so earlier due later before between old parts.0 free begun logs,
      group_so group.text parts.0 new ((told old parts.0 adds begun).in_use ∙ free)
          (follows_of parts.0 new last parts.2) group.fault later next between printed one,
    )

-- from the lock on until it is handed back
under_lock : (state : Bytes) {earlier last now : WorldCalls} (old new : Held)
    (inner : Keeps (Locked state Acquired ∷ earlier) last) → now ≡ Unlocked ∷ last
    → Follows (Some old) earlier (Some new) now → (old.in_use ≡ false) × Replays old inner.added new
under_lock state {earlier} {last} {now} old new inner calls follows =
    let lock : Keeps earlier (Locked state Acquired ∷ earlier) = record {
      added = Locked state Acquired ∷ [];
      are = refl;
      files = λ f. refl;
      nodes = λ n. refl;
      unwritten = refl;
    } in
    let end : Keeps (Locked state Acquired ∷ earlier) now = record {
      added = Unlocked ∷ inner.added;
      are = calls ∙ ap (λ (log : WorldCalls). Unlocked ∷ log) inner.are;
      files = inner.files;
      nodes = inner.nodes;
      unwritten = inner.unwritten;
    } in
    let parts = followed old new lock end follows in (
      ap (λ (h : Held). h.in_use) (sym parts.1.1) ∙ parts.1.2.1,
      subst₂ (λ (a b : Held). Replays a inner.added b) (parts.1.2.0 ∙ parts.1.1) (sym parts.2.2) parts.2.1,
    )

pub tries_in_memory : TriesInMemory
tries_in_memory state groups next before printed old new earlier last now logs calls follows =
    let inner = groups_keep (keeps_none (Locked state Acquired ∷ earlier)) groups AnyState next before printed logs in
    let is = under_lock state old new inner calls follows in
    (is.0, groups_so groups AnyState next before printed old new is.0 (follows_of old new inner is.1) logs)

pub serves_in_memory : ServesInMemory
serves_in_memory state workers input rest before printed old new earlier now (last, is, calls, are) follows =
    let held = tries_in_memory state (map answered (is.last ∷ is.earlier)) is.next before printed old new earlier last
    now is.logs calls follows in
    (held.0, (is.last ∷ is.earlier, is.next, is.consumed, held.1))

pub fails_to_serve_in_memory : FailsToServeInMemory
fails_to_serve_in_memory state workers input rest before printed fault old new earlier now
    (inl (at, none, same, are, unread)) follows = inl (at, are, nothing_done old new none follows)
fails_to_serve_in_memory state workers input rest before printed fault old new earlier now
    (inr (inl (refused, calls, same, are, unread))) follows =
    inr (are, inl (not_locked fault state earlier now old new refused calls follows))
fails_to_serve_in_memory state workers input rest before printed fault old new earlier now
    (inr (inr (last, is, calls, are))) follows =
    let inner = fails_to_serve (keeps_none (Locked state Acquired ∷ earlier)) input rest fault before printed is in
    inr (are, inr ((under_lock state old new inner calls follows).0, (last, is, calls)))
