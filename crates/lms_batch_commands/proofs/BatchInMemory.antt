-- What `batch` leaves in a world in memory, by its calls.
use Rattle.std.proofs.Common.{◌≡◌, ◌∙◌, ◌∷◌, [], ◌++◌, ℕ, List, Option, Some, ap, ap₂, append_assoc, refl, subst₂, sym}
use Rattle.std.proofs.Common.{inl, inr}
use Rattle.std.specs.Prelude.{◌≢◌, ◌⊎◌, false, length}
use Rattle.lms_book.specs.Stops.{Texts}
use Rattle.lms_batch.specs.Jobs.{JobText}
use Rattle.lms_batch.specs.declared.collector.Batch.{Batch}
use Rattle.lms_lines.specs.JobsTexts.{ReadsJobs}
use Rattle.lms_lines.specs.SignedLines.{signatures_in}
use Rattle.lms_world.specs.Names.{Bytes}
use Rattle.lms_world.specs.Events.{Acquired, Event, Locked, Unlocked}
use Rattle.lms_world.specs.Held.{Follows, Held}
use Rattle.lms_batch_commands.specs.BatchLogs.{AnswersJobs, AreUnread, LogsNoBatch, LogsUnprinted}
use Rattle.lms_batch_commands.specs.BatchInMemory.{FailsToSignJobsInMemory, SignsJobs}
use Rattle.lms_batch_commands.specs.BatchInMemory.{SignsInPart, SignsJobsInMemory}
use Rattle.lms_batch_commands.specs.Batches.{IsUnprinted}
use Rattle.lms_commands.specs.InMemory.{CountsUses, FailsToWatch, FindsState, IsWatched, SignsNone, noted}
use Rattle.lms_commands.specs.Logs.{WorldCalls}
use Rattle.lms_commands.specs.declared.fault.Fault.{Fault}
use Rattle.lms_commands.specs.declared.fault.Fault.TheVariants.{Partial}
use Rattle.lms_commands.proofs.AtState.{AreStill, finds_watched, locked_still, not_locked, unsigned_watched, unwatched}
use Rattle.lms_commands.proofs.Telling.{Adds, AllTell, and_then, nothing_done, told, was_state}
use Rattle.lms_commands.proofs.Using.{uses_so}

-- after calls that change nothing, and before the lock is handed back
module _ (first : List Event) (still : AreStill first) (input rest : Option (List ℕ)) {earlier last now : WorldCalls}
    (calls : now ≡ Unlocked ∷ last) (old new : Held) (free : AllTell first old → old.in_use ≡ false)
    (follows : Follows (Some old) earlier (Some new) now) where
  -- the jobs of an input are signed, and their lines begin to be printed
  pub signed_so : (before : List ℕ) (batch : Batch)
      → (answers : AnswersJobs input rest before batch (first ++ earlier) last)
      → (signs : SignsJobs input rest batch old new) × (signs.state ≡ answers.signs.state)
      × (length signs.jobs ≡ length answers.signs.jobs)
  signed_so before batch answers =
      let signs = answers.signs in
      let n = length signs.jobs in
      let uses = uses_so n signs.state signs.uses in
      let used : Adds earlier answers.until_signed = record {
        calls = uses.calls ++ first;
        are = uses.are ∙ sym (append_assoc uses.calls first earlier);
      } in
      let is = told old new (and_then (and_then used answers.prints) calls) follows in
      let tell = uses.tell first old is.tell.0.0 in
      let found = tell.1 ∙ still.state old.state in
      let seen = still.witness old.witness in
      let made : SignsJobs input rest batch old new = record {
        free = free tell.0;
        state = signs.state;
        was = was_state signs.state uses.reads found;
        jobs = signs.jobs;
        read = signs.read;
        answer = signs.answer;
        next = signs.next;
        within = uses.within;
        files = is.files ∙ (uses.files first old.files ∙ still.files old.files);
        nodes = is.nodes ∙ (uses.nodes first old.nodes ∙ still.nodes old.nodes);
        counted = subst₂ (λ (a b : Texts). CountsUses n signs.state a b) found
            (sym (is.state ∙ uses.state_is first old.state)) uses.counted;
        watched = (uses.watch, sym seen ∙ tell.2, uses.admitted);
        witness = is.witness ∙ (uses.witness first old.witness tell.2 ∙ ap (noted n signs.state) seen);
      } in
      (made, refl, refl)

  -- and not all of them are printed
  pub in_part : (before printed : List ℕ) (fault : Fault) (batch : Batch)
      → (answers : AnswersJobs input rest before batch (first ++ earlier) last)
      → IsUnprinted batch (length answers.signs.jobs) (Some before) (Some printed) fault
      → SignsInPart input rest before printed fault old new
  in_part before printed fault batch answers (inl (at, differ, lines)) =
      let is = signed_so before batch answers in
      (batch, (is.0, inl (at ∙ ap (Partial (signatures_in batch)) (sym is.2), λ same. differ (same ∙ is.2), lines)))
  in_part before printed fault batch answers (inr (at, front)) =
      let is = signed_so before batch answers in (batch, (is.0, inr (at, front)))

-- the answers of a batch, which are not all printed
unprinted : (input rest : Option (List ℕ)) (before printed : List ℕ) (fault : Fault) {old new : WorldCalls}
    → LogsUnprinted input rest before printed fault old new
    → (batch : Batch) × (answers : AnswersJobs input rest before batch old new)
    × IsUnprinted batch (length answers.signs.jobs) (Some before) (Some printed) fault
unprinted input rest before printed fault
    (inl (count, asked, at, not_all, (batch, answers, signed_are, asked_are, lines))) =
    let some = subst₂ (λ (n m : ℕ). n ≢ m) signed_are asked_are not_all in
    (batch, answers, inl (at ∙ ap₂ (λ (n m : ℕ). Partial n m) signed_are asked_are, some, lines))
unprinted input rest before printed fault (inr (at, (batch, answers, lines))) = (batch, answers, inr (at, lines))

-- from the lock on until it is handed back
module _ (state : Bytes) (input rest : Option (List ℕ)) {earlier last now : WorldCalls} (calls : now ≡ Unlocked ∷ last)
    (old new : Held) (follows : Follows (Some old) earlier (Some new) now) where
  abbrev lock : List Event
  lock = Locked state Acquired ∷ []

  abbrev locked : WorldCalls
  locked = Locked state Acquired ∷ earlier

  no_batch : (before printed : List ℕ) (fault : Fault) → LogsNoBatch input rest fault locked last
      → (old.in_use ≡ false) × ((FailsToWatch fault old new × (rest ≡ input))
      ⊎ ((AreUnread input fault × ((found : FindsState old new) × IsWatched found.state old.witness))
      ⊎ (((jobs : List JobText) × ReadsJobs input rest jobs × SignsNone (length jobs) fault old new)
      ⊎ SignsInPart input rest before printed fault old new)))
  no_batch before printed fault (inl (never, unread)) =
      let is = unwatched lock locked_still {before = earlier} refl calls old new follows
      fault never in
      (is.0.1, inl (is.1, unread))
  no_batch before printed fault (inr (found, inl (unread, leaves))) =
      let is = finds_watched lock locked_still {before = earlier} refl calls old new follows
      found leaves in
      (is.0.1, inr (inl (unread, (is.1.0, is.1.2))))
  no_batch before printed fault (inr (found, inr (jobs, reads, some, never))) =
      let is = unsigned_watched lock locked_still {before = earlier} refl calls old new follows
      (length jobs) found fault never in
      (is.0.1, inr (inr (inl (jobs, reads, is.1.1))))

pub signs_jobs_in_memory : SignsJobsInMemory
signs_jobs_in_memory state workers input rest before printed old new earlier now
    (last, count, (batch, answers, signed, asked, lines), calls, are_workers) follows =
    let is = signed_so (Locked state Acquired ∷ []) locked_still input rest {earlier = earlier} calls old new
    (λ tell. tell.1) follows before batch answers in
    (batch, (is.0, sym signed ∙ (asked ∙ sym is.2), lines))

pub fails_to_sign_jobs_in_memory : FailsToSignJobsInMemory
fails_to_sign_jobs_in_memory state workers input rest before printed fault old new earlier now
    (inl (bad, calls, same, are_none, unread)) follows = inl (bad, are_none, nothing_done old new calls follows)
fails_to_sign_jobs_in_memory state workers input rest before printed fault old new earlier now
    (inr (inl (refused, calls, same, are_workers, unread))) follows =
    inr (are_workers, inl (not_locked fault state earlier now old new refused calls follows))
fails_to_sign_jobs_in_memory state workers input rest before printed fault old new earlier now
    (inr (inr (last, inl (never, same), calls, are_workers))) follows =
    inr (are_workers, inr (no_batch state input rest calls old new follows before printed fault never))
fails_to_sign_jobs_in_memory state workers input rest before printed fault old new earlier now
    (inr (inr (last, inr never, calls, are_workers))) follows =
    let made = unprinted input rest before printed fault never in
    let is = in_part (Locked state Acquired ∷ []) locked_still input rest {earlier = earlier} calls old new
    (λ tell. tell.1) follows before printed fault made.0 made.1 made.2 in
    inr (are_workers, inr (is.1.0.free, inr (inr (inr is))))
