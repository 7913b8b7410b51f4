-- The calls of a group of lines, without those before them.
use Rattle.std.proofs.Common.{◌≡◌, ◌∙◌, ℕ, zero, suc, List, [], ◌∷◌, ◌++◌, Option, Some, None, Ok, Err, length, ap}
use Rattle.std.proofs.Common.{refl}
use Rattle.std.proofs.Common.{append_assoc, inl, inr, subst, sym}
use Rattle.lms_batch.specs.Jobs.{JobText}
use Rattle.lms_batch.specs.declared.collector.Batch.{Batch}
use Rattle.lms_world.specs.Events.{Printing, PutBack, Taken, WitnessDrafted, WitnessRead}
use Rattle.lms_commands.specs.Logs.{BurnsUnsigned, KeyState, LeavesState, LeavesUnsigned, LogsUnopened, StoresUse}
use Rattle.lms_commands.specs.Logs.{WorldCalls}
use Rattle.lms_commands.specs.Watching.{BurnsWatched, FailsToNote, LeavesWatched, LogsUnwatched, SparesWatched, UsesAll, Watch}
use Rattle.lms_commands.specs.Watching.{notes, watch_calls, watched}
use Rattle.lms_commands.specs.declared.fault.Fault.{Fault}
use Rattle.lms_batch_commands.specs.BatchLogs.{AnswersJobs}
use Rattle.lms_batch_commands.specs.Batches.{IsUnprinted}
use Rattle.lms_batch_commands.specs.Serving.{AnswersGroup, Due, FailsGroup, FindsNoState, IsDue, LeavesGroup}
use Rattle.lms_batch_commands.specs.Serving.{LogsGroup, Only, UsesGroup, having_used}

-- calls that are so many more
abbrev Alone : (WorldCalls → WorldCalls → Type 0) → WorldCalls → WorldCalls → Type 0
Alone Logs old new = (added : WorldCalls) × (new ≡ added ++ old) × Logs [] added

-- calls that are the same after others
abbrev After : (WorldCalls → WorldCalls → Type 0) → WorldCalls → WorldCalls → WorldCalls → Type 0
After Logs old new base = (added : WorldCalls) × (new ≡ added ++ old) × Logs base (added ++ base)

module _ (old new base : WorldCalls) where
  leaves_after : (state : KeyState) → LeavesState state old new → After (LeavesState state) old new base
  leaves_after state (taken, read, reads, calls) =
      (PutBack read ∷ Taken (Some taken) ∷ [], calls, (taken, read, reads, refl))

  uses_after : (n : ℕ) (state : KeyState) → StoresUse n state old new → After (StoresUse n state) old new base
  uses_after n state (taken, read, reads, within, calls) =
      (PutBack _ ∷ Taken (Some taken) ∷ [], calls, (taken, read, reads, within, refl))

  unopened_after : (fault : Fault) → LogsUnopened fault old new → After (LogsUnopened fault) old new base
  unopened_after fault (inl (at, calls)) = (Taken None ∷ [], calls, inl (at, refl))
  unopened_after fault (inr (taken, inl (at, calls))) =
      (PutBack _ ∷ Taken (Some taken) ∷ [], calls, inr (taken, inl (at, refl)))
  unopened_after fault (inr (taken, inr (inl (at, fails, calls)))) =
      (PutBack _ ∷ Taken (Some taken) ∷ [], calls, inr (taken, inr (inl (at, fails, refl))))
  unopened_after fault (inr (taken, inr (inr (bad, text, at, may, is, calls)))) =
      (PutBack _ ∷ Taken (Some taken) ∷ [], calls, inr (taken, inr (inr (bad, text, at, may, is, refl))))

  spares_after : (n : ℕ) (fault : Fault) (state : KeyState) → LeavesUnsigned n fault state old new
      → After (LeavesUnsigned n fault state) old new base
  spares_after n fault state (inl (at, lacks, is)) =
      let one = leaves_after state is in (one.0, one.1, inl (at, lacks, one.2))
  spares_after n fault state (inr (at, is)) = let one = leaves_after state is in (one.0, one.1, inr (at, one.2))

  burns_after : (n : ℕ) (fault : Fault) (state : KeyState) → BurnsUnsigned n fault state old new
      → After (BurnsUnsigned n fault state) old new base
  burns_after n fault state (inl (at, (taken, read, left, reads, within, fails, calls))) =
      (PutBack left ∷ Taken (Some taken) ∷ [], calls, inl (at, (taken, read, left, reads, within, fails, refl)))
  burns_after n fault state (inr (at, is)) = let one = uses_after n state is in (one.0, one.1, inr (at, one.2))

  unsaid_after : (n : ℕ) (watch : Watch) (id : List ℕ) (start : ℕ) (fault : Fault)
      → FailsToNote n watch id start fault old new → After (FailsToNote n watch id start fault) old new base
  unsaid_after zero watch id start fault never = absurd never
  unsaid_after (suc n) None id start fault never = absurd never
  unsaid_after (suc n) (Some text) id start fault (at, inl same) = ([], same, (at, inl refl))
  unsaid_after (suc n) (Some text) id start fault (at, inr (cause, calls)) =
      (notes (suc n) (Some text) id start (Err cause), calls, (at, inr (cause, refl)))

-- calls once a witness was read, alone
once_read : (watch : Watch) (added old : WorldCalls)
    → added ++ (watch_calls watch ++ old) ≡ (added ++ (watch_calls watch ++ [])) ++ old
once_read watch added old =
    sym (append_assoc added (watch_calls watch ++ []) old
    ∙ ap (λ (log : WorldCalls). added ++ log) (append_assoc (watch_calls watch) [] old))

alone_after : (Logs : WorldCalls → WorldCalls → Type 0) (watch : Watch) (old new : WorldCalls)
    → After Logs (watch_calls watch ++ old) new (watch_calls watch ++ [])
    → (added : WorldCalls) × (new ≡ added ++ old) × Logs (watch_calls watch ++ []) added
alone_after Logs watch old new (added, calls, is) =
    (added ++ (watch_calls watch ++ []), calls ∙ once_read watch added old, is)

leaves : (state : KeyState) (old new : WorldCalls) → LeavesWatched state old new → Alone (LeavesWatched state) old new
leaves state old new (by, is) =
    let one = alone_after (LeavesState state) by.watch old new
    (leaves_after (watched by old) new (watched by []) state is) in
    (one.0, one.1, (by, one.2))

-- calls more
more_calls : (added first last old new : WorldCalls) → new ≡ added ++ last → last ≡ first ++ old
    → new ≡ (added ++ first) ++ old
more_calls added first last old new calls before =
    calls ∙ (ap (λ (log : WorldCalls). added ++ log) before ∙ sym (append_assoc added first old))

uses : (n : ℕ) (state : KeyState) (old new : WorldCalls) → UsesAll n state old new → Alone (UsesAll n state) old new
uses zero state old new is = leaves state old new is
uses (suc n) state old new (by, last, is, noted) =
    let one = alone_after (StoresUse (suc n) state) by.watch old last
    (uses_after (watched by old) last (watched by []) (suc n) state is) in
    let noting = notes (suc n) by.watch state.key.i state.index (Ok tt) in
    (noting ++ one.0, more_calls noting one.0 last old new noted one.1, (by, one.0, one.2, refl))

unopened : (fault : Fault) (old new : WorldCalls) → LogsUnwatched fault old new → Alone (LogsUnwatched fault) old new
unopened fault old new (inl (inl (at, calls))) = (WitnessRead _ ∷ [], calls, inl (inl (at, refl)))
unopened fault old new (inl (inr (at, calls))) = (WitnessRead _ ∷ [], calls, inl (inr (at, refl)))
unopened fault old new (inr (inl (text, inl (at, calls)))) =
    (WitnessDrafted _ ∷ WitnessRead _ ∷ [], calls, inr (inl (text, inl (at, refl))))
unopened fault old new (inr (inl (text, inr (at, inl same)))) =
    (WitnessRead _ ∷ [], same, inr (inl (text, inr (at, inl refl))))
unopened fault old new (inr (inl (text, inr (at, inr calls)))) =
    (WitnessDrafted _ ∷ WitnessRead _ ∷ [], calls, inr (inl (text, inr (at, inr refl))))
unopened fault old new (inr (inr (inl (watch, is)))) =
    let one = alone_after (LogsUnopened fault) watch old new
    (unopened_after (watch_calls watch ++ old) new (watch_calls watch ++ []) fault is) in
    (one.0, one.1, inr (inr (inl (watch, one.2))))
unopened fault old new (inr (inr (inr (watch, state, refused, is)))) =
    let one = alone_after (LeavesState state) watch old new
    (leaves_after (watch_calls watch ++ old) new (watch_calls watch ++ []) state is) in
    (one.0, one.1, inr (inr (inr (watch, state, refused, one.2))))

spares : (n : ℕ) (fault : Fault) (state : KeyState) (old new : WorldCalls) → SparesWatched n fault state old new
    → Alone (SparesWatched n fault state) old new
spares n fault state old new (by, is) =
    let one = alone_after (LeavesUnsigned n fault state) by.watch old new
    (spares_after (watched by old) new (watched by []) n fault state is) in
    (one.0, one.1, (by, one.2))

burns : (n : ℕ) (fault : Fault) (state : KeyState) (old new : WorldCalls) → BurnsWatched n fault state old new
    → Alone (BurnsWatched n fault state) old new
burns n fault state old new (by, inl is) =
    let one = alone_after (BurnsUnsigned n fault state) by.watch old new
    (burns_after (watched by old) new (watched by []) n fault state is) in
    (one.0, one.1, (by, inl one.2))
burns n fault state old new (by, inr (last, is, fails)) =
    let one = alone_after (StoresUse n state) by.watch old last
    (uses_after (watched by old) last (watched by []) n state is) in
    let unsaid = unsaid_after last new one.0 n by.watch state.key.i state.index fault fails in
    (unsaid.0 ++ one.0, more_calls unsaid.0 one.0 last old new unsaid.1 one.1, (by, inr (one.0, one.2, unsaid.2)))

answers_jobs : (input rest : Option (List ℕ)) (before : List ℕ) (batch : Batch) (old new : WorldCalls)
    (is : AnswersJobs input rest before batch old new)
    → (added : WorldCalls) × (new ≡ added ++ old)
    × ((alone : AnswersJobs input rest before batch [] added) × (alone.signs.jobs ≡ is.signs.jobs)
    × (alone.signs.state ≡ is.signs.state))
answers_jobs input rest before batch old new is =
    let signs = is.signs in
    let one = uses _ signs.state old is.until_signed signs.uses in (
      Printing before ∷ one.0,
      is.prints ∙ ap (λ (log : WorldCalls). Printing before ∷ log) one.1,
      (
        record {
          until_signed = one.0;
          signs = record {
            state = signs.state;
            jobs = signs.jobs;
            read = signs.read;
            uses = one.2;
            answer = signs.answer;
            next = signs.next;
          };
          prints = refl;
        },
        refl,
        refl,
      ),
    )

module _ (text : List ℕ) (due next : Due) (before printed : List ℕ) where
  answers : (old new : WorldCalls) → AnswersGroup text due next before printed old new
      → Alone (AnswersGroup text due next before printed) old new
  answers old new (rest, count, (batch, is, count_is, asked_is, lines), was, next_is) =
      let one = answers_jobs (Some text) rest before batch old new is in (
        one.0,
        one.1,
        (
          rest,
          count,
          (batch, one.2.0, count_is, asked_is ∙ ap length (sym one.2.1), lines),
          subst (λ (s : KeyState). IsDue due s) (sym one.2.2) was,
          next_is ∙ ap (λ (s : KeyState). Only (having_used count s)) (sym one.2.2),
        ),
      )

  finds_none : (fault : Fault) (old new : WorldCalls) → FindsNoState fault due old new
      → Alone (FindsNoState fault due) old new
  finds_none fault old new (inl (cause, never, at)) =
      let one = unopened cause old new never in (one.0, one.1, inl (cause, one.2, at))
  finds_none fault old new (inr (at, (state, is, other))) =
      let one = leaves state old new is in (one.0, one.1, inr (at, (state, one.2, other)))

  left_group : (fault : Fault) (state : KeyState) (old new : WorldCalls) → LeavesGroup text fault state old new
      → Alone (LeavesGroup text fault state) old new
  left_group fault state old new (inl (unread, is)) =
      let one = leaves state old new is in (one.0, one.1, inl (unread, one.2))
  left_group fault state old new (inr (rest, jobs, reads, some, is)) =
      let one = spares (length jobs) fault state old new is in (one.0, one.1, inr (rest, jobs, reads, some, one.2))

  used_group : (fault : Fault) (state : KeyState) (old new : WorldCalls)
      → UsesGroup text fault state before printed old new
      → Alone (UsesGroup text fault state before printed) old new
  used_group fault state old new (inl (rest, jobs, reads, some, is, same)) =
      let one = burns (length jobs) fault state old new is in
      (one.0, one.1, inl (rest, jobs, reads, some, one.2, same))
  used_group fault state old new (inr (rest, batch, is, of, lines)) =
      let one = answers_jobs (Some text) rest before batch old new is in (
        one.0,
        one.1,
        inr (
          rest,
          batch,
          one.2.0,
          one.2.2 ∙ of,
          subst (λ (jobs : List JobText). IsUnprinted batch (length jobs) (Some before) (Some printed) fault)
              (sym one.2.1) lines,
        ),
      )

  fails : (fault : Fault) (old new : WorldCalls) → FailsGroup text fault due next before printed old new
      → Alone (FailsGroup text fault due next before printed) old new
  fails fault old new (inl (same, inl (never, is))) =
      let one = finds_none fault old new never in (one.0, one.1, inl (same, inl (one.2, is)))
  fails fault old new (inl (same, inr (state, was, left, is))) =
      let one = left_group fault state old new left in (one.0, one.1, inl (same, inr (state, was, one.2, is)))
  fails fault old new (inr ((state, was, used), is)) =
      let one = used_group fault state old new used in (one.0, one.1, inr ((state, was, one.2), is))

pub group_alone : (text : List ℕ) (fault : Option Fault) (due next : Due) (before printed : List ℕ)
    (old new : WorldCalls) → LogsGroup text fault due next before printed old new
    → (added : WorldCalls) × (new ≡ added ++ old) × LogsGroup text fault due next before printed [] added
group_alone text None due next before printed old new is = answers text due next before printed old new is
group_alone text (Some fault) due next before printed old new is = fails text due next before printed fault old new is
