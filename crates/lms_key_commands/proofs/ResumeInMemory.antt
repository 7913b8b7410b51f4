-- What `resume` leaves in a world in memory, by its calls.
use Rattle.std.proofs.Common.{◌≡◌, ◌∙◌, ◌∷◌, ◌++◌, ◌+◌, [], ℕ, List, Some, None, Ok, Err, false, ap, refl, subst, sym}
use Rattle.std.proofs.Common.{inl, inr, arith}
use Rattle.lms_book.specs.Stops.{StoreView, Texts, only}
use Rattle.lms_blocks.specs.Writing.{AppendsFront}
use Rattle.lms_world.specs.Names.{Bytes}
use Rattle.lms_world.specs.Events.{Acquired, Event, Locked, PutBack, Taken, Unlocked, WitnessRead}
use Rattle.lms_world.specs.Held.{Follows, Held}
use Rattle.lms_world.specs.declared.fault.WorldFault.TheVariants.{Device}
use Rattle.lms_world.specs.declared.fault.WorldFault.TheVariants as world
use Rattle.lms_commands.specs.InMemory.{Stays, WitnessHeld}
use Rattle.lms_commands.specs.Logs.{image_below}
use Rattle.lms_commands.specs.Logs.{KeyState, WorldCalls}
use Rattle.lms_commands.specs.declared.fault.Fault.{Fault}
use Rattle.lms_commands.proofs.AtState.{AreStill, finds, left_by, not_locked, unopened}
use Rattle.lms_commands.proofs.Telling.{Adds, Told, WitnessRefused, and_then, nothing_done, told, unlocked}
use Rattle.lms_commands.proofs.Telling.{told_stays, until_printing, was_state}
use Rattle.lms_key_commands.proofs.ResumePieces.{last_write, more_used}
use Rattle.lms_key_commands.specs.ResumeInMemory.{FailsOnceLocked, FailsToResumeInMemory, FindsOlder, ResumesInMemory}
use Rattle.lms_key_commands.specs.ResumeInMemory.{ResumesInPart, ResumesState, StateCountsTo}
use Rattle.lms_key_commands.specs.ResumeLogs.{BurnsToPrint, CountsInPart, CountsTo, IsNotResumed, LeavesUnburnt}
use Rattle.lms_key_commands.specs.ResumeLogs.{LogsUnresumed, ReadsOlder, burnt_line}

-- the witness was read once the lock was acquired
seen_still : {state : Bytes} (text : List ℕ) → AreStill (WitnessRead (Ok (Some text)) ∷ Locked state Acquired ∷ [])
seen_still text = record {
  files = λ f. refl;
  state = λ s. refl;
  nodes = λ n. refl;
  witness = λ w. refl;
  may_fail = λ a b is. is;
}

-- what keeps the state, and the state
counts_so : (end : ℕ) (state : KeyState) (read left : StoreView) (old new : Texts) → CountsTo end state read left
    → read.now ≡ old → new ≡ left.now → StateCountsTo end state old new
counts_so end state read left old new ([], same, stored) was is =
    inl (sym same, is ∙ (ap (λ (v : StoreView). v.now) stored ∙ was))
counts_so end state read left old new (last ∷ earlier, same, (before, first, less, stored)) was is =
    let more = more_used state earlier read before first in
    inr (
      omega (arith, same, less, more),
      is ∙ (ap (λ (v : StoreView). v.now) stored ∙ ap (λ (n : ℕ). only (image_below n state)) same),
    )

-- a witness was read, and the state's store taken out and put back
module _ (state : Bytes) (end : ℕ) (read : KeyState) {earlier mid : WorldCalls}
    (is : ReadsOlder end read (Locked state Acquired ∷ earlier) mid) (old new : Held) where
  abbrev first : List Event
  first =
      PutBack is.left ∷ Taken (Some is.taken) ∷ WitnessRead (Ok (Some is.text)) ∷ Locked state Acquired ∷ []

  abbrev burning : Adds earlier mid
  burning = record { calls = first; are = is.calls }

  -- what was found, and what keeps the state then
  abbrev found : Told first old new → FindsOlder end old new
  found tells = record {
    state = read;
    was = was_state read is.reads tells.tell.0.1.0;
    text = is.text;
    witness_was = tells.tell.0.0.1;
    older = is.older;
    files = tells.files;
    nodes = tells.nodes;
    in_use = tells.in_use;
    nodes_fault = tells.nodes_fault;
    witness = tells.witness;
  }

  given_is : Told first old new → is.given.now ≡ old.state
  given_is tells = ap (λ (v : StoreView). v.now) is.reads.given ∙ tells.tell.0.1.0

  in_part : (fault : Fault) → CountsInPart end read fault is.given is.left → Told first old new
      → ResumesInPart end fault old new
  in_part fault (at, mid, less, counts, inl (memory, same)) tells = (
    found tells,
    at,
    mid.now,
    less,
    counts_so at read is.given mid old.state mid.now counts (given_is tells) refl,
    inl (memory, tells.state ∙ ap (λ (v : StoreView). v.now) same),
  )
  in_part fault (at, mid, less, counts, inr (len, burnt, some, within, fails)) tells = (
    found tells,
    at,
    mid.now,
    less,
    counts_so at read is.given mid old.state mid.now counts (given_is tells) refl,
    inr (
      len,
      burnt,
      some,
      within,
      left_by (image_below (at + len) read) mid is.left mid.now new.state fails refl tells.state,
    ),
  )

-- from the lock on until it is handed back
module _ (state : Bytes) (end : ℕ) {earlier last now : WorldCalls} (calls : now ≡ Unlocked ∷ last) (old new : Held)
    (follows : Follows (Some old) earlier (Some new) now) where
  abbrev locked : WorldCalls
  locked = Locked state Acquired ∷ earlier

  burnt : (read : KeyState) (before : List ℕ) → (is : BurnsToPrint end read before locked last)
      → (old.in_use ≡ false) × ((resumes : ResumesState end old new) × (resumes.0.state ≡ read))
  burnt read before is =
      let all = and_then (and_then (burning state end read is.burns.0 old new) is.prints) calls in
      let tells = until_printing (unlocked (told old new all follows)) in
      let reads = is.burns.0 in
      let last = last_write end read reads.given reads.left is.burns.1 reads.older.more in (
        tells.tell.0.0.0.1,
        (
          (
            found state end read is.burns.0 old new tells,
            tells.state ∙ ap (λ (v : StoreView). v.now) last.1,
          ),
          refl,
        ),
      )

  abbrev Fails : List ℕ → List ℕ → Fault → Type 0
  Fails before printed fault = (old.in_use ≡ false) × FailsOnceLocked end before printed fault old new

  -- nothing was done but that the witness was read
  unread : (answer : WitnessHeld) → last ≡ WitnessRead answer ∷ locked
      → Told (WitnessRead answer ∷ Locked state Acquired ∷ []) old new
  unread answer are =
      let adds : Adds earlier last = record { calls = WitnessRead answer ∷ Locked state Acquired ∷ []; are = are } in
      unlocked (told old new (and_then adds calls) follows)

  unread_stays : (answer : WitnessHeld) → Told (WitnessRead answer ∷ Locked state Acquired ∷ []) old new
      → Stays old new
  unread_stays answer tells = told_stays tells refl tells.state refl refl

  -- a refused witness is one that is held so
  device : WitnessRefused Device old.witness → old.witness ≡ Err Device
  device (inl is) = is
  device (inr never) = cc never

  left : (before printed : List ℕ) (fault : Fault) → LeavesUnburnt end fault locked last → Fails before printed fault
  left before printed fault (inl (inl (at, are))) =
      let tells = unread (Err Device) are in
      (tells.tell.0.1, inl (inr (at, inl (device tells.tell.1)), unread_stays (Err Device) tells))
  left before printed fault (inl (inr (at, are))) =
      let tells = unread (Err world.OutOfMemory) are in
      (tells.tell.0.1, inl (inl at, unread_stays (Err world.OutOfMemory) tells))
  left before printed fault (inr (inl (at, are))) =
      let tells = unread (Ok None) are in
      (tells.tell.0.1, inl (inr (at, inr tells.tell.1), unread_stays (Ok None) tells))
  left before printed fault (inr (inr (text, inl never))) =
      let is = unopened (WitnessRead (Ok (Some text)) ∷ Locked state Acquired ∷ []) (seen_still text)
      {before = earlier} refl calls old new follows fault never in
      (is.0.0.1, inr (inl (text, is.0.1, inl is.1)))
  left before printed fault (inr (inr (text, inr (read, refused, leaves)))) =
      let is = finds (WitnessRead (Ok (Some text)) ∷ Locked state Acquired ∷ []) (seen_still text)
      {before = earlier} refl calls old new follows read leaves in
      let why = subst (λ (s : KeyState). IsNotResumed end text s fault) (sym is.1.1) refused in
      (is.0.0.1, inr (inl (text, is.0.1, inr (is.1.0, why))))

  fails : (before printed : List ℕ) (fault : Fault) → LogsUnresumed end before printed fault locked last
      → Fails before printed fault
  fails before printed fault (inl (inl leaves, same)) = left before printed fault leaves
  fails before printed fault (inl (inr (read, is, part), same)) =
      let tells = unlocked (told old new (and_then (burning state end read is old new) calls) follows) in
      (tells.tell.0.0.0.1, inr (inr (inl (in_part state end read is old new fault part tells))))
  fails before printed fault (inr (at, (read, is, line))) =
      let done = burnt read before is in
      let front = subst (λ (s : KeyState). AppendsFront (Some before) (Some printed) (burnt_line s.index end))
      (sym done.1.1) line in
      (done.0, inr (inr (inr (at, (done.1.0, front)))))

pub resumes_in_memory : ResumesInMemory
resumes_in_memory state counter before printed old new earlier now (end, number, read, last, is, text, calls) follows =
    let done = burnt state end calls old new follows read before is in
    let line = text ∙ ap (λ (s : KeyState). before ++ burnt_line s.index end) (sym done.1.1) in
    (done.0, (end, number, (done.1.0, line)))

pub fails_to_resume_in_memory : FailsToResumeInMemory
fails_to_resume_in_memory state counter before printed fault old new earlier now
    (inl (at, none, calls, same)) follows =
    inl (at, none, nothing_done old new calls follows)
fails_to_resume_in_memory state counter before printed fault old new earlier now
    (inr (end, number, inl (refused, calls, same))) follows =
    inr (end, number, inl (not_locked fault state earlier now old new refused calls follows))
fails_to_resume_in_memory state counter before printed fault old new earlier now
    (inr (end, number, inr (last, never, calls))) follows =
    inr (end, number, inr (fails state end calls old new follows before printed fault never))
