-- What `resume` does with its state, by the calls that it makes.
use Rattle.std.proofs.Common.{◌≡◌, ◌∙◌, ◌+◌, ◌-◌, ◌<◌, ◌≤◌, ℕ, List, [], ◌∷◌, Some, Ok, ap, refl}
use Rattle.std.proofs.Common.{subst, sym, inl, inr, arith}
use Rattle.std.specs.List.{list_any}
use Rattle.lms_spec.specs.Hss.{capacity_of}
use Rattle.lms_hss.specs.Keys.{hss_key_of}
use Rattle.lms_book.specs.Stops.{StoreView, after_write}
use Rattle.lms_world.specs.Events.{Acquired, Locked, Printing, PutBack, Taken, Unlocked, WitnessRead}
use Rattle.lms_world.specs.Names.{Bytes}
use Rattle.lms_commands.specs.Histories.{CountsUp, IsStored, IsTurn, Resumes, StoresNothing, Turn, found_in, hands_out}
use Rattle.lms_commands.specs.Histories.{witness_calls, written_in}
use Rattle.lms_commands.specs.Logs.{StoresSome, image_below}
use Rattle.lms_commands.specs.Logs.{KeyState, WorldCalls, image_using}
use Rattle.lms_commands.specs.Watching.{Says}
use Rattle.lms_commands.specs.declared.fault.Fault.{Fault}
use Rattle.lms_commands.specs.declared.fault.Fault.TheVariants.{ReadState}
use Rattle.lms_commands.proofs.Turns.{Ends, IsQuiet, begun, idle_as, left_so, one_more, one_use, unopened}
use Rattle.lms_commands.proofs.Turns.{whole_text}
use Rattle.lms_key_commands.proofs.ResumePieces.{last_write}
use Rattle.lms_key_commands.proofs.ResumeStops.{stores_some}
use Rattle.lms_key_commands.specs.ResumeLogs.{BurnsBelow, BurnsToPrint, LeavesUnburnt, LogsResume, LogsResumeFailed}
use Rattle.lms_key_commands.specs.ResumeLogs.{ReadsOlder, burnt_line}
use Rattle.lms_key_commands.specs.ResumeTurns.{HandsResumed}

-- so many indices more lead up to an end
abbrev pub count_to : ℕ → KeyState → ℕ
count_to end state = end - state.index

reaches : (end : ℕ) (state : KeyState) → state.index < end → state.index + count_to end state ≡ end
reaches end state more = omega (arith, more)

-- a lock was acquired
module _ (state : Bytes) where
  abbrev locked : WorldCalls
  locked = Locked state Acquired ∷ []

  -- the witness was read, too
  abbrev seen : List ℕ → WorldCalls
  seen text = WitnessRead (Ok (Some text)) ∷ locked

  counts_up : (end : ℕ) (read : KeyState) (new : WorldCalls) → (is : ReadsOlder end read locked new)
      → StoresSome end read is.given is.left → CountsUp (count_to end read) read is.text new
  counts_up end read new is stores = record {
    taken = is.taken;
    given = is.given;
    left = is.left;
    read = is.reads;
    some = omega (arith, is.older.more);
    within = subst (λ (n : ℕ). n ≤ capacity_of (hss_key_of read.key)) (sym (reaches end read is.older.more))
        is.older.within;
    stores = subst (λ (n : ℕ). StoresSome n read is.given is.left) (sym (reaches end read is.older.more)) stores;
    one_use = one_use (seen is.text) refl refl new is.taken is.left is.calls;
    seen = ap found_in is.calls;
    says = subst (λ (n : ℕ). Says is.text read.key.i n) (sym (reaches end read is.older.more)) is.older.says;
    unnoted = ap witness_calls is.calls;
  }

  -- indices were burnt, all or not
  resumes : (end : ℕ) (read : KeyState) (new : WorldCalls) → (is : ReadsOlder end read locked new)
      → StoresSome end read is.given is.left → IsQuiet (Resumes (count_to end read) read is.text) [] new
  resumes end read new is stores = record {
    takes = begun (Resumes (count_to end read) read is.text) [] new (counts_up end read new is stores)
        (ap (list_any hands_out) is.calls) refl;
    unwritten = ap written_in is.calls;
  }

  -- the image that counts as many as the witness was stored for certain
  pub stored : (end : ℕ) (read : KeyState) (new : WorldCalls) → BurnsBelow end read locked new
      → IsStored (image_using (count_to end read) read) new
  stored end read new (is, counts) =
      let last = last_write end read is.given is.left counts is.older.more in
      let image : image_below end read ≡ image_using (count_to end read) read =
      ap (λ (n : ℕ). image_below n read) (sym (reaches end read is.older.more)) in (
        last.0,
        Taken (Some is.taken) ∷ [],
        one_use (seen is.text) refl refl new is.taken is.left is.calls
            ∙ ap (λ (v : StoreView). PutBack v ∷ Taken (Some is.taken) ∷ [])
            (last.1 ∙ ap (λ (text : List ℕ). after_write text last.0) image),
      )

  -- nothing was stored
  unburnt : (end : ℕ) (fault : Fault) (new : WorldCalls) → LeavesUnburnt end fault locked new
      → IsQuiet StoresNothing [] new
  unburnt end fault new (inl (inl (at, calls))) =
      record { takes = idle_as new _ calls refl refl; unwritten = ap written_in calls }
  unburnt end fault new (inl (inr (at, calls))) =
      record { takes = idle_as new _ calls refl refl; unwritten = ap written_in calls }
  unburnt end fault new (inr (inl (at, calls))) =
      record { takes = idle_as new _ calls refl refl; unwritten = ap written_in calls }
  unburnt end fault new (inr (inr (text, inl never))) =
      let is = unopened (seen text) refl refl new fault never in
      record { takes = is.takes; unwritten = is.unwritten }
  unburnt end fault new (inr (inr (text, inr (read, refused, leaves)))) =
      let is = left_so (seen text) refl refl read new leaves in
      record { takes = is.takes; unwritten = is.unwritten }

  -- the lock is handed back
  ends : (turn : Turn) (before printed : List ℕ) (last whole : WorldCalls) → IsQuiet turn [] last
      → whole ≡ Unlocked ∷ last → printed ≡ before → Ends HandsResumed whole before printed
  ends turn before printed last whole is calls same =
      (turn, one_more whole Unlocked refl calls is.takes, (ap written_in calls ∙ is.unwritten, inl same))

  printing : (end : ℕ) (read : KeyState) (before : List ℕ) (last whole : WorldCalls)
      → BurnsToPrint end read before locked last → whole ≡ Unlocked ∷ last
      → (turn : Turn) × IsTurn turn [] whole × (written_in whole ≡ [])
  printing end read before last whole is calls =
      let burns = resumes end read is.until_burnt is.burns.0
      (stores_some end read ReadState is.burns.0.given is.burns.0.left (inl is.burns.1)) in (
        Resumes (count_to end read) read is.burns.0.text,
        one_more whole Unlocked refl calls (one_more last (Printing before) refl is.prints burns.takes),
        ap written_in calls ∙ (ap written_in is.prints ∙ burns.unwritten),
      )

pub resume_turn : (state counter : Bytes) (before printed : List ℕ) (whole : WorldCalls)
    → LogsResume state counter before printed [] whole
    → Ends HandsResumed whole before printed
resume_turn state counter before printed whole (end, number, read, last, is, text, calls) =
    let turn = printing state end read before last whole is calls in
    (turn.0, turn.1, (turn.2, inr (read.index, end, whole_text before printed (burnt_line read.index end) text)))

pub resume_failed_turn : (state counter : Bytes) (before printed : List ℕ) (fault : Fault) (whole : WorldCalls)
    → LogsResumeFailed state counter before printed fault [] whole
    → Ends HandsResumed whole before printed
resume_failed_turn state counter before printed fault whole (inl (at, none, calls, same)) =
    (StoresNothing, idle_as whole _ calls refl refl, (ap written_in calls, inl same))
resume_failed_turn state counter before printed fault whole (inr (end, number, inl (refused, calls, same))) =
    (StoresNothing, idle_as whole _ calls refl refl, (ap written_in calls, inl same))
resume_failed_turn state counter before printed fault whole
    (inr (end, number, inr (last, inl (inl leaves, same), calls))) =
    ends state StoresNothing before printed last whole (unburnt state end fault last leaves) calls same
resume_failed_turn state counter before printed fault whole
    (inr (end, number, inr (last, inl (inr (read, is, part), same), calls))) =
    ends state (Resumes (count_to end read) read is.text) before printed last whole
    (resumes state end read last is (stores_some end read fault is.given is.left (inr part))) calls same
resume_failed_turn state counter before printed fault whole
    (inr (end, number, inr (last, inr (at, (read, is, text)), calls))) =
    let turn = printing state end read before last whole is calls in
    (turn.0, turn.1, (turn.2, inr (read.index, end, text)))
