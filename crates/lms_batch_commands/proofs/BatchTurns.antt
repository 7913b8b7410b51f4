-- What `batch` does with its state, and which signatures leave it, by the calls that it makes.
use Rattle.std.proofs.Common.{◌≡◌, ◌∙◌, ℕ, zero, suc, ◌+◌, ◌≤◌, false, List, [], ◌∷◌, ◌++◌, length, map, Option, Some}
use Rattle.std.proofs.Common.{None}
use Rattle.std.proofs.Common.{ap, refl, subst, sym, inl, inr, arith}
use Rattle.std.specs.Prelude.{Vec}
use Rattle.std.specs.Global.{Global}
use Rattle.std.specs.List.{list_any}
use Rattle.lms_hss.specs.declared.key.HssKey.{HssKey as KeyOfCode}
use Rattle.lms_image.specs.Image.{IsImage}
use Rattle.lms_batch.specs.Batches.{HoldsOnly, batch_of}
use Rattle.lms_batch.specs.Jobs.{JobText}
use Rattle.lms_batch.specs.Answers.{IsAnswerTo, start_of}
use Rattle.lms_batch.specs.declared.collector.Batch.{Batch}
use Rattle.lms_batch.specs.declared.collector.Batch.TheVariants as batches
use Rattle.lms_lines.specs.AnswerLines.{answer_line, answer_text, answers, slots_of}
use Rattle.lms_blocks.specs.Writing.{AppendsFront}
use Rattle.lms_world.specs.Names.{Bytes}
use Rattle.lms_world.specs.Events.{Acquired, Event, Locked, Printing, Unlocked}
use Rattle.lms_batch_commands.specs.BatchLogs.{AnswersJobs, LogsAnswers, LogsJobs, LogsJobsFailed, LogsJobsUnsigned}
use Rattle.lms_batch_commands.specs.BatchLogs.{LogsNoBatch, LogsUnanswered, LogsUnprinted}
use Rattle.lms_commands.specs.Histories.{AreInOrder, ArePrinted, IsTurn}
use Rattle.lms_commands.specs.Histories.{StoresNothing, Signature, Turn, Uses, found_in, hands_out, signature_lines}
use Rattle.lms_commands.specs.Histories.{written_in}
use Rattle.lms_commands.specs.Watching.{UsesAll, Watch}
use Rattle.lms_commands.specs.Logs.{KeyState, WorldCalls}
use Rattle.lms_commands.specs.declared.fault.Fault.{Fault}
use Rattle.lms_commands.proofs.Turns.{Quietly, idle_as, is_kept, kept_calls, left_watched, no_text, one_more}
use Rattle.lms_commands.proofs.Turns.{unsigned, unwatched, used, whole_text}

-- a turn uses so many indices of a state that it reads; of none, it stores nothing
abbrev pub IsUseOf : ℕ → KeyState → Turn → Type 0
IsUseOf zero state turn = turn ≡ StoresNothing
IsUseOf (suc n) state turn =
    (text : List ℕ) × (watch : Watch) × IsImage text state.key state.index state.openings state.burnt
    × (turn ≡ Uses (suc n) state text watch)

-- the signatures in slots, at one index after another
abbrev pub filled : KeyOfCode → ℕ → List (Option (List ℕ)) → List Signature
filled key index [] = []
filled key index (None ∷ slots) = filled key (index + 1) slots
filled key index (Some bytes ∷ slots) =
    record { key = key; index = index; bytes = bytes } ∷ filled key (index + 1) slots

answer_lines : (key : KeyOfCode) (index : ℕ) (slots : List (Option (List ℕ)))
    → answers index slots ≡ signature_lines (filled key index slots)
answer_lines key index [] = refl
answer_lines key index (None ∷ slots) = answer_lines key (index + 1) slots
answer_lines key index (Some bytes ∷ slots) =
    ap (λ (text : List ℕ). answer_line index bytes ++ text) (answer_lines key (index + 1) slots)

pub batch_lines : (key : KeyOfCode) (batch : Batch)
    → answer_text batch ≡ signature_lines (filled key (start_of batch) (slots_of batch))
batch_lines key batch = answer_lines key (start_of batch) (slots_of batch)

in_slots : (key : KeyOfCode) (start : ℕ) (jobs : List JobText) (slots : List (Option (List ℕ)))
    → HoldsOnly (batch_of key start jobs) slots
    → (least end : ℕ) → least ≤ start → end ≡ start + length jobs → AreInOrder key least end (filled key start slots)
in_slots key start [] [] holds least end from to = tt
in_slots key start [] (slot ∷ slots) holds least end from to = absurd holds
in_slots key start (job ∷ jobs) [] holds least end from to = absurd holds
in_slots key start (job ∷ jobs) (None ∷ slots) holds least end from to =
    in_slots key (start + 1) jobs slots holds least end (omega (arith, from)) (omega (arith, to))
in_slots key start (job ∷ jobs) (Some bytes ∷ slots) (is, holds) least end from to = (
  (job.c, job.message, inl is),
  refl,
  from,
  omega (arith, to),
  in_slots key (start + 1) jobs slots holds (start + 1) end (omega arith) (omega (arith, to)),
)

holds_all : (xs : List (List ℕ)) → HoldsOnly xs (map Some xs)
holds_all [] = tt
holds_all (x ∷ xs) = (refl, holds_all xs)

some_items : (vs : List (Vec ℕ Global)) → map (λ v. Some v.items) vs ≡ map Some (map (λ v. v.items) vs)
some_items [] = refl
some_items (v ∷ vs) = ap (λ (slots : List (Option (List ℕ))). Some v.items ∷ slots) (some_items vs)

holds_batch : (key : KeyOfCode) (jobs : List JobText) (batch : Batch) → IsAnswerTo key (start_of batch) jobs batch
    → HoldsOnly (batch_of key (start_of batch) jobs) (slots_of batch)
holds_batch key jobs (batches.Complete start signatures) (slots, (at, are, all, accepted)) =
    subst (λ (list : List (Option (List ℕ))). HoldsOnly (batch_of key start jobs) list)
    (sym (some_items signatures.items ∙ ap (map Some) are)) (holds_all (batch_of key start jobs))
holds_batch key jobs (batches.Partial start vs) (slots, (at, are, holds, empty, accepted)) =
    subst (λ (list : List (Option (List ℕ))). HoldsOnly (batch_of key start jobs) list) (sym are) holds

-- the signatures that leave are those of which lines are printed
abbrev pub PrintsAll : List ℕ → List ℕ → WorldCalls → Type 0
PrintsAll before printed whole = (turn : Turn) × (signatures : List Signature) × IsTurn turn signatures whole
    × ArePrinted signatures whole before printed

-- a call more, which writes no file
pub prints_more : (before printed : List ℕ) (log new : WorldCalls) (event : Event) → is_kept event ≡ false
    → written_in (event ∷ log) ≡ written_in log → new ≡ event ∷ log
    → PrintsAll before printed log → PrintsAll before printed new
prints_more before printed log new event other silent calls (turn, signatures, is, (no_file, lines)) =
    (turn, signatures, one_more new event other calls is, (ap written_in calls ∙ (silent ∙ no_file), lines))

module _ (old : WorldCalls) (quiet : list_any hands_out old ≡ false) (none : kept_calls old ≡ [])
    (unseen : found_in old ≡ []) (no_file : written_in old ≡ []) (input rest : Option (List ℕ))
    (before printed : List ℕ) where
  quietly_all : (new : WorldCalls) → Quietly old new → printed ≡ before → PrintsAll before printed new
  quietly_all new (turn, is) same = (turn, [], is.takes, (is.unwritten ∙ no_file, no_text before printed [] same))

  signed_all : (batch : Batch) (state : KeyState) (jobs : List JobText) (new : WorldCalls)
      → IsAnswerTo state.key (start_of batch) jobs batch
      → (1 ≤ length jobs → start_of batch ≡ state.index) → UsesAll (length jobs) state old new
      → (turn : Turn) × IsTurn turn (filled state.key (start_of batch) (slots_of batch)) new × (written_in new ≡ [])
      × IsUseOf (length jobs) state turn
  signed_all batch state [] new answer next uses =
      let is = left_watched old quiet none unseen state new uses in (
        StoresNothing,
        subst (λ (ones : List Signature). IsTurn StoresNothing ones new)
            (sym (nothing_in _ (holds_batch state.key [] batch answer))) is.takes,
        is.unwritten ∙ no_file,
        refl,
      )
    where
      nothing_in : (slots : List (Option (List ℕ))) → HoldsOnly [] slots → filled state.key (start_of batch) slots ≡ []
      nothing_in [] holds = refl
      nothing_in (slot ∷ slots) holds = absurd holds
  signed_all batch state (job ∷ jobs) new answer next uses =
      let at = next (omega arith) in
      let are = in_slots state.key (start_of batch) (job ∷ jobs) (slots_of batch)
      (holds_batch state.key (job ∷ jobs) batch answer) state.index
      (state.index + length (job ∷ jobs)) (omega (arith, at)) (omega (arith, at)) in
      let turn = used old quiet none unseen (length (job ∷ jobs)) state new uses (omega arith) _ are in (
        Uses (length (job ∷ jobs)) state uses.2.2.text uses.0.watch,
        turn.0,
        turn.1 ∙ no_file,
        (uses.2.2.text, uses.0.watch, uses.2.2.image, refl),
      )

  -- what is signed as a batch is a turn, once its lines begin to be printed
  pub record BatchTurn (n : ℕ) (state : KeyState) (batch : Batch) (new : WorldCalls) : Type 0 where
    pub turn : Turn
    pub takes : IsTurn turn (filled state.key (start_of batch) (slots_of batch)) new
    pub unwritten : written_in new ≡ []
    pub uses : IsUseOf n state turn

  pub batch_turn : (batch : Batch) (new : WorldCalls) (answers : AnswersJobs input rest before batch old new)
      → BatchTurn (length answers.signs.jobs) answers.signs.state batch new
  batch_turn batch new answers =
      let signs = answers.signs in
      let is = signed_all batch signs.state signs.jobs answers.until_signed signs.answer signs.next signs.uses in
      record {
        turn = is.0;
        takes = one_more new (Printing before) refl answers.prints is.1;
        unwritten = ap written_in answers.prints ∙ is.2;
        uses = is.3;
      }

  answered : (batch : Batch) (new : WorldCalls) → AnswersJobs input rest before batch old new
      → AppendsFront (Some before) (Some printed) (answer_text batch)
      → PrintsAll before printed new
  answered batch new answers lines =
      let is = batch_turn batch new answers in (
        is.turn,
        _,
        is.takes,
        (
          is.unwritten,
          subst (λ (text : List ℕ). AppendsFront (Some before) (Some printed) text)
              (batch_lines answers.signs.state.key batch) lines,
        ),
      )

  pub all_answered : (count asked : ℕ) (new : WorldCalls) → LogsAnswers input rest before printed count asked old new
      → PrintsAll before printed new
  all_answered count asked new (batch, answers, count_is, asked_is, text) =
      answered batch new answers (whole_text before printed (answer_text batch) text)

  unprinted : (new : WorldCalls) (fault : Fault) → LogsUnprinted input rest before printed fault old new
      → PrintsAll before printed new
  unprinted new fault (inl (count, asked, at, differ, is)) = all_answered count asked new is
  unprinted new fault (inr (at, is)) = answered is.0 new is.1 is.2

  jobs_unsigned : (state : KeyState) (new : WorldCalls) (fault : Fault)
      → LogsJobsUnsigned input rest fault state old new → Quietly old new
  jobs_unsigned state new fault (inl (unread, is)) = (StoresNothing, left_watched old quiet none unseen state new is)
  jobs_unsigned state new fault (inr (jobs, read, some, is)) =
      unsigned old quiet none unseen (length jobs) state new some fault is

  no_batch : (new : WorldCalls) (fault : Fault) → LogsNoBatch input rest fault old new → Quietly old new
  no_batch new fault (inl never) = (StoresNothing, unwatched old quiet none unseen new fault never.0)
  no_batch new fault (inr (state, never)) = jobs_unsigned state new fault never

  pub unanswered : (new : WorldCalls) (fault : Fault) → LogsUnanswered input rest before printed fault old new
      → PrintsAll before printed new
  unanswered new fault (inl (never, same)) = quietly_all new (no_batch new fault never) same
  unanswered new fault (inr never) = unprinted new fault never

pub jobs_turn : (state workers : Bytes) (input rest : Option (List ℕ)) (before printed : List ℕ) (whole : WorldCalls)
    → LogsJobs state workers input rest before printed [] whole
    → PrintsAll before printed whole
jobs_turn state workers input rest before printed whole (last, count, is, calls, are) =
    prints_more before printed last whole Unlocked refl refl calls
    (all_answered (Locked state Acquired ∷ []) refl refl refl refl input rest before printed count count last is)

pub jobs_failed_turn : (state workers : Bytes) (input rest : Option (List ℕ)) (before printed : List ℕ) (fault : Fault)
    (whole : WorldCalls)
    → LogsJobsFailed state workers input rest before printed fault [] whole → PrintsAll before printed whole
jobs_failed_turn state workers input rest before printed fault whole (inl (bad, calls, same, are, unread)) =
    (StoresNothing, [], idle_as whole [] calls refl refl, (ap written_in calls, no_text before printed [] same))
jobs_failed_turn state workers input rest before printed fault whole (inr (inl (refused, calls, same, are, unread))) =
    (StoresNothing, [], idle_as whole _ calls refl refl, (ap written_in calls, no_text before printed [] same))
jobs_failed_turn state workers input rest before printed fault whole (inr (inr (last, never, calls, are))) =
    prints_more before printed last whole Unlocked refl refl calls
    (unanswered (Locked state Acquired ∷ []) refl refl refl refl input rest before printed last fault never)
