-- The calls of `serve` are those of turns, one after another, each of which reads what was stored last.
use Rattle.std.proofs.Common.{◌≡◌, ◌≢◌, ◌⊎◌, ◌∙◌, ◌+◌, ◌≤◌, ℕ, zero, suc, List, [], ◌∷◌, ◌++◌, map, Option, Some}
use Rattle.std.proofs.Common.{None, ap}
use Rattle.std.proofs.Common.{refl, sym, subst, inl, inr, length, append-nil, append_assoc, arith}
use Rattle.lms_image.specs.Image.{IsImage, image_of}
use Rattle.lms_batch.specs.Answers.{start_of}
use Rattle.lms_batch.specs.declared.collector.Batch.{Batch}
use Rattle.lms_lines.specs.AnswerLines.{answer_line, answer_text, slots_of}
use Rattle.lms_lines.specs.TextLines.{lines_of}
use Rattle.lms_world.specs.Names.{Bytes}
use Rattle.lms_world.specs.Events.{Acquired, Locked, Unlocked}
use Rattle.lms_commands.specs.Histories.{AreLinked, AreWholeTurns, Continues, IsTurn, Prints, Signature, StoresNothing}
use Rattle.lms_commands.specs.Histories.{TakenTurn, Turn, Uses, signature_lines, stored_last, turn_signatures}
use Rattle.lms_commands.specs.Histories.{whole_calls, written_in}
use Rattle.lms_commands.specs.Logs.{KeyState, WorldCalls}
use Rattle.lms_commands.specs.Watching.{BurnsWatched, Watch}
use Rattle.lms_commands.specs.declared.fault.Fault.{Fault}
use Rattle.lms_commands.specs.declared.fault.Fault.TheVariants.{BadJob, WriteOutput}
use Rattle.lms_commands.proofs.Turns.{IsQuiet, burnt, idle_as, left_watched, no_text, one_more, spared, unwatched}
use Rattle.lms_commands.proofs.Turns.{whole_text}
use Rattle.lms_batch_commands.specs.BatchLogs.{AnswersJobs}
use Rattle.lms_batch_commands.specs.Serving.{AnswersGroup, AnyState, Due, FailsGroup, FailsToServe, FindsNoState}
use Rattle.lms_batch_commands.specs.Serving.{Group, IsDue}
use Rattle.lms_batch_commands.specs.Serving.{LeavesGroup, LogsGroup, LogsGroups, NoState, Only, StopsServing}
use Rattle.lms_batch_commands.specs.Serving.{SparesGroup}
use Rattle.lms_batch_commands.specs.Serving.{TriesLines, TriesPiece, UsesGroup, answered, having_used, tried}
use Rattle.lms_batch_commands.specs.Serving.{whole_text as text_of_pieces}
use Rattle.lms_batch_commands.specs.ServingTurns.{FailsInTurns, PrintsInTurns, ServesInTurns}
use Rattle.lms_batch_commands.proofs.Serving.{both_groups, one_group}
use Rattle.lms_batch_commands.proofs.ServingAlone.{group_alone}
use Rattle.lms_batch_commands.proofs.ServingCalls.{serve_failed_keeps, serve_keeps, writes_none}
use Rattle.lms_batch_commands.proofs.BatchTurns.{BatchTurn, IsUseOf, batch_lines, batch_turn, filled}

-- ---- what is read

-- the image that was stored last, if any was, is that of the state that is due
abbrev Agrees : Option (List ℕ) → Due → Type 0
Agrees None due = Unit {0}
Agrees (Some image) AnyState = ⊥
Agrees (Some image) (Only state) =
    (image ≡ image_of state.key state.index state.openings state.burnt) × (1 ≤ state.openings)
Agrees (Some image) NoState = Unit {0}

-- an image of a state with an opening has one spelling
one_spelling : (text image : List ℕ) (state : KeyState) → IsImage text state.key state.index state.openings state.burnt
    → image ≡ image_of state.key state.index state.openings state.burnt → 1 ≤ state.openings → text ≡ image
one_spelling text image state (inl second) is opened = second ∙ sym is
one_spelling text image state (inr (first, none, lost)) is opened = absurd (omega (arith, none, opened))

reads_last : (n : ℕ) (state : KeyState) (text : List ℕ) (watch : Watch) (last : Option (List ℕ)) (due : Due)
    → IsImage text state.key state.index state.openings state.burnt → IsDue due state → Agrees last due
    → Continues (Uses n state text watch) last
reads_last n state text watch None due is was agrees = tt
reads_last n state text watch (Some image) AnyState is was agrees = absurd agrees
reads_last n state text watch (Some image) (Only other) is was agrees =
    one_spelling text image state is
    (subst (λ (s : KeyState). image ≡ image_of s.key s.index s.openings s.burnt) (sym was) agrees.0)
    (subst (λ (s : KeyState). 1 ≤ s.openings) (sym was) agrees.1)
reads_last n state text watch (Some image) NoState is was agrees = absurd was

-- a turn that uses so many indices of a state that is due reads what was stored last
continues : (n : ℕ) (state : KeyState) (turn : Turn) (last : Option (List ℕ)) (due : Due) → IsUseOf n state turn
    → IsDue due state → Agrees last due → Continues turn last
continues zero state turn last due is was agrees =
    subst (λ (t : Turn). Continues t last) (sym is) tt
continues (suc n) state turn last due (text, watch, image, is) was agrees =
    subst (λ (t : Turn). Continues t last) (sym is) (reads_last (suc n) state text watch last due image was agrees)

-- a state that is due, and is read, is due still
still_due : (last : Option (List ℕ)) (due : Due) (state : KeyState) → IsDue due state → Agrees last due
    → Agrees last (Only state)
still_due None due state was agrees = tt
still_due (Some image) AnyState state was agrees = absurd agrees
still_due (Some image) (Only other) state was agrees = (
  subst (λ (s : KeyState). image ≡ image_of s.key s.index s.openings s.burnt) (sym was) agrees.0,
  subst (λ (s : KeyState). 1 ≤ s.openings) (sym was) agrees.1,
)
still_due (Some image) NoState state was agrees = absurd was

-- and then what it stored is due
agrees_then : (n : ℕ) (state : KeyState) (turn : Turn) (last : Option (List ℕ)) (due : Due) → IsUseOf n state turn
    → IsDue due state → Agrees last due → Agrees (stored_last turn last) (Only (having_used n state))
agrees_then zero state turn last due is was agrees =
    subst (λ (t : Turn). Agrees (stored_last t last) (Only state)) (sym is) (still_due last due state was agrees)
agrees_then (suc n) state turn last due (text, watch, image, is) was agrees =
    let some : 1 ≤ state.openings + 1 = omega arith in
    subst (λ (t : Turn). Agrees (stored_last t last) (Only (having_used (suc n) state))) (sym is) (refl, some)

-- nothing is due any more
agrees_none : (last : Option (List ℕ)) → Agrees last NoState
agrees_none None = tt
agrees_none (Some image) = tt

-- ---- turns one after another

signature_lines-append : (some more : List Signature)
    → signature_lines (some ++ more) ≡ signature_lines some ++ signature_lines more
signature_lines-append [] more = refl
signature_lines-append (one ∷ some) more =
    ap (λ (t : List ℕ). answer_line one.index one.bytes ++ t) (signature_lines-append some more)
    ∙ sym (append_assoc (answer_line one.index one.bytes) (signature_lines some) (signature_lines more))

-- what was stored last after turns
abbrev last_of : Option (List ℕ) → List TakenTurn → Option (List ℕ)
last_of last [] = last
last_of last (run ∷ later) = last_of (stored_last run.turn last) later

calls-append : (turns more : List TakenTurn) → whole_calls (turns ++ more) ≡ whole_calls more ++ whole_calls turns
calls-append [] more = sym (append-nil (whole_calls more))
calls-append (run ∷ turns) more =
    ap (λ (log : WorldCalls). log ++ run.whole) (calls-append turns more)
    ∙ append_assoc (whole_calls more) (whole_calls turns) run.whole

signatures-append : (turns more : List TakenTurn)
    → turn_signatures (turns ++ more) ≡ turn_signatures turns ++ turn_signatures more
signatures-append [] more = refl
signatures-append (run ∷ turns) more =
    ap (λ (ones : List Signature). run.signatures ++ ones) (signatures-append turns more)
    ∙ sym (append_assoc run.signatures (turn_signatures turns) (turn_signatures more))

whole_both : (turns more : List TakenTurn) → AreWholeTurns turns → AreWholeTurns more → AreWholeTurns (turns ++ more)
whole_both [] more first later_due = later_due
whole_both (run ∷ turns) more (here, first) later_due = (here, whole_both turns more first later_due)

linked_both : (last : Option (List ℕ)) (turns more : List TakenTurn) → AreLinked last turns
    → AreLinked (last_of last turns) more → AreLinked last (turns ++ more)
linked_both last [] more first later_due = later_due
linked_both last (run ∷ turns) more (due, here, first) later_due =
    (due, here, linked_both (stored_last run.turn last) turns more first later_due)

last-append : (last : Option (List ℕ)) (turns more : List TakenTurn)
    → last_of last (turns ++ more) ≡ last_of (last_of last turns) more
last-append last [] more = refl
last-append last (run ∷ turns) more = last-append (stored_last run.turn last) turns more

-- turns so far, of whose signatures all lines are printed
record SoFar (last : Option (List ℕ)) (before printed : List ℕ) (calls : WorldCalls) : Type 0 where
  turns : List TakenTurn
  whole : whole_calls turns ≡ calls
  are : AreWholeTurns turns
  linked : AreLinked None turns
  ends : last_of None turns ≡ last
  lines : printed ≡ before ++ signature_lines (turn_signatures turns)

-- a turn that goes on from what was stored last
record NextTurn (last : Option (List ℕ)) (calls : WorldCalls) : Type 0 where
  turn : Turn
  signatures : List Signature
  takes : IsTurn turn signatures calls
  goes_on : Continues turn last

abbrev taken_turn : {last : Option (List ℕ)} {calls : WorldCalls} → NextTurn last calls → TakenTurn
taken_turn {last} {calls} next =
    record { turn = next.turn; due = last; signatures = next.signatures; whole = calls; begun = calls }

-- a turn more
module _ {last : Option (List ℕ)} {before between : List ℕ} {calls more : WorldCalls}
    (was : SoFar last before between calls) (next : NextTurn last more) where
  abbrev one : List TakenTurn
  one = taken_turn next ∷ []

  more_calls : whole_calls (was.turns ++ one) ≡ more ++ calls
  more_calls = calls-append was.turns one ∙ ap (λ (log : WorldCalls). more ++ log) was.whole

  more_linked : AreLinked None (was.turns ++ one)
  more_linked =
      linked_both None was.turns one was.linked
      (subst (λ (d : Option (List ℕ)). AreLinked d one) (sym was.ends) (refl, next.goes_on, tt))

  more_signatures : turn_signatures (was.turns ++ one) ≡ turn_signatures was.turns ++ next.signatures
  more_signatures =
      signatures-append was.turns one
      ∙ ap (λ (ones : List Signature). turn_signatures was.turns ++ ones) (append-nil next.signatures)

  more_lines : signature_lines (turn_signatures (was.turns ++ one))
      ≡ signature_lines (turn_signatures was.turns) ++ signature_lines next.signatures
  more_lines = ap signature_lines more_signatures ∙ signature_lines-append (turn_signatures was.turns) next.signatures

  one_turn_more : (printed : List ℕ) → printed ≡ between ++ signature_lines next.signatures
      → SoFar (stored_last next.turn last) before printed (more ++ calls)
  one_turn_more printed lines = record {
    turns = was.turns ++ one;
    whole = more_calls;
    are = whole_both was.turns one was.are (next.takes, tt);
    linked = more_linked;
    ends = last-append None was.turns one ∙ ap (λ (d : Option (List ℕ)). stored_last next.turn d) was.ends;
    lines = lines
        ∙ ap (λ (t : List ℕ). t ++ signature_lines next.signatures) was.lines
        ∙ append_assoc before (signature_lines (turn_signatures was.turns)) (signature_lines next.signatures)
        ∙ ap (λ (t : List ℕ). before ++ t) (sym more_lines);
  }

  -- it is the last, and its lines may be printed in part
  last_turn : (printed : List ℕ) (whole : WorldCalls) → written_in whole ≡ [] → more ++ calls ≡ whole
      → Prints between printed (signature_lines next.signatures) → PrintsInTurns before printed whole
  last_turn printed whole no_file calls_are prints =
      let first = signature_lines (turn_signatures was.turns) in (
        was.turns ++ one,
        more_calls ∙ calls_are,
        whole_both was.turns one was.are (next.takes, tt),
        more_linked,
        (
          no_file,
          record {
            front = first ++ prints.front;
            rest = prints.rest;
            whole = more_lines ∙ ap (λ (t : List ℕ). first ++ t) prints.whole
                ∙ sym (append_assoc first prints.front prints.rest);
            appended = prints.appended ∙ ap (λ (t : List ℕ). t ++ prints.front) was.lines
                ∙ append_assoc before first prints.front;
          },
        ),
      )

-- ---- a group as a turn

-- its turn, of whose signatures all lines are printed, and what is due then
record GroupTurn (last : Option (List ℕ)) (next : Due) (before printed : List ℕ) (calls : WorldCalls) : Type 0 where
  takes : NextTurn last calls
  later_due : Agrees (stored_last takes.turn last) next
  lines : printed ≡ before ++ signature_lines takes.signatures

-- the same, of whose signatures lines may be printed in part
record GroupEnd (last : Option (List ℕ)) (before printed : List ℕ) (calls : WorldCalls) : Type 0 where
  takes : NextTurn last calls
  prints : Prints before printed (signature_lines takes.signatures)

group_end : {last : Option (List ℕ)} {next : Due} {before printed : List ℕ} {calls : WorldCalls}
    → GroupTurn last next before printed calls → GroupEnd last before printed calls
group_end {last} {next} {before} {printed} {calls} is = record {
  takes = is.takes;
  prints = whole_text before printed (signature_lines is.takes.signatures) is.lines;
}

module _ (last : Option (List ℕ)) (due : Due) (agrees : Agrees last due) (before printed : List ℕ)
    (calls : WorldCalls) where
  nothing_printed : printed ≡ before → printed ≡ before ++ []
  nothing_printed same = same ∙ sym (append-nil before)

  -- nothing is stored
  idle_group : (next : Due) → IsQuiet StoresNothing [] calls → Agrees last next → printed ≡ before
      → GroupTurn last next before printed calls
  idle_group next is later_due same = record {
    takes = record { turn = StoresNothing; signatures = []; takes = is.takes; goes_on = tt };
    later_due = later_due;
    lines = nothing_printed same;
  }

  -- indices are used, and nothing is signed
  burnt_group : (n : ℕ) (fault : Fault) (state : KeyState) → 1 ≤ n → IsDue due state
      → BurnsWatched n fault state [] calls → printed ≡ before → GroupTurn last NoState before printed calls
  burnt_group n fault state some was burns same =
      let is = burnt [] refl refl refl n state calls some fault burns in record {
        takes = record {
          turn = Uses n state is.text is.watch;
          signatures = [];
          takes = is.turn.takes;
          goes_on = reads_last n state is.text is.watch last due is.image was agrees;
        };
        later_due = tt;
        lines = nothing_printed same;
      }

  module _ (text : List ℕ) (rest : Option (List ℕ)) (batch : Batch)
      (answers : AnswersJobs (Some text) rest before batch [] calls) (was : IsDue due answers.signs.state) where
    abbrev state : KeyState
    state = answers.signs.state

    abbrev count : ℕ
    count = length answers.signs.jobs

    abbrev made : BatchTurn [] refl refl refl refl (Some text) rest before printed count state batch calls
    made = batch_turn [] refl refl refl refl (Some text) rest before printed batch calls answers

    abbrev batch_next : NextTurn last calls
    batch_next = record {
      turn = made.turn;
      signatures = filled state.key (start_of batch) (slots_of batch);
      takes = made.takes;
      goes_on = continues count state made.turn last due made.uses was agrees;
    }

    -- their lines are printed
    batch_group : (next : Due) → Agrees (stored_last made.turn last) next → printed ≡ before ++ answer_text batch
        → GroupTurn last next before printed calls
    batch_group next later_due lines = record {
      takes = batch_next;
      later_due = later_due;
      lines = lines ∙ ap (λ (t : List ℕ). before ++ t) (batch_lines state.key batch);
    }

    batch_then : Agrees (stored_last made.turn last) (Only (having_used count state))
    batch_then = agrees_then count state made.turn last due made.uses was agrees

  left_group : (text : List ℕ) (fault : Fault) (state : KeyState) → LeavesGroup text fault state [] calls
      → IsQuiet StoresNothing [] calls
  left_group text fault state (inl (unread, leaves)) = left_watched [] refl refl refl state calls leaves
  left_group text fault state (inr (rest, jobs, reads, some, leaves)) =
      spared [] refl refl refl (length jobs) state calls fault leaves

  answered_group : (text : List ℕ) (next : Due) → AnswersGroup text due next before printed [] calls
      → GroupTurn last next before printed calls
  answered_group text next (rest, count, (batch, answers, count_is, asked_is, lines), was, next_is) =
      let state = answers.signs.state in
      let later_due = subst (λ (n : ℕ). Agrees (stored_last (made text rest batch answers was).turn last)
      (Only (having_used n state))) (sym asked_is) (batch_then text rest batch answers was) in
      batch_group text rest batch answers was next
      (subst (λ (d : Due). Agrees (stored_last (made text rest batch answers was).turn last) d) (sym next_is) later_due)
      lines

  idle_failed : (text : List ℕ) (fault : Fault) (next : Due) → FindsNoState fault due [] calls → printed ≡ before
      → next ≡ due → GroupTurn last next before printed calls
  idle_failed text fault next (inl (cause, never, at)) same is =
      idle_group next (unwatched [] refl refl refl calls cause never)
      (subst (λ (d : Due). Agrees last d) (sym is) agrees) same
  idle_failed text fault next (inr (at, (state, leaves, other))) same is =
      idle_group next (left_watched [] refl refl refl state calls leaves)
      (subst (λ (d : Due). Agrees last d) (sym is) agrees) same

  left_failed : (text : List ℕ) (fault : Fault) (next : Due) (state : KeyState) → IsDue due state
      → LeavesGroup text fault state [] calls → printed ≡ before → next ≡ Only state
      → GroupTurn last next before printed calls
  left_failed text fault next state was leaves same is =
      idle_group next (left_group text fault state leaves)
      (subst (λ (d : Due). Agrees last d) (sym is) (still_due last due state was agrees)) same

  spared_group : (text : List ℕ) (fault : Fault) (next : Due)
      → SparesGroup text fault due next before printed [] calls → GroupTurn last next before printed calls
  spared_group text fault next (same, inl (never, is)) = idle_failed text fault next never same is
  spared_group text fault next (same, inr (state, was, leaves, is)) =
      left_failed text fault next state was leaves same is

  -- the state that was due is that of the batch
  due_batch : {text : List ℕ} {rest : Option (List ℕ)} {batch : Batch} {state : KeyState}
      (answers : AnswersJobs (Some text) rest before batch [] calls) → answers.signs.state ≡ state → IsDue due state
      → IsDue due answers.signs.state
  due_batch answers is was = subst (λ (s : KeyState). IsDue due s) (sym is) was

  used_end : (text : List ℕ) (fault : Fault) (state : KeyState) → IsDue due state
      → UsesGroup text fault state before printed [] calls → GroupEnd last before printed calls
  used_end text fault state was (inl (rest, jobs, reads, some, burns, same)) =
      group_end (burnt_group (length jobs) fault state some was burns same)
  used_end text fault state was (inr (rest, batch, answers, is, inl (at, differ, lines))) =
      group_end (batch_group text rest batch answers (due_batch answers is was) NoState (agrees_none _) lines)
  used_end text fault state was (inr (rest, batch, answers, is, inr (at, front))) = record {
    takes = batch_next text rest batch answers (due_batch answers is was);
    prints = subst (λ (t : List ℕ). Prints before printed t) (batch_lines answers.signs.state.key batch) front;
  }

  used_whole : (text : List ℕ) (fault : Fault) (next : Due) (state : KeyState) → fault ≢ WriteOutput → IsDue due state
      → UsesGroup text fault state before printed [] calls → next ≡ NoState
      → GroupTurn last next before printed calls
  used_whole text fault next state other was (inl (rest, jobs, reads, some, burns, same)) is =
      subst (λ (d : Due). GroupTurn last d before printed calls) (sym is)
      (burnt_group (length jobs) fault state some was burns same)
  used_whole text fault next state other was (inr (rest, batch, answers, of, inl (at, differ, lines))) is =
      subst (λ (d : Due). GroupTurn last d before printed calls) (sym is)
      (batch_group text rest batch answers (due_batch answers of was) NoState (agrees_none _) lines)
  used_whole text fault next state other was (inr (rest, batch, answers, of, inr (at, front))) is = absurd (other at)

  failed_whole : (text : List ℕ) (fault : Fault) (next : Due) → fault ≢ WriteOutput
      → FailsGroup text fault due next before printed [] calls → GroupTurn last next before printed calls
  failed_whole text fault next other (inl spares) = spared_group text fault next spares
  failed_whole text fault next other (inr ((state, was, uses), is)) =
      used_whole text fault next state other was uses is

  failed_end : (text : List ℕ) (fault : Fault) (next : Due) → FailsGroup text fault due next before printed [] calls
      → GroupEnd last before printed calls
  failed_end text fault next (inl spares) = group_end (spared_group text fault next spares)
  failed_end text fault next (inr ((state, was, uses), is)) = used_end text fault state was uses

  group_whole : (text : List ℕ) (fault : Option Fault) (next : Due) → fault ≢ Some WriteOutput
      → LogsGroup text fault due next before printed [] calls → GroupTurn last next before printed calls
  group_whole text None next other is = answered_group text next is
  group_whole text (Some fault) next other is =
      failed_whole text fault next (λ at. other (ap (λ (f : Fault). Some f) at)) is

  group_ends : (text : List ℕ) (fault : Option Fault) (next : Due)
      → LogsGroup text fault due next before printed [] calls → GroupEnd last before printed calls
  group_ends text None next is = group_end (answered_group text next is)
  group_ends text (Some fault) next is = failed_end text fault next is

-- ---- all groups

-- groups of which no lines are printed in part
abbrev AllWhole : List Group → Type 0
AllWhole [] = Unit {0}
AllWhole (group ∷ earlier) = (group.fault ≢ Some WriteOutput) × AllWhole earlier

both_whole : (later earlier : List Group) → AllWhole later → AllWhole earlier → AllWhole (later ++ earlier)
both_whole [] earlier one other = other
both_whole (group ∷ later) earlier (here, one) other = (here, both_whole later earlier one other)

all_answered_whole : (texts : List (List ℕ)) → AllWhole (map answered texts)
all_answered_whole [] = tt
all_answered_whole (text ∷ texts) = ((λ is. cc is), all_answered_whole texts)

-- turns so far, and what is due
record UpTo (due : Due) (before printed : List ℕ) (calls : WorldCalls) : Type 0 where
  last : Option (List ℕ)
  so_far : SoFar last before printed calls
  agrees : Agrees last due

groups_up_to : (groups : List Group) (due : Due) (before printed : List ℕ) (old mid : WorldCalls)
    → AllWhole groups → UpTo AnyState before before old → LogsGroups groups AnyState due before printed old mid
    → UpTo due before printed mid
groups_up_to [] due before printed old mid all first (same, none, is) =
    subst (λ (log : WorldCalls). UpTo due before printed log) (sym none)
    (subst (λ (text : List ℕ). UpTo due before text old) (sym same)
    (subst (λ (d : Due). UpTo d before before old) (sym is) first))
groups_up_to (group ∷ earlier) due before printed old mid (here, all) first (text, log, later_due, more, one) =
    let was = groups_up_to earlier later_due before text old log all first more in
    let alone = group_alone group.text group.fault later_due due text printed log mid one in
    let turn = group_whole was.last later_due was.agrees text printed alone.0 group.text group.fault due here alone.2 in
    subst (λ (l : WorldCalls). UpTo due before printed l) (sym alone.1)
    (record {
      last = stored_last turn.takes.turn was.last;
      so_far = one_turn_more was.so_far turn.takes printed turn.lines;
      agrees = turn.later_due;
    })

-- the lock is taken first
locked_first : (state : Bytes) (before : List ℕ) → UpTo AnyState before before (Locked state Acquired ∷ [])
locked_first state before =
    let lock : WorldCalls = Locked state Acquired ∷ [] in record {
      last = None;
      so_far = record {
        turns = record { turn = StoresNothing; due = None; signatures = []; whole = lock; begun = lock } ∷ [];
        whole = refl;
        are = (idle_as lock lock refl refl refl, tt);
        linked = (refl, tt, tt);
        ends = refl;
        lines = sym (append-nil before);
      };
      agrees = tt;
    }

-- and handed back last
all_in_turns : (groups : List Group) (due : Due) (state : Bytes) (before printed : List ℕ) (last whole : WorldCalls)
    → AllWhole groups → LogsGroups groups AnyState due before printed (Locked state Acquired ∷ []) last
    → whole ≡ Unlocked ∷ last → written_in whole ≡ [] → PrintsInTurns before printed whole
all_in_turns groups due state before printed last whole all logs calls no_file =
    let was = groups_up_to groups due before printed _ last all (locked_first state before) logs in
    last_turn was.so_far
    (record {
      turn = StoresNothing;
      signatures = [];
      takes = idle_as (Unlocked ∷ []) (Unlocked ∷ []) refl refl refl;
      goes_on = tt;
    })
    printed whole no_file (sym calls) (no_text printed printed [] refl)

-- the newest may be printed in part
one_in_turns : (head : Group) (tail : List Group) (due : Due) (state : Bytes) (before printed : List ℕ)
    (last whole : WorldCalls) → AllWhole tail
    → LogsGroups (head ∷ tail) AnyState due before printed (Locked state Acquired ∷ []) last
    → whole ≡ Unlocked ∷ last → written_in whole ≡ [] → PrintsInTurns before printed whole
one_in_turns head tail due state before printed last whole all (text, log, later_due, more, one) calls no_file =
    let was = groups_up_to tail later_due before text _ log all (locked_first state before) more in
    let alone = group_alone head.text head.fault later_due due text printed log last one in
    let end = group_ends was.last later_due was.agrees text printed alone.0 head.text head.fault due alone.2 in
    last_turn was.so_far
    (record {
      turn = end.takes.turn;
      signatures = end.takes.signatures;
      takes = one_more (Unlocked ∷ alone.0) Unlocked refl refl end.takes.takes;
      goes_on = end.takes.goes_on;
    })
    printed whole no_file
    (sym (calls ∙ ap (λ (l : WorldCalls). Unlocked ∷ l) alone.1)) end.prints

pub serves_in_turns : ServesInTurns
serves_in_turns state workers input rest before printed whole (last, is, calls, are) =
    let no_file = writes_none whole
    (serve_keeps state workers input rest before printed [] whole (last, is, calls, are)) in
    all_in_turns (map answered (is.last ∷ is.earlier)) is.next state before printed last whole
    (all_answered_whole (is.last ∷ is.earlier)) is.logs calls no_file

-- ---- where it fails

-- of some groups at most the newest is printed in part
abbrev Ends : List Group → Type 0
Ends groups = AllWhole groups
    ⊎ ((head : Group) × (tail : List Group) × (groups ≡ head ∷ tail) × AllWhole tail)

lines_end : (text : List ℕ) (fault : Fault) (groups : List Group) → TriesLines text fault groups
    → (head : Group) × (tail : List Group) × (groups ≡ head ∷ tail) × AllWhole tail
lines_end text fault groups (inl (same, other)) = (_, [], same, tt)
lines_end text fault groups (inr (left, front, some, is, inl (at, same))) = (_, _, same, ((λ e. cc e), tt))
lines_end text fault groups (inr (left, front, some, is, inr same)) = (_, _, same, ((λ e. cc e), tt))

-- where a line is bad, nothing is printed in part
bad_whole : (text : List ℕ) (line : ℕ) (groups : List Group) → TriesLines text (BadJob line) groups → AllWhole groups
bad_whole text line groups (inl (same, other)) = subst AllWhole (sym same) ((λ e. cc e), tt)
bad_whole text line groups (inr (left, front, some, is, inl (at, same))) =
    subst AllWhole (sym same) ((λ e. cc e), ((λ e. cc e), tt))
bad_whole text line groups (inr (left, front, some, is, inr same)) =
    subst AllWhole (sym same) ((λ e. cc e), ((λ e. cc e), tt))

piece_ends : (count : ℕ) (text : List ℕ) (fault : Fault) (groups : List Group) → TriesPiece count text fault groups
    → Ends groups
piece_ends count text fault groups (inl (tries, other)) = inr (lines_end text fault groups tries)
piece_ends count text fault groups (inr (line, first, tries, inl (few, at, same))) =
    inl (subst AllWhole (sym same) (bad_whole text line first tries))
piece_ends count text fault groups (inr (line, first, tries, inr (some, front, is, inl (at, same)))) =
    inl (subst AllWhole (sym same) ((λ e. cc e), bad_whole text line first tries))
piece_ends count text fault groups (inr (line, first, tries, inr (some, front, is, inr (more, again, same)))) =
    let end = lines_end front fault more again in
    inr (
      end.0,
      end.1 ++ first,
      same ∙ ap (λ (gs : List Group). gs ++ first) end.2,
      both_whole end.1 first end.3 (bad_whole text line first tries),
    )

module _ (state : Bytes) (before printed : List ℕ) (last whole : WorldCalls) (calls : whole ≡ Unlocked ∷ last)
    (no_file : written_in whole ≡ []) where
  abbrev locked : WorldCalls
  locked = Locked state Acquired ∷ []

  ends_in_turns : (groups earlier : List Group) (due : Due) → Ends groups → AllWhole earlier
      → LogsGroups (groups ++ earlier) AnyState due before printed locked last → PrintsInTurns before printed whole
  ends_in_turns groups earlier due (inl all) others logs =
      all_in_turns (groups ++ earlier) due state before printed last whole (both_whole groups earlier all others) logs
      calls no_file
  ends_in_turns groups earlier due (inr (head, tail, same, all)) others logs =
      one_in_turns head (tail ++ earlier) due state before printed last whole (both_whole tail earlier all others)
      (subst (λ (gs : List Group). LogsGroups (gs ++ earlier) AnyState due before printed locked last) same logs)
      calls no_file

  fails_so : (input rest : Option (List ℕ)) (fault : Fault)
      → FailsToServe input rest fault before printed locked last → PrintsInTurns before printed whole
  fails_so input rest fault (inl (next, is, same)) =
      one_in_turns (tried [] fault) [] next state before printed last whole tt
      (one_group [] (Some fault) AnyState next before printed locked last is) calls no_file
  fails_so input rest fault (inr (inl (at, next, is, same))) =
      one_in_turns (answered []) [] next state before printed last whole tt
      (one_group [] None AnyState next before printed locked last is) calls no_file
  fails_so input rest fault (inr (inr (inl some))) = by_fails some.fails
    where
      by_fails : StopsServing (length (lines_of (text_of_pieces some.texts))) some.until rest some.held fault some.due
          some.between printed some.mid last → PrintsInTurns before printed whole
      by_fails (inl (cause, cuts, is, same, none)) =
          all_in_turns (map answered some.texts) some.due state before printed last whole
          (all_answered_whole some.texts)
          (both_groups [] (map answered some.texts) AnyState some.due some.due before some.between printed locked
          some.mid last some.answers.logs (same, none, refl)) calls no_file
      by_fails (inr next) =
          ends_in_turns next.groups (map answered some.texts) next.next
          (piece_ends _ next.text fault next.groups next.tries) (all_answered_whole some.texts)
          (both_groups next.groups (map answered some.texts) AnyState some.due next.next before some.between printed
          locked some.mid last some.answers.logs next.logs)
  fails_so input rest fault (inr (inr (inr (at, (texts, held, next, many, is))))) =
      all_in_turns (map answered texts) next state before printed last whole (all_answered_whole texts) is.logs
      calls no_file

idle_turn : (before printed : List ℕ) (whole : WorldCalls) → IsTurn StoresNothing [] whole
    → written_in whole ≡ [] → printed ≡ before → PrintsInTurns before printed whole
idle_turn before printed whole is no_file same = (
  record { turn = StoresNothing; due = None; signatures = []; whole = whole; begun = whole } ∷ [],
  refl,
  (is, tt),
  (refl, tt, tt),
  (no_file, no_text before printed [] same),
)

pub fails_in_turns : FailsInTurns
fails_in_turns state workers input rest before printed fault whole (inl (at, none, same, are, unread)) =
    idle_turn before printed whole (idle_as whole [] none refl refl) (ap written_in none) same
fails_in_turns state workers input rest before printed fault whole (inr (inl (refused, calls, same, are, unread))) =
    idle_turn before printed whole (idle_as whole _ calls refl refl) (ap written_in calls) same
fails_in_turns state workers input rest before printed fault whole (inr (inr (last, is, calls, are))) =
    let no_file = writes_none whole
    (serve_failed_keeps state workers input rest before printed fault [] whole (inr (inr (last, is, calls, are)))) in
    fails_so state before printed last whole calls no_file input rest fault is
