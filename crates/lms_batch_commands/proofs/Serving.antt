-- Groups of lines that are answered one after another.
use Rattle.std.proofs.Common.{◌≡◌, ◌⊎◌, ◌∙◌, ◌+◌, ◌≤◌, ℕ, zero, suc, arith, List, [], ◌∷◌, ◌++◌, length, Option, None}
use Rattle.std.proofs.Common.{Some}
use Rattle.std.proofs.Common.{inl, inr}
use Rattle.std.proofs.Common.{Bool, true, false, ap, refl, sym, subst, append-nil, append_assoc, length-append}
use Rattle.std.proofs.lemmas.Bool.{true≢false}
use Rattle.std.specs.Io.KnownBytes.{Consumes}
use Rattle.lms_blocks.proofs.Consumed.{consumes-both}
use Rattle.lms_lines.specs.Pieces.{EndsLine}
use Rattle.lms_lines.specs.TextLines.{lines_of}
use Rattle.lms_lines.proofs.Cutting.{lines-both-or}
use Rattle.lms_commands.specs.Logs.{BurnsUnsigned, KeyState, WorldCalls, state_in}
use Rattle.lms_commands.specs.Watching.{BurnsWatched, FailsToNote, UsesAll, Watch, watched}
use Rattle.lms_batch.specs.declared.collector.Batch.{Batch}
use Rattle.lms_spec.specs.Hss.{capacity_of}
use Rattle.lms_hss.specs.Keys.{hss_key_of}
use Rattle.lms_image.specs.declared.image.Image.{Image}
use Rattle.lms_batch_commands.specs.BatchLogs.{LogsBatch, LogsJobsUnsigned}
use Rattle.lms_batch_commands.specs.Batches.{IsUnprinted}
use Rattle.lms_batch_commands.specs.Serving.{AnswersAll, AnswersPieces, AreWhole, Due, FailsGroup, Group, LogsGroup}
use Rattle.lms_batch_commands.specs.Serving.{IsDue, LogsGroups, NoState, Only, ServesPiece, SparesGroup}
use Rattle.lms_batch_commands.specs.Serving.{SpendsGroup, UsesGroup}
use Rattle.lms_batch_commands.specs.Serving.{whole_text}
use Rattle.lms_commands.specs.declared.fault.Fault.{Fault}
use Rattle.lms_commands.specs.declared.fault.Fault.TheVariants.{BadJob, Exhausted}

pub one_group : (text : List ℕ) (fault : Option Fault) (due next : Due) (before printed : List ℕ)
    (old new : WorldCalls) → LogsGroup text fault due next before printed old new
    → LogsGroups (record { text = text; fault = fault } ∷ []) due next before printed old new
one_group text fault due next before printed old new is = (before, old, due, (refl, refl, refl), is)

pub two_groups : (first second : Group) (due later_due next : Due) (before between printed : List ℕ)
    (old mid new : WorldCalls) → LogsGroup first.text first.fault due later_due before between old mid
    → LogsGroup second.text second.fault later_due next between printed mid new
    → LogsGroups (second ∷ first ∷ []) due next before printed old new
two_groups first second due later_due next before between printed old mid new one other =
    (between, mid, later_due, (before, old, due, (refl, refl, refl), one), other)

pub both_groups : (later earlier : List Group) (due later_due next : Due) (before between printed : List ℕ)
    (old mid new : WorldCalls) → LogsGroups earlier due later_due before between old mid
    → LogsGroups later later_due next between printed mid new
    → LogsGroups (later ++ earlier) due next before printed old new
both_groups [] earlier due later_due next before between printed old mid new first (same, none, is) =
    subst (λ (log : WorldCalls). LogsGroups earlier due next before printed old log) (sym none)
    (subst (λ (text : List ℕ). LogsGroups earlier due next before text old mid) (sym same)
    (subst (λ (d : Due). LogsGroups earlier due d before between old mid) (sym is) first))
both_groups (group ∷ later) earlier due later_due next before between printed old mid new first
    (text, log, d, more, one) =
    (text, log, d, both_groups later earlier due later_due d before between text old mid log first more, one)

-- ---- lines that may be answered yet

-- no index is used at such a fault
abbrev pub IsSparing : Fault → Type 0
IsSparing fault = ((left : ℕ) × (fault ≡ Exhausted left)) ⊎ ((line : ℕ) × (fault ≡ BadJob line))

burns_none : (n : ℕ) (fault : Fault) (state : KeyState) (old new : WorldCalls) → IsSparing fault
    → BurnsUnsigned n fault state old new → ⊥
burns_none n fault state old new (inl (left, is)) (inl (at, burns)) = cc (sym is ∙ at)
burns_none n fault state old new (inl (left, is)) (inr (at, burns)) = cc (sym is ∙ at)
burns_none n fault state old new (inr (line, is)) (inl (at, burns)) = cc (sym is ∙ at)
burns_none n fault state old new (inr (line, is)) (inr (at, burns)) = cc (sym is ∙ at)

notes_all : (n : ℕ) (watch : Watch) (id : List ℕ) (start : ℕ) (fault : Fault) (old new : WorldCalls) → IsSparing fault
    → FailsToNote n watch id start fault old new → ⊥
notes_all zero watch id start fault old new sparing never = never
notes_all (suc n) None id start fault old new sparing never = never
notes_all (suc n) (Some text) id start fault old new (inl (left, is)) (at, calls) = cc (sym is ∙ at)
notes_all (suc n) (Some text) id start fault old new (inr (line, is)) (at, calls) = cc (sym is ∙ at)

spares_all : (n : ℕ) (fault : Fault) (state : KeyState) (old new : WorldCalls) → IsSparing fault
    → BurnsWatched n fault state old new → ⊥
spares_all n fault state old new sparing (by, inl burns) = burns_none n fault state (watched by old) new sparing burns
spares_all n fault state old new sparing (by, inr (last, uses, fails)) =
    notes_all n by.watch state.key.i state.index fault last new sparing fails

prints_none : (batch : Batch) (asked : ℕ) (before printed : Option (List ℕ)) (fault : Fault) → IsSparing fault
    → IsUnprinted batch asked before printed fault → ⊥
prints_none batch asked before printed fault (inl (left, is)) (inl (at, differ, lines)) = cc (sym is ∙ at)
prints_none batch asked before printed fault (inl (left, is)) (inr (at, lines)) = cc (sym is ∙ at)
prints_none batch asked before printed fault (inr (line, is)) (inl (at, differ, lines)) = cc (sym is ∙ at)
prints_none batch asked before printed fault (inr (line, is)) (inr (at, lines)) = cc (sym is ∙ at)

uses_none : (text : List ℕ) (fault : Fault) (state : KeyState) (before printed : List ℕ) (old new : WorldCalls)
    → IsSparing fault → UsesGroup text fault state before printed old new → ⊥
uses_none text fault state before printed old new sparing (inl (rest, jobs, reads, some, burns, same)) =
    spares_all (length jobs) fault state old new sparing burns
uses_none text fault state before printed old new sparing (inr (rest, batch, answers, of, lines)) =
    prints_none batch (length answers.signs.jobs) (Some before) (Some printed) fault sparing lines

pub spared : (text : List ℕ) (fault : Fault) (due next : Due) (before printed : List ℕ) (old new : WorldCalls)
    → IsSparing fault
    → SparesGroup text fault due next before printed old new ⊎ SpendsGroup text fault due before printed old new
    → FailsGroup text fault due next before printed old new
spared text fault due next before printed old new sparing (inl spares) = inl spares
spared text fault due next before printed old new sparing (inr (state, was, uses)) =
    absurd (uses_none text fault state before printed old new sparing uses)

-- why lines are not all answered, and what is due then, which is known at a bad line
pub lines_failed : (text : List ℕ) (fault : Fault) (due next : Due) (before printed : List ℕ) (old new : WorldCalls)
    → SparesGroup text fault due next before printed old new ⊎ SpendsGroup text fault due before printed old new
    → (later_due : Due) × FailsGroup text fault due later_due before printed old new
    × ((line : ℕ) → fault ≡ BadJob line → later_due ≡ next)
lines_failed text fault due next before printed old new (inl spares) = (next, inl spares, λ line at. refl)
lines_failed text fault due next before printed old new (inr (state, was, uses)) = (
  NoState,
  inr ((state, was, uses), refl),
  λ line at. absurd (uses_none text fault state before printed old new (inr (line, at)) uses),
)

-- whole lines, piece by piece, are whole lines
pub whole_ends : (texts : List (List ℕ)) → AreWhole texts → (whole_text texts ≡ []) ⊎ EndsLine (whole_text texts)
whole_ends [] whole = inl refl
whole_ends (text ∷ earlier) (inl none, whole) =
    subst (λ (t : List ℕ). (t ≡ []) ⊎ EndsLine t)
    (sym (ap (λ (t : List ℕ). whole_text earlier ++ t) none ∙ append-nil (whole_text earlier)))
    (whole_ends earlier whole)
whole_ends (text ∷ earlier) (inr (front, is), whole) = inr (
  whole_text earlier ++ front,
  ap (λ (t : List ℕ). whole_text earlier ++ t) is ∙ sym (append_assoc (whole_text earlier) front (10 ∷ [])),
)

-- a piece more
pub count_more : (texts : List (List ℕ)) (text : List ℕ) → AreWhole texts
    → length (lines_of (whole_text texts ++ text))
    ≡ length (lines_of (whole_text texts)) + length (lines_of text)
count_more texts text whole =
    ap length (lines-both-or (whole_text texts) text (whole_ends texts whole))
    ∙ length-append (lines_of (whole_text texts)) (lines_of text)

-- what was read so far, and then a piece of it
pub read_more : (whole held read text left : List ℕ) → held ++ read ≡ text ++ left
    → (whole ++ held) ++ read ≡ (whole ++ text) ++ left
read_more whole held read text left parts =
    append_assoc whole held read ∙ ap (λ (t : List ℕ). whole ++ t) parts ∙ sym (append_assoc whole text left)

-- a piece more, and it is the last
pub answers_all : (input until rest : Option (List ℕ)) (texts : List (List ℕ)) (held left : List ℕ) (due next : Due)
    (before between printed : List ℕ) (old mid new : WorldCalls) (lines : ℕ) (is_last : Bool)
    → AnswersPieces input until texts held due before between old mid
    → ServesPiece until rest held left lines is_last due next between printed mid new → is_last ≡ true
    → AnswersAll input rest before printed old new
answers_all input until rest texts held left due next before between printed old mid new lines false was is last =
    absurd (true≢false (sym last))
answers_all input until rest texts held left due next before between printed old mid new lines true was is last =
    let none : (whole_text texts ++ is.text) ++ left ≡ whole_text texts ++ is.text =
    ap (λ (t : List ℕ). (whole_text texts ++ is.text) ++ t) is.ends.1 ∙ append-nil (whole_text texts ++ is.text) in
    record {
      last = is.text;
      earlier = texts;
      consumed = subst (λ (t : List ℕ). Consumes input rest t)
          (read_more (whole_text texts) held is.read is.text left is.parts ∙ none)
          (consumes-both _ _ _ (whole_text texts ++ held) is.read was.consumed is.consumed);
      at_end = is.ends.2;
      opens = was.opens;
      whole = was.whole;
      one_line = is.ends.0;
      next = next;
      logs = (between, mid, due, was.logs, is.logs);
    }

-- a piece more, and others follow
pub answers_more : (input until rest : Option (List ℕ)) (texts : List (List ℕ)) (held left : List ℕ) (due next : Due)
    (before between printed : List ℕ) (old mid new : WorldCalls) (lines : ℕ) (is_last : Bool)
    → AnswersPieces input until texts held due before between old mid
    → (is : ServesPiece until rest held left lines is_last due next between printed mid new) → is_last ≡ false
    → AnswersPieces input rest (is.text ∷ texts) left next before printed old new
answers_more input until rest texts held left due next before between printed old mid new lines true was is more =
    absurd (true≢false more)
answers_more input until rest texts held left due next before between printed old mid new lines false was is more =
    record {
      consumed = subst (λ (t : List ℕ). Consumes input rest t)
          (read_more (whole_text texts) held is.read is.text left is.parts)
          (consumes-both _ _ _ (whole_text texts ++ held) is.read was.consumed is.consumed);
      opens = (is.text ∷ was.opens.0, ap (λ (ts : List (List ℕ)). is.text ∷ ts) was.opens.1);
      whole = (inr is.ends, was.whole);
      logs = (between, mid, due, was.logs, is.logs);
    }

-- ---- what is stored once a group is signed

uses_within : (n : ℕ) (state : KeyState) (old new : WorldCalls) → UsesAll n state old new
    → state.index + n ≤ capacity_of (hss_key_of state.key)
uses_within zero state old new (by, (taken, read, reads, calls)) = omega (arith, reads.counted.within)
uses_within (suc n) state old new (by, last, (taken, read, reads, within, calls), noted) = within

pub batch_within : {input rest : Option (List ℕ)} {batch : Batch} {old new : WorldCalls} (read : Image) (asked : ℕ)
    (signs : LogsBatch input rest batch old new) → signs.state ≡ state_in read → asked ≡ length signs.jobs
    → read.counter + asked ≤ capacity_of (hss_key_of read.key)
batch_within read asked signs same asked_is =
    let within = subst (λ (n : ℕ). signs.state.index + n ≤ capacity_of (hss_key_of signs.state.key)) (sym asked_is)
    (uses_within (length signs.jobs) signs.state _ _ signs.uses) in
    subst (λ (s : KeyState). s.index + asked ≤ capacity_of (hss_key_of s.key)) same within

-- the lines of a state that was due are not signed
pub refused_group : (text : List ℕ) (rest : Option (List ℕ)) (fault : Fault) (state : KeyState) (due next : Due)
    (before : List ℕ) (old new : WorldCalls) → IsDue due state → LogsJobsUnsigned (Some text) rest fault state old new
    → next ≡ Only state
    → SparesGroup text fault due next before before old new ⊎ SpendsGroup text fault due before before old new
refused_group text rest fault state due next before old new was (inl (unread, leaves)) is =
    inl (refl, inr (state, was, inl (unread, leaves), is))
refused_group text rest fault state due next before old new was (inr (jobs, reads, some, inl leaves)) is =
    inl (refl, inr (state, was, inr (rest, jobs, reads, some, leaves), is))
refused_group text rest fault state due next before old new was (inr (jobs, reads, some, inr burns)) is =
    inr (state, was, inl (rest, jobs, reads, some, burns, refl))
