-- What a crash leaves of a state while `resume` burns indices.
use Rattle.std.proofs.Common.{◌≡◌, ◌∙◌, ◌⊎◌, ◌≤◌, ◌<◌, ◌+◌, ◌++◌, ◌∷◌, [], ℕ, zero, suc, List, length, refl, ap, subst}
use Rattle.std.proofs.Common.{sym, inl, inr, ⊎_elim, append_assoc, append-nil, arith}
use Rattle.std.proofs.Math.Seq.{drop-append_seam}
use Rattle.std.proofs.lemmas.List.Elements.{Contains-append_cases}
use Rattle.std.specs.Prelude.{Contains, drop}
use Rattle.lms_book.specs.Stops.{FailsToWrite, IsAmong, MayLeave, StoreView, Texts}
use Rattle.lms_book.proofs.Leaving.{among_only, narrowed}
use Rattle.lms_commands.specs.Logs.{StoresSome, StoresUpTo, image_below, used_after}
use Rattle.lms_commands.specs.Logs.{KeyState}
use Rattle.lms_commands.specs.declared.fault.Fault.{Fault}
use Rattle.lms_key_commands.proofs.ResumePieces.{more_used}
use Rattle.lms_key_commands.specs.ResumeLogs.{CountsInPart, CountsTo}
use Rattle.lms_key_commands.specs.ResumeStops.{CountsMore, ResumeLeavesNoOtherText}

none_there : (all : List Texts) (texts : Texts) → all ≡ [] → Contains all texts → ⊥
none_there [] texts none (k, lt, same) = absurd (omega (arith, lt))
none_there (first ∷ later) texts none has = cc none

the_one : (a texts : Texts) → Contains (a ∷ []) texts → a ≡ texts
the_one a texts (zero, lt, same) = same
the_one a texts (suc k, lt, same) = absurd (omega (arith, lt))

-- while indices of this state below this end are burnt, from what its store was on
module _ (end : ℕ) (state : KeyState) (read : StoreView) where
  abbrev IsLawful : Texts → Type 0
  IsLawful texts = (text : List ℕ) → IsAmong texts text → MayLeave read text ⊎ CountsMore end state text

  -- each moment since is lawful, and so is this one
  record AreLawful (view : StoreView) : Type 0 where
    since : List Texts
    past : view.past ≡ read.past ++ since
    all : (texts : Texts) → Contains since texts → IsLawful texts
    now : IsLawful view.now

  -- a lawful moment more
  one_moment : (old new : StoreView) → AreLawful old → new.past ≡ old.past ++ old.now ∷ [] → IsLawful new.now
      → AreLawful new
  one_moment old new are past now = record {
    since = are.since ++ old.now ∷ [];
    past =
        past ∙ (ap (λ (before : List Texts). before ++ old.now ∷ []) are.past
        ∙ append_assoc read.past are.since (old.now ∷ []));
    all =
        λ texts has.
        ⊎_elim (λ before. are.all texts before)
        (λ here. subst (λ (t : Texts). IsLawful t) (the_one old.now texts here) are.now)
        (Contains-append_cases are.since (old.now ∷ []) texts has);
    now = now;
  }

  stored : (ends : List ℕ) (left : StoreView) → used_after state ends ≤ end → StoresUpTo state ends read left
      → AreLawful left
  stored [] left within is =
      subst (λ (v : StoreView). AreLawful v) (sym is)
      (record {
        since = [];
        past = sym (append-nil read.past);
        all = λ texts none. absurd (none_there [] texts refl none);
        now = λ text among. inl among;
      })
  stored (last ∷ earlier) left within (before, first, less, is) =
      let more = more_used state earlier read before first in
      one_moment before left (stored earlier before (omega (arith, less, within)) first)
      (ap (λ (v : StoreView). v.past) is)
      (λ text among. inr (
        last,
        omega (arith, more, less),
        within,
        among_only (image_below last state) text
            (subst (λ (texts : Texts). IsAmong texts text) (ap (λ (v : StoreView). v.now) is) among),
      ))

  -- a write more, which failed
  failed : (at : ℕ) (mid left : StoreView) → state.index < at → at ≤ end → AreLawful mid
      → FailsToWrite (image_below at state) mid left → AreLawful left
  failed at mid left more within are (inl is) =
      record {
        since = are.since;
        past = ap (λ (v : StoreView). v.past) is ∙ are.past;
        all = are.all;
        now = subst (λ (texts : Texts). IsLawful texts) (sym (ap (λ (v : StoreView). v.now) is)) are.now;
      }
  failed at mid left more within are (inr (texts, by, is)) =
      one_moment mid left are (ap (λ (v : StoreView). v.past) is)
      (λ text among. ⊎_elim (λ was. are.now text was) (λ here. inr (at, more, within, here))
      (narrowed (image_below at state) text mid.now texts by
      (subst (λ (those : Texts). IsAmong those text) (ap (λ (v : StoreView). v.now) is) among)))

  burnt_so : (fault : Fault) (left : StoreView)
      → CountsTo end state read left ⊎ CountsInPart end state fault read left → AreLawful left
  burnt_so fault left (inl (ends, used, is)) = stored ends left (omega (arith, used)) is
  burnt_so fault left (inr (at, mid, less, (ends, used, is), inl (memory, same))) =
      subst (λ (v : StoreView). AreLawful v) (sym same) (stored ends mid (omega (arith, used, less)) is)
  burnt_so fault left (inr (at, mid, less, (ends, used, is), inr (len, burnt, some, within, fails))) =
      failed (at + len) mid left (omega (arith, more_used state ends read mid is, used, some)) within
      (stored ends mid (omega (arith, used, less)) is) fails

pub resume_leaves_no_other_text : ResumeLeavesNoOtherText
resume_leaves_no_other_text end state fault read left burns text (texts, has, among) =
    let are = burnt_so end state read fault left burns in
    let since : drop (length read.past) left.past ≡ are.since =
    ap (λ (past : List Texts). drop (length read.past) past) are.past ∙ drop-append_seam read.past are.since in
    let has_so = subst (λ (those : List Texts). Contains (those ++ left.now ∷ []) texts) since has in
    ⊎_elim (λ before. are.all texts before text among)
    (λ here. are.now text (subst (λ (t : Texts). IsAmong t text) (sym (the_one left.now texts here)) among))
    (Contains-append_cases are.since (left.now ∷ []) texts has_so)

-- all are stored, or some
pub stores_some : (end : ℕ) (state : KeyState) (fault : Fault) (read left : StoreView)
    → CountsTo end state read left ⊎ CountsInPart end state fault read left → StoresSome end state read left
stores_some end state fault read left (inl (ends, used, is)) = (ends, left, omega (arith, used), is, inl refl)
stores_some end state fault read left (inr (at, mid, less, (ends, used, is), inl (memory, same))) =
    (ends, mid, omega (arith, used, less), is, inl same)
stores_some end state fault read left (inr (at, mid, less, (ends, used, is), inr (len, burnt, some, within, fails))) =
    (ends, mid, omega (arith, used, less), is, inr (at + len, omega (arith, used, some), within, fails))
