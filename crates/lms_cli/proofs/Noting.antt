-- What standard error gets where somebody looks on, and where nobody does.
use Rattle.std.proofs.Common.{◌≡◌, ◌∙◌, ◌⊎◌, ◌<◌, ℕ, List, Option, Result, Ok, Err, Bool, true, false, inl, inr, ⊎_elim}
use Rattle.std.proofs.Common.{subst, sym, arith}
use Rattle.std.specs.Prelude.{OnOk}
use Rattle.std.specs.Result.{is_err}
use Rattle.clap.specs.Words.{Text}
use Rattle.lms_commands.specs.Faults.{status_number}
use Rattle.lms_commands.specs.declared.status.Status.{Status}
use Rattle.lms_commands.specs.declared.status.Status.TheVariants.{Negative}
use Rattle.lms_cli.specs.RunLogs.{IsNoted, TellsAnswer, TellsPlainly, TellsUsage}
use Rattle.lms_cli.specs.Runs.{AsksToSignLines}

-- what holds of a call that did not fail
pub if_done : {T E P : Type 0} (r : Result T E) → is_err r ≡ false → OnOk r P → P
if_done (Ok x) done is = is
if_done (Err e) done is = absurd (cc done)

module _ {E : Type 0} (contents : E → Option (List ℕ)) (words : List Text) (looked_on : Bool) (end : Status)
    (old mid new : E) (usage : TellsUsage end (contents old) (contents mid)) (quiet : status_number end < 2 → mid ≡ old)
    (remark : (new ≡ mid)
    ⊎ ((looked_on ≡ true) × (end ≡ Negative) × IsNoted (contents mid) (contents new))) where
  low : end ≡ Negative → status_number end < 2
  low is = subst (λ (s : Status). status_number s < 2) (sym is) (omega arith)

  unremarked : new ≡ mid → TellsUsage end (contents old) (contents new)
  unremarked same = subst (λ (e : E). TellsUsage end (contents old) (contents e)) (sym same) usage

  pub answered : TellsAnswer end (contents old) (contents new)
  answered =
      ⊎_elim (λ same. inl (unremarked same))
      (λ (on, is, noted). inr (is, subst (λ (e : E). IsNoted (contents e) (contents new)) (quiet (low is)) noted)) remark

  pub plainly : looked_on ≡ false → TellsPlainly end (contents old) (contents new)
  plainly off = ⊎_elim (λ same. inl (unremarked same)) (λ (on, is, noted). absurd (cc (sym on ∙ off))) remark

  pub quietly : status_number end < 2
      → (new ≡ old) ⊎ ((end ≡ Negative) × (AsksToSignLines words ⊎ (looked_on ≡ true)))
  quietly at = ⊎_elim (λ same. inl (same ∙ quiet at)) (λ (on, is, noted). inr (is, inr on)) remark
