-- How a run of `endorse` ends where it fails, and its calls by texts that are equal.
use Rattle.std.proofs.Common.{◌⊎◌, ◌≡◌, ℕ, List, arith, inl, inr, subst}
use Rattle.lms_commands.specs.Logs.{WorldCalls}
use Rattle.lms_commands.specs.declared.fault.Fault.{Fault}
use Rattle.lms_commands.specs.declared.fault.Fault.TheVariants.{BadLevels, BadPublicKey, BadRandom, OutOfMemory}
use Rattle.lms_commands.specs.declared.fault.Fault.TheVariants.{WriteOutput}
use Rattle.lms_endorse.specs.EndorseLogs.{Endorsing, LogsEndorse, LogsEndorseFailed, LogsNotEndorsed, LogsUnendorsed}
use Rattle.lms_cli.proofs.HighFaults.{IsHigh, at, at_lock, at_read, at_unsigned, at_unwatched}

module _ (fault : Fault) where
  at_not_endorsed : (signer : List ℕ) (joined : ℕ) (old new : WorldCalls) → LogsNotEndorsed signer joined fault old new
      → IsHigh fault
  at_not_endorsed signer joined old new (inl is) = at_unwatched fault old new is
  at_not_endorsed signer joined old new (inr (state, inl (is, _, _))) = at fault BadPublicKey (omega arith) is
  at_not_endorsed signer joined old new (inr (state, inr (_, is))) = at_unsigned fault 1 state old new is

  module _ (before printed : List ℕ) where
    -- nothing is printed, at a status of 2 at least, or the output fails
    abbrev pub FailsQuietly : Type 0
    FailsQuietly = ((printed ≡ before) × IsHigh fault) ⊎ (fault ≡ WriteOutput)

    under_lock : (random signer : List ℕ) (joined : ℕ) (out : List ℕ) (old new : WorldCalls)
        → LogsUnendorsed random signer joined out before printed fault old new → FailsQuietly
    under_lock random signer joined out old new (inl (_, is, same)) =
        inl (same, at_not_endorsed signer joined _ new is)
    under_lock random signer joined out old new (inr (is, _)) = inr is

    pub unendorsed : (asked : Endorsing) (old new : WorldCalls) → LogsEndorseFailed asked before printed fault old new
        → FailsQuietly
    unendorsed asked old new (inl (is, _, same, _)) = inl (same, at fault BadRandom (omega arith) is)
    unendorsed asked old new (inr (inl (is, _, same, _, _))) = inl (same, at fault BadLevels (omega arith) is)
    unendorsed asked old new (inr (inr (inl (is, _, same, _)))) = inl (same, at fault OutOfMemory (omega arith) is)
    unendorsed asked old new (inr (inr (inr (inl (refused, _, same, _))))) = inl (same, at_read fault refused)
    unendorsed asked old new (inr (inr (inr (inr (inl (_, inl (is, _), _, same, _)))))) =
        inl (same, at fault BadPublicKey (omega arith) is)
    unendorsed asked old new (inr (inr (inr (inr (inl (_, inr (is, _), _, same, _)))))) =
        inl (same, at fault OutOfMemory (omega arith) is)
    unendorsed asked old new (inr (inr (inr (inr (inr (inl (_, refused, _, _, same, _))))))) =
        inl (same, at_lock fault refused)
    unendorsed asked old new (inr (inr (inr (inr (inr (inr (c, signer, joined, last, _, _, _, is, _))))))) =
        under_lock c signer joined _ _ last is

abbrev endorsing : List ℕ → List ℕ → List ℕ → List ℕ → List ℕ → Endorsing
endorsing state random signer joined out =
    record { randomizer = random; joined = joined; signer = signer; state = state; out = out }

-- the calls of `endorse`, by texts that are equal
pub endorsed_as : {state s random c signer k joined n out o : List ℕ} {before printed : List ℕ} {old new : WorldCalls}
    → state ≡ s → random ≡ c → signer ≡ k → joined ≡ n → out ≡ o
    → LogsEndorse (endorsing state random signer joined out) before printed old new
    → LogsEndorse (endorsing s c k n o) before printed old new
endorsed_as {before = before} {printed = printed} {old = old} {new = new} state_is random_is signer_is joined_is out_is
    is =
    subst (λ (asked : Endorsing). LogsEndorse asked before printed old new)
    (λ i. endorsing (state_is i) (random_is i) (signer_is i) (joined_is i) (out_is i)) is

-- the same, where it fails
pub unendorsed_as : {state s random c signer k joined n out o : List ℕ} {before printed : List ℕ} {fault : Fault}
    {old new : WorldCalls} → state ≡ s → random ≡ c → signer ≡ k → joined ≡ n → out ≡ o
    → LogsEndorseFailed (endorsing state random signer joined out) before printed fault old new
    → LogsEndorseFailed (endorsing s c k n o) before printed fault old new
unendorsed_as {before = before} {printed = printed} {fault = fault} {old = old} {new = new} state_is random_is
    signer_is joined_is out_is is =
    subst (λ (asked : Endorsing). LogsEndorseFailed asked before printed fault old new)
    (λ i. endorsing (state_is i) (random_is i) (signer_is i) (joined_is i) (out_is i)) is
