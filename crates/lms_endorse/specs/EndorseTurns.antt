-- What leaves `endorse`: at most one signature, by a key that may endorse a signer's. The log says that
-- it is of that signer's key.
use Rattle.std.specs.Prelude.{ℕ, ◌≡◌, ◌⊎◌, List, [], ◌∷◌}
use Rattle.lms_commands.specs.Histories.{AreWritten, Prints, Signature}
use Rattle.lms_commands.specs.Logs.{WorldCalls}
use Rattle.lms_endorse.specs.Endorsing.{IsSigner, MayEndorse, endorsed_text}

-- these signatures are written to files: none, and nothing is printed; or one by a key that may endorse a signer's,
-- and at most a beginning of what is said of it is printed
abbrev pub AreEndorsed : List Signature → WorldCalls → List ℕ → List ℕ → Type 0
AreEndorsed signatures whole before printed = AreWritten signatures whole
    × (((signatures ≡ []) × (printed ≡ before))
    ⊎ ((one : Signature) × (signer : List ℕ) × (joined : ℕ) × (signatures ≡ one ∷ []) × IsSigner signer
    × MayEndorse one.key signer joined × Prints before printed (endorsed_text one.index signer)))
