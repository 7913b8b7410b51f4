-- Why there is no endorsement.
use Rattle.std.specs.Prelude.{ℕ, ◌≡◌, ◌⊎◌, List}
use Rattle.lms_spec.specs.Hss.{HssAccepts}
use Rattle.lms_join.specs.Joined.{after_count}
use Rattle.lms_join.specs.Keys.{AreJoinable}
use Rattle.lms_join.specs.declared.fault.EndorsementFault.{EndorsementFault}
use Rattle.lms_join.specs.declared.fault.EndorsementFault.TheVariants.{NotJoinable, NotAccepted}

-- the fault is `NotJoinable`, and the keys can't be joined; or it is `NotAccepted`, they can be,
-- and the top key's signature is not accepted
abbrev pub IsRefused : List ℕ → List ℕ → List ℕ → EndorsementFault → Type 0
IsRefused top_public endorsement signer_public fault =
    ((fault ≡ NotJoinable) × ¬ AreJoinable top_public signer_public)
    ⊎ ((fault ≡ NotAccepted) × AreJoinable top_public signer_public
    × ¬ HssAccepts top_public (after_count signer_public) endorsement)
