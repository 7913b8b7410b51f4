-- Laws over what is joined.
use Rattle.std.specs.Prelude.{ℕ, ◌≤◌, ◌↔◌, List}
use Rattle.lms_spec.specs.Hss.{most_levels, HssAccepts}
use Rattle.lms_join.specs.Joined.{after_count, joined_levels, joined_public, joined_signature}
use Rattle.lms_join.specs.Cuts.{AreCut}

-- where the endorsement is accepted for the signer's LMS public key, and the signer's signature for
-- a message, and both keys together have at most eight levels, the joined signature is accepted for
-- the message under the joined public key
abbrev pub JoinedAccepted : Type 0
JoinedAccepted =
    (top_public endorsement signer_public signature message : List ℕ)
    → HssAccepts top_public (after_count signer_public) endorsement
    → HssAccepts signer_public message signature
    → joined_levels top_public signer_public ≤ most_levels
    → HssAccepts (joined_public top_public signer_public) message
    (joined_signature top_public endorsement signer_public signature)

-- of parts that are cut where they should be, the joined signature is accepted exactly where the
-- endorsement and the signer's signature are
abbrev pub JoinedExactly : Type 0
JoinedExactly =
    (top_public endorsement signer_public signature message : List ℕ)
    → AreCut top_public endorsement signer_public signature
    → (HssAccepts (joined_public top_public signer_public) message
    (joined_signature top_public endorsement signer_public signature)
    ↔ HssAccepts top_public (after_count signer_public) endorsement
    × HssAccepts signer_public message signature)
