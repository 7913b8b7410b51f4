-- What an endorsement holds, and which signatures are joined with it.
use Rattle.std.specs.Prelude.{ℕ, ◌≡◌, ◌+◌, ◌-◌, ◌≤◌, List, ◌++◌, length}
use Rattle.lms_spec.specs.Bytes.{u32str}
use Rattle.lms_spec.specs.Parameters.{lms_public_key_length}
use Rattle.lms_spec.specs.Hss.{most_levels, AcceptsThrough, HssAccepts}
use Rattle.lms_hss.specs.Bottoms.{IsMessageHead}
use Rattle.lms_join.specs.Joined.{after_count}
use Rattle.lms_join.specs.Keys.{AreJoinable}

-- a top public key, its signature of a signer's LMS public key, and the signer's public key
pub record EndorsementParts : Type 0 where
  pub top_public : List ℕ
  pub endorsement : List ℕ
  pub signer_public : List ℕ

-- the keys can be joined, and the top key's signature is accepted
pub record IsEndorsed (top_public endorsement signer_public : List ℕ) : Type 0 where
  pub joinable : AreJoinable top_public signer_public
  pub accepted : HssAccepts top_public (after_count signer_public) endorsement

-- the parts of an endorsement that is accepted
pub record HoldsEndorsement (top_levels signer_levels : ℕ) (top_key signatures signer_key : List ℕ)
    : Type 0 where
  pub some_top : 1 ≤ top_levels
  pub some_signer : 1 ≤ signer_levels
  pub eight_at_most : top_levels + signer_levels ≤ most_levels
  pub key_length : length signer_key ≡ lms_public_key_length
  pub accepted : AcceptsThrough (top_levels - 1) top_key signer_key signatures

-- the keys and the signature that are put together of such parts
abbrev pub endorsement_of : ℕ → ℕ → List ℕ → List ℕ → List ℕ → EndorsementParts
endorsement_of top_levels signer_levels top_key signatures signer_key = record {
  top_public = u32str top_levels ++ top_key;
  endorsement = u32str (top_levels - 1) ++ signatures;
  signer_public = u32str signer_levels ++ signer_key;
}

-- the public key and the signature have a message head: the bottom level is reached, through keys
-- that are each accepted by the one above, and the signature there is cut as its key says
abbrev pub HasMessageHead : List ℕ → List ℕ → Type 0
HasMessageHead public_key signature = (head : List ℕ) × IsMessageHead public_key signature head
