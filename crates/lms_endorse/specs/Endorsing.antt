-- Which signers' keys a top key endorses, and what is printed of an endorsement.
use Rattle.std.specs.Prelude.{ℕ, ◌≡◌, ◌≢◌, ◌+◌, ◌≤◌, List, ◌++◌, codes, length}
use Rattle.std.specs.Fmt.{decimal}
use Rattle.hex.specs.Hex.{encode_lower}
use Rattle.sha2.specs.Sha256.{sha256}
use Rattle.lms_spec.specs.Hss.{most_levels}
use Rattle.lms_hss.specs.declared.key.HssKey.{HssKey as KeyOfCode}
use Rattle.lms_join.specs.Joined.{after_count, count_of}
use Rattle.lms_join.specs.Keys.{IsHssPublicKey, id_of}
use Rattle.lms_texts.specs.Descriptions.{number_line}

-- the text is how many levels joined keys have, in decimal
pub record IsJoinedText (text : List ℕ) (joined : ℕ) : Type 0 where
  pub text_is : text ≡ decimal joined
  pub two_at_least : 2 ≤ joined
  pub eight_at_most : joined ≤ most_levels

-- the bytes are an HSS public key of known typecodes
abbrev pub IsSigner : List ℕ → Type 0
IsSigner signer = (levels : ℕ) × (lms_key : List ℕ) × IsHssPublicKey levels lms_key signer

-- a key may endorse a signer's: both have together as many levels as joined keys, and the identifiers
-- of their top trees are not the same, as they are where the signer's is the key itself
pub record MayEndorse (key : KeyOfCode) (signer : List ℕ) (joined : ℕ) : Type 0 where
  pub together : length key.levels + count_of signer ≡ joined
  pub other : key.i ≢ id_of (after_count signer)

-- the SHA-256 of a signer's public key
abbrev pub signer_line : List ℕ → List ℕ
signer_line signer = codes "signer " ++ encode_lower (sha256 signer) ++ codes "\n"

-- the index that endorsed, and that line
abbrev pub endorsed_text : ℕ → List ℕ → List ℕ
endorsed_text index signer = number_line (codes "index") index ++ signer_line signer
