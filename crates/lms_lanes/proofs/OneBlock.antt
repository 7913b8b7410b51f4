-- The digest of bytes that fit into one block with their padding.
use Rattle.std.proofs.Common.{◌≡◌, ℕ, List, ◌++◌, length, refl, arith, length-append}
use Rattle.std.proofs.lemmas.List.{take_all}
use Rattle.sha2.specs.Sha256.{compress, digest_bytes, hash_after, initial_hash_256, sha256}
use Rattle.lms_lanes.specs.Chains.{short_padding}

pub sha256-one_block : (text : List ℕ) → length text ≡ 55
    → sha256 text ≡ digest_bytes (compress initial_hash_256 (text ++ short_padding)) 8
unfolding sha256 hash_after
sha256-one_block text long =
    let whole : length (text ++ short_padding) ≡ 64 = omega (arith, length-append text short_padding, long) in
    rw (long, whole, take_all 64 (text ++ short_padding) (omega arith)) refl

pub length-digest_bytes : (h : List ℕ) → length (digest_bytes h 8) ≡ 32
unfolding digest_bytes
length-digest_bytes h = refl
