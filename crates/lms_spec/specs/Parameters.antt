-- The parameter sets of RFC 8554 with SHA-256 and 32-byte hashes (4.1 table 1, 5.1 table 2).
use Rattle.std.specs.Prelude.{ℕ, ◌+◌, ◌*◌, List, [], ◌∷◌, ◌==◌, find, Option}
use Rattle.lms_spec.specs.HashLength.{hash_length}

-- an LM-OTS set: its typecode, the Winternitz width w, the number of chains p, the checksum's shift
-- ls
pub record OtsSet : Type 0 where
  pub code : ℕ
  pub w : ℕ
  pub p : ℕ
  pub ls : ℕ

-- an LMS set: its typecode and the tree's height h
pub record LmsSet : Type 0 where
  pub code : ℕ
  pub h : ℕ

-- LMOTS_SHA256_N32_W1, W2, W4 and W8 (4.1, table 1)
abbrev pub ots_w1 : OtsSet
ots_w1 = record { code = 1; w = 1; p = 265; ls = 7 }

abbrev pub ots_w2 : OtsSet
ots_w2 = record { code = 2; w = 2; p = 133; ls = 6 }

abbrev pub ots_w4 : OtsSet
ots_w4 = record { code = 3; w = 4; p = 67; ls = 4 }

abbrev pub ots_w8 : OtsSet
ots_w8 = record { code = 4; w = 8; p = 34; ls = 0 }

-- LMS_SHA256_M32_H5, H10, H15, H20 and H25 (5.1, table 2)
abbrev pub lms_h5 : LmsSet
lms_h5 = record { code = 5; h = 5 }

abbrev pub lms_h10 : LmsSet
lms_h10 = record { code = 6; h = 10 }

abbrev pub lms_h15 : LmsSet
lms_h15 = record { code = 7; h = 15 }

abbrev pub lms_h20 : LmsSet
lms_h20 = record { code = 8; h = 20 }

abbrev pub lms_h25 : LmsSet
lms_h25 = record { code = 9; h = 25 }

-- the two tables
abbrev pub ots_sets : List OtsSet
ots_sets = ots_w1 ∷ ots_w2 ∷ ots_w4 ∷ ots_w8 ∷ []

abbrev pub lms_sets : List LmsSet
lms_sets = lms_h5 ∷ lms_h10 ∷ lms_h15 ∷ lms_h20 ∷ lms_h25 ∷ []

-- the most chains of a one-time key, which has them at the least width, and the greatest height of
-- a tree
abbrev pub most_chains : ℕ
most_chains = ots_w1.p

abbrev pub greatest_height : ℕ
greatest_height = lms_h25.h

-- the set of a typecode, if it is known
abbrev pub ots_set : ℕ → Option OtsSet
ots_set c = find (λ t. t.code == c) ots_sets

abbrev pub lms_set : ℕ → Option LmsSet
lms_set c = find (λ m. m.code == c) lms_sets

-- how many bytes an LM-OTS signature (4.5), an LMS signature (5.4) and an LMS public key (5.3) have
abbrev pub ots_signature_length : OtsSet → ℕ
ots_signature_length t = 4 + hash_length * (t.p + 1)

abbrev pub lms_signature_length : LmsSet → OtsSet → ℕ
lms_signature_length m t = 8 + ots_signature_length t + hash_length * m.h

abbrev pub lms_public_key_length : ℕ
lms_public_key_length = 24 + hash_length
