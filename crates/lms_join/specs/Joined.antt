-- What is joined, byte for byte: the endorsement, a top key's signature of a signer's LMS public
-- key, and a signature by the signer's key, as one signature under the top key with the signer's
-- levels counted (RFC 8554, 6.1 and 6.2).
use Rattle.std.specs.Prelude.{ℕ, ◌+◌, ◌-◌, List, ◌++◌, take, drop}
use Rattle.lms_spec.specs.Bytes.{number_of, u32str}

-- the number at the front: of levels in a public key, of signed keys in a signature
abbrev pub count_of : List ℕ → ℕ
count_of bytes = number_of (take 4 bytes)

-- what is after the number at the front: of a public key the LMS public key of its top tree
abbrev pub after_count : List ℕ → List ℕ
after_count bytes = drop 4 bytes

-- how many levels both keys have together
abbrev pub joined_levels : List ℕ → List ℕ → ℕ
joined_levels top_public signer_public = count_of top_public + count_of signer_public

-- the joined public key: the top one, with the levels of both
abbrev pub joined_public : List ℕ → List ℕ → List ℕ
joined_public top_public signer_public =
    u32str (joined_levels top_public signer_public) ++ after_count top_public

-- the joined signature: how many public keys are signed; all of the endorsement after its count,
-- whose last part signs the signer's LMS public key; that key; and all of the signer's signature
-- after its count
abbrev pub joined_signature : List ℕ → List ℕ → List ℕ → List ℕ → List ℕ
joined_signature top_public endorsement signer_public signature =
    u32str (joined_levels top_public signer_public - 1) ++ after_count endorsement
    ++ after_count signer_public ++ after_count signature
