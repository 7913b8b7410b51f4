-- The bytes of the hash input before a message.
use Rattle.std.specs.Prelude.{ℕ, List, ◌++◌, take, drop}
use Rattle.lms_spec.specs.HashLength.{hash_length}
use Rattle.lms_spec.specs.Bytes.{u16str}
use Rattle.lms_spec.specs.Hashing.{d_mesg, hash_prefix}

-- I, q, D_MESG and the signature's randomizer C (4.5)
abbrev pub ots_head : List ℕ → ℕ → List ℕ → List ℕ
ots_head id q signature = hash_prefix id q ++ u16str d_mesg ++ take hash_length (drop 4 signature)
