-- The bytes of the hash input before a message.
use Rattle.std.specs.Prelude.{ℕ, List, ◌++◌, take, drop}
use Rattle.lms_spec.specs.HashLength.{hash_length}
use Rattle.lms_spec.specs.Bytes.{u16str}
use Rattle.lms_spec.specs.Hashing.{d_mesg}

-- I, q, D_MESG and the randomizer C (4.5): I from its place in the key (5.3), q and C from theirs
-- in the signature (5.4)
abbrev pub lms_head : List ℕ → List ℕ → List ℕ
lms_head public_key signature =
    take 16 (drop 8 public_key) ++ take 4 signature ++ u16str d_mesg
    ++ take hash_length (drop 8 signature)
