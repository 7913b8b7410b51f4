-- The line of a job.
use Rattle.std.specs.Prelude.{◌≡◌, ℕ, ◌+◌, ◌*◌, ◌≤◌, List, ◌∷◌, ◌++◌, length, Ok}
use Rattle.hex.specs.Hex.{decode_of, decode_sized}
use Rattle.lms_spec.specs.HashLength.{hash_length}
use Rattle.lms_batch.specs.Jobs.{JobText}

-- the most digits of a message, which are those of 65,536 bytes
abbrev pub most_digits : ℕ
most_digits = 131072

-- the most bytes of a job line before its LF
abbrev pub longest_line : ℕ
longest_line = 2 * hash_length + 1 + most_digits

-- the line of a job, without its LF: the hexadecimal digits of the randomizer, a space, and those
-- of the message
pub record IsJobLine (line : List ℕ) (job : JobText) : Type 0 where
  pub c_digits : List ℕ
  pub message_digits : List ℕ
  pub parts : line ≡ c_digits ++ 32 ∷ message_digits
  pub c_len : length c_digits ≡ 2 * hash_length
  pub message_len : length message_digits ≤ most_digits
  pub c : decode_sized c_digits hash_length ≡ Ok job.c
  pub message : decode_of message_digits ≡ Ok job.message
