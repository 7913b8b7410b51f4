-- Numbers below another, and byte strings with the numbers in them (RFC 8554, 3.1). A byte string
-- is a list of numbers below 256.
use Rattle.std.specs.Prelude.{ℕ, ◌+◌, ◌*◌, ◌^◌, List, [], ◌∷◌, length}
use Rattle.std.specs.List.{range_with_len}
use Rattle.std.specs.Int.{w16, w32, w64, to_be_bytes}

-- 0, 1, .., n - 1
abbrev pub below : ℕ → List ℕ
below n = range_with_len 0 n

-- a byte string read as one number, the most significant byte first
unfoldable pub number_of : List ℕ → ℕ
number_of [] = 0
number_of (b ∷ bytes) = b * 256 ^ length bytes + number_of bytes

-- a number as two bytes, as four and as eight, the most significant first (3.1)
abbrev pub u16str : ℕ → List ℕ
u16str n = to_be_bytes w16 n

abbrev pub u32str : ℕ → List ℕ
u32str n = to_be_bytes w32 n

abbrev pub u64str : ℕ → List ℕ
u64str n = to_be_bytes w64 n
