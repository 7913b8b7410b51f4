-- Digits of byte strings and the checksum (RFC 8554, 3.1.3 and 4.4).
use Rattle.std.specs.Prelude.{ℕ, ◌-◌, ◌*◌, ◌/◌, ◌%◌, ◌^◌, List, ◌++◌, length, map, sum}
use Rattle.lms_spec.specs.Parameters.{OtsSet}
use Rattle.lms_spec.specs.Bytes.{below, number_of, u16str}

-- digit i of a byte string in digits of w bits, counted from its most significant bit (3.1.3)
unfoldable pub digit : List ℕ → ℕ → ℕ → ℕ
digit bytes i w = number_of bytes / (2 ^ w) ^ (8 * length bytes / w - 1 - i) % 2 ^ w

-- the checksum of a hash (4.4)
unfoldable pub checksum : OtsSet → List ℕ → ℕ
checksum t hash = sum (map (λ i. 2 ^ t.w - 1 - digit hash i t.w) (below (256 / t.w))) * 2 ^ t.ls

-- the digits of a hash and of its checksum, p in all (4.5)
unfoldable pub digits_of : OtsSet → List ℕ → List ℕ
digits_of t hash = map (λ i. digit (hash ++ u16str (checksum t hash)) i t.w) (below t.p)
