-- How long a hash is: n and m of the parameter sets (RFC 8554, 4.1 and 5.1).
use Rattle.std.specs.Prelude.{ℕ}

-- how many bytes a hash has, and so a seed, a randomizer and each value of a chain or a node
abbrev pub hash_length : ℕ
hash_length = 32
