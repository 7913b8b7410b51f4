-- The steps of a chain, and the words that a step hashes: a head of 22 bytes, a byte and a value of
-- 32.
use Rattle.std.specs.Prelude.{ℕ, zero, suc, ◌≡◌, ◌+◌, ◌%◌, List, [], ◌∷◌, ◌++◌, length, slice_index}
use Rattle.std.specs.Int.{from_be_bytes, to_be_bytes, w32}
use Rattle.sha2.specs.Sha256.{sha256, word_at}

-- a chain's value after these steps: each hashes the head, a byte and the value before; the first
-- byte is the last eight bits of `first`, and each further one is one more, with 0 after 255
abbrev pub walked : List ℕ → ℕ → ℕ → List ℕ → List ℕ
walked head first zero value = value
walked head first (suc steps) value =
    sha256 (head ++ (first + steps) % 256 ∷ walked head first steps value)

-- the padding after 55 bytes (FIPS 180-4, 5.1.1): a bit 1, seven bits 0, and the number of bits,
-- 440, as eight bytes
abbrev pub short_padding : List ℕ
short_padding = 0x80 ∷ 0 ∷ 0 ∷ 0 ∷ 0 ∷ 0 ∷ 0 ∷ 1 ∷ 0xB8 ∷ []

-- the word of the last two bytes of a head and two bytes 0
abbrev pub half_word : List ℕ → ℕ
half_word text = from_be_bytes w32 (slice_index text 20 ∷ slice_index text 21 ∷ 0 ∷ 0 ∷ [])

-- these six words are this head of 22 bytes, with two bytes 0 at the end of the last
pub record HasHead (words text : List ℕ) : Type 0 where
  pub long : length text ≡ 22
  pub same : words
      ≡ word_at text 0 ∷ word_at text 4 ∷ word_at text 8 ∷ word_at text 12 ∷ word_at text 16
      ∷ half_word text ∷ []

-- the last three bytes of a word and the first of another
abbrev pub joined_word : ℕ → ℕ → ℕ
joined_word x y = from_be_bytes w32
    (slice_index (to_be_bytes w32 x) 1 ∷ slice_index (to_be_bytes w32 x) 2 ∷ slice_index
    (to_be_bytes w32 x) 3 ∷ slice_index (to_be_bytes w32 y) 0 ∷ [])

-- the last three bytes of a word and the first of the padding
abbrev pub ended_word : ℕ → ℕ
ended_word x = from_be_bytes w32
    (slice_index (to_be_bytes w32 x) 1 ∷ slice_index (to_be_bytes w32 x) 2 ∷ slice_index
    (to_be_bytes w32 x) 3 ∷ 0x80 ∷ [])
