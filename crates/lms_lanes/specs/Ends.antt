-- What the hash over the ends of a key's chains is over: a head of 22 bytes and values of 32.
use Rattle.std.specs.Prelude.{ℕ, ◌≡◌, List, [], ◌∷◌, ◌++◌, length, map, replicate, slice_index}
use Rattle.std.specs.List.{concat, range_with_len}
use Rattle.std.specs.Int.{from_be_bytes, to_be_bytes, w16, w32}
use Rattle.sha2.specs.Sha256.{word_at}
use Rattle.lms_lanes.specs.Chains.{walked}

-- the end of a chain by its number: its head is the front and the number
abbrev pub end_of : List ℕ → ℕ → ℕ → List ℕ → ℕ → List ℕ
end_of front first steps start number = walked (front ++ to_be_bytes w16 number) first steps start

-- the front, a mark, and the ends of so many chains
abbrev pub ends_text : List ℕ → ℕ → ℕ → ℕ → ℕ → List ℕ → List ℕ
ends_text front mark count first steps start =
    front ++ to_be_bytes w16 mark
    ++ concat (map (end_of front first steps start) (range_with_len 0 count))

-- these five words are these 20 bytes
pub record HasFront (words text : List ℕ) : Type 0 where
  pub long : length text ≡ 20
  pub same : words
      ≡ word_at text 0 ∷ word_at text 4 ∷ word_at text 8 ∷ word_at text 12 ∷ word_at text 16 ∷ []

-- the last two bytes of a word and the first two of another
abbrev pub halves_word : ℕ → ℕ → ℕ
halves_word x y =
    from_be_bytes w32
    (slice_index (to_be_bytes w32 x) 2 ∷ slice_index (to_be_bytes w32 x) 3
    ∷ slice_index (to_be_bytes w32 y) 0 ∷ slice_index (to_be_bytes w32 y) 1 ∷ [])

-- the words of 22 bytes, a value of eight words, the first two bytes of a word, and two words
abbrev pub block_words : List ℕ → List ℕ → ℕ → ℕ → ℕ → List ℕ
block_words text value next before_last last =
    word_at text 0 ∷ word_at text 4 ∷ word_at text 8 ∷ word_at text 12 ∷ word_at text 16
    ∷ from_be_bytes w32
    (slice_index text 20 ∷ slice_index text 21
    ∷ slice_index (to_be_bytes w32 (slice_index value 0)) 0
    ∷ slice_index (to_be_bytes w32 (slice_index value 0)) 1 ∷ [])
    ∷ halves_word (slice_index value 0) (slice_index value 1)
    ∷ halves_word (slice_index value 1) (slice_index value 2)
    ∷ halves_word (slice_index value 2) (slice_index value 3)
    ∷ halves_word (slice_index value 3) (slice_index value 4)
    ∷ halves_word (slice_index value 4) (slice_index value 5)
    ∷ halves_word (slice_index value 5) (slice_index value 6)
    ∷ halves_word (slice_index value 6) (slice_index value 7)
    ∷ halves_word (slice_index value 7) next ∷ before_last ∷ last ∷ []

-- the padding in a last block after 54 bytes (FIPS 180-4, 5.1.1)
abbrev pub padding_after_54 : ℕ → List ℕ
padding_after_54 bits = 0x80 ∷ replicate 5 0 ++ to_be_bytes w32 bits

-- the padding in a last block after 22 bytes
abbrev pub padding_after_22 : ℕ → List ℕ
padding_after_22 bits = 0x80 ∷ replicate 37 0 ++ to_be_bytes w32 bits
