-- The words of a head and values, block by block.
use Rattle.std.proofs.Common.{◌≡◌, ℕ, ◌<◌, ◌^◌, List, [], ◌∷◌, ◌++◌, drop, take, length, replicate, slice_index, refl}
use Rattle.std.proofs.Common.{sym, ap, ◌∙◌, arith}
use Rattle.std.proofs.lemmas.Simd.{pick_l_whole}
use Rattle.std.specs.Int.{from_be_bytes, to_be_bytes, w32}
use Rattle.sha2.specs.Sha256.{digest_bytes, first_words, word_at}
use Rattle.lms_lanes.specs.Chains.{HasHead}
use Rattle.lms_lanes.specs.Ends.{block_words, halves_word, padding_after_22, padding_after_54}

-- a word, from its bytes
word_back : (x : ℕ) → x < 2 ^ 32
    → from_be_bytes w32 (slice_index (to_be_bytes w32 x) 0 ∷ slice_index (to_be_bytes w32 x) 1
    ∷ slice_index (to_be_bytes w32 x) 2 ∷ slice_index (to_be_bytes w32 x) 3 ∷ []) ≡ x
word_back x fits = omega (arith, fits)

pub words_of_pair : (text value next : List ℕ) → length text ≡ 22
    → first_words ((text ++ digest_bytes value 8) ++ take 10 (digest_bytes next 8)) 16
    ≡ block_words text value (slice_index next 0) (halves_word (slice_index next 0) (slice_index next 1))
    (halves_word (slice_index next 1) (slice_index next 2))
unfolding first_words digest_bytes
words_of_pair text value next long =
    ap (λ (u : List ℕ). first_words ((u ++ digest_bytes value 8) ++ take 10 (digest_bytes next 8)) 16)
    (sym (pick_l_whole 0 text 22 long))

pub words_of_last_block_with : (text value : List ℕ) (bits : ℕ) → length text ≡ 22 → bits < 2 ^ 32
    → first_words ((text ++ digest_bytes value 8) ++ padding_after_54 bits) 16
    ≡ block_words text value 0x80000000 0 bits
unfolding first_words digest_bytes
words_of_last_block_with text value bits long fits =
    ap (λ (u : List ℕ). first_words ((u ++ digest_bytes value 8) ++ padding_after_54 bits) 16)
    (sym (pick_l_whole 0 text 22 long))
    ∙ ap (block_words text value 0x80000000 0) (word_back bits fits)

-- the words of 22 bytes and the padding after them
abbrev pub last_words : List ℕ → ℕ → List ℕ
last_words text bits =
    word_at text 0 ∷ word_at text 4 ∷ word_at text 8 ∷ word_at text 12 ∷ word_at text 16
    ∷ from_be_bytes w32 (slice_index text 20 ∷ slice_index text 21 ∷ 0x80 ∷ 0 ∷ []) ∷ replicate 9 0 ++ bits ∷ []

pub words_of_last_block : (text : List ℕ) (bits : ℕ) → length text ≡ 22 → bits < 2 ^ 32
    → first_words (text ++ padding_after_22 bits) 16 ≡ last_words text bits
unfolding first_words
words_of_last_block text bits long fits =
    ap (λ (u : List ℕ). first_words (u ++ padding_after_22 bits) 16) (sym (pick_l_whole 0 text 22 long))
    ∙ ap (last_words text) (word_back bits fits)

-- a value after its first ten bytes
pub head_of_rest : (words value : List ℕ)
    → words ≡ halves_word (slice_index value 2) (slice_index value 3)
    ∷ halves_word (slice_index value 3) (slice_index value 4) ∷ halves_word (slice_index value 4) (slice_index value 5)
    ∷ halves_word (slice_index value 5) (slice_index value 6) ∷ halves_word (slice_index value 6) (slice_index value 7)
    ∷ halves_word (slice_index value 7) 0 ∷ []
    → HasHead words (drop 10 (digest_bytes value 8))
unfolding digest_bytes
head_of_rest words value same = record { long = refl; same = same }
