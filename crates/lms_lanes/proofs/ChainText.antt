-- The words that a step of a chain hashes.
use Rattle.std.proofs.Common.{◌≡◌, ℕ, List, [], ◌∷◌, ◌++◌, length, slice_index, sym, ap, ◌∙◌}
use Rattle.std.proofs.lemmas.Simd.{pick_l_whole}
use Rattle.std.specs.Int.{from_be_bytes, to_be_bytes, w32}
use Rattle.sha2.specs.Sha256.{digest_bytes, first_words, word_at}
use Rattle.lms_lanes.specs.Lanes.{four_at}
use Rattle.lms_lanes.specs.Chains.{ended_word, joined_word, short_padding}

pub words_of_step : (text value : List ℕ) (byte : ℕ) → length text ≡ 22
    → first_words ((text ++ byte ∷ digest_bytes value 8) ++ short_padding) 16
    ≡ word_at text 0 ∷ word_at text 4 ∷ word_at text 8 ∷ word_at text 12 ∷ word_at text 16
    ∷ from_be_bytes w32
    (slice_index text 20 ∷ slice_index text 21 ∷ byte ∷ slice_index (to_be_bytes w32 (slice_index value 0)) 0 ∷ [])
    ∷ joined_word (slice_index value 0) (slice_index value 1) ∷ joined_word (slice_index value 1) (slice_index value 2)
    ∷ joined_word (slice_index value 2) (slice_index value 3) ∷ joined_word (slice_index value 3) (slice_index value 4)
    ∷ joined_word (slice_index value 4) (slice_index value 5) ∷ joined_word (slice_index value 5) (slice_index value 6)
    ∷ joined_word (slice_index value 6) (slice_index value 7) ∷ ended_word (slice_index value 7) ∷ 0 ∷ 440 ∷ []
unfolding first_words digest_bytes
words_of_step text value byte long =
    ap (λ (u : List ℕ). first_words ((u ++ byte ∷ digest_bytes value 8) ++ short_padding) 16)
    (sym (pick_l_whole 0 text 22 long))

-- a value, from its words
pub digest_of_words : (value words : List ℕ)
    → words ≡ word_at value 0 ∷ word_at value 4 ∷ word_at value 8 ∷ word_at value 12 ∷ word_at value 16
    ∷ word_at value 20 ∷ word_at value 24 ∷ word_at value 28 ∷ []
    → length value ≡ 32
    → to_be_bytes w32 (word_at value 0) ≡ four_at value 0 → to_be_bytes w32 (word_at value 4) ≡ four_at value 4
    → to_be_bytes w32 (word_at value 8) ≡ four_at value 8 → to_be_bytes w32 (word_at value 12) ≡ four_at value 12
    → to_be_bytes w32 (word_at value 16) ≡ four_at value 16 → to_be_bytes w32 (word_at value 20) ≡ four_at value 20
    → to_be_bytes w32 (word_at value 24) ≡ four_at value 24 → to_be_bytes w32 (word_at value 28) ≡ four_at value 28
    → digest_bytes words 8 ≡ value
unfolding digest_bytes
digest_of_words value words same long b0 b1 b2 b3 b4 b5 b6 b7 =
    ap (λ (u : List ℕ). digest_bytes u 8) same
    ∙ (λ i. ((((((([] ++ b0 i) ++ b1 i) ++ b2 i) ++ b3 i) ++ b4 i) ++ b5 i) ++ b6 i) ++ b7 i)
    ∙ pick_l_whole 0 value 32 long
