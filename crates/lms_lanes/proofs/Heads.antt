-- The words of a head in a lane, and of a block that begins with one.
use Rattle.std.proofs.Common.{◌≡◌, ℕ, ◌*◌, ◌/◌, ◌<◌, ◌^◌, List, [], ◌∷◌, ◌++◌, length, slice_index, take, ap}
use Rattle.std.proofs.Common.{◌∙◌, arith}
use Rattle.std.proofs.lemmas.Simd.{pick_l_whole}
use Rattle.std.specs.Int.{from_be_bytes, to_be_bytes, w32}
use Rattle.sha2.specs.Sha256.{add32, word_at}
use Rattle.lms_lanes.specs.Chains.{HasHead, half_word}
use Rattle.lms_lanes.specs.Lanes.{lane_of}
use Rattle.lms_lanes.proofs.Lanes.{word_in}

-- lane k of six vectors has the head `text`
module _ (head : List (List ℕ)) (k : ℕ) (text : List ℕ) (long : length head ≡ 6) (has : HasHead (lane_of head k) text)
  where
    words_of_head : word_in head k 0 ∷ word_in head k 1 ∷ word_in head k 2 ∷ word_in head k 3 ∷ word_in head k 4
        ∷ word_in head k 5 ∷ []
        ≡ word_at text 0 ∷ word_at text 4 ∷ word_at text 8 ∷ word_at text 12 ∷ word_at text 16 ∷ half_word text ∷ []
    words_of_head = ap (λ (u : List (List ℕ)). lane_of u k) (pick_l_whole [] head 6 long) ∙ has.same

    half_of_head : word_in head k 5 ≡ half_word text
    half_of_head = ap (λ (u : List ℕ). slice_index u 5) words_of_head

    -- the first five words, a sixth, and others
    pub block_of_head : {sixth x : ℕ} {others xs : List ℕ} → sixth ≡ x → others ≡ xs
        → word_in head k 0 ∷ word_in head k 1 ∷ word_in head k 2 ∷ word_in head k 3 ∷ word_in head k 4 ∷ sixth ∷ others
        ≡ word_at text 0 ∷ word_at text 4 ∷ word_at text 8 ∷ word_at text 12 ∷ word_at text 16 ∷ x ∷ xs
    block_of_head first rest = λ i. take 5 (words_of_head i) ++ first i ∷ rest i

    -- the last two bytes, a byte and the first of a word, put together by sums
    pub opened_word : (byte x : ℕ) → word_in head k 5 < 2 ^ 32 → byte < 256 → x < 2 ^ 32
        → add32 (add32 (word_in head k 5) (byte * 256)) (x / 2 ^ 24)
        ≡ from_be_bytes w32 (slice_index text 20 ∷ slice_index text 21 ∷ byte ∷ slice_index (to_be_bytes w32 x) 0 ∷ [])
    opened_word byte x half small fits = omega (arith, half_of_head, half, small, fits)

    -- the last two bytes and the first two of a word, put together by a sum
    pub opened_half : (x : ℕ) → word_in head k 5 < 2 ^ 32 → x < 2 ^ 32
        → add32 (word_in head k 5) (x / 2 ^ 16)
        ≡ from_be_bytes w32 (slice_index text 20 ∷ slice_index text 21
        ∷ slice_index (to_be_bytes w32 x) 0 ∷ slice_index (to_be_bytes w32 x) 1 ∷ [])
    opened_half x half fits = omega (arith, half_of_head, half, fits)
