-- Vectors of eight lanes, each with a word of its own hash.
use Rattle.std.specs.Prelude.{◌≡◌, ◌<◌, ◌+◌, ℕ, List, [], ◌∷◌, length, slice_index, map}
use Rattle.std.specs.Simd.Lanes.{Each1}

-- lane k of the vector v is f k
pub record EachLane (v : List ℕ) (f : ℕ → ℕ) : Type 0 where
  pub wide : length v ≡ 8
  pub lane : (k : ℕ) → k < 8 → slice_index v k ≡ f k

-- so many vectors, each of eight lanes
pub record AreVectors (count : ℕ) (vs : List (List ℕ)) : Type 0 where
  pub long : length vs ≡ count
  pub wide : Each1 (λ v. length v ≡ 8) vs

-- lane k of each of some vectors
abbrev pub lane_of : List (List ℕ) → ℕ → List ℕ
lane_of vs k = map (λ v. slice_index v k) vs

-- four bytes from a place on
abbrev pub four_at : List ℕ → ℕ → List ℕ
four_at text at =
    slice_index text at ∷ slice_index text (at + 1) ∷ slice_index text (at + 2) ∷ slice_index text
    (at + 3) ∷ []
