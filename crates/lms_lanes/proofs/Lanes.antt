-- What the operations on vectors give in each lane.
use Rattle.std.proofs.Common.{◌≡◌, ℕ, ◌<◌, List, [], ◌∷◌, length, get_or, slice_index, Fits, w32, refl, sym, ap, ◌∙◌}
use Rattle.std.proofs.Common.{arith}
use Rattle.std.proofs.lemmas.List.{get_or-map, length-map, map-set}
use Rattle.std.proofs.lemmas.Simd.{Each1-get_or, get_or-replicate, get_or-zip2, length-replicate, length-zip2}
use Rattle.std.proofs.lemmas.Simd.{pick_l_whole}
use Rattle.std.specs.Prelude.{map, replicate, set}
use Rattle.std.specs.Simd.Lanes.{zip2, Each1}
use Rattle.lms_lanes.specs.Lanes.{AreVectors, EachLane, lane_of}

-- a vector's own lanes
pub EachLane-self : (v : List ℕ) → length v ≡ 8 → EachLane v (slice_index v)
EachLane-self v wide = record { wide = wide; lane = λ k lt. refl }

-- an operator on one vector
pub EachLane-map : {v : List ℕ} {f : ℕ → ℕ} (op : ℕ → ℕ) → EachLane v f → EachLane (map op v) (λ k. op (f k))
EachLane-map {v} op x = record {
  wide = length-map v op ∙ x.wide;
  lane = λ k lt. get_or-map op v k 0 0 (omega (arith, x.wide)) ∙ rw (x.lane k lt) refl;
}

-- an operator on two vectors
pub EachLane-zip2 : {v w : List ℕ} {f g : ℕ → ℕ} (op : ℕ → ℕ → ℕ) → EachLane v f → EachLane w g
    → EachLane (zip2 op v w) (λ k. op (f k) (g k))
EachLane-zip2 {v} {w} op x y = record {
  wide = length-zip2 op v w (x.wide ∙ sym y.wide) ∙ x.wide;
  lane = λ k lt.
      get_or-zip2 op v w k 0 0 0 (omega (arith, x.wide)) (omega (arith, y.wide)) ∙ rw (x.lane k lt, y.lane k lt) refl;
}

-- one word in each lane
pub EachLane-splat : (word : ℕ) → EachLane (replicate 8 word) (λ _. word)
EachLane-splat word = record { wide = length-replicate 8 word; lane = λ k lt. get_or-replicate 8 k word 0 lt }

-- the same lanes by another function
pub EachLane-equal : {v : List ℕ} {f g : ℕ → ℕ} → EachLane v f → ((k : ℕ) → k < 8 → f k ≡ g k) → EachLane v g
EachLane-equal x e = record { wide = x.wide; lane = λ k lt. x.lane k lt ∙ e k lt }

-- one of several vectors
pub EachLane-get_or : (count : ℕ) (vs : List (List ℕ)) (i : ℕ) → AreVectors count vs → i < count
    → EachLane (get_or vs i []) (slice_index (get_or vs i []))
EachLane-get_or count vs i vectors lt =
    EachLane-self (get_or vs i []) (Each1-get_or (λ v. length v ≡ 8) vs i [] (omega (arith, vectors.long)) vectors.wide)

-- a lane fits its word
pub Fits-lane : (v : List ℕ) (k : ℕ) → length v ≡ 8 → Each1 (Fits w32) v → k < 8 → Fits w32 (slice_index v k)
Fits-lane v k wide fits lt = Each1-get_or (Fits w32) v k 0 (omega (arith, wide)) fits

pub length-lane_of : (count : ℕ) (vs : List (List ℕ)) (k : ℕ) → AreVectors count vs → length (lane_of vs k) ≡ count
length-lane_of count vs k vectors = length-map vs (λ v. slice_index v k) ∙ vectors.long

-- a lane's words, one by one
pub word_of_lane : (count : ℕ) (vs : List (List ℕ)) (k i : ℕ) → length vs ≡ count → i < count
    → slice_index (lane_of vs k) i ≡ slice_index (get_or vs i []) k
word_of_lane count vs k i long lt = get_or-map (λ v. slice_index v k) vs i [] 0 (omega arith)

-- a word of a lane, by its place
abbrev pub word_in : List (List ℕ) → ℕ → ℕ → ℕ
word_in vs k i = slice_index (get_or vs i []) k

-- eight words, by their places
abbrev pub eight : (ℕ → ℕ) → List ℕ
eight word = word 0 ∷ word 1 ∷ word 2 ∷ word 3 ∷ word 4 ∷ word 5 ∷ word 6 ∷ word 7 ∷ []

-- a lane of eight vectors
pub lane_of_eight : (vs : List (List ℕ)) (k : ℕ) → length vs ≡ 8 → lane_of vs k ≡ eight (word_in vs k)
lane_of_eight vs k long = ap (λ (u : List (List ℕ)). lane_of u k) (sym (pick_l_whole [] vs 8 long))

-- a lane of some vectors with another at a place
pub lane_of_set : (vs : List (List ℕ)) (k i : ℕ) (v : List ℕ)
    → lane_of (set vs i v) k ≡ set (lane_of vs k) i (slice_index v k)
lane_of_set vs k i v = map-set (λ u. slice_index u k) vs i v

-- lane k of these vectors is words k
pub record AreLanes (vs : List (List ℕ)) (words : ℕ → List ℕ) : Type 0 where
  pub wide : Each1 (λ v. length v ≡ 8) vs
  pub lane : (k : ℕ) → k < 8 → lane_of vs k ≡ words k

-- the end of a row of vectors
pub no_more : AreLanes [] (λ _. [])
no_more = record { wide = tt; lane = λ k lt. refl }

-- a vector before others
infixr 60 ◌beside◌
pub ◌beside◌ : {v : List ℕ} {f : ℕ → ℕ} {vs : List (List ℕ)} {words : ℕ → List ℕ}
    → EachLane v f → AreLanes vs words → AreLanes (v ∷ vs) (λ k. f k ∷ words k)
◌beside◌ x rest = record {
  wide = (x.wide, rest.wide);
  lane = λ k lt i. x.lane k lt i ∷ rest.lane k lt i;
}
