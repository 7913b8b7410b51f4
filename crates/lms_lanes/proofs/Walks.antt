-- A chain's value after one more step, where it takes one.
use Rattle.std.proofs.Common.{◌≡◌, ℕ, suc, Bool, true, false, ltb, ◌+◌, ◌%◌, ◌<◌, ◌≤◌, List, ◌∷◌, ◌++◌, min, refl, ap}
use Rattle.std.proofs.Common.{◌∙◌, arith}
use Rattle.std.proofs.lemmas.Bool.{ltb-true, ltb-false}
use Rattle.sha2.specs.Sha256.{sha256}
use Rattle.lms_lanes.specs.Chains.{walked}

pub walked-next : (head value before after : List ℕ) (first i steps : ℕ)
    → before ≡ walked head first (min i steps) value
    → (i < steps → after ≡ sha256 (head ++ (first + i) % 256 ∷ before)) → (steps ≤ i → after ≡ before)
    → after ≡ walked head first (min (i + 1) steps) value
walked-next head value before after first i steps so_far taken left = by (ltb i steps) refl
  where
    by : (b : Bool) → ltb i steps ≡ b → after ≡ walked head first (min (i + 1) steps) value
    by true e =
        let lt : i < steps = ltb-true i steps e in
        let here : min i steps ≡ i = omega (arith, lt) in
        let next : suc i ≡ min (i + 1) steps = omega (arith, lt) in
        taken lt ∙ ap (λ x. sha256 (head ++ (first + i) % 256 ∷ x)) (so_far ∙ ap (λ n. walked head first n value) here)
        ∙ ap (λ n. walked head first n value) next
    by false e =
        let le : steps ≤ i = ltb-false i steps e in
        let same : min i steps ≡ min (i + 1) steps = omega (arith, le) in
        left le ∙ so_far ∙ ap (λ n. walked head first n value) same
