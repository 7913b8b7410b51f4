-- Chains in an order in which they are walked.
use Rattle.std.specs.Prelude.{ℕ, ◌≡◌, ◌<◌, ◌%◌, List, slice_index}

-- the chain at a place of an order: the last 16 bits of the number there
abbrev pub chain_in : List ℕ → ℕ → ℕ
chain_in order place = slice_index order place % 65536

-- the first `count` places hold chains below `count`, and each of these
pub record IsOrder (order : List ℕ) (count : ℕ) : Type 0 where
  pub within : (place : ℕ) → place < count → chain_in order place < count
  pub each : (i : ℕ) → i < count → (place : ℕ) × (place < count) × (chain_in order place ≡ i)
