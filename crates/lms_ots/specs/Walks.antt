-- Chains under way.
use Rattle.std.specs.Prelude.{ℕ, ◌≡◌, ◌<◌, ◌-◌, ◌⊎◌, List, ◌++◌, slice_index}
use Rattle.lms_lanes.specs.Chains.{walked}
use Rattle.lms_spec.specs.Bytes.{u16str}
use Rattle.lms_spec.specs.Hashing.{hash_prefix}
use Rattle.lms_ots.specs.Orders.{chain_in}

-- the value of chain i, from its start, where so many of its steps are left
abbrev pub chain_at : List ℕ → ℕ → List ℕ → List ℕ → (ℕ → List ℕ) → ℕ → ℕ → List ℕ
chain_at id q firsts steps starts i left =
    walked (hash_prefix id q ++ u16str i) (slice_index firsts i) (slice_index steps i - left)
    (starts i)

-- the chain at a place of an order has no steps left, or a lane
abbrev pub IsTaken : List ℕ → List ℕ → List ℕ → ℕ → Type 0
IsTaken order chains left place =
    (slice_index left (chain_in order place) ≡ 0)
    ⊎ ((k : ℕ) × (k < 8) × (slice_index chains k ≡ chain_in order place))
