-- What contracts see of a `Forest`.
use Rattle.std.specs.Prelude.{ℕ, ◌+◌, ◌<◌, ◌≤◌}
use Rattle.lms_hss.specs.declared.key.HssKey.{HssKey}
use Rattle.lms_spec.specs.Hss.{capacity_of}
use Rattle.lms_tree.specs.Bands.{most_served}
use Rattle.lms_hss.specs.Keys.{hss_key_of}

-- the most indices of a forest
abbrev pub most_covered : ℕ
most_covered = most_served

-- a forest can cover the `len` indices from `start` on
pub record CanCover (key : HssKey) (start len : ℕ) : Type 0 where
  pub some : 1 ≤ len
  pub at_most : len ≤ most_covered
  pub within : start + len ≤ capacity_of (hss_key_of key)

-- a key, and a range of its indices
pub record Covered : Type 0 where
  pub key : HssKey
  pub start : ℕ
  pub len : ℕ

-- the index is in the range
abbrev pub IsCovered : Covered → ℕ → Type 0
IsCovered covered g = (covered.start ≤ g) × (g < covered.start + covered.len)
