-- The nodes that a source has to know, of a tree of height h of which a range of leaves is served.
use Rattle.std.specs.Prelude.{ℕ, ◌≡◌, ◌+◌, ◌/◌, ◌^◌, ◌<◌, ◌≤◌, ◌⊎◌}
use Rattle.lms_spec.specs.Tree.{sibling}

-- node r is in the path of a served leaf (5.4)
pub record IsInAPath (h first last r : ℕ) : Type 0 where
  pub leaf : ℕ
  pub level : ℕ
  pub from_first : first ≤ leaf
  pub to_last : leaf ≤ last
  pub below_root : level < h
  pub is_sibling : r ≡ sibling ((2 ^ h + leaf) / 2 ^ level)

-- the public key needs node r, or a signature by a served leaf does
abbrev pub IsNeeded : ℕ → ℕ → ℕ → ℕ → Type 0
IsNeeded h first last r = (r ≡ 1) ⊎ IsInAPath h first last r
