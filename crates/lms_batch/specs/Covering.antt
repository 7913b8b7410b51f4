-- Ranges of indices whose trees are there.
use Rattle.std.specs.Prelude.{◌≡◌, ℕ, ◌+◌, ◌≤◌}
use Rattle.lms_hss.specs.Covered.{Covered}
use Rattle.lms_hss.specs.declared.key.HssKey.{HssKey as KeyOfCode}

abbrev pub covering : KeyOfCode → ℕ → ℕ → Covered
covering key start len = record { key = key; start = start; len = len }

-- these indices of a key are among those that are covered
pub record IsWithin (key : KeyOfCode) (start len : ℕ) (covered : Covered) : Type 0 where
  pub key_is : covered.key ≡ key
  pub from : covered.start ≤ start
  pub to : start + len ≤ covered.start + covered.len
