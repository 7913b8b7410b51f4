-- What an `HssKey` means, and which trees its indices go through.
use Rattle.std.specs.Prelude.{ℕ, ◌/◌, ◌^◌, drop}
use Rattle.lms_spec.specs.Hss.{HssKey, height_of}
use Rattle.lms_hss.specs.Levels.{levels_of}
use Rattle.lms_hss.specs.declared.key.HssKey.{HssKey as KeyOfCode}

-- the private key
abbrev pub hss_key_of : KeyOfCode → HssKey
hss_key_of key = record { levels = levels_of key.levels; id = key.i; seed = key.seed }

-- the number of the tree of level k that index g goes through, counted in its level
abbrev pub tree_number : HssKey → ℕ → ℕ → ℕ
tree_number key g k = g / 2 ^ height_of (drop k key.levels)
