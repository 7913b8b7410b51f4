-- The lines that describe a key.
use Rattle.std.specs.Prelude.{ℕ, ◌-◌, ◌++◌, List, codes}
use Rattle.std.specs.Fmt.{decimal}
use Rattle.lms_spec.specs.Hss.{capacity_of}
use Rattle.lms_hss.specs.Keys.{hss_key_of}
use Rattle.lms_hss.specs.declared.key.HssKey.{HssKey}
use Rattle.lms_hss.specs.Texts.{levels_text}

-- a word and a number
abbrev pub number_line : List ℕ → ℕ → List ℕ
number_line word number = word ++ codes " " ++ decimal number ++ codes "\n"

abbrev pub levels_line : HssKey → List ℕ
levels_line key = codes "levels " ++ levels_text key.levels ++ codes "\n"

-- a key's levels, the indices used so far, those that there are, and those that are left
abbrev pub indices_text : HssKey → ℕ → List ℕ
indices_text key counter = let capacity = capacity_of (hss_key_of key) in
    levels_line key ++ number_line (codes "counter") counter
    ++ number_line (codes "capacity") capacity
    ++ number_line (codes "left") (capacity - counter)

-- and the openings that stored something, and the indices that were burnt
abbrev pub info_text : HssKey → ℕ → ℕ → ℕ → List ℕ
info_text key counter openings burnt =
    indices_text key counter ++ number_line (codes "openings") openings
    ++ number_line (codes "burnt") burnt
