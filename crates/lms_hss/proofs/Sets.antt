-- The sets of one level.
use Rattle.std.proofs.Common.{ℕ, ◌≡◌, ◌<◌, List, length, get_or, sym, ◌∙◌, ap, arith}
use Rattle.std.proofs.Math.ListN.{get_or-map}
use Rattle.std.proofs.lemmas.List.{get_or_default, length-map}
use Rattle.lms_spec.specs.Hss.{level as level_at, no_level}
use Rattle.lms_params.specs.declared.lms_type.LmsType.{LmsType}
use Rattle.lms_params.specs.declared.ots_type.OtsType.{OtsType}
use Rattle.lms_hss.specs.declared.key.HssKey.{HssKey as KeyOfCode}
use Rattle.lms_hss.specs.Keys.{hss_key_of}
use Rattle.lms_hss.specs.Levels.{level_of, levels_of}

-- the sets of level k of a key
pub level-there : (levels : List (LmsType × OtsType)) (k : ℕ) (other : LmsType × OtsType) → k < length levels
    → level_of (get_or levels k other) ≡ get_or (levels_of levels) k no_level
level-there levels k other there =
    sym (get_or-map level_of levels k other)
    ∙ get_or_default (levels_of levels) k (level_of other) no_level (omega (arith, length-map levels level_of))

-- the sets of level k of a key, by its list of levels
pub sets-of : (key : KeyOfCode) (levels : List (LmsType × OtsType)) (k : ℕ) (other : LmsType × OtsType)
    → levels ≡ key.levels → k < length key.levels
    → level_of (get_or levels k other) ≡ level_at (hss_key_of key) k
sets-of key levels k other same there =
    level-there levels k other (omega (arith, there, ap length same))
    ∙ ap (λ levels. get_or (levels_of levels) k no_level) same
