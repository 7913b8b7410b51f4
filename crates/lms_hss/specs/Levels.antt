-- What a list of levels means, and which lists the signer takes.
use Rattle.std.specs.Prelude.{ℕ, ◌≡◌, ◌-◌, ◌<◌, ◌≤◌, List, ◌++◌, length, map, take, replicate, Result}
use Rattle.std.specs.Prelude.Result.{Ok, Err}
use Rattle.lms_spec.specs.Hss.{Level, height_of, most_levels}
use Rattle.lms_params.specs.LmsType.{lms_set_of}
use Rattle.lms_params.specs.OtsType.{ots_set_of}
use Rattle.lms_params.specs.declared.lms_type.LmsType.{LmsType}
use Rattle.lms_params.specs.declared.ots_type.OtsType.{OtsType}
use Rattle.lms_params.specs.declared.lms_type.LmsType.TheVariants.{H5}
use Rattle.lms_params.specs.declared.ots_type.OtsType.TheVariants.{W1}
use Rattle.lms_hss.specs.declared.fault.KeyFault.{KeyFault}
use Rattle.lms_hss.specs.declared.fault.KeyFault.TheVariants.{NoLevels, TooManyLevels, TooTall}

-- the sets of a level
abbrev pub level_of : LmsType × OtsType → Level
level_of sets = record { lms = lms_set_of sets.0; ots = ots_set_of sets.1 }

-- the sets of each level
abbrev pub levels_of : List (LmsType × OtsType) → List Level
levels_of levels = map level_of levels

-- the most that the heights of a signer's levels add up to, so that an index fits 64 bits
abbrev pub most_height : ℕ
most_height = 60

-- eight places: the levels in the first ones, and H5 with W1 in the others
abbrev pub padded : List (LmsType × OtsType) → List (LmsType × OtsType)
padded levels = levels ++ replicate (most_levels - length levels) (H5, W1)

-- the signer takes these levels
pub record IsAdmitted (levels : List (LmsType × OtsType)) : Type 0 where
  pub some_level : 1 ≤ length levels
  pub eight_at_most : length levels ≤ most_levels
  pub not_too_tall : height_of (levels_of levels) ≤ most_height

-- eight places: `count` levels that the signer takes in the first ones, and H5 with W1 in the
-- others
pub record IsHeld (count : ℕ) (sets : List (LmsType × OtsType)) : Type 0 where
  pub count_is : length (take count sets) ≡ count
  pub others_unused : sets ≡ padded (take count sets)
  pub admitted : IsAdmitted (take count sets)

-- what is answered for a list of levels: the list, or the first fault that it has
abbrev pub JudgesLevels : List (LmsType × OtsType) → Result (List (LmsType × OtsType)) KeyFault
    → Type 0
JudgesLevels levels (Ok taken) = (taken ≡ levels) × IsAdmitted levels
JudgesLevels levels (Err NoLevels) = length levels ≡ 0
JudgesLevels levels (Err TooManyLevels) = most_levels < length levels
JudgesLevels levels (Err TooTall) =
    (1 ≤ length levels) × (length levels ≤ most_levels)
    × (most_height < height_of (levels_of levels))
