-- Levels as they are written and read, `5/8,10/4`.
use Rattle.std.specs.Prelude.{ℕ, ◌++◌, List, codes}
use Rattle.std.specs.Fmt.{decimal}
use Rattle.std.specs.List.{join_by}
use Rattle.lms_params.specs.LmsType.{lms_set_of}
use Rattle.lms_params.specs.OtsType.{ots_set_of}
use Rattle.lms_params.specs.declared.lms_type.LmsType.{LmsType}
use Rattle.lms_params.specs.declared.ots_type.OtsType.{OtsType}

-- a set's height, in decimal
abbrev pub height_text : LmsType → List ℕ
height_text lms = decimal (lms_set_of lms).h

-- a set's Winternitz width, in decimal
abbrev pub width_text : OtsType → List ℕ
width_text ots = decimal (ots_set_of ots).w

-- a level, as `5/8`
abbrev pub pair_text : LmsType × OtsType → List ℕ
pair_text pair = height_text pair.0 ++ codes "/" ++ width_text pair.1

-- levels from the top, with a comma between each two
abbrev pub levels_text : List (LmsType × OtsType) → List ℕ
levels_text pairs = join_by pair_text (codes ",") pairs
