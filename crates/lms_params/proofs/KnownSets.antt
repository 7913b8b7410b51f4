-- The sets that the types name are known by their typecodes.
use Rattle.std.proofs.Common.{◌≡◌, Some, refl}
use Rattle.lms_spec.specs.Parameters.{ots_set, lms_set}
use Rattle.lms_params.specs.declared.lms_type.LmsType.{LmsType}
use Rattle.lms_params.specs.declared.lms_type.LmsType.TheVariants.{H5, H10, H15, H20, H25}
use Rattle.lms_params.specs.declared.ots_type.OtsType.{OtsType}
use Rattle.lms_params.specs.declared.ots_type.OtsType.TheVariants.{W1, W2, W4, W8}
use Rattle.lms_params.specs.LmsType.{lms_set_of}
use Rattle.lms_params.specs.OtsType.{ots_set_of}

pub known_ots_set : (t : OtsType) → ots_set (ots_set_of t).code ≡ Some (ots_set_of t)
known_ots_set W1 = refl
known_ots_set W2 = refl
known_ots_set W4 = refl
known_ots_set W8 = refl

pub known_lms_set : (lms : LmsType) → lms_set (lms_set_of lms).code ≡ Some (lms_set_of lms)
known_lms_set H5 = refl
known_lms_set H10 = refl
known_lms_set H15 = refl
known_lms_set H20 = refl
known_lms_set H25 = refl
