-- What an `LmsType` means.
use Rattle.lms_spec.specs.Parameters.{LmsSet, lms_h5, lms_h10, lms_h15, lms_h20, lms_h25}
use Rattle.lms_params.specs.declared.lms_type.LmsType.{LmsType}
use Rattle.lms_params.specs.declared.lms_type.LmsType.TheVariants.{H5, H10, H15, H20, H25}

-- the set that a type names
abbrev pub lms_set_of : LmsType → LmsSet
lms_set_of H5 = lms_h5
lms_set_of H10 = lms_h10
lms_set_of H15 = lms_h15
lms_set_of H20 = lms_h20
lms_set_of H25 = lms_h25
