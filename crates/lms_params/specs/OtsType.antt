-- What an `OtsType` means.
use Rattle.lms_spec.specs.Parameters.{OtsSet, ots_w1, ots_w2, ots_w4, ots_w8}
use Rattle.lms_params.specs.declared.ots_type.OtsType.{OtsType}
use Rattle.lms_params.specs.declared.ots_type.OtsType.TheVariants.{W1, W2, W4, W8}

-- the set that a type names
abbrev pub ots_set_of : OtsType → OtsSet
ots_set_of W1 = ots_w1
ots_set_of W2 = ots_w2
ots_set_of W4 = ots_w4
ots_set_of W8 = ots_w8
