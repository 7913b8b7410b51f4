use Rattle.std.proofs.Common.{◌++◌, length, ap₂}
use Rattle.std.proofs.lemmas.List.{drop-replicate}
use Rattle.lms_params.specs.declared.lms_type.LmsType.TheVariants.{H5}
use Rattle.lms_params.specs.declared.ots_type.OtsType.TheVariants.{W1}
use Rattle.lms_hss.proofs.levels.padded.Goals as goal

pub returns : goal.returns
returns c = ap₂ (λ xs ys. xs ++ ys) c.copy_from_slice.ensures.after (drop-replicate (length c.args.sets.now) 8 (H5, W1))
