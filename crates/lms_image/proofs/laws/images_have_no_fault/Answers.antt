use Rattle.lms_image.proofs.Images.{image-has-no-fault}
use Rattle.lms_image.proofs.laws.images_have_no_fault.Goals as goal

pub returns : goal.returns
returns c = image-has-no-fault
