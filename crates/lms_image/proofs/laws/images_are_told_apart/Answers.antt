use Rattle.lms_image.proofs.Images.{image-same}
use Rattle.lms_image.proofs.laws.images_are_told_apart.Goals as goal

pub returns : goal.returns
returns c = image-same
