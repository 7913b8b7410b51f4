use Rattle.lms_image.proofs.Faultless.{faultless-are-images}
use Rattle.lms_image.proofs.laws.faultless_texts_are_images.Goals as goal

pub returns : goal.returns
returns c = faultless-are-images
