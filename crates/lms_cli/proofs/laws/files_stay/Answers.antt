use Rattle.lms_cli.proofs.FilesStaying.{files_stay_at}
use Rattle.lms_cli.proofs.laws.files_stay.Goals as goal

pub returns : goal.returns
returns c = files_stay_at
