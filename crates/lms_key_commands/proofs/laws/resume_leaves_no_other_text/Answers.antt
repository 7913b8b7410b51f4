use Rattle.lms_key_commands.proofs.ResumeStops.{resume_leaves_no_other_text}
use Rattle.lms_key_commands.proofs.laws.resume_leaves_no_other_text.Goals as goal

pub returns : goal.returns
returns c = resume_leaves_no_other_text
