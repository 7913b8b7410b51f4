use Rattle.lms_batch_commands.proofs.laws.serves_each_line.Goals as goal
use Rattle.lms_batch_commands.proofs.ServedLines as served_lines

pub returns : goal.returns
returns c = served_lines.serves_each_line
