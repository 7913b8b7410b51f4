use Rattle.lms_world.proofs.Following.{one_more}
use Rattle.lms_key_commands.proofs.info.describe_locked.Goals as goal

pub returns-in_err-print_info-clause-follows : goal.returns-in_err-print_info-clause-follows
returns-in_err-print_info-clause-follows g c =
    one_more c.in_ok-image.ensures.follows c.begin_printing.ensures.logged c.begin_printing.ensures.acts

pub returns-clause-follows : goal.returns-clause-follows
returns-clause-follows g c =
    one_more c.in_ok-image.ensures.follows c.begin_printing.ensures.logged c.begin_printing.ensures.acts
