use Rattle.lms_world.proofs.Following.{one_call, one_more}
use Rattle.lms_key_commands.proofs.keygen.publish.Goals as goal

pub returns-in_err-write_flushed-clause-follows : goal.returns-in_err-write_flushed-clause-follows
returns-in_err-write_flushed-clause-follows g c =
    one_call c.in_err-write_flushed.ensures.logged c.in_err-write_flushed.ensures.acts

pub returns-in_err-print_capacity-clause-follows : goal.returns-in_err-print_capacity-clause-follows
returns-in_err-print_capacity-clause-follows g c =
    one_more (one_call c.in_ok-write_flushed.ensures.logged c.in_ok-write_flushed.ensures.acts)
    c.begin_printing.ensures.logged c.begin_printing.ensures.acts

pub returns-clause-follows : goal.returns-clause-follows
returns-clause-follows g c = one_more (one_call c.in_ok-write_flushed.ensures.logged c.in_ok-write_flushed.ensures.acts)
    c.begin_printing.ensures.logged c.begin_printing.ensures.acts
