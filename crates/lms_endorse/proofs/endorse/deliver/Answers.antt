use Rattle.std.proofs.Common.{◌∙◌, inl, refl}
use Rattle.lms_world.proofs.Following.{one_call, one_more, then_nothing}
use Rattle.lms_endorse.proofs.endorse.deliver.Goals as goal

pub returns-in_err-print_endorsed-in-Ok-clause-follows : goal.returns-in_err-print_endorsed-in-Ok-clause-follows
returns-in_err-print_endorsed-in-Ok-clause-follows g c =
    one_more (one_call c.write_file.ensures.logged c.write_file.ensures.acts) c.begin_printing.ensures.logged
    c.begin_printing.ensures.acts

pub returns-in_ok-print_endorsed-in-Ok-clause-follows : goal.returns-in_ok-print_endorsed-in-Ok-clause-follows
returns-in_ok-print_endorsed-in-Ok-clause-follows g c =
    one_more (one_call c.write_file.ensures.logged c.write_file.ensures.acts) c.begin_printing.ensures.logged
    c.begin_printing.ensures.acts

pub returns-in-Err-clause-follows : goal.returns-in-Err-clause-follows
returns-in-Err-clause-follows g c =
    then_nothing (one_call c.write_file.ensures.logged c.write_file.ensures.acts) c.explain.ensures.unlogged
    c.explain.ensures.same

pub returns-in-Err-clause-failed : goal.returns-in-Err-clause-failed
returns-in-Err-clause-failed g c =
    let logged = rw (c.deref.ensures.value, c.in-Err.is) at c.write_file.ensures.logged in
    (refl, (_, inl (c.in-Err.ensures.refused, c.explain.ensures.unlogged ∙ logged, refl)))
