use Rattle.std.proofs.Common.{◌∙◌, ◌++◌, [], ap, inr, refl, subst, List, ℕ, Some}
use Rattle.lms_blocks.specs.Writing.{AppendsFront}
use Rattle.lms_world.proofs.Following.{both_follow, one_call, one_more}
use Rattle.lms_commands.specs.declared.fault.Fault.TheVariants.{WriteOutput}
use Rattle.lms_commands.proofs.Failing.{handed_on}
use Rattle.lms_inspect.proofs.Inspecting.{inspected, text_as}
use Rattle.lms_inspect.proofs.inspect.inspect_file.Goals as goal

pub returns-in_err-contents-clause-follows : goal.returns-in_err-contents-clause-follows
returns-in_err-contents-clause-follows g c = one_call c.open_file.ensures.logged c.open_file.ensures.acts

pub returns-in_err-found-clause-follows : goal.returns-in_err-found-clause-follows
returns-in_err-found-clause-follows g c = one_call c.open_file.ensures.logged c.open_file.ensures.acts

pub returns-in_err-witness-clause-follows : goal.returns-in_err-witness-clause-follows
returns-in_err-witness-clause-follows g c =
    both_follow (one_call c.open_file.ensures.logged c.open_file.ensures.acts) c.witness_for.ensures.follows

pub text_of-requires : goal.text_of-requires
text_of-requires g c =
    let handed = c.in_ok-hand_over.ensures.handed in
    (handed.0, (c.in_ok-found.ensures handed.0 (handed.2 [] c.new-keeper.ensures)).0)

pub returns-in_err-text-clause-follows : goal.returns-in_err-text-clause-follows
returns-in_err-text-clause-follows g c =
    both_follow (one_call c.open_file.ensures.logged c.open_file.ensures.acts) c.witness_for.ensures.follows

pub returns-in_err-print_text-clause-follows : goal.returns-in_err-print_text-clause-follows
returns-in_err-print_text-clause-follows g c =
    one_more
    (both_follow (one_call c.open_file.ensures.logged c.open_file.ensures.acts) c.witness_for.ensures.follows)
    c.begin_printing.ensures.logged c.begin_printing.ensures.acts

pub returns-clause-follows : goal.returns-clause-follows
returns-clause-follows g c =
    one_more
    (both_follow (one_call c.open_file.ensures.logged c.open_file.ensures.acts) c.witness_for.ensures.follows)
    c.begin_printing.ensures.logged c.begin_printing.ensures.acts

pub returns-in_err-print_text-clause-log_failed : goal.returns-in_err-print_text-clause-log_failed
returns-in_err-print_text-clause-log_failed g c =
    let last = g.W.World.events c.witness_for.new.world in
    let found = c.in_ok-found.found in
    let witness = c.in_ok-witness.witness in
    let before = c.args.output.now in
    let handed = c.in_ok-hand_over.ensures.handed in
    let is = c.in_ok-found.ensures handed.0 (handed.2 [] c.new-keeper.ensures) in
    let made = text_as found witness c.in_ok-text.ensures.text c.kept.ensures (is.1 witness) in
    let front = subst (λ (text : List ℕ). AppendsFront (Some before) (Some c.print_text.new.output) text)
    (c.deref.ensures.value ∙ made)
    c.in_err-print_text.ensures.broken in
    let inspects = inspected c.args.file.now _ handed.0 found witness _ _ last handed.1 is.0
    c.in_ok-contents.ensures.logged c.in_ok-witness.ensures.looks in
    handed_on _ WriteOutput _ c.from_residual-in_err-print_text.ensures.1
    (inr (refl, (last, inspects, c.begin_printing.ensures.logged, front)))

pub returns-clause-logged : goal.returns-clause-logged
returns-clause-logged g c =
    let last = g.W.World.events c.witness_for.new.world in
    let found = c.in_ok-found.found in
    let witness = c.in_ok-witness.witness in
    let before = c.args.output.now in
    let handed = c.in_ok-hand_over.ensures.handed in
    let is = c.in_ok-found.ensures handed.0 (handed.2 [] c.new-keeper.ensures) in
    let made = text_as found witness c.in_ok-text.ensures.text c.kept.ensures (is.1 witness) in
    let inspects = inspected c.args.file.now _ handed.0 found witness _ _ last handed.1 is.0
    c.in_ok-contents.ensures.logged c.in_ok-witness.ensures.looks in (
      last,
      inspects,
      c.status.ensures,
      c.in_ok-print_text.ensures.printed ∙ ap (λ (text : List ℕ). before ++ text) (c.deref.ensures.value ∙ made),
      c.begin_printing.ensures.logged,
    )
