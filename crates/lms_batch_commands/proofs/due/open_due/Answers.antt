use Rattle.std.proofs.Common.{inr, refl, subst, sym}
use Rattle.std.specs.Prelude.{Bool, IsTrue}
use Rattle.lms_commands.specs.Logs.{KeyState, WorldCalls, state_of}
use Rattle.lms_commands.proofs.Logged.{left_so}
use Rattle.lms_commands.proofs.Signings.{just_opened}
use Rattle.lms_batch_commands.specs.Serving.{FindsNoState, IsDue, due_of}
use Rattle.lms_commands.specs.declared.fault.Fault.TheVariants.{ReadState}
use Rattle.lms_world.proofs.Following.{one_more, then_nothing}
use Rattle.lms_batch_commands.proofs.due.open_due.Goals as goal

pub returns-clause-follows : goal.returns-clause-follows
returns-clause-follows g c =
    then_nothing (one_more c.in-Ok.ensures.follows c.put_back.ensures.logged c.put_back.ensures.acts)
    c.discard.ensures.unlogged c.discard.ensures.same

pub returns-clause-refused : goal.returns-clause-refused
returns-clause-refused g c =
    let book = c.in-Ok.opened.0 in
    let opens = c.in-Ok.ensures.logged in
    let leaves = left_so book book _ _ _ _ opens.1 (just_opened book c.in-Ok.ensures.fresh) c.close.ensures.store
    c.put_back.ensures.logged refl in
    let other : ¬ IsDue (due_of c.args.due.now) (state_of book) =
    λ due_is. cc (subst (λ (b : Bool). IsTrue b) c.if-is_due.false
    (c.is_due.ensures.1
    (subst (λ (s : KeyState). IsDue (due_of c.args.due.now) s) (sym c.image_read.ensures) due_is))) in
    subst (λ (log : WorldCalls). FindsNoState ReadState (due_of c.args.due.now) (g.W.World.events c.args.world.now) log)
    (sym c.discard.ensures.unlogged)
    (inr (refl, (state_of book, (record { watch = _; admitted = opens.0 }, leaves), other)))
