use Rattle.std.proofs.Common.{Option, subst, sym}
use Rattle.lms_kept.specs.Ways.{Way}
use Rattle.lms_commands.specs.Logs.{LogsKeeping}
use Rattle.lms_signature_commands.proofs.sign.keep_signers.Goals as goal

pub returns-in-Some-clause-logged : goal.returns-in-Some-clause-logged
returns-in-Some-clause-logged g c =
    subst (λ (trees : Option Way).
    LogsKeeping trees (g.W.World.events c.args.world.now) (g.W.World.events c.keep_trees.new.world)) (sym c.in-Some.is)
    c.keep_trees.ensures.logged
