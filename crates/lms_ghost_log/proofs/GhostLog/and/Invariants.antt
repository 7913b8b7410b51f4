use Rattle.std.proofs.Common.{◌∷◌}
use Rattle.lms_ghost_log.proofs.GhostLog.and.Given as goal

abbrev pub ghost-of : goal.ghost-of
ghost-of g a = g.T.Logged.entry a._second.now ∷ a._first.now.value.list
