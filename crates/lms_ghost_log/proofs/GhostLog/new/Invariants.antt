use Rattle.std.proofs.Common.{[]}
use Rattle.lms_ghost_log.proofs.GhostLog.new.Given as goal

abbrev pub ghost-of : goal.ghost-of
ghost-of g a = []
