use Rattle.std.proofs.Common.{◌≡◌, ◌*◌, ◌≤◌, take}
use Rattle.lms_spec.specs.Hss.{height_of}
use Rattle.lms_hss.specs.Levels.{levels_of}
use Rattle.lms_hss.proofs.levels.height.Given as goal

abbrev pub invariant-loop-lms : goal.invariant-loop-lms
invariant-loop-lms l = (l.height ≡ height_of (levels_of (take l.lms-index l.sets))) × (l.height ≤ 25 * l.lms-index)
