use Rattle.std.proofs.Common.{◌≡◌, ◌*◌, ◌^◌, ◌≤◌, take, sum_by}
use Rattle.lms_hss.specs.Levels.{levels_of}
use Rattle.lms_kept.specs.Ways.{leaves_of}
use Rattle.lms_kept.proofs.levels.leaves_of_levels.Given as goal

abbrev pub invariant-loop-lms : goal.invariant-loop-lms
invariant-loop-lms l =
    (l.leaves ≡ sum_by leaves_of (levels_of (take l.lms-index l.levels))) × (l.leaves ≤ 2 ^ 25 * l.lms-index)
