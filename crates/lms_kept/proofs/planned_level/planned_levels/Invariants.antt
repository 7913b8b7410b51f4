use Rattle.std.proofs.Common.{◌+◌, ◌≤◌, length, vec_capacity}
use Rattle.lms_hss.specs.Keys.{hss_key_of}
use Rattle.lms_kept.specs.Ways.{ArePlanned}
use Rattle.lms_kept.proofs.planned_level.planned_levels.Given as goal

abbrev pub invariant-loop-k : goal.invariant-loop-k
invariant-loop-k l = record {
  down : l.from ≤ l.k;
  capacity : length l.key.levels ≤ l.from + vec_capacity l.plans;
  planned : ArePlanned (hss_key_of l.key) l.at l.k l.plans.items;
}

abbrev pub decreases-loop-k : goal.decreases-loop-k
decreases-loop-k l = l.k
