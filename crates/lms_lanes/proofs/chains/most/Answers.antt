use Rattle.std.proofs.Common.{rules, arith}
use Rattle.lms_lanes.proofs.chains.most.Goals as goal

pub lanes-preserved : goal.lanes-preserved
lanes-preserved c = record {
  bound = search rules;
  least = λ n h. omega (arith, c.max-most.ensures, h c.lanes.k c.lanes-test.true, c.lanes.invariant.least n h);
}
