use Rattle.std.proofs.Common.{◌∙◌}
use Rattle.lms_inspect.proofs.Lines.{index-next}
use Rattle.lms_inspect.proofs.text.index_of.Goals as goal

pub loop-keyed-preserved : goal.loop-keyed-preserved
loop-keyed-preserved c =
    let was = c.loop-keyed.invariant in
    let step = index-next c.loop-keyed.height c.height-own.result c.loop-keyed.index c.from.result c.loop-keyed.keyed-index
    c.deref-keyed-items.result.now _ c.loop-keyed-test.true c.height-own.ensures c.from.ensures
    c.if-height-gt-MOST_HEIGHT.false was.small was.trees in
    record {
      same = step.0 ∙ was.same;
      short = c.if-height-gt-MOST_HEIGHT.false;
      small = step.1;
      trees = step.2;
    }
