use Rattle.std.proofs.Common.{◌≡◌, ◌^◌, ◌<◌, ◌≤◌, drop}
use Rattle.std.specs.List.{AllByRecursion}
use Rattle.lms_hss.specs.Levels.{most_height}
use Rattle.lms_inspect.specs.Indices.{IsInTree, indexed, indexed_from}
use Rattle.lms_inspect.proofs.text.index_of.Given as goal

abbrev pub invariant-loop-keyed : goal.invariant-loop-keyed
invariant-loop-keyed l = record {
  same : indexed_from l.height l.index (drop l.keyed-index l.keyed-items) ≡ indexed l.fn.parts.top l.keyed-items;
  short : l.height ≤ most_height;
  small : l.index < 2 ^ l.height;
  trees : AllByRecursion (λ keyed. IsInTree keyed.level) (drop l.keyed-index l.keyed-items);
}
