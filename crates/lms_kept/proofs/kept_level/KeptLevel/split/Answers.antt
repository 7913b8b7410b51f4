use Rattle.std.proofs.Common.{length, ◌∙◌, ap, arith}
use Rattle.lms_kept.proofs.kept_level.KeptLevel.split.Goals as goal

pub returns-in_default-split_nodes-2-clause-none : goal.returns-in_default-split_nodes-2-clause-none
returns-in_default-split_nodes-2-clause-none c =
    omega (
      arith,
      c.in-Some.ensures.cases.4,
      c.in-Some-split_nodes.ensures.rest,
      c.in_default-split_nodes-2.ensures.none,
      c.counts-in_upper.ensures.upper,
      c.counts-in_upper.ensures.lower 0,
    )

pub unreachable-requires : goal.unreachable-requires
unreachable-requires c =
    let upper = ap length c.in_ok-upper.ensures.items
    ∙ (c.in-Some-split_nodes.ensures.count ∙ c.counts-in_upper.ensures.upper) in
    let lower = ap length c.in_ok-lower.ensures.items
    ∙ (c.in-Some-split_nodes-2.ensures.count ∙ c.counts-in_upper.ensures.lower 0) in
    c.in-None.ensures.none upper lower
