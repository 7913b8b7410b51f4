use Rattle.std.proofs.Common.{◌+◌, arith, ap}
use Rattle.lms_tree.specs.declared.band.Row.{Row}
use Rattle.lms_tree.proofs.Rows.{lowest-ends}
use Rattle.lms_tree.proofs.band.Rows.len.Goals as goal

pub returns : goal.returns
returns c =
    let all = ap (λ (row : Row). row.place + row.count) c.row-lowest.ensures.row in
    omega (arith, all, lowest-ends c.args.self)
