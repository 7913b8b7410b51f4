use Rattle.std.proofs.Common.{◌≡◌, ◌*◌, ◌%◌, ◌^◌, arith}
use Rattle.lms_tree.proofs.Rows.{depth-fits, row-fits, row-some}
use Rattle.lms_tree.proofs.band.Rows.row.Goals as goal

pub overflow_shl-count : goal.overflow_shl-count
overflow_shl-count c = omega (arith, depth-fits c.args.self c.requires.in_tree)

pub overflow_shl-result : goal.overflow_shl-result
overflow_shl-result c = omega (arith, depth-fits c.args.self c.requires.in_tree)

pub overflow_sub-result : goal.overflow_sub-result
overflow_sub-result c =
    omega (
      arith,
      row-fits 25 c.args.self c.args.level c.requires.in_tree c.requires.level,
      row-some c.args.self.width c.args.level,
    )

pub returns-clause-row : goal.returns-clause-row
returns-clause-row c =
    let rows = c.args.self in
    let level = c.args.level in
    let fits = row-fits 25 rows level c.requires.in_tree c.requires.level in
    let first : rows.first * 2 ^ level % 4294967296 ≡ rows.first * 2 ^ level = omega arith in
    let count : rows.width * 2 ^ level % 4294967296 ≡ rows.width * 2 ^ level = omega arith in
    rw (first, count)

pub returns-clause-in_tree : goal.returns-clause-in_tree
returns-clause-in_tree c = omega (arith, row-fits 25 c.args.self c.args.level c.requires.in_tree c.requires.level)

pub returns-clause-place : goal.returns-clause-place
returns-clause-place c =
    omega (
      arith,
      row-fits 25 c.args.self c.args.level c.requires.in_tree c.requires.level,
      row-some c.args.self.width c.args.level,
      c.requires.in_tree.some,
    )
