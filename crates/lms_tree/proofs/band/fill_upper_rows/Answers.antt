use Rattle.std.proofs.Common.{◌≡◌, ◌+◌, ◌-◌, ◌*◌, ◌^◌, sym, ◌∙◌, ap, arith, subst, ⊎_elim}
use Rattle.std.proofs.Math.Nat.{eq-or-lt_of_le}
use Rattle.lms_tree.specs.declared.band.Row.{Row}
use Rattle.lms_tree.specs.TreeKey.{tree_of}
use Rattle.lms_tree.specs.Held.{row_of, row_below, HoldsRow}
use Rattle.lms_tree.proofs.Rows.{row-fits, row-some, row-ends, row-next, twice, count-nodes}
use Rattle.lms_tree.proofs.band.fill_upper_rows.Goals as goal

pub fill_row-requires-clause-inner : goal.fill_row-requires-clause-inner
fill_row-requires-clause-inner c =
    let rows = c.args.rows in
    let level = c.loop-level.level - 1 in
    let sum = ap (λ (row : Row). row.first + row.count) c.row.ensures.row in
    omega (
      arith,
      sum,
      twice (rows.first + rows.width) level,
      row-fits (tree_of c.args.key.now).lms.h rows (level + 1) c.requires.in_tree
          (omega (arith, c.loop-level.invariant.down, c.loop-level-test.true)),
    )

pub fill_row-requires-clause-fits : goal.fill_row-requires-clause-fits
fill_row-requires-clause-fits c =
    let rows = c.args.rows in
    let level = c.loop-level.level - 1 in
    let places = ap (λ (row : Row). row.place + 3 * row.count) c.row.ensures.row in
    omega (
      arith,
      places,
      c.loop-level.invariant.count,
      row-some rows.width level,
      count-nodes rows,
      row-ends rows.width level rows.depth (omega (arith, c.loop-level.invariant.down, c.loop-level-test.true)),
    )

pub fill_row-requires-clause-below : goal.fill_row-requires-clause-below
fill_row-requires-clause-below c =
    let rows = c.args.rows in
    let nodes = c.loop-level.nodes in
    let level = c.loop-level.level - 1 in
    let here : level + 1 ≡ c.loop-level.level = omega (arith, c.loop-level-test.true) in
    let held : HoldsRow c.args.key.now (row_of rows (level + 1)) nodes
    = c.loop-level.invariant.held (level + 1) (omega arith) (omega (arith, c.loop-level.invariant.down)) in
    subst (λ (row : Row). HoldsRow c.args.key.now (row_below row) nodes) (sym c.row.ensures.row)
    (subst (λ (row : Row). HoldsRow c.args.key.now row nodes) (row-next rows level) held)

pub loop-level-preserved : goal.loop-level-preserved
loop-level-preserved c =
    let rows = c.args.rows in
    let key = c.args.key.now in
    let nodes = c.fill_row.new.nodes in
    let level = c.loop-level.level - 1 in
    let here = c.loop-level.invariant in
    let end = ap (λ (row : Row). row.place + row.count) c.row.ensures.row in
    let row : HoldsRow key (row_of rows level) nodes
    = subst (λ (row : Row). HoldsRow key row nodes) c.row.ensures.row c.fill_row.ensures.row in
    record {
      down = omega (arith, here.down);
      count = c.fill_row.ensures.count ∙ here.count;
      held = λ lower from to. ⊎_elim
          (λ e. subst (λ l. HoldsRow key (row_of rows l) nodes) e row)
          (λ lt i low. c.fill_row.ensures.others (rows.width * 2 ^ lower - rows.width + i)
          (omega (arith, end, row-some rows.width level, row-ends rows.width level lower lt))
          ∙ here.held lower (omega (arith, lt)) to i low)
          (eq-or-lt_of_le {n = level} {m = lower} from);
    }
