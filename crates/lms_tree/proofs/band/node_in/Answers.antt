use Rattle.std.proofs.Common.{◌≡◌, ◌+◌, ◌-◌, ◌*◌, ◌^◌, [], get_or, ◌∙◌, ap, arith}
use Rattle.lms_spec.specs.Tree.{node}
use Rattle.lms_tree.specs.declared.band.Row.{Row}
use Rattle.lms_tree.specs.TreeKey.{tree_of}
use Rattle.lms_tree.proofs.Rows.{place-fits}
use Rattle.lms_tree.proofs.band.node_in.Goals as goal

pub bounds-nodes-row : goal.bounds-nodes-row
bounds-nodes-row c =
    let place = ap (λ (row : Row). row.place + (c.args.r - row.first)) c.row-row.ensures.row in
    omega (
      arith,
      place,
      c.requires.count,
      place-fits c.args.rows c.args.level c.args.r c.requires.level c.requires.from c.requires.to,
    )

pub returns : goal.returns
returns c key held =
    let r = c.args.r in
    let first = c.args.rows.first * 2 ^ c.args.level in
    let place = ap (λ (row : Row). row.place + (r - row.first)) c.row-row.ensures.row in
    let back : first + (r - first) ≡ r = omega (arith, c.requires.from) in
    ap (λ k. get_or c.args.nodes.now k []) place
    ∙ (held.each c.args.level c.requires.level (r - first) (omega (arith, c.requires.to))
    ∙ ap (node (tree_of key)) back)
