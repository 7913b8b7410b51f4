use Rattle.std.proofs.Common.{rules, ◌+◌, [], ◌∷◌, length, length-append, sym, ap, arith, subst}
use Rattle.lms_hss.specs.Keys.{hss_key_of}
use Rattle.lms_hss.specs.Forests.{HoldsTrees}
use Rattle.lms_hss.proofs.Forests.{number-order, holds-more}
use Rattle.lms_hss.proofs.level_trees.LevelTrees.below.Goals as goal

pub loop-number-preserved : goal.loop-number-preserved
loop-number-preserved g c =
    let key = hss_key_of c.args.key.now in
    let k = c.args.k in
    let n = c.loop-number.number in
    let more = c.push_reserved.ensures.items in
    let trees = c.loop-number.trees.items in
    let tree = c.in_ok-tree.tree in
    let held = holds-more key (k + 1) c.args.start c.args.last c.tree_number-first.result n trees tree
    c.loop-number.invariant.held c.loop-number.invariant.count c.in_ok-tree.ensures in
    record {
      count = omega (arith, c.loop-number.invariant.count, ap length more, length-append trees (tree ∷ []));
      capacity = omega (arith, c.loop-number.invariant.capacity, c.push_reserved.ensures.capacity);
      held = subst (HoldsTrees key (k + 1) c.args.start c.args.last c.tree_number-first.result) (sym more) held;
      kept = search rules;
    }

pub returns : goal.returns
returns g c =
    let key = hss_key_of c.args.key.now in
    let order = number-order key (c.args.k + 1) c.args.start c.args.last c.requires.order in
    record {
      first = c.tree_number-first.ensures;
      count = omega (
        arith,
        c.loop-number.invariant.count,
        c.tree_number-first.ensures,
        c.tree_number-end.ensures,
        c.loop-number-test.false,
        c.loop-number.auto.number-end,
        order,
      );
      held = c.loop-number.invariant.held;
    }
