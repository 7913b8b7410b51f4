use Rattle.std.proofs.Common.{◌-◌, length, sym, ◌∙◌, ap, arith}
use Rattle.std.proofs.lemmas.List.{append-nil, length-map}
use Rattle.lms_spec.specs.Bytes.{u32str}
use Rattle.lms_tree.specs.Bands.{ServedLeaves}
use Rattle.lms_tree.specs.TreeKey.{tree_of}
use Rattle.lms_hss.specs.Levels.{level_of}
use Rattle.lms_hss.proofs.signed_tree.SignedTree.top.Goals as goal

pub returns : goal.returns
returns g c i from to =
    let first = ap (λ (t : ServedLeaves). t.first) c.in_ok-tree.ensures in
    let last = ap (λ (t : ServedLeaves). t.last) c.in_ok-tree.ensures in
    let count = ap length c.as_slice.ensures.levels ∙ sym (length-map c.args.key.now.levels level_of) in
    let head = c.in_ok-head.ensures.items
    ∙ (c.to_be_bytes.ensures ∙ (ap (λ n. u32str (n - 1)) count ∙ sym (append-nil _))) in
    record {
      tree = ap (λ (t : ServedLeaves). tree_of t.key) c.in_ok-tree.ensures ∙ c.top_tree.ensures;
      from = omega (arith, first, from);
      to = omega (arith, last, to);
      head = head;
    }
