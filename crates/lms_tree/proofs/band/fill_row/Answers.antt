use Rattle.std.proofs.Common.{ℕ, ◌≡◌, ◌≢◌, ◌+◌, ◌*◌, ◌^◌, ◌<◌, ◌≤◌, List, [], get_or, set, sym, ◌∙◌, ap, ap₂, arith}
use Rattle.std.proofs.Common.{rules, ⊎_elim}
use Rattle.std.proofs.lemmas.List.{get_or-set_same, get_or-set_other}
use Rattle.std.proofs.Math.Nat.{eq-or-lt_of_le}
use Rattle.lms_spec.specs.Tree.{inner_hash, node}
use Rattle.lms_spec.proofs.Nodes.{node-inner}
use Rattle.lms_tree.specs.declared.tree_key.TreeKey.{TreeKey}
use Rattle.lms_tree.specs.declared.band.Row.{Row}
use Rattle.lms_tree.specs.TreeKey.{tree_of}
use Rattle.lms_tree.specs.Held.{row_below, HoldsRow}
use Rattle.lms_tree.proofs.band.fill_row.Goals as goal

-- one more node, which its children in the row below give
from-children : (key : TreeKey) (row : Row) (nodes : List (List ℕ)) (i : ℕ) (value : List ℕ)
    → 1 ≤ row.first → row.first + row.count ≤ 2 ^ (tree_of key).lms.h → i < row.count
    → HoldsRow key (row_below row) nodes
    → value ≡ inner_hash key.i (row.first + i) (get_or nodes (row.place + row.count + 2 * i) [])
    (get_or nodes (row.place + row.count + 2 * i + 1) [])
    → value ≡ node (tree_of key) (row.first + i)
from-children key row nodes i value some inner here below is =
    let tree = tree_of key in
    let r = row.first + i in
    let start = row.place + row.count in
    let left : get_or nodes (start + 2 * i) [] ≡ node tree (2 * r) =
    below (2 * i) (omega arith) ∙ ap (node tree) (omega arith) in
    let place : start + 2 * i + 1 ≡ start + (2 * i + 1) = omega arith in
    let right : get_or nodes (start + 2 * i + 1) [] ≡ node tree (2 * r + 1)
    = ap (λ k. get_or nodes k []) place ∙ (below (2 * i + 1) (omega arith) ∙ ap (node tree) (omega arith)) in
    is ∙ (ap₂ (inner_hash key.i r) left right ∙ sym (node-inner tree r (omega arith) (omega arith)))

pub loop-i-preserved : goal.loop-i-preserved
loop-i-preserved c =
    let row = c.args.row in
    let tree = tree_of c.args.key.now in
    let nodes = c.loop-i.nodes in
    let i = c.loop-i.i in
    let value = c.inner_hash.result in
    let here = c.loop-i.invariant in
    let below : HoldsRow c.args.key.now (row_below row) nodes
    = λ k low. here.others (row.place + row.count + k) (omega arith) ∙ c.requires.below k low in
    let is = from-children c.args.key.now row nodes i value c.requires.from_root c.requires.inner c.loop-i-test.true
    below c.inner_hash.ensures in
    record {
      count = search rules;
      so_far = λ k low. ⊎_elim
          (λ e. ap (λ k. get_or (set nodes (row.place + i) value) (row.place + k) []) e
          ∙ (get_or-set_same nodes (row.place + i) value []
          (omega (arith, c.requires.fits, here.count, c.loop-i-test.true))
          ∙ (is ∙ ap (λ k. node tree (row.first + k)) (sym e))))
          (λ lt. let apart : row.place + k ≢ row.place + i = omega arith in
          get_or-set_other nodes (row.place + i) (row.place + k) value [] apart ∙ here.so_far k lt)
          (eq-or-lt_of_le {n = k} {m = i} (omega arith));
      others = λ k after. let apart : k ≢ row.place + i = omega (arith, c.loop-i-test.true) in
          get_or-set_other nodes (row.place + i) k value [] apart ∙ here.others k after;
    }
