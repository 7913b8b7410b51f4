use Rattle.std.proofs.Common.{ℕ, ◌≡◌, ◌+◌, ◌-◌, ◌*◌, ◌/◌, ◌^◌, List, ◌++◌, length, map, take, sym, ◌∙◌, ap}
use Rattle.std.proofs.Common.{ap₂, arith}
use Rattle.std.proofs.lemmas.List.{take_all}
use Rattle.std.proofs.lemmas.Slice.{take-put_mid}
use Rattle.std.specs.List.{concat}
use Rattle.lms_spec.specs.Bytes.{below}
use Rattle.lms_spec.specs.Tree.{node, sibling}
use Rattle.lms_spec.proofs.Below.{concat-below-suc}
use Rattle.lms_params.specs.LmsType.{lms_set_of}
use Rattle.lms_tree.specs.TreeKey.{tree_of}
use Rattle.lms_tree.proofs.signing.write_path.Goals as goal

pub loop-level-preserved : goal.loop-level-preserved
loop-level-preserved g c right =
    let level = c.loop-level.level in
    let out = c.loop-level.out in
    let value = c.copy_from_slice.new.self in
    let tree = tree_of (g.N.NodeSource.tree_key c.args.source.now) in
    let f : ℕ → List ℕ = λ level. node tree (sibling ((2 ^ tree.lms.h + c.args.q) / 2 ^ level)) in
    let tall : (lms_set_of c.key-key.result.lms).h ≡ tree.lms.h =
    ap (λ key. (tree_of key).lms.h) c.key-key.ensures.key in
    let leaf : c.leaf_count.result + c.args.q ≡ 2 ^ tree.lms.h + c.args.q
    = ap (λ n. n + c.args.q) (c.leaf_count.ensures.count ∙ ap (λ h. 2 ^ h) tall) in
    let next : value ≡ f level
    = c.copy_from_slice.ensures.after
    ∙ (c.node-value.ensures right ∙ ap (node tree) (c.sibling.ensures ∙ ap (λ r. sibling (r / 2 ^ level)) leaf)) in
    let written : take (32 * (level + 1)) _ ≡ take (32 * level) out ++ value
    = take-put_mid (32 * level) (32 * level + 32 - 32 * level) out value (32 * (level + 1)) (omega arith)
    (omega (arith, tall)) in
    written ∙ (ap₂ (λ x y. x ++ y) (c.loop-level.invariant right) next ∙ sym (concat-below-suc f level))

pub returns-clause-path : goal.returns-clause-path
returns-clause-path g c right =
    let tree = tree_of (g.N.NodeSource.tree_key c.args.source.now) in
    let f : ℕ → List ℕ = λ level. node tree (sibling ((2 ^ tree.lms.h + c.args.q) / 2 ^ level)) in
    let tall = ap (λ key. (tree_of key).lms.h) c.key-key.ensures.key in
    let end : c.loop-level.level ≡ tree.lms.h =
    omega (arith, tall, c.height-level-end.ensures, c.loop-level-test.false, c.loop-level.auto.level-end) in
    let long : length c.loop-level.out ≡ 32 * tree.lms.h = c.loop-level.auto.out ∙ c.requires.long in
    sym (take_all (32 * c.loop-level.level) c.loop-level.out (omega (arith, long, end)))
    ∙ (c.loop-level.invariant right ∙ ap (λ n. concat (map f (below n))) end)
