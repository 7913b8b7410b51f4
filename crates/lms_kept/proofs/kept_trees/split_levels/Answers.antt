use Rattle.std.proofs.Common.{ℕ, ◌≡◌, ◌+◌, ◌<◌, List, [], ◌∷◌, ◌++◌, length, get_or, length-append, sym, ◌∙◌, ap, arith}
use Rattle.std.proofs.Common.{subst}
use Rattle.std.specs.List.{flat_map}
use Rattle.lms_tree.specs.TreeKey.{tree_of}
use Rattle.lms_tree.specs.Kept.{ServesLeaf}
use Rattle.lms_kept.specs.declared.kept_level.KeptLevel.{KeptLevel}
use Rattle.lms_hss.specs.Keys.{hss_key_of}
use Rattle.lms_kept.specs.Ways.{IsOnWay, level_text}
use Rattle.lms_kept.proofs.KeptTexts.{one-more-text}
use Rattle.lms_kept.proofs.Ways.{one-more}
use Rattle.lms_kept.proofs.kept_trees.split_levels.Goals as goal

pub loop-k-preserved : goal.loop-k-preserved
loop-k-preserved c =
    let key = hss_key_of c.args.key.now in
    let at = c.args.at in
    let k = c.loop-k.k in
    let here = c.loop-k.invariant in
    let levels = c.loop-k.levels.items in
    let level = c.in-Some.level in
    let more = c.in_ok-push-in-Some.ensures.items in
    let key_is = rw c.in-Some.is at c.in_ok-level.ensures.key in
    let served_is = rw c.in-Some.is at c.in_ok-level.ensures.served in
    let shape_is = rw c.in-Some.is at c.in_ok-level.ensures.shape in
    let signed_is = rw c.in-Some.is at c.in_ok-level.ensures.signed in
    let text_is = rw c.in-Some.is at c.in_ok-level.ensures.text in
    let on : IsOnWay key at k level = record {
      tree = ap tree_of key_is ∙ c.tree_key-tree.ensures;
      served = subst (ServesLeaf level.tree) c.leaf_of.ensures served_is;
      shape = shape_is;
      signed = signed_is ∙ c.signed_len.ensures;
    } in
    record {
      count = omega (arith, here.count, ap length more, length-append levels (level ∷ []));
      each = subst (λ (levels : List KeptLevel).
          (j : ℕ) (other : KeptLevel) → j < k + 1 → IsOnWay key at j (get_or levels j other)) (sym more)
          (one-more (IsOnWay key at) k levels level here.count here.each on);
      text = subst
          (λ (levels : List KeptLevel). c.args.text.now ≡ flat_map level_text levels ++ c.in-Some.after.now) (sym more)
          (one-more-text levels level c.args.text.now c.loop-k.rest.now c.in-Some.after.now here.text text_is);
    }
