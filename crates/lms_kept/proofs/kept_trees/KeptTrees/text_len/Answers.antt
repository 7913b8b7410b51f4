use Rattle.std.proofs.Common.{suc, ◌≡◌, ◌+◌, length, refl, sym, ◌∙◌, ap, ap₂, arith, subst}
use Rattle.lms_hss.specs.Keys.{hss_key_of}
use Rattle.lms_kept.specs.Ways.{IsWay, level_length, Way}
use Rattle.lms_kept.proofs.KeptTexts.{sum-from, sum-more}
use Rattle.lms_kept.proofs.TextLengths.{text-length}
use Rattle.lms_kept.proofs.kept_trees.KeptTrees.text_len.Goals as goal

pub loop-k-init : goal.loop-k-init
unfolding sum-from
loop-k-init c = (refl, omega arith)

pub loop-k-preserved : goal.loop-k-preserved
loop-k-preserved c =
    let key = hss_key_of c.args.self.now.key in
    let k = c.loop-k.k in
    let here : k ≡ 0 + k = omega arith in
    let next : k + 1 ≡ suc k = omega arith in
    let long : c.level_len-length.result ≡ level_length key (0 + k)
    = c.level_len-length.ensures.length ∙ ap₂ level_length (ap (λ (v : Way). hss_key_of v.key) c.self.view_is) here in
    let more : sum-from key 0 (k + 1) ≡ sum-from key 0 k + level_length key (0 + k) =
    ap (sum-from key 0) next ∙ sum-more key 0 k in (
      omega (arith, long, more, c.loop-k.invariant.0),
      omega (arith, c.loop-k.invariant.1, c.level_len-length.ensures.limit),
    )

pub returns : goal.returns
returns c =
    let way = c.args.self.now in
    let count : c.loop-k.k ≡ length way.levels
    = omega (
      arith,
      c.loop-k-test.false,
      c.loop-k.auto.k-end,
      c.len-k-end.ensures,
      ap (λ (v : Way). length v.levels) c.self.view_is,
    ) in
    c.loop-k.invariant.0
    ∙ (ap (λ n. 48 + sum-from (hss_key_of way.key) 0 n) count
    ∙ sym (text-length way (subst IsWay c.self.view_is c.self.invariant)))
