use Rattle.std.proofs.Common.{◌≡◌, ◌++◌, length, ◌∙◌, ap, ap₂, arith, subst}
use Rattle.std.specs.List.{flat_map}
use Rattle.std.proofs.lemmas.List.{take_all}
use Rattle.lms_hss.specs.Keys.{hss_key_of}
use Rattle.lms_kept.specs.Ways.{IsWay, Way, body_text, check_of, level_text, nodes_header, nodes_text}
use Rattle.lms_kept.proofs.TextLengths.{text-short}
use Rattle.lms_kept.proofs.kept_trees.KeptTrees.text.Goals as goal

whole-text : (c : goal.In_ok-extend_from_slice) → c.extend_from_slice.new.self.items ≡ nodes_text c.args.self.now
whole-text c =
    let now = c.args.self.now in
    let key = ap (λ (v : Way). hss_key_of v.key) c.self.view_is in
    let levels = ap (λ (v : Way). v.levels) c.self.view_is in
    let whole : c.loop-level.text.items ≡ body_text now
    = c.loop-level.invariant ∙ ap (λ xs. nodes_header now.at ++ flat_map level_text xs)
    (take_all c.loop-level.level-index c.deref-level-items.result.now (omega (arith, c.loop-level-test.false))
    ∙ (c.deref-level-items.ensures.value ∙ levels)) in
    c.in_ok-extend_from_slice.ensures.items
    ∙ ap₂ (λ x y. x ++ y) whole (c.check_value-check.ensures ∙ ap₂ check_of key (c.deref.ensures.value ∙ whole))

pub returns-clause-text : goal.returns-clause-text
returns-clause-text = whole-text

pub returns-clause-at_most : goal.returns-clause-at_most
returns-clause-at_most c =
    omega (arith, ap length (whole-text c), text-short c.args.self.now (subst IsWay c.self.view_is c.self.invariant))
