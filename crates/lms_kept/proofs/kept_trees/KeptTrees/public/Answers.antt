use Rattle.std.proofs.Common.{◌≡◌, ◌<◌, ◌++◌, length, sym, ◌∙◌, ap, ap₂, arith, subst}
use Rattle.std.proofs.lemmas.List.{get_or_default}
use Rattle.lms_spec.specs.Bytes.{u32str}
use Rattle.lms_spec.specs.Tree.{public_key_of}
use Rattle.lms_spec.specs.Profile.{hss_public_key}
use Rattle.lms_tree.specs.Kept.{given_public}
use Rattle.lms_hss.specs.declared.key.HssKey.{HssKey}
use Rattle.lms_kept.specs.declared.kept_level.KeptLevel.{KeptLevel}
use Rattle.lms_hss.specs.Keys.{hss_key_of}
use Rattle.lms_kept.specs.Ways.{IsGenuine, Way}
use Rattle.lms_kept.proofs.Ways.{levels-count}
use Rattle.lms_kept.proofs.kept_trees.KeptTrees.public.Goals as goal

pub returns-clause-given : goal.returns-clause-given
returns-clause-given c other =
    let whole = c.args.self.now.key in
    let key = ap (λ (v : Way). v.key) c.self.view_is in
    let levels : length c.as_slice-levels.result.now ≡ length whole.levels
    = ap length c.as_slice-levels.ensures.levels ∙ ap (λ (key : HssKey). length key.levels) key in
    let held : length c.self.inside.levels.items ≡ length c.args.self.now.levels =
    ap (λ (v : Way). length v.levels) c.self.view_is in
    let low : 0 < length c.args.self.now.levels = omega (arith, held, c.self.invariant.some) in
    let first = c.level.ensures.level ∙ get_or_default c.args.self.now.levels 0 c.level.result.now other low in
    c.public_key_bytes.ensures
    ∙ ap₂ (λ n text. u32str n ++ text) levels
    (c.public_bytes.ensures.given ∙ ap (λ (level : KeptLevel). given_public level.tree) first)

pub returns-clause-right : goal.returns-clause-right
unfolding hss_public_key
returns-clause-right c genuine =
    let whole = c.args.self.now.key in
    let key = ap (λ (v : Way). v.key) c.self.view_is in
    let same_levels : length c.self.inside.key.levels ≡ length whole.levels =
    ap (λ (key : HssKey). length key.levels) key in
    let levels : length c.as_slice-levels.result.now ≡ length (hss_key_of whole).levels
    = ap length c.as_slice-levels.ensures.levels ∙ (same_levels ∙ sym (levels-count whole)) in
    let held : length c.self.inside.levels.items ≡ length c.args.self.now.levels =
    ap (λ (v : Way). length v.levels) c.self.view_is in
    let low : 0 < length c.args.self.now.levels = omega (arith, held, c.self.invariant.some) in
    let here = subst (IsGenuine (hss_key_of whole) c.args.self.now.at 0) (sym c.level.ensures.level)
    (genuine 0 c.level.result.now low) in
    c.public_key_bytes.ensures
    ∙ ap₂ (λ n text. u32str n ++ text) levels
    (c.public_bytes.ensures.right here.nodes ∙ ap public_key_of c.level.ensures.way.tree)
