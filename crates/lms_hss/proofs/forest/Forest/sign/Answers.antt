use Rattle.std.proofs.Common.{◌≡◌, ◌-◌, length, sym, ◌∙◌, ap, arith, subst}
use Rattle.std.proofs.lemmas.List.{length-map}
use Rattle.std.proofs.lemmas.Result.{IfOk-weaker}
use Rattle.lms_spec.specs.Hss.{HssAccepts}
use Rattle.lms_spec.specs.Profile.{leaf_at, hss_public_key}
use Rattle.lms_hss.specs.declared.key.HssKey.{HssKey}
use Rattle.lms_hss.specs.Levels.{level_of, IsAdmitted}
use Rattle.lms_hss.specs.Keys.{hss_key_of}
use Rattle.lms_hss.proofs.Keys.{key-accepts}
use Rattle.lms_hss.proofs.Forests.{signature-is}
use Rattle.lms_hss.proofs.forest.Forest.sign.Goals as goal

pub sign-requires-clause-from : goal.sign-requires-clause-from
sign-requires-clause-from c =
    let key = ap (λ v. v.key) c.self.view_is in
    let leaf = c.leaf_of.ensures
    ∙ ap (λ key. leaf_at (hss_key_of key) c.args.g (length c.as_slice.result.now - 1)) key in
    omega (arith, leaf, c.bottom_tree-tree.ensures.from)

pub sign-requires-clause-to : goal.sign-requires-clause-to
sign-requires-clause-to c =
    let key = ap (λ v. v.key) c.self.view_is in
    let leaf = c.leaf_of.ensures
    ∙ ap (λ key. leaf_at (hss_key_of key) c.args.g (length c.as_slice.result.now - 1)) key in
    omega (arith, leaf, c.bottom_tree-tree.ensures.to)

pub returns-clause-signature : goal.returns-clause-signature
returns-clause-signature c =
    let key = ap (λ v. v.key) c.self.view_is in
    let whole = c.args.self.now.key in
    let k = length c.as_slice.result.now - 1 in
    let leaf = c.leaf_of.ensures ∙ ap (λ key. leaf_at (hss_key_of key) c.args.g k) key in
    let levels = c.as_slice.ensures.levels ∙ ap (λ (key : HssKey). key.levels) key in
    let bottom : k ≡ length (hss_key_of whole).levels - 1 =
    omega (arith, length-map whole.levels level_of, ap length levels) in
    IfOk-weaker c.sign.result _ _
    (λ text is. is ∙ signature-is (hss_key_of whole) c.args.g k c.leaf_of.result c.bottom_tree-tree.result.now
    c.args.c.now c.args.msg.now
    c.bottom_tree-tree.ensures bottom leaf) c.sign.ensures

pub returns-clause-accepted : goal.returns-clause-accepted
returns-clause-accepted c =
    let key = ap (λ v. v.key) c.self.view_is in
    let whole = c.args.self.now.key in
    let admitted = subst (λ (key : HssKey). IsAdmitted key.levels) key c.as_slice.ensures.admitted in
    let sixteen = ap (λ (key : HssKey). length key.i) (sym key) ∙ c.self.invariant.0.id_length in
    IfOk-weaker c.sign.result _ _
    (λ text is. subst (HssAccepts (hss_public_key (hss_key_of whole)) c.args.msg.now) (sym is)
    (key-accepts whole c.args.g c.args.c.now c.args.msg.now admitted sixteen c.told-c)) (returns-clause-signature c)
