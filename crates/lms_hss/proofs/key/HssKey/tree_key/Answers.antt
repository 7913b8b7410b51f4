use Rattle.std.proofs.Common.{◌+◌, ◌<◌, length, sym, ◌∙◌, ap, ap₂, arith}
use Rattle.lms_spec.specs.Hss.{level}
use Rattle.lms_spec.specs.Profile.{child, tree_at}
use Rattle.lms_tree.specs.TreeKey.{tree_of}
use Rattle.lms_hss.specs.Keys.{hss_key_of}
use Rattle.lms_hss.proofs.Forests.{tree-below}
use Rattle.lms_params.specs.declared.lms_type.LmsType.TheVariants.{H5}
use Rattle.lms_params.specs.declared.ots_type.OtsType.TheVariants.{W1}
use Rattle.lms_hss.proofs.Sets.{sets-of}
use Rattle.lms_hss.proofs.key.HssKey.tree_key.Goals as goal

pub loop-j-preserved : goal.loop-j-preserved
loop-j-preserved c =
    let whole = c.args.self.now in
    let key = hss_key_of whole in
    let j = c.loop-j.j in
    let below : j + 1 < length whole.levels = omega (arith, c.loop-j-test.true, c.requires) in
    c.child_key-tree.ensures
    ∙ (ap (child (tree_of c.loop-j.tree) c.leaf_of.result)
    (sets-of whole c.as_slice.result.now (j + 1) (H5, W1) c.as_slice.ensures.levels below)
    ∙ (ap₂ (λ t q. child t q (level key (j + 1))) c.loop-j.invariant c.leaf_of.ensures
    ∙ sym (tree-below key c.args.g j)))

pub returns : goal.returns
returns c = c.loop-j.invariant
    ∙ ap (tree_at (hss_key_of c.args.self.now) c.args.g) (omega (arith, c.loop-j-test.false, c.loop-j.auto.j-end))
