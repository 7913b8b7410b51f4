use Rattle.std.proofs.Common.{slice_set, ◌∙◌, ap₂, arith, length, ap}
use Rattle.lms_spec.specs.Profile.{leaf_at}
use Rattle.lms_params.proofs.Filling.{set-filled}
use Rattle.lms_hss.specs.Keys.{hss_key_of}
use Rattle.lms_hss.proofs.key.HssKey.places.Goals as goal

pub loop-k-preserved : goal.loop-k-preserved
loop-k-preserved c =
    let leaf = leaf_at (hss_key_of c.args.self.now) c.args.g in
    let levels = ap length c.as_slice-k-end.ensures.levels in
    let few = c.as_slice-k-end.ensures.admitted.eight_at_most in
    ap₂ (λ xs v. slice_set xs c.loop-k.k v) c.loop-k.invariant c.leaf_of.ensures
    ∙ set-filled leaf 8 c.loop-k.k (omega (arith, levels, few))
