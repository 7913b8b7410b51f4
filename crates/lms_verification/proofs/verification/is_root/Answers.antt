use Rattle.std.proofs.Common.{◌∙◌, ap, sym}
use Rattle.std.proofs.lemmas.Bool.Decides.{Decides-eqb, Decides-like}
use Rattle.std.proofs.lemmas.Slice.Eq.{slice_eq-Decides}
use Rattle.lms_spec.specs.Tree.{climb}
use Rattle.lms_verification.proofs.verification.is_root.Goals as goal

pub returns : goal.returns
returns c =
    let end = c.climb.ensures
    ∙ ap (λ value. climb c.args.i.now c.args.leaf value c.args.path.now) c.leaf_hash.ensures in
    Decides-like c.eq.result (λ e. sym end ∙ e) (λ e. end ∙ e)
    (slice_eq-Decides Decides-eqb c.climb.result c.args.root.now c.eq.result c.eq.ensures)
