use Rattle.std.proofs.Common.{sym, ◌∙◌, subst₂}
use Rattle.std.proofs.lemmas.Bool.{false≢true}
use Rattle.lms_spec.specs.Hss.{HssAccepts}
use Rattle.lms_kept.proofs.kept_trees.KeptTrees.sign.Goals as goal

pub returns-else-verify-clause-refused : goal.returns-else-verify-clause-refused
returns-else-verify-clause-refused c genuine =
    let right = subst₂ (λ public text. HssAccepts public c.args.msg.now text) (sym (c.public.ensures.right genuine))
    (sym c.deref.ensures.value)
    (c.unverified-text.ensures.accepted genuine) in
    absurd (false≢true (sym c.if-verify.false ∙ c.verify.ensures.1 right))

pub returns-then-verify-clause-checked : goal.returns-then-verify-clause-checked
returns-then-verify-clause-checked c other =
    subst₂ (λ public text. HssAccepts public c.args.msg.now text) (c.public.ensures.given other) c.deref.ensures.value
    (c.verify.ensures.0 c.if-verify.true)
