use Rattle.std.proofs.Common.{◌≡◌, ◌∙◌, ◌*◌, ap, arith, length, sym}
use Rattle.std.proofs.lemmas.Option.{none-some, same_Some}
use Rattle.lms_spec.specs.Parameters.{LmsSet, lms_set}
use Rattle.lms_spec.proofs.Sets.{code-lms_set}
use Rattle.lms_params.specs.LmsType.{lms_set_of}
use Rattle.lms_params.proofs.KnownSets.{known_lms_set}
use Rattle.lms_inspect.proofs.Cuts.{coded-cut, coded-front, small-lms}
use Rattle.lms_inspect.proofs.level.path_in.Goals as goal

pub returns-in_err-code-clause-none : goal.returns-in_err-code-clause-none
returns-in_err-code-clause-none c =
    rw c.from_residual.ensures (λ lms rest is. absurd (omega (arith, c.in_err-code.ensures.none, ap length is.parts)))

pub returns-in_err-lms-clause-none : goal.returns-in_err-lms-clause-none
returns-in_err-lms-clause-none c =
    let code = c.in_ok-code in
    rw c.from_residual-in_err-lms.ensures
    (λ lms rest is.
    let front = coded-front _ code.code _ c.args.text.now code.rest.now rest (small-lms lms) code.ensures.fits
    code.ensures.parts is in
    none-some (lms_set_of lms) (c.in_err-lms.ensures ∙ ap lms_set front.0 ∙ known_lms_set lms))

pub returns-in_err-_path-clause-none : goal.returns-in_err-_path-clause-none
returns-in_err-_path-clause-none c =
    let code = c.in_ok-code in
    rw c.from_residual-in_err-_path.ensures
    (λ lms rest is.
    let front = coded-front _ code.code _ c.args.text.now code.rest.now rest (small-lms lms) code.ensures.fits
    code.ensures.parts is in
    let same : lms_set_of c.in_ok-lms.lms ≡ lms_set_of lms =
    same_Some _ _ (c.in_ok-lms.ensures ∙ ap lms_set front.0 ∙ known_lms_set lms) in
    let height = ap (λ (m : LmsSet). m.h) same in
    absurd (omega (arith, c.in_err-_path.ensures.cases, c.height.ensures, height, front.2)))

pub returns-clause-some : goal.returns-clause-some
returns-clause-some c =
    let code = c.in_ok-code in
    let m = lms_set_of c.in_ok-lms.lms in
    let cut = c.in_ok-_path.ensures.cases in
    let size : 32 * c.height.result ≡ 32 * m.h = ap (λ n. 32 * n) c.height.ensures in
    coded-cut m.code code.code (32 * m.h) c.args.text.now code.rest.now c.in_ok-_path._path.now
    c.in_ok-_path.rest.now (code-lms_set code.code m (sym c.in_ok-lms.ensures)) code.ensures.parts
    (omega (arith, cut.0, size)) (rw size at cut.1) (rw size at cut.2)
