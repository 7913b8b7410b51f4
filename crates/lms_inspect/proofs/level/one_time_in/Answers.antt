use Rattle.std.proofs.Common.{◌≡◌, ◌∙◌, ◌+◌, ◌-◌, ◌*◌, ap, arith, length, sym}
use Rattle.std.proofs.lemmas.Option.{none-some, same_Some}
use Rattle.lms_spec.specs.Parameters.{OtsSet, ots_set}
use Rattle.lms_spec.proofs.Sets.{code-ots_set}
use Rattle.lms_params.specs.OtsType.{ots_set_of}
use Rattle.lms_params.proofs.KnownSets.{known_ots_set}
use Rattle.lms_inspect.proofs.Cuts.{coded-cut, coded-front, small-ots}
use Rattle.lms_inspect.proofs.level.one_time_in.Goals as goal

pub returns-in_err-code-clause-none : goal.returns-in_err-code-clause-none
returns-in_err-code-clause-none c =
    rw c.from_residual.ensures (λ ots rest is. absurd (omega (arith, c.in_err-code.ensures.none, ap length is.parts)))

pub returns-in_err-ots-clause-none : goal.returns-in_err-ots-clause-none
returns-in_err-ots-clause-none c =
    let code = c.in_ok-code in
    rw c.from_residual-in_err-ots.ensures
    (λ ots rest is.
    let front = coded-front _ code.code _ c.args.text.now code.rest.now rest (small-ots ots) code.ensures.fits
    code.ensures.parts is in
    none-some (ots_set_of ots) (c.in_err-ots.ensures ∙ ap ots_set front.0 ∙ known_ots_set ots))

pub returns-in_err-_hashes-clause-none : goal.returns-in_err-_hashes-clause-none
returns-in_err-_hashes-clause-none c =
    let code = c.in_ok-code in
    rw c.from_residual-in_err-_hashes.ensures
    (λ ots rest is.
    let front = coded-front _ code.code _ c.args.text.now code.rest.now rest (small-ots ots) code.ensures.fits
    code.ensures.parts is in
    let same : ots_set_of c.in_ok-ots.ots ≡ ots_set_of ots =
    same_Some _ _ (c.in_ok-ots.ensures ∙ ap ots_set front.0 ∙ known_ots_set ots) in
    let chains = ap (λ (t : OtsSet). t.p) same in
    absurd (omega (arith, c.in_err-_hashes.ensures.cases, c.sig_len.ensures, chains, front.2)))

pub returns-clause-some : goal.returns-clause-some
returns-clause-some c =
    let code = c.in_ok-code in
    let t = ots_set_of c.in_ok-ots.ots in
    let cut = c.in_ok-_hashes.ensures.cases in
    let size : c.sig_len.result - 4 ≡ 32 * (t.p + 1) = omega (arith, c.sig_len.ensures) in
    coded-cut t.code code.code (32 * (t.p + 1)) c.args.text.now code.rest.now c.in_ok-_hashes._hashes.now
    c.in_ok-_hashes.rest.now (code-ots_set code.code t (sym c.in_ok-ots.ensures)) code.ensures.parts
    (omega (arith, cut.0, size)) (rw size at cut.1) (rw size at cut.2)
