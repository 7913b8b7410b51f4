use Rattle.std.proofs.Common.{◌≡◌, ◌++◌, length, refl, sym, ◌∙◌, ap, ap₂, arith, take-append-drop}
use Rattle.std.proofs.lemmas.List.{length-take-le}
use Rattle.std.proofs.lemmas.Option.{none-some}
use Rattle.lms_params.specs.LmsType.{lms_set_of}
use Rattle.lms_params.specs.OtsType.{ots_set_of}
use Rattle.lms_spec.proofs.Sets.{code-ots_set, code-lms_set}
use Rattle.lms_params.proofs.KnownSets.{known_lms_set, known_ots_set}
use Rattle.lms_verification.proofs.LmsParts.{sets-of-key, key-parts}
use Rattle.lms_verification.proofs.verification.PublicKey.parse.Goals as goal

pub returns-in_err-lms-clause-none : goal.returns-in_err-lms-clause-none
returns-in_err-lms-clause-none c =
    let lms = c.in_ok-lms_code in
    let ots = c.in_ok-ots_code in
    rw c.from_residual-in_err-lms.ensures
    (λ m t id root parts.
    none-some m (c.in_err-lms.ensures
    ∙ (sets-of-key m t id root c.args.public.now lms.rest.now ots.rest.now lms.lms_code ots.ots_code
    lms.ensures.fits ots.ensures.fits lms.ensures.parts ots.ensures.parts parts).0))

pub returns-in_err-ots-clause-none : goal.returns-in_err-ots-clause-none
returns-in_err-ots-clause-none c =
    let lms = c.in_ok-lms_code in
    let ots = c.in_ok-ots_code in
    rw c.from_residual-in_err-ots.ensures
    (λ m t id root parts.
    none-some t (c.in_err-ots.ensures
    ∙ (sets-of-key m t id root c.args.public.now lms.rest.now ots.rest.now lms.lms_code ots.ots_code
    lms.ensures.fits ots.ensures.fits lms.ensures.parts ots.ensures.parts parts).1))

pub invariant_of-result : goal.invariant_of-result
invariant_of-result c =
    let cut = c.in_ok-i.ensures.cases in
    let end = c.in_ok-root.ensures.cases in
    record {
      lms_known = known_lms_set c.in_ok-lms.lms;
      ots_known = known_ots_set c.in_ok-ots.ots;
      id_length = ap length cut.0 ∙ length-take-le 16 c.in_ok-ots_code.rest.now (omega arith);
      root_length = ap length end.same ∙ end.long;
      parts = refl;
    }

pub returns-clause-some : goal.returns-clause-some
returns-clause-some c =
    let m = lms_set_of c.in_ok-lms.lms in
    let t = ots_set_of c.in_ok-ots.ots in
    let lms = c.in_ok-lms_code in
    let ots = c.in_ok-ots_code in
    let last = ots.rest.now in
    let id = c.in_ok-i.i.now in
    let root = c.in_ok-root.root.now in
    let cut = c.in_ok-i.ensures.cases in
    let end = c.in_ok-root.ensures.cases in
    let whole : last ≡ id ++ root =
    sym (take-append-drop 16 last) ∙ ap₂ (λ x y. x ++ y) (sym cut.0) (sym (end.same ∙ cut.1)) in
    sym (key-parts m t id root c.args.public.now lms.rest.now last lms.lms_code ots.ots_code lms.ensures.parts
    ots.ensures.parts
    (code-lms_set lms.lms_code m (sym c.in_ok-lms.ensures))
    (code-ots_set ots.ots_code t (sym c.in_ok-ots.ensures)) whole)
