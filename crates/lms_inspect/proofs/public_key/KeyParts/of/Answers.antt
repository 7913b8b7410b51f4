use Rattle.std.proofs.Common.{◌≡◌, ◌++◌, ◌∙◌, length, ap, ap₂, arith, sym, take-append-drop}
use Rattle.std.proofs.lemmas.List.{length-take-le}
use Rattle.std.proofs.lemmas.Option.{none-some}
use Rattle.lms_params.specs.LmsType.{lms_set_of}
use Rattle.lms_params.specs.OtsType.{ots_set_of}
use Rattle.lms_params.proofs.KnownSets.{known_lms_set, known_ots_set}
use Rattle.lms_spec.proofs.Sets.{code-lms_set, code-ots_set}
use Rattle.lms_verification.proofs.LmsParts.{key-parts, length-lms_key, sets-of-key}
use Rattle.lms_inspect.proofs.public_key.KeyParts.of.Goals as goal

pub returns-in_err-lms_code-clause-none : goal.returns-in_err-lms_code-clause-none
returns-in_err-lms_code-clause-none c =
    rw c.from_residual.ensures
    (λ m t id root is.
    absurd (omega (arith, c.in_err-lms_code.ensures.none, length-lms_key m t id root c.args.key.now is)))

pub returns-in_err-ots_code-clause-none : goal.returns-in_err-ots_code-clause-none
returns-in_err-ots_code-clause-none c =
    let lms = ap length c.in_ok-lms_code.ensures.parts in
    rw c.from_residual-in_err-ots_code.ensures
    (λ m t id root is.
    absurd (omega (arith, c.in_err-ots_code.ensures.none, lms, length-lms_key m t id root c.args.key.now is)))

pub returns-in_err-id-clause-none : goal.returns-in_err-id-clause-none
returns-in_err-id-clause-none c =
    let lms = ap length c.in_ok-lms_code.ensures.parts in
    let ots = ap length c.in_ok-ots_code.ensures.parts in
    rw c.from_residual-in_err-id.ensures
    (λ m t id root is.
    absurd (omega (arith, c.in_err-id.ensures.cases, lms, ots, length-lms_key m t id root c.args.key.now is)))

pub returns-in_err-_root-clause-none : goal.returns-in_err-_root-clause-none
returns-in_err-_root-clause-none c =
    let lms = ap length c.in_ok-lms_code.ensures.parts in
    let ots = ap length c.in_ok-ots_code.ensures.parts in
    rw c.from_residual-in_err-_root.ensures
    (λ m t id root is.
    absurd (c.in_err-_root.ensures.cases
    (omega (arith, c.in_ok-id.ensures.cases.2, lms, ots, length-lms_key m t id root c.args.key.now is))))

pub returns-in_err-lms-clause-none : goal.returns-in_err-lms-clause-none
returns-in_err-lms-clause-none c =
    let lms = c.in_ok-lms_code in
    let ots = c.in_ok-ots_code in
    rw c.from_residual-in_err-lms.ensures
    (λ m t id root parts.
    none-some m (c.in_err-lms.ensures
    ∙ (sets-of-key m t id root c.args.key.now lms.rest.now ots.rest.now lms.lms_code ots.ots_code
    lms.ensures.fits ots.ensures.fits lms.ensures.parts ots.ensures.parts parts).0))

pub returns-in_err-ots-clause-none : goal.returns-in_err-ots-clause-none
returns-in_err-ots-clause-none c =
    let lms = c.in_ok-lms_code in
    let ots = c.in_ok-ots_code in
    rw c.from_residual-in_err-ots.ensures
    (λ m t id root parts.
    none-some t (c.in_err-ots.ensures
    ∙ (sets-of-key m t id root c.args.key.now lms.rest.now ots.rest.now lms.lms_code ots.ots_code
    lms.ensures.fits ots.ensures.fits lms.ensures.parts ots.ensures.parts parts).1))

pub returns-clause-some : goal.returns-clause-some
returns-clause-some c =
    let m = lms_set_of c.in_ok-lms.lms in
    let t = ots_set_of c.in_ok-ots.ots in
    let lms = c.in_ok-lms_code in
    let ots = c.in_ok-ots_code in
    let last = ots.rest.now in
    let id = c.in_ok-id.id.now in
    let root = c.in_ok-_root._root.now in
    let cut = c.in_ok-id.ensures.cases in
    let end = c.in_ok-_root.ensures.cases in
    let whole : last ≡ id ++ root =
    sym (take-append-drop 16 last) ∙ ap₂ (λ x y. x ++ y) (sym cut.0) (sym (end.same ∙ cut.1)) in (
      root,
      record {
        lms_known = known_lms_set c.in_ok-lms.lms;
        ots_known = known_ots_set c.in_ok-ots.ots;
        id_length = ap (λ bytes. length bytes) cut.0 ∙ length-take-le 16 last (omega arith);
        root_length = ap (λ bytes. length bytes) end.same ∙ end.long;
        parts = key-parts m t id root c.args.key.now lms.rest.now last lms.lms_code ots.ots_code lms.ensures.parts
            ots.ensures.parts
            (code-lms_set lms.lms_code m (sym c.in_ok-lms.ensures))
            (code-ots_set ots.ots_code t (sym c.in_ok-ots.ensures)) whole;
      },
    )
