use Rattle.std.proofs.Common.{◌≡◌, ◌++◌, ◌∙◌, sym, ap, ap₂, arith, subst, length, length-drop, append_assoc}
use Rattle.std.proofs.Common.{take-append-drop}
use Rattle.std.proofs.lemmas.List.{length-take-le}
use Rattle.lms_verification.specs.Parts.{HasSignaturesOf}
use Rattle.lms_hss.proofs.Bottoms.{cut-long}
use Rattle.lms_hss.proofs.SignedKeys.{accepted-long}
use Rattle.lms_hss.proofs.verification.SignedKey.parse.Goals as goal

pub returns-in_err-signature-clause-none : goal.returns-in_err-signature-clause-none
returns-in_err-signature-clause-none c =
    rw c.from_residual.ensures
    (λ count message accepted.
    absurd (omega (
      arith,
      c.in_err-signature.ensures.cases,
      accepted-long count c.signature_len-length.result c.args.signer.now message c.args.text.now
          c.signature_len-length.ensures accepted,
    )))

pub returns-in_err-key-clause-none : goal.returns-in_err-key-clause-none
returns-in_err-key-clause-none c =
    let cut = c.in_ok-signature.ensures.cases in
    rw c.from_residual-in_err-key.ensures
    (λ count message accepted.
    absurd (omega (
      arith,
      c.in_err-key.ensures.cases,
      ap length cut.2,
      length-drop c.signature_len-length.result c.args.text.now,
      accepted-long count c.signature_len-length.result c.args.signer.now message c.args.text.now
          c.signature_len-length.ensures accepted,
    )))

pub returns-clause-some : goal.returns-clause-some
returns-clause-some c =
    let n = c.signature_len-length.result in
    let text = c.args.text.now in
    let first = c.in_ok-signature.ensures.cases in
    let second = c.in_ok-key.ensures.cases in
    let signature = c.in_ok-signature.signature.now in
    let rest = c.in_ok-signature.rest.now in
    let whole : signature ++ rest ≡ text = ap₂ (λ x y. x ++ y) first.1 first.2 ∙ take-append-drop n text in
    let others = ap₂ (λ x y. x ++ y) second.1 second.2 ∙ take-append-drop 56 rest in
    record {
      signature_length = subst (λ n. HasSignaturesOf n c.args.signer.now)
          (sym (ap length first.1 ∙ length-take-le n text (omega (arith, first.0)))) c.signature_len-length.ensures;
      key_length = ap length second.1 ∙ length-take-le 56 rest (omega (arith, second.0));
      parts = sym whole ∙ (ap (λ rest. signature ++ rest) (sym others) ∙ sym (append_assoc signature _ _));
    }

pub returns-in_err-signature-clause-not_cut : goal.returns-in_err-signature-clause-not_cut
returns-in_err-signature-clause-not_cut c =
    rw c.from_residual.ensures
    (λ signature key rest cut.
    absurd (omega (
      arith,
      c.in_err-signature.ensures.cases,
      cut-long c.signature_len-length.result c.args.signer.now c.args.text.now signature key rest
          c.signature_len-length.ensures cut,
    )))

pub returns-in_err-key-clause-not_cut : goal.returns-in_err-key-clause-not_cut
returns-in_err-key-clause-not_cut c =
    let front = c.in_ok-signature.ensures.cases in
    rw c.from_residual-in_err-key.ensures
    (λ signature key rest cut.
    absurd (omega (
      arith,
      c.in_err-key.ensures.cases,
      ap length front.2,
      length-drop c.signature_len-length.result c.args.text.now,
      cut-long c.signature_len-length.result c.args.signer.now c.args.text.now signature key rest
          c.signature_len-length.ensures cut,
    )))
