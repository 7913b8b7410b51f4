use Rattle.std.proofs.Common.{ℕ, List, ◌≡◌, ◌-◌, ◌++◌, sym, subst, arith}
use Rattle.lms_spec.specs.Bytes.{u32str}
use Rattle.lms_spec.specs.Hss.{AcceptsThrough}
use Rattle.lms_verification.proofs.SameParts.{parts-taken}
use Rattle.lms_hss.specs.Bottoms.{Reaches}
use Rattle.lms_hss.proofs.Bottoms.{never-reaches, no-head-by-numbers, parts-by-numbers}
use Rattle.lms_hss.proofs.SignedKeys.{never-through}
use Rattle.lms_hss.proofs.TopKeys.{accepts-by-numbers}
use Rattle.lms_hss.proofs.verification.Verifier.begin.Goals as goal

pub returns-clause-some : goal.returns-clause-some
returns-clause-some g c =
    let levels = c.in_ok-levels in
    let signed_keys = c.in_ok-signed_keys in
    let signed = c.in_ok-signed.signed in
    let top = c.in_ok-top.ensures.some in
    let one_less : signed_keys.signed_keys ≡ levels.levels - 1 = omega arith in
    record {
      bottom_key = signed.key;
      bottom_signature = signed.signature.now;
      bottom = record {
        levels = levels.levels;
        top_key = levels.top_key.now;
        signatures = signed_keys.signatures.now;
        one_at_least = omega arith;
        eight_at_most = omega arith;
        key_parts = levels.ensures.parts;
        signature_parts = subst (λ n. c.args.sig.now ≡ u32str n ++ signed_keys.signatures.now) one_less
            signed_keys.ensures.parts;
        reached = subst
            (λ n. Reaches n levels.top_key.now signed_keys.signatures.now signed.key signed.signature.now) one_less
            (subst (λ top. Reaches signed_keys.signed_keys top signed_keys.signatures.now signed.key
            signed.signature.now) top c.in_ok-signed.ensures.reached);
        has_parts = parts-taken c.in_ok-bottom.bottom signed.key signed.signature.now _ c.in_ok-bottom.ensures.some;
      };
      same = λ m.
          let by_numbers = accepts-by-numbers levels.levels signed_keys.signed_keys c.args.public.now levels.top_key.now
          m c.args.sig.now signed_keys.signatures.now
          levels.ensures.fits (omega arith) (omega arith)
          (omega arith) levels.ensures.parts signed_keys.ensures.parts in
          let below = c.in_ok-signed.ensures.some m in
          let through : List ℕ → Type 0 =
          λ key. AcceptsThrough signed_keys.signed_keys key m signed_keys.signatures.now in
          (λ a. below.0 (subst through (sym top) (by_numbers.0 a)), λ a. by_numbers.1 (subst through top (below.1 a)));
      taken = c.in_ok-bottom.ensures.some;
    }

pub returns-in_err-top-clause-none : goal.returns-in_err-top-clause-none
returns-in_err-top-clause-none g c =
    let levels = c.in_ok-levels in
    let signed_keys = c.in_ok-signed_keys in
    rw c.from_residual-in_err-top.ensures
    (λ message a. never-through signed_keys.signed_keys levels.top_key.now message signed_keys.signatures.now
    c.in_err-top.ensures.none
    ((accepts-by-numbers levels.levels signed_keys.signed_keys c.args.public.now levels.top_key.now message
    c.args.sig.now signed_keys.signatures.now
    levels.ensures.fits (omega arith) (omega arith) (omega arith) levels.ensures.parts signed_keys.ensures.parts).0 a))

pub returns-in_err-top-clause-no_head : goal.returns-in_err-top-clause-no_head
returns-in_err-top-clause-no_head g c =
    let levels = c.in_ok-levels in
    let signed_keys = c.in_ok-signed_keys in
    rw c.from_residual-in_err-top.ensures
    (λ head. no-head-by-numbers levels.levels signed_keys.signed_keys c.args.public.now levels.top_key.now
    c.args.sig.now signed_keys.signatures.now
    head levels.ensures.fits signed_keys.ensures.fits levels.ensures.parts signed_keys.ensures.parts
    (λ key text. never-reaches signed_keys.signed_keys levels.top_key.now signed_keys.signatures.now key text
    c.in_err-top.ensures.none))

pub returns-in_err-signed-clause-no_head : goal.returns-in_err-signed-clause-no_head
returns-in_err-signed-clause-no_head g c =
    let levels = c.in_ok-levels in
    let signed_keys = c.in_ok-signed_keys in
    rw c.from_residual-in_err-signed.ensures
    (λ head. no-head-by-numbers levels.levels signed_keys.signed_keys c.args.public.now levels.top_key.now
    c.args.sig.now signed_keys.signatures.now
    head levels.ensures.fits signed_keys.ensures.fits levels.ensures.parts signed_keys.ensures.parts
    (λ key text reached. c.in_err-signed.ensures.not_reached key text
    (subst (λ top. Reaches signed_keys.signed_keys top signed_keys.signatures.now key text)
    (sym c.in_ok-top.ensures.some) reached)))

pub returns-in_err-bottom-clause-none : goal.returns-in_err-bottom-clause-none
returns-in_err-bottom-clause-none g c =
    let levels = c.in_ok-levels in
    let signed_keys = c.in_ok-signed_keys in
    rw c.from_residual-in_err-bottom.ensures
    (λ message a. c.in_err-bottom.ensures.none message
    ((c.in_ok-signed.ensures.some message).0
    (subst (λ top. AcceptsThrough signed_keys.signed_keys top message signed_keys.signatures.now)
    (sym c.in_ok-top.ensures.some)
    ((accepts-by-numbers levels.levels signed_keys.signed_keys c.args.public.now levels.top_key.now message
    c.args.sig.now signed_keys.signatures.now
    levels.ensures.fits (omega arith) (omega arith) (omega arith) levels.ensures.parts signed_keys.ensures.parts).0
    a))))

pub returns-in_err-bottom-clause-no_head : goal.returns-in_err-bottom-clause-no_head
returns-in_err-bottom-clause-no_head g c =
    let levels = c.in_ok-levels in
    let signed_keys = c.in_ok-signed_keys in
    let signed = c.in_ok-signed.signed in
    rw c.from_residual-in_err-bottom.ensures
    (λ head is. c.in_err-bottom.ensures.no_parts
    (parts-by-numbers levels.levels signed_keys.signed_keys c.args.public.now levels.top_key.now c.args.sig.now
    signed_keys.signatures.now
    signed.key signed.signature.now is.bottom_key is.bottom_signature levels.ensures.fits signed_keys.ensures.fits
    levels.ensures.parts signed_keys.ensures.parts
    (subst (λ top. Reaches signed_keys.signed_keys top signed_keys.signatures.now signed.key signed.signature.now)
    c.in_ok-top.ensures.some c.in_ok-signed.ensures.reached)
    is.bottom))
