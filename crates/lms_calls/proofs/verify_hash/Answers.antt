use Rattle.std.proofs.Common.{refl}
use Rattle.std.proofs.lemmas.Bool.{false≢true}
use Rattle.lms_verification.specs.Heads.{lms_head}
use Rattle.lms_calls.proofs.verify_hash.Goals as goal

pub returns-in_default-clause-verdict : goal.returns-in_default-clause-verdict
returns-in_default-clause-verdict g c head message is_head hashed =
    (λ e. absurd (false≢true e), λ a. absurd (c.in_default.ensures.none message a))

pub returns-in_default-clause-head : goal.returns-in_default-clause-head
returns-in_default-clause-head g c e = absurd (false≢true e)

pub returns-clause-verdict : goal.returns-clause-verdict
returns-clause-verdict g c head message is_head hashed =
    c.finish_by_hash.ensures _ _ _ head message c.in-Some.ensures.some is_head hashed

pub returns-clause-head : goal.returns-clause-head
returns-clause-head g c _ =
    let taken = c.in-Some.ensures.some in (
      lms_head taken.bottom_key taken.bottom_signature,
      record {
        bottom_key = taken.bottom_key;
        bottom_signature = taken.bottom_signature;
        bottom = taken.bottom;
        head_is = refl;
      },
    )
