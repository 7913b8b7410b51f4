use Rattle.std.proofs.Common.{List, ap, refl}
use Rattle.std.specs.Prelude.{slice_set}
use Rattle.lms_shared_book.specs.Desks.{Sums}
use Rattle.lms_commands.proofs.Failing.{handed_on}
use Rattle.lms_batch_commands.proofs.batch.sign_at_desk.Goals as goal

pub returns-clause-signed : goal.returns-clause-signed
returns-clause-signed g c =
    let desk = c.read_and_sign.new.desk in (
      desk,
      ap (λ (desks : List Sums). slice_set desks 0 desk) c.requires.one,
      rw c.requires.one at c.in_ok-read_and_sign.ensures.signed,
    )

pub returns-in_err-read_and_sign-clause-refused : goal.returns-in_err-read_and_sign-clause-refused
returns-in_err-read_and_sign-clause-refused g c =
    let desk = c.read_and_sign.new.desk in
    let cause = c.in_err-read_and_sign.field-0.0 in
    handed_on _ _ _ c.from_residual.ensures.1 (
      desk,
      ap (λ (desks : List Sums). slice_set desks 0 desk) c.requires.one,
      (cause, refl, rw c.requires.one at c.in_err-read_and_sign.ensures.unsigned),
    )
