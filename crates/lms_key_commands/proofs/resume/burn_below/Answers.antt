use Rattle.std.proofs.Common.{◌∙◌, ap, arith}
use Rattle.lms_book.specs.History.{counter_of}
use Rattle.lms_book.specs.States.{ReservationsState}
use Rattle.lms_commands.proofs.Failing.{handed_on}
use Rattle.lms_key_commands.proofs.ResumePieces.{counted_in_part, counted_piece}
use Rattle.lms_key_commands.proofs.resume.burn_below.Goals as goal

pub loop-book-preserved : goal.loop-book-preserved
loop-book-preserved g c =
    counted_piece c.args.end c.args.book.now c.loop-book.book c.burn_piece.new.book c.loop-book.invariant
    c.in_ok-burn_piece.ensures.burnt

pub returns-in_err-burn_piece-clause-unburnt : goal.returns-in_err-burn_piece-clause-unburnt
returns-in_err-burn_piece-clause-unburnt g c =
    let used = c.counter.ensures.counter
    ∙ ap (λ (reserved : ReservationsState). counter_of reserved.base reserved.history) c.deref.ensures in
    handed_on _ _ _ c.from_residual.ensures.1
    (counted_in_part c.args.end c.args.book.now c.loop-book.book c.burn_piece.new.book c.in_err-burn_piece.field-0.0
    c.loop-book.invariant (omega (arith, c.loop-book-test.true, used)) c.in_err-burn_piece.ensures.unburnt)
