use Rattle.std.proofs.Common.{◌≡◌, length, sym, arith}
use Rattle.lms_image.proofs.LevelTexts.{unknown-lms, unknown-ots, level-read}
use Rattle.lms_image.proofs.image.read_level.Goals as goal

pub returns-in_err-lms-clause-none : goal.returns-in_err-lms-clause-none
returns-in_err-lms-clause-none c =
    let lms = c.in_ok-lms_code in
    rw c.from_residual-in_err-lms.ensures
    (unknown-lms c.args.text.now lms.rest.now lms.lms_code lms.ensures.fits lms.ensures.parts c.in_err-lms.ensures)

pub returns-in_err-ots-clause-none : goal.returns-in_err-ots-clause-none
returns-in_err-ots-clause-none c =
    let lms = c.in_ok-lms_code in
    let ots = c.in_ok-ots_code in
    rw c.from_residual-in_err-ots.ensures
    (unknown-ots c.args.text.now lms.rest.now ots.field-0-1.now lms.lms_code ots.ots_code ots.ensures.fits
    lms.ensures.parts ots.ensures.parts
    c.in_err-ots.ensures)

pub returns-clause-some : goal.returns-clause-some
returns-clause-some c =
    let lms = c.in_ok-lms_code in
    let ots = c.in_ok-ots_code in
    let eight : length c.args.text.now ≡ 8 = omega arith in
    level-read c.args.text.now lms.rest.now ots.field-0-1.now lms.lms_code ots.ots_code c.in_ok-lms.lms
    c.in_ok-ots.ots eight
    lms.ensures.parts ots.ensures.parts (sym c.in_ok-lms.ensures) (sym c.in_ok-ots.ensures)
