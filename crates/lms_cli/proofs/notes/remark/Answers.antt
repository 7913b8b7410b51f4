use Rattle.std.proofs.Common.{inr, refl}
use Rattle.lms_world.specs.Notes.{note_line, note_text}
use Rattle.lms_cli.proofs.Ending.{any_front}
use Rattle.lms_cli.proofs.notes.remark.Goals as goal

pub returns-in-Negative : goal.returns-in-Negative
returns-in-Negative g c =
    let text = note_text c.note.result.now in
    let noted = any_front c.print.result _ _ _ c.print.ensures.printed c.print.ensures.broken in
    inr (c.if-looked_on.true, c.in-Negative.is, (note_line text, (text, c.print.ensures.fits, refl), noted))
