use Rattle.std.proofs.Common.{refl}
use Rattle.lms_world.specs.Notes.{note_line, note_text}
use Rattle.lms_cli.proofs.Ending.{any_front}
use Rattle.lms_cli.proofs.notes.add_note.Goals as goal

pub returns-clause-noted : goal.returns-clause-noted
returns-clause-noted g c =
    let text = note_text c.note.result.now in
    let noted = any_front c.print.result _ _ _ c.print.ensures.printed c.print.ensures.broken in
    (note_line text, (text, c.print.ensures.fits, refl), noted)
