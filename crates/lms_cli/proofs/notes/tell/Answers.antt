use Rattle.std.proofs.Common.{[], refl, sym, ◌∙◌, arith}
use Rattle.lms_blocks.proofs.Fronts.{AppendsFront-after, AppendsFront-more}
use Rattle.lms_cli.proofs.Ending.{any_front}
use Rattle.lms_cli.proofs.Noting.{if_done}
use Rattle.lms_cli.proofs.notes.tell.Goals as goal

pub returns-then-is_err-clause-told : goal.returns-then-is_err-clause-told
returns-then-is_err-clause-told g c =
    let line = any_front c.print_fault.result _ _ _ c.print_fault.ensures.printed c.print_fault.ensures.broken in
    ([], ([], omega arith, refl), AppendsFront-more _ _ _ [] line)

pub returns-then-is_err-clause-plain : goal.returns-then-is_err-clause-plain
returns-then-is_err-clause-plain g c off =
    any_front c.print_fault.result _ _ _ c.print_fault.ensures.printed c.print_fault.ensures.broken

pub returns-clause-told : goal.returns-clause-told
returns-clause-told g c =
    let done = sym c.is_err.ensures.value ∙ c.if-is_err.false in
    let line = if_done c.print_fault.result done c.print_fault.ensures.printed in
    let noted = c.add_note.ensures.noted in
    (noted.0, noted.1, AppendsFront-after _ _ _ _ _ line noted.2)
