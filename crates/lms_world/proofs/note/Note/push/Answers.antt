use Rattle.std.proofs.Common.{◌≡◌, ◌∙◌, ◌++◌, ℕ, List, ap, take}
use Rattle.lms_world.specs.Notes.{note_text}
use Rattle.lms_world.proofs.Noted.{taken}
use Rattle.lms_world.proofs.note.Note.push.Goals as goal

pub returns : goal.returns
returns c =
    let old = note_text c.args.self.now in
    c.in-Ok.ensures.ok
    ∙ ap (λ (room : ℕ). old ++ take room c.args.bytes.now) c.min-room.ensures
    ∙ taken c.remaining_capacity.result 193 old c.args.bytes.now c.remaining_capacity.ensures
