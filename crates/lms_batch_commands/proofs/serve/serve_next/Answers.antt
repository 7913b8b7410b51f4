use Rattle.std.proofs.Common.{◌++◌, ◌∙◌, List, ℕ, ap, arith, inr, length, subst, sym}
use Rattle.lms_lines.specs.Pieces.{EndsPiece}
use Rattle.lms_lines.specs.TextLines.{lines_of}
use Rattle.lms_commands.proofs.Failing.{handed_on}
use Rattle.lms_batch_commands.proofs.serve.serve_next.Goals as goal

pub returns-in_err-serve_piece-clause-fails : goal.returns-in_err-serve_piece-clause-fails
returns-in_err-serve_piece-clause-fails g c =
    let piece = c.in-Ok.ensures.piece in
    let tries = c.in_err-serve_piece.ensures.unanswered in
    let text = c.as_slice-text.result.now in
    let same = sym c.as_slice-text.ensures.value in
    handed_on _ _ _ c.from_residual.ensures.1 (inr (record {
      text = text;
      is_last = c.in-Ok.piece.is_last;
      left = c.next.new.self;
      read = piece.read;
      consumed = piece.consumed;
      parts = piece.parts ∙ ap (λ (t : List ℕ). t ++ c.next.new.self) same;
      few = omega (arith, ap (λ (t : List ℕ). length (lines_of t)) same, piece.lines, piece.few, c.room-room.ensures.at_most);
      ends = subst (λ (t : List ℕ). EndsPiece c.in-Ok.piece.is_last t c.next.new.self
          (g.I.Read.remaining c.next.new.reader)) same piece.ends;
      groups = tries.0;
      tries = tries.1;
      next = tries.2;
      logs = tries.3;
    }))
