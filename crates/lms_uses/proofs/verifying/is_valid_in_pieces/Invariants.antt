use Rattle.std.proofs.Common.{map, take}
use Rattle.std.specs.List.{concat}
use Rattle.lms_hss.specs.Verifying.{HasTaken}
use Rattle.lms_uses.proofs.verifying.is_valid_in_pieces.Given as goal

-- the verifier has taken the pieces so far
abbrev pub invariant-loop-piece : goal.invariant-loop-piece
invariant-loop-piece l =
    HasTaken l.verifier l.public l.signature (concat (map (λ piece. piece.now) (take l.piece-index l.pieces)))
