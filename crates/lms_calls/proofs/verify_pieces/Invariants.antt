use Rattle.std.proofs.Common.{take}
use Rattle.lms_hss.specs.Verifying.{HasTaken}
use Rattle.lms_calls.specs.Pieces.{joined}
use Rattle.lms_calls.proofs.verify_pieces.Given as goal

abbrev pub invariant-loop-piece : goal.invariant-loop-piece
invariant-loop-piece g l = HasTaken l.verifier l.public l.signature (joined (take l.piece-index l.pieces))
