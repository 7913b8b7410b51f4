use Rattle.std.proofs.Common.{take_all, sym, subst, arith}
use Rattle.std.proofs.lemmas.Bool.{false≢true}
use Rattle.lms_hss.specs.Verifying.{HasTaken}
use Rattle.lms_calls.specs.Pieces.{joined}
use Rattle.lms_calls.proofs.Joined.{joined-next}
use Rattle.lms_calls.proofs.verify_pieces.Goals as goal

pub returns-in_default : goal.returns-in_default
returns-in_default g c =
    (λ e. absurd (false≢true e), λ a. absurd (c.in_default.ensures.none (joined c.args.pieces.now) a))

pub loop-piece-preserved : goal.loop-piece-preserved
loop-piece-preserved g c =
    subst (HasTaken c.update.new.self c.args.public.now c.args.signature.now)
    (sym (joined-next c.args.pieces.now c.loop-piece.piece-index _ (omega arith)))
    (c.update.ensures _ _ _ c.loop-piece.invariant)

pub returns : goal.returns
returns g c =
    c.finish.ensures c.args.public.now c.args.signature.now (joined c.args.pieces.now)
    (subst (λ pieces. HasTaken c.loop-piece.verifier c.args.public.now c.args.signature.now (joined pieces))
    (take_all c.loop-piece.piece-index c.args.pieces.now c.loop-piece-test.false) c.loop-piece.invariant)
