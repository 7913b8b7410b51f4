use Rattle.std.proofs.Common.{ℕ, List, ◌↔◌}
use Rattle.lms_spec.specs.Hss.{AcceptsThrough}
use Rattle.lms_hss.specs.Bottoms.{Reaches}
use Rattle.lms_hss.proofs.verification.Bottom.below.Given as goal

abbrev pub invariant-loop-left : goal.invariant-loop-left
invariant-loop-left g l = ((message : List ℕ)
    → (AcceptsThrough l.fn.signed_keys l.fn.key message l.fn.signatures
    ↔ AcceptsThrough l.left l.bottom.key message l.bottom.signature.now))
    × ((key signature : List ℕ)
    → (Reaches l.fn.signed_keys l.fn.key l.fn.signatures key signature
    ↔ Reaches l.left l.bottom.key l.bottom.signature.now key signature))

abbrev pub decreases-loop-left : goal.decreases-loop-left
decreases-loop-left g l = l.left
