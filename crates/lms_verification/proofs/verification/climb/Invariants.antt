use Rattle.std.proofs.Common.{◌≡◌, drop}
use Rattle.lms_spec.specs.Tree.{climb}
use Rattle.lms_verification.proofs.verification.climb.Given as goal

abbrev pub invariant-loop-sibling : goal.invariant-loop-sibling
invariant-loop-sibling l =
    climb l.fn.id l.node l.value (drop l.sibling-index l.path) ≡ climb l.fn.id l.fn.node l.fn.value l.fn.path
