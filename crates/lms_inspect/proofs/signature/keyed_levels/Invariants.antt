use Rattle.std.proofs.Common.{◌≡◌, length}
use Rattle.lms_inspect.specs.Signatures.{SaysThrough}
use Rattle.lms_inspect.proofs.signature.keyed_levels.Given as goal

abbrev pub invariant-loop-turn : goal.invariant-loop-turn
invariant-loop-turn l = (length l.levels.items ≡ l._turn) × SaysThrough l.levels.items l.text l.rest
