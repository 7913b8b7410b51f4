use Rattle.std.proofs.Common.{◌≡◌, map}
use Rattle.lms_hss.specs.Texts.{pair_text}
use Rattle.lms_texts.proofs.options.read_levels.Given as goal

abbrev pub invariant-loop-piece : goal.invariant-loop-piece
invariant-loop-piece l = map pair_text l.pairs.items ≡ map (λ piece. piece.now) l.yielded
