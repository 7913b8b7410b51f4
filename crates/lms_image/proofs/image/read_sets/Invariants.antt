use Rattle.std.proofs.Common.{◌≡◌, length, map, take}
use Rattle.lms_image.specs.Image.{level_text}
use Rattle.lms_image.proofs.image.read_sets.Given as goal

abbrev pub invariant-loop-k : goal.invariant-loop-k
invariant-loop-k l = record { sets : map level_text (take l.k l.sets) ≡ take l.k l.texts; eight : length l.sets ≡ 8 }
