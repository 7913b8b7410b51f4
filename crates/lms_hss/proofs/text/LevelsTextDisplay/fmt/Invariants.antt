use Rattle.std.proofs.Common.{◌++◌, codes, take}
use Rattle.std.specs.Fmt.{HasWritten, IsPlainFormatter}
use Rattle.std.specs.List.{flat_map}
use Rattle.lms_hss.specs.Texts.{pair_text}
use Rattle.lms_hss.proofs.text.LevelsTextDisplay.fmt.Given as goal

abbrev pub invariant-loop-lms : goal.invariant-loop-lms
invariant-loop-lms g l = IsPlainFormatter l.initial.f
    → HasWritten g.W.Write.write_str_gives l.initial.f
    (flat_map (λ pair. codes "," ++ pair_text pair) (take l.lms-index l.others)) l.f
