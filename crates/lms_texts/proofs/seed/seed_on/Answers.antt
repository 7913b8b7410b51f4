use Rattle.std.proofs.Common.{arith}
use Rattle.lms_texts.proofs.Seeds.{no-seed}
use Rattle.lms_texts.proofs.seed.seed_on.Goals as goal

pub returns-in-None-clause-bad : goal.returns-in-None-clause-bad
returns-in-None-clause-bad g c = λ _.
    no-seed _ _ c.fill.new.block c.in-Ok.length
    (omega (arith, c.fill.auto.block)) c.in-Ok.ensures.bound c.in-Ok.ensures.bytes c.in-Ok.ensures.end
    c.in-None.ensures.none
