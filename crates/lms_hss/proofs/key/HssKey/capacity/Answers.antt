use Rattle.std.proofs.Common.{arith}
use Rattle.std.proofs.Math.Pow.{pow_mono}
use Rattle.lms_hss.specs.Levels.{most_height}
use Rattle.lms_hss.proofs.key.HssKey.capacity.Goals as goal

pub returns-clause-limit : goal.returns-clause-limit
returns-clause-limit c =
    omega (arith, pow_mono {i = c.height_from.result} {j = most_height} c.height_from.ensures.limit)
