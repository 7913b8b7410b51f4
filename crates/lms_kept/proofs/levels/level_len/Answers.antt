use Rattle.std.proofs.Common.{◌+◌, ◌*◌, ◌^◌, ◌≡◌, ◌≤◌, arith}
use Rattle.lms_hss.specs.Keys.{hss_key_of}
use Rattle.lms_kept.specs.Ways.{level_length}
use Rattle.lms_kept.proofs.TextLengths.{level-by-sets, level-limit}
use Rattle.lms_kept.proofs.levels.level_len.Goals as goal

whole : (c : goal.After-signed_len)
    → c.signed_len.result + 32 * (c.counts-upper.result.0 + c.counts-upper.result.1)
    ≡ level_length (hss_key_of c.args.key.now) c.args.k
whole c =
    level-by-sets c.args.key.now _ _ _ _ _ c.requires c.as_slice.ensures.levels c.signed_len.ensures
    c.counts-upper.ensures.upper (c.counts-upper.ensures.lower 0)

at-most : (c : goal.After-signed_len)
    → c.signed_len.result + 32 * (c.counts-upper.result.0 + c.counts-upper.result.1) ≤ 2 ^ 22
at-most c = omega (arith, whole c, level-limit c.args.key.now c.args.k c.requires)

pub overflow_add-result : goal.overflow_add-result
overflow_add-result c = omega (arith, at-most c)

pub overflow_mul-result : goal.overflow_mul-result
overflow_mul-result c = omega (arith, at-most c)

pub overflow_add-result-2 : goal.overflow_add-result-2
overflow_add-result-2 c = omega (arith, at-most c)

pub returns-clause-length : goal.returns-clause-length
returns-clause-length = whole

pub returns-clause-limit : goal.returns-clause-limit
returns-clause-limit = at-most
