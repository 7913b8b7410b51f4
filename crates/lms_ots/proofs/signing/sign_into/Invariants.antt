use Rattle.std.proofs.Common.{◌≡◌, ◌+◌, ◌*◌, ◌++◌, map, take}
use Rattle.std.specs.List.{concat}
use Rattle.lms_spec.specs.Bytes.{below, u32str}
use Rattle.lms_spec.proofs.OneTime.{signed_value}
use Rattle.lms_params.specs.OtsType.{ots_set_of}
use Rattle.lms_ots.proofs.signing.sign_into.Given as goal

abbrev pub invariant-loop-i : goal.invariant-loop-i
invariant-loop-i l =
    take (36 + 32 * l.i) l.out
    ≡ u32str (ots_set_of l.fn.t).code ++ l.c
    ++ concat (map (signed_value (ots_set_of l.fn.t) l.fn.id.i l.seed l.fn.id.q l.c l.msg) (below l.i))
