use Rattle.std.proofs.Common.{◌≡◌, ◌-◌, ◌*◌, ◌^◌, ◌≤◌, map, sum}
use Rattle.lms_spec.specs.Bytes.{below}
use Rattle.lms_spec.specs.Digits.{digit}
use Rattle.lms_params.specs.OtsType.{ots_set_of}
use Rattle.lms_params.proofs.message_digits.checksum.Given as goal

abbrev pub invariant-loop-i : goal.invariant-loop-i
invariant-loop-i l =
    (l.sum ≡ sum (map (λ i. 2 ^ (ots_set_of l.t).w - 1 - digit l.q i (ots_set_of l.t).w) (below l.i)))
    × (l.sum ≤ 255 * l.i)
