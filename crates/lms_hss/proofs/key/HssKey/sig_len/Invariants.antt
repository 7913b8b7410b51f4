use Rattle.std.proofs.Common.{◌≡◌, ◌+◌, ◌-◌, ◌*◌, ◌≤◌, length, take, sum_by}
use Rattle.lms_spec.specs.Parameters.{lms_signature_length}
use Rattle.lms_hss.specs.Levels.{levels_of}
use Rattle.lms_hss.proofs.key.HssKey.sig_len.Given as goal

abbrev pub invariant-loop-lms : goal.invariant-loop-lms
invariant-loop-lms l =
    (l.length ≡ 4 + sum_by (λ l. lms_signature_length l.lms l.ots) (levels_of (take l.lms-index l.levels))
    + 56 * (length l.levels - 1))
    × (l.length ≤ 4 + 56 * (length l.levels - 1) + 9324 * l.lms-index)
