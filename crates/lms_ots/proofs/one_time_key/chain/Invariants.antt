use Rattle.std.proofs.Common.{◌≡◌, ◌-◌}
use Rattle.lms_spec.specs.Ots.{chain}
use Rattle.lms_ots.proofs.one_time_key.chain.Given as goal

abbrev pub invariant-loop-j : goal.invariant-loop-j
invariant-loop-j l = l.value ≡ chain l.fn.id.i l.fn.id.q l.fn.i l.fn.from (l.j - l.fn.from) l.fn.x
