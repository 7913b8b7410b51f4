use Rattle.std.proofs.Common.{◌≡◌, ◌-◌, ◌<◌, ℕ, length, slice_index}
use Rattle.lms_spec.specs.Ots.{last_digit}
use Rattle.lms_params.specs.OtsType.{ots_set_of}
use Rattle.lms_ots.proofs.chain_ends.steps_from.Given as goal

abbrev pub invariant-chains : goal.invariant-chains
invariant-chains l = record {
  long : length l.steps ≡ 265;
  made : (j : ℕ) → j < l.i → slice_index l.steps j ≡ last_digit (ots_set_of l.fn.t) - slice_index l.digits j;
}
