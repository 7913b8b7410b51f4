use Rattle.std.proofs.Common.{◌≡◌}
use Rattle.lms_spec.specs.Profile.{leaf_at}
use Rattle.lms_params.proofs.Filling.{filled}
use Rattle.lms_hss.specs.Keys.{hss_key_of}
use Rattle.lms_hss.proofs.key.HssKey.places.Given as goal

abbrev pub invariant-loop-k : goal.invariant-loop-k
invariant-loop-k l = l.places ≡ filled (leaf_at (hss_key_of l.self) l.g) 8 l.k
