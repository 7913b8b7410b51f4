use Rattle.lms_spec.specs.Hashing.{chain_secret}
use Rattle.lms_spec.specs.Profile.{derived}
use Rattle.lms_hss.proofs.child_key.derived.Goals as goal

pub returns : goal.returns
unfolding derived chain_secret
returns c = c.secret.ensures
