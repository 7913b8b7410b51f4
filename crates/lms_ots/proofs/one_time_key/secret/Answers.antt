use Rattle.std.proofs.Common.{◌∷◌, ◌++◌, ◌∙◌, ap}
use Rattle.sha2.specs.Sha256.{sha256}
use Rattle.lms_spec.specs.Hashing.{chain_secret}
use Rattle.lms_ots.proofs.one_time_key.secret.Goals as goal

pub returns : goal.returns
unfolding chain_secret
returns c = c.hash_after.ensures ∙ ap (λ head. sha256 (head ++ 0xff ∷ c.args.seed.now)) c.chain_head.ensures
