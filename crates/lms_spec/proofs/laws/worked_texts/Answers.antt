use Rattle.std.proofs.Common.{refl}
use Rattle.lms_spec.specs.Hashing.{chain_secret, chain_step}
use Rattle.lms_spec.specs.Ots.{ends_hash, message_hash}
use Rattle.lms_spec.specs.Tree.{leaf_hash, inner_hash, lms_public_key}
use Rattle.lms_spec.proofs.laws.worked_texts.Goals as goal

pub returns : goal.returns
unfolding chain_secret chain_step ends_hash message_hash leaf_hash inner_hash lms_public_key
returns c = record {
  last_digits = refl;
  secret = refl;
  step = refl;
  ends = refl;
  message = refl;
  leaf = refl;
  inner = refl;
  public_key = refl;
}
