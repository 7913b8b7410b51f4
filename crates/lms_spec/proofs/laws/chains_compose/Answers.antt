use Rattle.lms_spec.proofs.Chains.{chain-chain}
use Rattle.lms_spec.proofs.laws.chains_compose.Goals as goal

pub returns : goal.returns
returns c = chain-chain
