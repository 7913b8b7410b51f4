use Rattle.std.proofs.Common.{rules}
use Rattle.lms_calls.proofs.message_head.Goals as goal

pub returns-clause-head : goal.returns-clause-head
returns-clause-head g c = search rules
