use denote.Param.Send.{sendable}
use Rattle.std.proofs.Crossing.{crosses}
use Rattle.lms_batch.proofs.Sent.{worker_is_sent}
use Rattle.lms_batch.proofs.crew.sign_leased.Goals as goal

pub for_each_mut-requires-send-T : goal.for_each_mut-requires-send-T
for_each_mut-requires-send-T g c κs within = search (worker_is_sent, sendable, crosses) depth 20
