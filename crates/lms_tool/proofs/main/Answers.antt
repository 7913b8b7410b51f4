use denote.Param.Send.{sendable}
use Rattle.std.proofs.Crossing.{crosses}
use Rattle.lms_disk.proofs.Sent.{store_is_sent}
use Rattle.lms_tool.proofs.main.Goals as goal

pub run-status-requires-send-W-Store : goal.run-status-requires-send-W-Store
run-status-requires-send-W-Store g c κs within = search (store_is_sent, sendable, crosses) depth 20
