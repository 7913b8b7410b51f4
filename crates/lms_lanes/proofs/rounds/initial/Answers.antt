use Rattle.lms_lanes.proofs.Lanes.{◌beside◌, no_more, EachLane-splat}
use Rattle.lms_lanes.proofs.rounds.initial.Goals as goal

pub returns-clause-lanes : goal.returns-clause-lanes
returns-clause-lanes c = (EachLane-splat 0x6A09E667 beside EachLane-splat 0xBB67AE85 beside EachLane-splat 0x3C6EF372
    beside EachLane-splat 0xA54FF53A beside EachLane-splat 0x510E527F beside EachLane-splat 0x9B05688C
    beside EachLane-splat 0x1F83D9AB beside EachLane-splat 0x5BE0CD19 beside no_more).lane
