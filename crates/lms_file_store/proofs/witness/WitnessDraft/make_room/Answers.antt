use Rattle.lms_file_store.proofs.Steps.{on_ok_always}
use Rattle.lms_file_store.proofs.witness.WitnessDraft.make_room.Goals as goal

pub returns : goal.returns
returns g c =
    let written = c.in_ok-overwrite.ensures in
    on_ok_always c.sync_all.result (written.0, (c.overwrite.new.self.file, written.1))
