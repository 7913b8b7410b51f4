-- What contracts see of the calls that a log records.
use Rattle.lms_world.specs.Events.{Event, Read, Opened, Written, Locked, Unlocked, Asked}
use Rattle.lms_world.specs.Events.{Acquired, NotAvailable, NoMemory}
use Rattle.lms_world.specs.Events.{Taken, NodesRead, NodesWritten, Printed}
use Rattle.lms_world.specs.Events.{WitnessMade, WitnessRead, WitnessWritten}
use Rattle.lms_world.specs.Events.{place_of, read_of, witness_of}
use Rattle.std.specs.Prelude.{None, Err, option_map}
use Rattle.lms_world.specs.declared.log.Call.{Call as LoggedCall}
use Rattle.lms_world.specs.declared.log.Call.TheVariants as logged

abbrev pub event_of : LoggedCall → Event
event_of (logged.Read name answer) = Read name.now (read_of answer.now)
event_of (logged.NotOpened name fault) = Opened name.now (Err fault)
event_of (logged.Written name bytes answer) = Written name.now bytes.now answer
event_of (logged.Acquired name) = Locked name.now Acquired
event_of (logged.NotAvailable name) = Locked name.now NotAvailable
event_of (logged.NoMemory name) = Locked name.now NoMemory
event_of logged.Unlocked = Unlocked
event_of (logged.Asked there) = Asked there
event_of logged.NotTaken = Taken None
event_of (logged.NodesRead found) = NodesRead (option_map (λ text. text.items) found.now)
event_of (logged.NodesWritten text answer) = NodesWritten text.now answer
event_of (logged.WitnessRead answer) = WitnessRead (witness_of answer.now)
event_of (logged.WitnessWritten text answer) = WitnessWritten text.now answer
event_of (logged.WitnessMade name text answer) = WitnessMade name.now text.now (place_of answer.now)
event_of (logged.Printed bytes) = Printed bytes.now
