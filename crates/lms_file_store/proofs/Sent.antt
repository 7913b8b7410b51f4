-- A store in a file may go to another thread. Its search is long where the program is made, so it
-- is done here.
use denote.Param.Send.{IsSend, IsSync, sendable}
use denote.Ref.{NamedLft}
use denote.RattleType.{RattleType}
use Rattle.std.proofs.Crossing.{crosses}
use Rattle.std.specs.declared.io.traits.Read as read
use Rattle.std.specs.declared.io.traits.Write as written
use Rattle.std.specs.declared.io.traits.Seek as seek
use Rattle.lms_book.specs.contracts.last_read.LastRead as last_read
use Rattle.lms_book.specs.contracts.stored_bytes.StoredBytes as text
use Rattle.lms_file_store.specs.contracts.record.Record as entry
use Rattle.lms_file_store.specs.contracts.file_store.FileStore as store

last_read_is_sent : IsSend last_read.the_row
last_read_is_sent = search (sendable, crosses) depth 20

text_is_sent : IsSend text.the_row
text_is_sent = search (sendable, crosses) depth 20

record_is_sent : IsSend entry.the_row
record_is_sent = search (text_is_sent, sendable, crosses) depth 20

pub store_is_sent : (κ : NamedLft) (files file names : RattleType) (reads : read.Ghosts file.Denot)
    (wrote : written.Ghosts file.Denot) (seeks : seek.Ghosts file.Denot) (listed : read.Ghosts names.Denot)
    → IsSync files → IsSend (store.the_row κ files file names reads wrote seeks listed)
store_is_sent κ files file names reads wrote seeks listed shared =
    search (shared, last_read_is_sent, record_is_sent, sendable, crosses) depth 20
