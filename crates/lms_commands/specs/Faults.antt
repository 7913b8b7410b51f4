-- The texts of the program's faults and its exit statuses.
use Rattle.std.specs.Prelude.{ℕ, List, ◌++◌, codes, decimal}
use Rattle.lms_hss.specs.declared.fault.KeyFault.{KeyFault}
use Rattle.lms_hss.specs.declared.fault.KeyFault.TheVariants as key
use Rattle.lms_hss.specs.Faults.{key_fault_text as key_text}
use Rattle.lms_params.specs.Faults.{out_of_memory_text}
use Rattle.lms_book.specs.Faults.{book_fault_text, open_fault_text, store_fault_text}
use Rattle.lms_book.specs.declared.fault.BookFault.{BookFault}
use Rattle.lms_book.specs.declared.fault.BookFault.TheVariants as book
use Rattle.lms_book.specs.declared.fault.OpenFault.{OpenFault}
use Rattle.lms_book.specs.declared.fault.OpenFault.TheVariants as opening
use Rattle.lms_batch.specs.Faults.{batch_fault_text}
use Rattle.lms_batch.specs.declared.fault.BatchFault.{BatchFault}
use Rattle.lms_batch.specs.declared.fault.BatchFault.TheVariants as batch
use Rattle.lms_lines.specs.Faults.{jobs_fault_text}
use Rattle.lms_blocks.specs.Writing.{write_fault_text}
use Rattle.lms_lines.specs.declared.fault.JobsFault.{JobsFault}
use Rattle.lms_lines.specs.declared.fault.JobsFault.TheVariants as jobs
use Rattle.lms_lines.specs.declared.fault.LinesFault.{LinesFault}
use Rattle.lms_lines.specs.declared.fault.LinesFault.TheVariants as lines
use Rattle.lms_commands.specs.declared.fault.Fault.{Fault}
use Rattle.lms_commands.specs.declared.fault.Fault.TheVariants.{BadLevels, TooManyLevels, TooTall, BadSeed, BadId}
use Rattle.lms_commands.specs.declared.fault.Fault.TheVariants.{BadRandom, BadWorkers, BadPublicKey, BadEndorsement}
use Rattle.lms_commands.specs.declared.fault.Fault.TheVariants.{BadSignature, BadJob, TooManyJobs, StateExists}
use Rattle.lms_commands.specs.declared.fault.Fault.TheVariants.{StateInUse, ReadState, BadState, WriteState}
use Rattle.lms_commands.specs.declared.fault.Fault.TheVariants.{WriteStateBurnt, Exhausted, OutOfMemory}
use Rattle.lms_commands.specs.declared.fault.Fault.TheVariants.{OutOfMemoryBurnt, Partial, ReadInput, WriteOutput}
use Rattle.lms_commands.specs.declared.fault.Fault.TheVariants.{ReadWitness, BadWitness, StateOlder, StateNotOlder}
use Rattle.lms_commands.specs.declared.fault.Fault.TheVariants.{BadCounter, OtherCounter, WitnessExists}
use Rattle.lms_commands.specs.declared.fault.Fault.TheVariants.{WriteWitness, WriteWitnessBurnt}
use Rattle.lms_texts.specs.Faults.{levels_fault_text, seed_fault_text}
use Rattle.lms_texts.specs.declared.fault.LevelsTextFault.{LevelsTextFault}
use Rattle.lms_texts.specs.declared.fault.LevelsTextFault.TheVariants as unread
use Rattle.lms_texts.specs.declared.fault.SeedFault.{SeedFault}
use Rattle.lms_texts.specs.declared.fault.SeedFault.TheVariants as seed
use Rattle.lms_commands.specs.declared.status.Status.{Status}
use Rattle.lms_commands.specs.declared.status.Status.TheVariants as status

abbrev pub command_fault_text : Fault → List ℕ
command_fault_text BadLevels = levels_fault_text unread.Bad
command_fault_text TooManyLevels = key_text key.TooManyLevels
command_fault_text TooTall = key_text key.TooTall
command_fault_text BadSeed = seed_fault_text seed.Bad
command_fault_text BadId = codes "bad id"
command_fault_text BadRandom = codes "bad random"
command_fault_text BadWorkers = codes "bad workers"
command_fault_text BadCounter = codes "bad counter"
command_fault_text BadPublicKey = codes "bad public key"
command_fault_text BadEndorsement = codes "bad endorsement"
command_fault_text BadSignature = codes "bad signature"
command_fault_text (BadJob line) = jobs_fault_text (jobs.BadJob line)
command_fault_text TooManyJobs = jobs_fault_text jobs.TooManyJobs
command_fault_text StateExists = codes "state exists"
command_fault_text WitnessExists = codes "witness exists"
command_fault_text StateInUse = codes "state in use"
command_fault_text ReadState = open_fault_text opening.Store
command_fault_text (BadState fault) = open_fault_text (opening.Image fault)
command_fault_text WriteState = store_fault_text
command_fault_text (WriteStateBurnt start len) = book_fault_text (book.Store start len)
command_fault_text ReadWitness = codes "cannot read witness"
command_fault_text BadWitness = codes "bad witness"
command_fault_text StateOlder = codes "state is older than its witness"
command_fault_text StateNotOlder = codes "state is not older than its witness"
command_fault_text (OtherCounter counter) = codes "counter is " ++ decimal counter
command_fault_text WriteWitness = codes "cannot write witness"
command_fault_text (WriteWitnessBurnt first last) =
    codes "cannot write witness: " ++ decimal first ++ codes " to " ++ decimal last ++ codes " burnt"
command_fault_text (Exhausted left) = book_fault_text (book.Exhausted left)
command_fault_text OutOfMemory = out_of_memory_text
command_fault_text (OutOfMemoryBurnt count) = batch_fault_text (batch.OutOfMemory count)
command_fault_text (Partial signed asked) =
    codes "partial: " ++ decimal signed ++ codes " of " ++ decimal asked ++ codes " signed"
command_fault_text ReadInput = jobs_fault_text jobs.Read
command_fault_text WriteOutput = write_fault_text

-- the line on standard error
abbrev pub fault_line : Fault → List ℕ
fault_line fault = codes "error: " ++ command_fault_text fault ++ codes "\n"

abbrev pub status_of : Fault → Status
status_of BadLevels = status.Usage
status_of TooManyLevels = status.Usage
status_of TooTall = status.Usage
status_of BadSeed = status.Usage
status_of BadId = status.Usage
status_of BadRandom = status.Usage
status_of BadWorkers = status.Usage
status_of BadCounter = status.Usage
status_of BadPublicKey = status.Usage
status_of BadEndorsement = status.Usage
status_of BadSignature = status.Usage
status_of (BadJob line) = status.Usage
status_of TooManyJobs = status.Usage
status_of StateExists = status.State
status_of WitnessExists = status.State
status_of StateInUse = status.State
status_of ReadState = status.State
status_of (BadState fault) = status.State
status_of WriteState = status.State
status_of (WriteStateBurnt start len) = status.State
status_of ReadWitness = status.State
status_of BadWitness = status.State
status_of StateOlder = status.State
status_of StateNotOlder = status.State
status_of (OtherCounter counter) = status.State
status_of WriteWitness = status.State
status_of (WriteWitnessBurnt first last) = status.State
status_of (Exhausted left) = status.Exhausted
status_of OutOfMemory = status.Memory
status_of (OutOfMemoryBurnt count) = status.Memory
status_of (Partial signed asked) = status.Negative
status_of ReadInput = status.Stream
status_of WriteOutput = status.Stream

abbrev pub status_number : Status → ℕ
status_number status.Done = 0
status_number status.Negative = 1
status_number status.Usage = 2
status_number status.State = 3
status_number status.Exhausted = 4
status_number status.Memory = 5
status_number status.Stream = 6

-- the fault that a refused list of levels is; a list has one level at least
abbrev pub of_key : KeyFault → Fault
of_key key.NoLevels = BadLevels
of_key key.TooManyLevels = TooManyLevels
of_key key.TooTall = TooTall

-- the fault that an unread list of levels is
abbrev pub of_text : LevelsTextFault → Fault
of_text unread.Bad = BadLevels
of_text unread.OutOfMemory = OutOfMemory

-- the fault that a seed not read is
abbrev pub of_seed : SeedFault → Fault
of_seed seed.Bad = BadSeed
of_seed seed.Read = ReadInput

-- the fault that a refused opening is
abbrev pub of_opening : OpenFault → Fault
of_opening opening.Store = ReadState
of_opening (opening.Image fault) = BadState fault
of_opening opening.OutOfMemory = OutOfMemory

-- the fault that a refused reservation is
abbrev pub of_book : BookFault → Fault
of_book (book.Exhausted left) = Exhausted left
of_book book.OutOfMemory = OutOfMemory
of_book (book.Store start len) = WriteStateBurnt start len

-- the fault that job lines not read are
abbrev pub of_jobs : JobsFault → Fault
of_jobs jobs.Read = ReadInput
of_jobs (jobs.BadJob line) = BadJob line
of_jobs jobs.TooManyJobs = TooManyJobs
of_jobs jobs.OutOfMemory = OutOfMemory

-- the fault that a refused batch is
abbrev pub of_batch : BatchFault → Fault
of_batch batch.TooMany = TooManyJobs
of_batch (batch.Book fault) = of_book fault
of_batch (batch.OutOfMemory burnt) = OutOfMemoryBurnt burnt

-- the fault that job lines not answered are
abbrev pub of_lines : LinesFault → Fault
of_lines (lines.Jobs fault) = of_jobs fault
of_lines (lines.Batch fault) = of_batch fault
of_lines lines.Write = WriteOutput
