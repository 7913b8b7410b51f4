use Rattle.std.proofs.Common.{rules}
use Rattle.lms_book.proofs.memory.MemoryStoreStateStore.replace.Goals as goal

pub returns-in-Some-Old-clause-planned : goal.returns-in-Some-Old-clause-planned
returns-in-Some-Old-clause-planned c = search rules

pub returns-in-Some-New-clause-planned : goal.returns-in-Some-New-clause-planned
returns-in-Some-New-clause-planned c = search rules
