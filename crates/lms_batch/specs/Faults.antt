-- What the fault of a batch prints.
use Rattle.std.specs.Prelude.{ℕ, List, ◌++◌, codes}
use Rattle.std.specs.Fmt.{decimal}
use Rattle.lms_params.specs.Faults.{out_of_memory_text}
use Rattle.lms_book.specs.Faults.{book_fault_text}
use Rattle.lms_batch.specs.declared.fault.BatchFault.{BatchFault}
use Rattle.lms_batch.specs.declared.fault.BatchFault.TheVariants.{TooMany, Book, OutOfMemory}

-- what is printed where no batch was made
abbrev pub batch_fault_text : BatchFault → List ℕ
batch_fault_text TooMany = codes "too many jobs"
batch_fault_text (Book fault) = book_fault_text fault
batch_fault_text (OutOfMemory burnt) =
    out_of_memory_text ++ (codes ": " ++ (decimal burnt ++ codes " burnt"))
