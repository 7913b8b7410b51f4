-- What the faults of a store and of its book print.
use Rattle.std.specs.Prelude.{ℕ, ◌+◌, ◌-◌, ◌^◌, min, List, ◌++◌, codes}
use Rattle.std.specs.Fmt.{decimal}
use Rattle.lms_params.specs.Faults.{out_of_memory_text}
use Rattle.lms_image.specs.Faults.{image_fault_text}
use Rattle.lms_book.specs.declared.fault.ReadFault.{ReadFault}
use Rattle.lms_book.specs.declared.fault.ReadFault.TheVariants as read
use Rattle.lms_book.specs.declared.fault.OpenFault.{OpenFault}
use Rattle.lms_book.specs.declared.fault.OpenFault.TheVariants as opening
use Rattle.lms_book.specs.declared.fault.BookFault.{BookFault}
use Rattle.lms_book.specs.declared.fault.BookFault.TheVariants.{Exhausted, OutOfMemory, Store}

-- the text of a read that failed
abbrev pub read_fault_text : ReadFault → List ℕ
read_fault_text read.Device = codes "cannot read state"
read_fault_text read.OutOfMemory = out_of_memory_text

-- the text of a replacement that failed
abbrev pub store_fault_text : List ℕ
store_fault_text = codes "cannot write state"

-- the text of an opening that was refused
abbrev pub open_fault_text : OpenFault → List ℕ
open_fault_text opening.Store = read_fault_text read.Device
open_fault_text (opening.Image fault) = codes "bad state: " ++ image_fault_text fault
open_fault_text opening.OutOfMemory = out_of_memory_text

-- the last of `len` indices from `start` on, at most 2^64 - 1
abbrev pub last_index : ℕ → ℕ → ℕ
last_index start len = min (start + (len - 1)) (2 ^ 64 - 1)

-- the text of a reservation that was refused
abbrev pub book_fault_text : BookFault → List ℕ
book_fault_text (Exhausted left) = codes "exhausted: " ++ (decimal left ++ codes " left")
book_fault_text OutOfMemory = out_of_memory_text
book_fault_text (Store start len) =
    store_fault_text
    ++ (codes ": "
    ++ (decimal start ++ (codes " to " ++ (decimal (last_index start len) ++ codes " burnt"))))
