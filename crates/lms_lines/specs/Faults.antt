-- What the faults of job lines and of answer lines print.
use Rattle.std.specs.Prelude.{ℕ, List, ◌++◌, codes}
use Rattle.std.specs.Fmt.{decimal}
use Rattle.lms_params.specs.Faults.{out_of_memory_text}
use Rattle.lms_batch.specs.Faults.{batch_fault_text}
use Rattle.lms_batch.specs.declared.fault.BatchFault.TheVariants as batch
use Rattle.lms_lines.specs.declared.fault.JobsFault.{JobsFault}
use Rattle.lms_lines.specs.declared.fault.JobsFault.TheVariants.{Read, BadJob, TooManyJobs, OutOfMemory}

-- what is printed of an input that gave no jobs
abbrev pub jobs_fault_text : JobsFault → List ℕ
jobs_fault_text Read = codes "cannot read input"
jobs_fault_text (BadJob line) = codes "line " ++ (decimal line ++ codes ": bad job")
jobs_fault_text TooManyJobs = batch_fault_text batch.TooMany
jobs_fault_text OutOfMemory = out_of_memory_text
