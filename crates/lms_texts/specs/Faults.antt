-- What the faults of a text of levels and of a seed print.
use Rattle.std.specs.Prelude.{ℕ, List, codes}
use Rattle.lms_lines.specs.Faults.{jobs_fault_text}
use Rattle.lms_lines.specs.declared.fault.JobsFault.TheVariants as jobs
use Rattle.lms_params.specs.Faults.{out_of_memory_text}
use Rattle.lms_texts.specs.declared.fault.LevelsTextFault.{LevelsTextFault}
use Rattle.lms_texts.specs.declared.fault.LevelsTextFault.TheVariants.{Bad, OutOfMemory}
use Rattle.lms_texts.specs.declared.fault.SeedFault.{SeedFault}
use Rattle.lms_texts.specs.declared.fault.SeedFault.TheVariants as seed

-- why no levels are read, as it is printed
abbrev pub levels_fault_text : LevelsTextFault → List ℕ
levels_fault_text Bad = codes "bad levels"
levels_fault_text OutOfMemory = out_of_memory_text

-- why there is no seed
abbrev pub seed_fault_text : SeedFault → List ℕ
seed_fault_text seed.Bad = codes "bad seed"
seed_fault_text seed.Read = jobs_fault_text jobs.Read
