-- The texts of options.
use Rattle.std.specs.Prelude.{ℕ, ◌≡◌, ◌<◌, ◌≤◌, List, Ok, length}
use Rattle.std.specs.Fmt.{decimal}
use Rattle.hex.specs.Hex.{decode_of}
use Rattle.lms_params.specs.declared.lms_type.LmsType.{LmsType}
use Rattle.lms_params.specs.declared.ots_type.OtsType.{OtsType}
use Rattle.lms_hss.specs.Texts.{levels_text}
use Rattle.lms_batch.specs.Jobs.{most_workers}

-- the text is that of these levels, of which there is one at least
abbrev pub IsLevelsText : List ℕ → List (LmsType × OtsType) → Type 0
IsLevelsText text pairs = (0 < length pairs) × (text ≡ levels_text pairs)

-- the text is a number of workers that a batch may have, in decimal
abbrev pub IsWorkers : List ℕ → ℕ → Type 0
IsWorkers text workers = (1 ≤ workers) × (workers ≤ most_workers) × (text ≡ decimal workers)

abbrev pub AreWorkers : List ℕ → Type 0
AreWorkers text = (workers : ℕ) × IsWorkers text workers

-- the text is n bytes in hexadecimal
abbrev pub IsHexOf : ℕ → List ℕ → Type 0
IsHexOf n text = (bytes : List ℕ) × (length bytes ≡ n) × (decode_of text ≡ Ok bytes)
