-- The fault of a call that is out of memory.
use Rattle.std.specs.Prelude.{ℕ, List, codes}

-- what it prints
abbrev pub out_of_memory_text : List ℕ
out_of_memory_text = codes "out of memory"
