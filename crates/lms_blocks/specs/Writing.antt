-- What is written of some bytes, and what a fault of writing prints.
use Rattle.std.specs.Prelude.{◌≡◌, ℕ, List, ◌++◌, codes, Option}
use Rattle.std.specs.Io.KnownBytes.{Appends}

-- a beginning of the text was appended
pub record AppendsFront (old new : Option (List ℕ)) (text : List ℕ) : Type 0 where
  pub front : List ℕ
  pub rest : List ℕ
  pub whole : text ≡ front ++ rest
  pub appended : Appends old new front

-- what a fault of writing prints
abbrev pub write_fault_text : List ℕ
write_fault_text = codes "cannot write output"
