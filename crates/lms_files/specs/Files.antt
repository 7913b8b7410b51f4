-- What is written to files and read from them, and where a file is.
use Rattle.std.specs.Prelude.{ℕ, ◌≡◌, List, [], ◌∷◌, Option, Some, None, IfSome}
use Rattle.std.specs.Io.KnownBytes.{Appends}
use Rattle.std.specs.Path.{dot, path_parent}

-- these bytes were written to this file: what it then has, where that is known, is what it had and these
abbrev pub AreWrittenTo : (F : Type 0) → (F → Option (List ℕ)) → F → List ℕ → Type 0
AreWrittenTo F contents file bytes = (after : F) × Appends (contents file) (contents after) bytes

-- these bytes were written to some file
abbrev pub AreWritten : (F : Type 0) → (F → Option (List ℕ)) → List ℕ → Type 0
AreWritten F contents bytes = (file : F) × AreWrittenTo F contents file bytes

-- these bytes are all that was left in this file, where that is known
abbrev pub AreLeftIn : (F : Type 0) → (F → Option (List ℕ)) → F → List ℕ → Type 0
AreLeftIn F remaining file bytes = IfSome (remaining file) (λ rest. bytes ≡ rest)

-- these bytes are all that was left in some file, where that is known
abbrev pub AreLeft : (F : Type 0) → (F → Option (List ℕ)) → List ℕ → Type 0
AreLeft F remaining bytes = (file : F) × AreLeftIn F remaining file bytes

-- the folder that holds a file, by what is before its name
abbrev pub folder_by : Option (List ℕ) → List ℕ
folder_by None = dot ∷ []
folder_by (Some []) = dot ∷ []
folder_by (Some (first ∷ others)) = first ∷ others

-- the folder that holds a file
abbrev pub folder_of : List ℕ → List ℕ
folder_of path = folder_by (path_parent path)
