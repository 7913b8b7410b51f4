-- The names of files and states.
use Rattle.std.specs.Prelude.{ℕ, List}

-- the bytes of a name, of an option's text or of what is kept of nodes
abbrev pub Bytes : Type 0
Bytes = List ℕ
