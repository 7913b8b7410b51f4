-- The lines of a text.
use Rattle.std.specs.Prelude.{ℕ, List, [], ◌∷◌, ◌==◌, if◌then◌else◌}

-- the lines with a byte put before the first of them
abbrev pub before_first : ℕ → List (List ℕ) → List (List ℕ)
before_first x [] = (x ∷ []) ∷ []
before_first x (line ∷ lines) = (x ∷ line) ∷ lines

-- the lines of a text, each without the LF that ends it, which the last one may lack
unfoldable pub lines_of : List ℕ → List (List ℕ)
lines_of [] = []
lines_of (x ∷ rest) = if x == 10 then [] ∷ lines_of rest else before_first x (lines_of rest)
