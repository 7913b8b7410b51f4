-- A line for who looks on at a terminal.
use Rattle.std.specs.Prelude.{◌≡◌, ◌≤◌, ◌++◌, ◌&&◌, ℕ, List, [], ◌∷◌, codes, if◌then◌else◌, length, map, nat_le}
use Rattle.lms_world.specs.declared.note.Note.{Note}

-- the most bytes of a note's text
abbrev pub most_noted : ℕ
most_noted = 193

-- the text of a note, as it was put together
abbrev pub note_text : Note → List ℕ
note_text note = note.text.items

-- what is shown of a byte: printable ASCII itself, and `?` for others
abbrev pub shown : ℕ → ℕ
shown byte = if nat_le 32 byte && nat_le byte 126 then byte else 63

-- what a note of this text prints: nothing, or one line
abbrev pub note_line : List ℕ → List ℕ
note_line [] = []
note_line (first ∷ rest) = codes "note: " ++ map shown (first ∷ rest) ++ codes "\n"

-- a text is nothing, or one line of printable ASCII that a note prints, of at most 200 bytes
abbrev pub IsNote : List ℕ → Type 0
IsNote line = (text : List ℕ) × (length text ≤ most_noted) × (line ≡ note_line text)
