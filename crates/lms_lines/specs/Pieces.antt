-- Pieces of an input, each of whole lines.
use Rattle.std.specs.Prelude.{◌≡◌, ◌⊎◌, ℕ, ◌<◌, ◌≤◌, Bool, true, false, List, [], ◌∷◌, ◌++◌, length, Option}
use Rattle.std.specs.Io.KnownBytes.{Consumes, IsAtEnd}
use Rattle.lms_lines.specs.JobLines.{longest_line}
use Rattle.lms_lines.specs.TextLines.{lines_of}
use Rattle.lms_lines.specs.Gathered.{HasNoEnd}
use Rattle.lms_lines.specs.declared.fault.JobsFault.{JobsFault}
use Rattle.lms_lines.specs.declared.fault.JobsFault.TheVariants.{Read, BadJob, OutOfMemory}
use Rattle.lms_lines.specs.declared.pieces.Piece.{Piece}

-- bytes that an LF ends
abbrev pub EndsLine : List ℕ → Type 0
EndsLine text = (front : List ℕ) × (text ≡ front ++ 10 ∷ [])

-- how a piece ends: with the end of a line; or, if it is the last, with the input, and then it is a
-- line without LF, or nothing
abbrev pub EndsPiece : Bool → List ℕ → List ℕ → Option (List ℕ) → Type 0
EndsPiece true text left input = HasNoEnd text × (left ≡ []) × IsAtEnd input
EndsPiece false text left input = EndsLine text

-- of what was held and what is read a piece is cut, of at most so many lines; the rest is held
pub record CutsPiece (held : List ℕ) (old new : Option (List ℕ)) (most : ℕ) (piece : Piece)
    (left : List ℕ) : Type 0 where
  pub read : List ℕ
  pub consumed : Consumes old new read
  pub parts : held ++ read ≡ piece.text.items ++ left
  pub lines : piece.lines ≡ length (lines_of piece.text.items)
  pub few : piece.lines ≤ most
  pub ends : EndsPiece piece.is_last piece.text.items left new

-- none is cut, since what is held begins a line that is too long for a job
pub record IsTooLong (held : List ℕ) (old new : Option (List ℕ)) : Type 0 where
  pub read : List ℕ
  pub consumed : Consumes old new read
  pub one_line : HasNoEnd (held ++ read)
  pub long : longest_line < length (held ++ read)

-- why none is cut
abbrev pub CutsNone : List ℕ → Option (List ℕ) → Option (List ℕ) → JobsFault → Type 0
CutsNone held old new fault =
    (fault ≡ Read) ⊎ ((fault ≡ OutOfMemory) ⊎ ((fault ≡ BadJob 1) × IsTooLong held old new))
