-- A message in pieces.
use Rattle.std.specs.Prelude.{ℕ, List, map}
use Rattle.std.specs.List.{concat}
use Rattle.lms_calls.specs.declared.Piece.{Piece}

-- the bytes of these pieces, one after the other
abbrev pub joined : List Piece → List ℕ
joined pieces = concat (map (λ piece. piece.bytes.now) pieces)
