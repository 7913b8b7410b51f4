-- The message that the first pieces make.
use Rattle.std.proofs.Common.{ℕ, ◌≡◌, ◌+◌, ◌<◌, List, [], ◌∷◌, ◌++◌, length, map, take, get_or, ◌∙◌, ap, append-nil}
use Rattle.std.proofs.Common.{add-one}
use Rattle.std.specs.List.{concat}
use Rattle.std.proofs.Math.Seq.{take-suc}
use Rattle.std.proofs.lemmas.List.{map-append}
use Rattle.std.proofs.lemmas.List.Folds.{concat-append}
use Rattle.lms_calls.specs.declared.Piece.{Piece}
use Rattle.lms_calls.specs.Pieces.{joined}

pub joined-next : (pieces : List Piece) (i : ℕ) (d : Piece) → i < length pieces
    → joined (take (i + 1) pieces) ≡ joined (take i pieces) ++ (get_or pieces i d).bytes.now
joined-next pieces i d lt =
    let bytes : Piece → List ℕ = λ piece. piece.bytes.now in
    ap (λ n. joined (take n pieces)) (add-one i)
    ∙ (ap joined (take-suc pieces i d lt)
    ∙ (ap concat (map-append bytes (take i pieces) (get_or pieces i d ∷ []))
    ∙ (concat-append (map bytes (take i pieces)) (bytes (get_or pieces i d) ∷ [])
    ∙ ap (λ x. joined (take i pieces) ++ x) (append-nil (bytes (get_or pieces i d))))))
