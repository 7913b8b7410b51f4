-- What a note takes of bytes.
use Rattle.std.proofs.Common.{◌≡◌, ◌∙◌, ◌+◌, ◌++◌, ℕ, List, ap, sym, length, take, min, arith}
use Rattle.std.proofs.Math.Seq.{take-append-add}
use Rattle.std.proofs.lemmas.List.{take_min}

-- as many bytes as there is room for
pub taken : (room most : ℕ) (old bytes : List ℕ) → room + length old ≡ most
    → old ++ take (min room (length bytes)) bytes ≡ take most (old ++ bytes)
taken room most old bytes fits =
    let sum : length old + room ≡ most = omega (arith, fits) in
    ap (λ (part : List ℕ). old ++ part) (take_min room bytes)
    ∙ sym (take-append-add old bytes room)
    ∙ ap (λ (n : ℕ). take n (old ++ bytes)) sum
