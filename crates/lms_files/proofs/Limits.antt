-- What is read of a file up to a limit.
use Rattle.std.proofs.Common.{◌≡◌, ◌∙◌, ℕ, ◌<◌, ◌≤◌, List, length, take, min, Option, Some, None, ap, arith}
use Rattle.std.specs.Prelude.{IfSome, option_map}
use Rattle.std.proofs.lemmas.List.{length-take, take_all}

-- where fewer bytes were read than the limit they are all that was left
pub are_all : (left : Option (List ℕ)) (limit : ℕ) (bytes : List ℕ)
    → IfSome (option_map (take limit) left) (λ front. bytes ≡ front) → length bytes < limit
    → IfSome left (λ rest. bytes ≡ rest)
are_all None limit bytes are fewer = tt
are_all (Some rest) limit bytes are fewer =
    let count : length bytes ≡ min limit (length rest) = ap length are ∙ length-take limit rest in
    let short : length rest ≤ limit = omega (arith, count, fewer) in
    are ∙ take_all limit rest short
