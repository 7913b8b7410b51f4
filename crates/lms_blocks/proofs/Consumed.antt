-- Two reads, one after the other.
use Rattle.std.proofs.Common.{ℕ, List, ◌++◌, Option, None, Some, ap, sym, ◌∙◌, append_assoc}
use Rattle.std.specs.Io.KnownBytes.{Consumes}

pub consumes-both : (a b c : Option (List ℕ)) (xs ys : List ℕ) → Consumes a b xs → Consumes b c ys
    → Consumes a c (xs ++ ys)
consumes-both None b c xs ys p q = tt
consumes-both (Some x) None c xs ys p q = absurd p
consumes-both (Some x) (Some y) None xs ys p q = absurd q
consumes-both (Some x) (Some y) (Some z) xs ys p q = p ∙ ap (λ l. xs ++ l) q ∙ sym (append_assoc xs ys z)
