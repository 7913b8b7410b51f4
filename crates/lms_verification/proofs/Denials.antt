-- When an answer of false is right.
use Rattle.std.proofs.Common.{false, Decides}
use Rattle.std.proofs.lemmas.Bool.{false≢true}

pub Decides-never : {P : Type 0} → ¬ P → Decides false P
Decides-never never = (λ e. absurd (false≢true e), λ p. absurd (never p))
