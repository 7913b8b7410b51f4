-- Why commands fail, by the steps that failed.
use Rattle.std.proofs.Common.{◌≡◌, Result, Ok, Err, sym, subst}
use Rattle.std.specs.Prelude.{IfErr, IsErrAnd}

-- a fault that a `?` forwards
pub handed_on : {T E : Type 0} (result : Result T E) (fault : E) (P : E → Type 0)
    → IsErrAnd result (λ other. other ≡ fault) → P fault → IfErr result P
handed_on (Ok x) fault P is p = tt
handed_on (Err other) fault P is p = subst P (sym is) p
