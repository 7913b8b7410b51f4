-- What a last step leaves said.
use Rattle.std.proofs.Common.{Result, Ok, Err}
use Rattle.std.specs.Prelude.{OnOk}

-- what is so in any case is so where a step succeeds
pub on_ok_always : {T E P : Type 0} (step : Result T E) → P → OnOk step P
on_ok_always (Ok done) always = always
on_ok_always (Err error) always = tt
