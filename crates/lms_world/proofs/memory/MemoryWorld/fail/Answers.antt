use Rattle.std.proofs.Common.{◌≡◌, ◌∙◌, ◌∷◌, Result, Ok, Err, ap}
use Rattle.std.specs.Prelude.{ℕ, List, OnOk, if◌then◌else◌, is_ok}
use Rattle.lms_world.specs.Held.{Answers, answer_in}
use Rattle.lms_world.proofs.Answering.{answer_first}
use Rattle.lms_world.proofs.memory.MemoryWorld.fail.Goals as goal

put_first : {T E : Type 0} (result : Result T E) (name : List ℕ) (answer : Result (List ℕ) _) (old new : Answers)
    → new ≡ (if is_ok result then (name, answer) ∷ old else old) → OnOk result (answer_in new name ≡ answer)
put_first (Ok x) name answer old new is =
    ap (λ (files : Answers). answer_in files name) is ∙ answer_first name answer old
put_first (Err e) name answer old new is = tt

pub returns-clause-fails : goal.returns-clause-fails
returns-clause-fails c = put_first c.put.result c.args.name.now (Err c.args.fault) _ _ c.put.ensures.files
