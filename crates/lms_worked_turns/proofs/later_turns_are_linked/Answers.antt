use Rattle.std.proofs.Common.{◌∷◌, [], None, Some, inl, refl, arith}
use Rattle.lms_worked_turns.specs.Worked.{image_after, unwatched}
use Rattle.lms_worked_turns.proofs.Carried.{carried}
use Rattle.lms_worked_turns.proofs.later_turns_are_linked.Goals as goal

pub returns : goal.returns
returns c = λ key taken given. (
  (refl, tt, (refl, refl, tt)),
  (
    unwatched (Some (image_after key 1) ∷ []),
    carried key 0 taken given [] [] None _ (inl (0, omega arith, refl)),
    (
      unwatched (Some (image_after key 2) ∷ []),
      carried key 1 taken given [] [] (Some (image_after key 1)) (unwatched (Some (image_after key 1) ∷ [])) tt,
      tt,
    ),
  ),
  λ held. tt,
)
