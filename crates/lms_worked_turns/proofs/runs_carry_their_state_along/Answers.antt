use Rattle.std.proofs.Common.{zero, suc, ◌≡◌, ◌∷◌, [], ⊎_elim, ℕ, List, Option, Some, None, ap, inl, inr, refl}
use Rattle.std.proofs.Common.{sym, arith}
use Rattle.std.specs.Prelude.{◌⊎◌, Contains}
use Rattle.lms_hss.specs.declared.key.HssKey.{HssKey as KeyOfCode}
use Rattle.lms_book.specs.Stops.{StoreView, Texts}
use Rattle.lms_world.specs.Events.{Event, Taking}
use Rattle.lms_world.specs.Names.{Bytes}
use Rattle.lms_commands.specs.Expectations.{IsCarried}
use Rattle.lms_worked_turns.specs.Worked.{image_after, one_of_two, run_at, unwatched}
use Rattle.lms_worked_turns.proofs.Carried.{among_none, carried, held_last}
use Rattle.lms_worked_turns.proofs.runs_carry_their_state_along.Goals as goal

among_two : (a b text : Option (List ℕ)) → Contains (a ∷ b ∷ []) text → (text ≡ a) ⊎ (text ≡ b)
among_two a b text (zero, lt, same) = inl (sym same)
among_two a b text (suc zero, lt, same) = inr (sym same)
among_two a b text (suc (suc k), lt, same) = absurd (omega (arith, lt))

abbrev how_many : Texts → ℕ
how_many (Some (text ∷ [])) = 1
how_many other = 0

-- a run whose image may not be stored
tried : (key : KeyOfCode) (taken : Taking) (given : StoreView) (name : Bytes)
    → IsCarried (run_at key 1 taken (one_of_two key given) name []) (unwatched (Some (image_after key 1) ∷ []))
    (unwatched (Some (image_after key 2) ∷ Some (image_after key 1) ∷ []))
tried key taken given name = inr (
  λ neither. cc neither.0,
  inl (record {
    found = inl (0, omega arith, refl);
    states = λ text there. ⊎_elim
        (λ same. inr (image_after key 2, same, inr refl))
        (λ same. inl (0, omega arith, sym same))
        (among_two (Some (image_after key 2)) (Some (image_after key 1)) text there);
    stored = λ other last.
        let none : 0 ≡ 1 = ap (λ (calls : List Event). how_many (held_last calls)) last.2 in
        absurd (omega (arith, none));
    witnesses = λ text there. absurd (among_none text there);
    noted = λ text noted. absurd (cc noted.1);
    unwatched = λ none other last. refl;
  }),
)

pub returns : goal.returns
returns c = λ key taken given name first third. (
  (
    unwatched (Some (image_after key 1) ∷ []),
    carried key 0 taken given name (first ∷ []) None _ (inl (0, omega arith, refl)),
    (
      unwatched (Some (image_after key 2) ∷ Some (image_after key 1) ∷ []),
      tried key taken given name,
      (
        unwatched (Some (image_after key 3) ∷ []),
        carried key 2 taken given name (third ∷ []) None _ (inl (0, omega arith, refl)),
        tt,
      ),
    ),
  ),
  refl,
)
