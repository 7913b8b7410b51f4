use Rattle.std.proofs.Common.{◌≤◌, ◌∙◌, Option, Some, None, List, ℕ, ap, inl, inr, subst, sym}
use Rattle.std.specs.Prelude.{◌⊎◌, ◌≢◌, Contains}
use Rattle.lms_spec.specs.Hss.{capacity_of}
use Rattle.lms_hss.specs.Keys.{hss_key_of}
use Rattle.lms_hss.specs.declared.key.HssKey.{HssKey as KeyOfCode}
use Rattle.lms_image.specs.Image.{HasImage}
use Rattle.lms_commands.specs.Expectations.{Expected, FindsExpected, IsCarried, IsExpectedWitness, IsOnly, IsOnlyNote}
use Rattle.lms_commands.specs.Histories.{TakenTurn, Turn, Uses}
use Rattle.lms_commands.specs.Watching.{Watch}
use Rattle.lms_worked_turns.specs.Worked.{UsesOlder, image_after, state_at, watched_at, witness_after}
use Rattle.lms_worked_turns.proofs.Carried.{after_first, another}
use Rattle.lms_worked_turns.proofs.an_older_state_is_not_carried_along.Goals as goal

-- neither is what it should be
neither_found : (key : KeyOfCode) (watch : Watch) (held : Expected) → HasImage key 0 0 0
    → 1 ≤ capacity_of (hss_key_of key)
    → IsOnly (image_after key 1) held.states → IsOnlyNote (witness_after key 1) held.witnesses
    → watch ≢ Some (witness_after key 1)
    → Contains held.states (Some (image_after key 0)) ⊎ IsExpectedWitness watch held → ⊥
neither_found key watch held has enough state witness other (inl there) =
    another key has enough (state (Some (image_after key 0)) there)
neither_found key None held has enough state witness other (inr never) = never
neither_found key (Some text) held has enough state witness other (inr there) = other (ap Some (witness text there))

refused : (key : KeyOfCode) (watch : Watch) (run : TakenTurn) (held left : Expected) → HasImage key 0 0 0
    → 1 ≤ capacity_of (hss_key_of key)
    → IsOnly (image_after key 1) held.states → IsOnlyNote (witness_after key 1) held.witnesses
    → UsesOlder key watch run → watch ≢ Some (witness_after key 1) → IsCarried run held left → ⊥
refused key watch run held left has enough state witness (turn_is, due_is, came) other (inl (neither, same)) =
    came neither
refused key watch run held left has enough state witness (turn_is, due_is, came) other
    (inr (some, inr (made, makes, same))) = absurd (cc (sym turn_is ∙ makes))
refused key watch run held left has enough state witness (turn_is, due_is, came) other (inr (some, inl moves)) =
    let turn : FindsExpected (Uses 1 (state_at key 0) (image_after key 0) watch) run.due held =
    subst (λ (t : Turn). FindsExpected t run.due held) turn_is moves.found in
    neither_found key watch held has enough state witness other
    (subst (λ (due : Option (List ℕ)). FindsExpected (Uses 1 (state_at key 0) (image_after key 0) watch) due held)
    due_is turn)

pub returns : goal.returns
returns c = λ key name first watch run has enough uses other (left, kept, (last, later, end)).
    let so = after_first key name first (watched_at key 0) left kept in
    refused key watch run left last has enough so.0 so.1 uses other later
