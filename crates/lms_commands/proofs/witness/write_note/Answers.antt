use Rattle.std.proofs.Common.{◌∙◌, ◌∷◌, List, ℕ, Ok, Err, ap, inr, refl}
use Rattle.lms_world.specs.Events.{WitnessWritten}
use Rattle.lms_world.proofs.Following.{one_call}
use Rattle.lms_commands.proofs.Noting.{not_noted, notes_some}
use Rattle.lms_commands.proofs.witness.write_note.Goals as goal

pub returns-in-Ok-clause-noted : goal.returns-in-Ok-clause-noted
returns-in-Ok-clause-noted g c =
    let old = g.W.World.events c.args.world.now in
    notes_some _ _ _ _ _ _ _ c.requires.some
    (c.in-Ok.ensures.logged ∙ ap (λ (text : List ℕ). WitnessWritten text (Ok tt) ∷ old)
    (c.deref.ensures.value ∙ c.in-Some.ensures))

pub returns-in-Ok-clause-follows : goal.returns-in-Ok-clause-follows
returns-in-Ok-clause-follows g c = one_call c.place_witness.ensures.logged c.place_witness.ensures.acts

pub returns-clause-failed : goal.returns-clause-failed
returns-clause-failed g c =
    let old = g.W.World.events c.args.world.now in
    not_noted _ _ _ _ _ _ _ c.requires.some refl
    (inr (
      c.in-Err.field-0,
      c.in-Err.ensures.logged
          ∙ ap (λ (text : List ℕ). WitnessWritten text (Err c.in-Err.field-0) ∷ old)
          (c.deref.ensures.value ∙ c.in-Some.ensures),
    ))

pub returns-clause-follows : goal.returns-clause-follows
returns-clause-follows g c = one_call c.place_witness.ensures.logged c.place_witness.ensures.acts
