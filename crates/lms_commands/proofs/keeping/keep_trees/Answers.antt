use Rattle.std.proofs.Common.{◌∙◌, ◌∷◌, List, ℕ, ap, inr, refl}
use Rattle.lms_world.specs.Events.{Writing, NodesWritten}
use Rattle.lms_world.proofs.Following.{one_call}
use Rattle.lms_commands.proofs.keeping.keep_trees.Goals as goal

pub returns-in-Ok-clause-logged : goal.returns-in-Ok-clause-logged
returns-in-Ok-clause-logged g c =
    let answer : Writing = c.write_nodes.result in
    let text = c.deref.ensures.value ∙ c.in-Ok.ensures.text in
    inr (
      c.args.trees.now,
      answer,
      refl,
      c.write_nodes.ensures.logged
          ∙ ap (λ (t : List ℕ). NodesWritten t answer ∷ g.W.World.events c.args.world.now) text,
    )

pub returns-in-Ok-clause-follows : goal.returns-in-Ok-clause-follows
returns-in-Ok-clause-follows g c = one_call c.write_nodes.ensures.logged c.write_nodes.ensures.acts
