use Rattle.std.proofs.Common.{◌∙◌, ◌∷◌, ap, inr}
use Rattle.std.proofs.lemmas.Result.{IfErr-weaker, on_ok_weaker}
use Rattle.lms_book.specs.Stops.{StoreView}
use Rattle.lms_world.specs.Events.{PutBack}
use Rattle.lms_commands.proofs.Logged.{two_calls}
use Rattle.lms_world.proofs.Following.{one_call, one_more}
use Rattle.lms_key_commands.proofs.keygen.store_key.Goals as goal

pub returns-in_err-store-clause-follows : goal.returns-in_err-store-clause-follows
returns-in_err-store-clause-follows g c = one_call c.in_err-store.ensures.logged c.in_err-store.ensures.acts

pub returns-clause-follows : goal.returns-clause-follows
returns-clause-follows g c = one_more (one_call c.in_ok-store.ensures.logged c.in_ok-store.ensures.acts)
    c.put_back.ensures.logged c.put_back.ensures.acts

pub returns-clause-logged : goal.returns-clause-logged
returns-clause-logged g c =
    on_ok_weaker c.store_with_trees-made.result
    (λ stored. (
      _,
      two_calls _ _ _ _ _ c.in_ok-store.ensures.logged
          (c.put_back.ensures.logged
          ∙ ap (λ (v : StoreView). PutBack v ∷ g.W.World.events c.take_store.new.self) stored),
    ))
    c.store_with_trees-made.ensures.stored

pub returns-clause-unstored : goal.returns-clause-unstored
returns-clause-unstored g c =
    IfErr-weaker c.store_with_trees-made.result _ _
    (λ fault why. inr (
      _,
      _,
      why,
      two_calls _ _ _ _ _ c.in_ok-store.ensures.logged c.put_back.ensures.logged,
    ))
    c.store_with_trees-made.ensures.unstored
