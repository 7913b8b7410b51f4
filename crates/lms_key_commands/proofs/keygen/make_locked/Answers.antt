use Rattle.std.proofs.Common.{subst, ap, refl, List, ℕ, Some, None, Ok, false, ◌≡◌, ◌∷◌, ◌∙◌}
use Rattle.std.specs.Prelude.{IfErr, OnOk}
use Rattle.std.proofs.lemmas.Result.{IfErr-weaker, on_ok_weaker}
use Rattle.lms_spec.specs.Profile.{hss_public_key}
use Rattle.lms_hss.specs.Keys.{hss_key_of}
use Rattle.lms_hss.specs.declared.key.HssKey.{HssKey}
use Rattle.lms_kept.specs.Ways.{Way}
use Rattle.lms_world.specs.Events.{Asked, WitnessRead, Writing, Written, output_name}
use Rattle.lms_world.specs.Names.{Bytes}
use Rattle.lms_key_commands.specs.KeygenLogs.{AreGenuineTrees, StoresKey, WritesKey, capacity_line}
use Rattle.lms_commands.specs.Logs.{FailsToPublish, LogsKeeping, Publishes, WorldCalls}
use Rattle.lms_commands.proofs.Logged.{two_calls}
use Rattle.lms_key_commands.proofs.Logged.{unmade}
use Rattle.lms_world.proofs.Following.{one_call, both_follow}
use Rattle.lms_key_commands.proofs.keygen.make_locked.Goals as goal

-- the public key was written or not, once the key's state was stored and trees of it were kept
module _ (key : HssKey) (public : Bytes) (trees : Way) (old asked stored kept : WorldCalls)
    (genuine : AreGenuineTrees key (Some trees))
    (found : WorldCalls) (asked_is : asked ≡ Asked false ∷ old) (found_is : found ≡ WitnessRead (Ok None) ∷ asked)
    (stores : StoresKey key found stored)
    (keeps : LogsKeeping (Some trees) stored kept) where
  abbrev writes_so : (answer : Writing)
      → WritesKey key public answer old (Written public (hss_public_key (hss_key_of key)) answer ∷ kept)
  writes_so answer = record {
    trees = Some trees;
    genuine = genuine;
    until_stored = stored;
    until_kept = kept;
    stores = subst (λ (log : WorldCalls). StoresKey key log stored) (two_calls old asked found _ _ asked_is found_is)
        stores;
    keeps = keeps;
    writes = refl;
  }

pub returns-clause-logged : goal.returns-clause-logged
returns-clause-logged g c =
    let before = c.args.output.now in
    let stored = g.W.World.events c.store_key.new.world in
    let kept = g.W.World.events c.keep_trees.new.world in
    let new = g.W.World.events c.publish.new.world in
    let public = hss_public_key (hss_key_of c.args.key) in
    let genuine = c.in_ok-trees.ensures.trees in
    let is = c.public-text.ensures.right genuine.2
    ∙ ap (λ (key : HssKey). hss_public_key (hss_key_of key)) genuine.1 in
    on_ok_weaker c.publish.result
    (λ published. (
      record {
        until_written = Written (output_name c.args.file) public (Ok tt) ∷ kept;
        writes = writes_so c.args.key (output_name c.args.file) c.in_ok-trees.trees _ _ stored kept genuine _
            c.if-exists.ensures.logged c.in_ok-see_none.ensures.none c.in_ok-trees.ensures.logged
            c.keep_trees.ensures.logged (Ok tt);
        prints = published.0;
      },
      published.1,
    ))
    (subst
    (λ (bytes : List ℕ). OnOk c.publish.result
    (Publishes (output_name c.args.file) bytes (capacity_line c.args.key) before c.publish.new.output kept new))
    is c.publish.ensures.published)

pub returns-clause-log_failed : goal.returns-clause-log_failed
returns-clause-log_failed g c =
    let before = c.args.output.now in
    let printed = c.publish.new.output in
    let old = g.W.World.events c.args.world.now in
    let stored = g.W.World.events c.store_key.new.world in
    let kept = g.W.World.events c.keep_trees.new.world in
    let new = g.W.World.events c.publish.new.world in
    let genuine = c.in_ok-trees.ensures.trees in
    let is = c.public-text.ensures.right genuine.2
    ∙ ap (λ (key : HssKey). hss_public_key (hss_key_of key)) genuine.1 in
    IfErr-weaker c.publish.result _ _
    (unmade c.args.key (output_name c.args.file) before printed old kept new
    (writes_so c.args.key (output_name c.args.file) c.in_ok-trees.trees old _ stored kept genuine _
    c.if-exists.ensures.logged c.in_ok-see_none.ensures.none c.in_ok-trees.ensures.logged c.keep_trees.ensures.logged))
    (subst
    (λ (bytes : List ℕ). IfErr c.publish.result
    (λ fault. FailsToPublish (output_name c.args.file) bytes (capacity_line c.args.key) before printed fault kept new))
    is c.publish.ensures.failed)

pub returns-clause-follows : goal.returns-clause-follows
returns-clause-follows g c =
    both_follow (both_follow (both_follow (both_follow (one_call c.if-exists.ensures.logged c.if-exists.ensures.acts)
    c.see_none.ensures.follows) c.store_key.ensures.follows) c.keep_trees.ensures.follows) c.publish.ensures.follows

pub returns-then-exists-clause-follows : goal.returns-then-exists-clause-follows
returns-then-exists-clause-follows g c = one_call c.if-exists.ensures.logged c.if-exists.ensures.acts

pub returns-in_err-see_none-clause-follows : goal.returns-in_err-see_none-clause-follows
returns-in_err-see_none-clause-follows g c =
    both_follow (one_call c.if-exists.ensures.logged c.if-exists.ensures.acts) c.in_err-see_none.ensures.follows

pub returns-in_err-trees-clause-follows : goal.returns-in_err-trees-clause-follows
returns-in_err-trees-clause-follows g c =
    both_follow (both_follow (one_call c.if-exists.ensures.logged c.if-exists.ensures.acts) c.see_none.ensures.follows)
    c.in_err-trees.ensures.follows
