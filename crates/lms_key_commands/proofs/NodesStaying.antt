-- What is kept of a new key's trees is right.
use Rattle.std.proofs.Common.{◌≡◌, ◌∙◌, ℕ, List, Option, Some, subst, sym, inl, inr}
use Rattle.lms_hss.specs.declared.key.HssKey.{HssKey as KeyOfCode}
use Rattle.lms_kept.proofs.Texts.{stays_genuine}
use Rattle.lms_kept.specs.Ways.{Way}
use Rattle.lms_commands.specs.InMemory.{KeepsNodes, KeepsRight}
use Rattle.lms_key_commands.specs.KeygenInMemory.{NewNodesAreRight}
use Rattle.lms_key_commands.specs.KeygenLogs.{AreGenuineTrees}

same_text : (a b : List ℕ) → Some a ≡ Some b → a ≡ b
same_text a b is = cc is

new_are_right : (key : KeyOfCode) (trees : Option Way) (old new : Option (List ℕ)) → AreGenuineTrees key trees
    → KeepsNodes trees old new → KeepsRight old key → KeepsRight new key
new_are_right key trees old new genuine (inl same) right way is of_key at = right way is of_key (sym same ∙ at)
new_are_right key trees old new genuine (inr (kept, trees_are, nodes_are)) right way is of_key at =
    let good = subst (λ (trees : Option Way). AreGenuineTrees key trees) trees_are genuine in
    stays_genuine kept way good.0 is (good.1 ∙ sym of_key) (same_text _ _ (sym nodes_are ∙ at)) good.2

pub new_nodes_are_right : NewNodesAreRight
new_nodes_are_right key old new makes right =
    new_are_right key makes.trees old.nodes new.nodes makes.genuine makes.kept right
