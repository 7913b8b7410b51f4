-- What is kept of a key's trees stays right.
use Rattle.std.proofs.Common.{◌≡◌, ◌∙◌, ℕ, List, Option, None, Some, ap, subst, sym, inl, inr}
use Rattle.std.specs.Prelude.{IfSome}
use Rattle.lms_hss.specs.declared.key.HssKey.{HssKey as KeyOfCode}
use Rattle.lms_kept.proofs.Texts.{stays_genuine}
use Rattle.lms_kept.specs.Signed.{AreNodesOf, AreRight}
use Rattle.lms_kept.specs.Ways.{Way, nodes_text}
use Rattle.lms_world.specs.Held.{Held}
use Rattle.lms_commands.specs.InMemory.{KeepsNodes, KeepsRight}
use Rattle.lms_signature_commands.specs.SignInMemory.{NodesStayRight, UsesIndex}

-- the nodes that were read are right, where what is kept is
pub are_right : (nodes : Option Way) (text held : Option (List ℕ)) (key : KeyOfCode) → AreNodesOf text key nodes
    → IfSome text (λ bytes. held ≡ Some bytes)
    → KeepsRight held key → AreRight nodes
are_right None text held key of were right = tt
are_right (Some way) text held key of were right =
    right way of.way of.of_key (subst (λ (t : Option (List ℕ)). IfSome t (λ bytes. held ≡ Some bytes)) of.text_is were)

same_text : (a b : List ℕ) → Some a ≡ Some b → a ≡ b
same_text a b is = cc is

pub stay : (nodes : Option (List ℕ)) (random message : List ℕ) (index : ℕ) (signature : List ℕ) (old new : Held)
    → (uses : UsesIndex nodes random message index signature old new) → IfSome nodes (λ bytes. old.nodes ≡ Some bytes)
    → KeepsRight old.nodes uses.state.key → KeepsNodes uses.trees old.nodes new.nodes
    → KeepsRight new.nodes uses.state.key
stay nodes random message index signature old new uses were right (inl same) way is of_key at =
    right way is of_key (sym same ∙ at)
stay nodes random message index signature old new uses were right (inr (kept, trees_are, nodes_are)) way is of_key at =
    let signed = uses.signed in
    let trees = signed.signed.trees in
    let are = signed.signed.are in
    let same : kept ≡ trees = subst (λ (o : Option Way). IfSome o (λ t. t ≡ trees)) trees_are signed.kept_are in
    let texts : nodes_text trees ≡ nodes_text way = ap nodes_text (sym same) ∙ same_text _ _ (sym nodes_are ∙ at) in
    let from_right = are_right signed.nodes nodes old.nodes uses.state.key signed.of_text were right in
    stays_genuine trees way are.way is (are.of_key ∙ sym of_key) texts (are.right from_right)

pub nodes_stay_right : NodesStayRight
nodes_stay_right random message old new signs right =
    stay signs.nodes signs.c signs.text signs.index signs.signature old new signs.uses signs.nodes_were right
    signs.uses.kept
