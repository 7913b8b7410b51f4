use Rattle.std.proofs.Common.{◌≡◌, ◌∙◌, List, ℕ, sym, subst}
use Rattle.std.specs.Prelude.{IfSome}
use Rattle.lms_kept.proofs.Texts.{stays_genuine}
use Rattle.lms_kept.specs.Ways.{nodes_text}
use Rattle.lms_kept.proofs.signing.trees_of.Goals as goal

pub returns-in_default-2-clause-none : goal.returns-in_default-2-clause-none
returns-in_default-2-clause-none g c =
    let trees = c.in-Some.trees in
    let key = rw c.in-Some.is at c.in_ok-trees.ensures.key in
    let trees_way = rw c.in-Some.is at c.in_ok-trees.ensures.way in
    let text = rw c.in-Some.is at c.in_ok-trees.ensures.text in
    let refused = rw c.in_default-2.is at c.in_ok-moved.ensures.refused in
    λ way is of_key text_is right.
    let same = subst (λ o. IfSome o (λ (text : List ℕ). text ≡ nodes_text trees)) text_is text in
    refused (stays_genuine way trees is trees_way (of_key ∙ sym key) same right)
