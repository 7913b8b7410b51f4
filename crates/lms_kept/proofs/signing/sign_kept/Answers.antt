use Rattle.std.proofs.Common.{◌≡◌, ◌∙◌, ap, arith, List, ℕ, Some, Option, refl, subst, sym}
use Rattle.std.specs.Prelude.{IfNone, IfSome}
use Rattle.lms_spec.specs.Hss.{hss_signature_length}
use Rattle.lms_hss.specs.Levels.{levels_of}
use Rattle.lms_hss.specs.declared.key.HssKey.{HssKey}
use Rattle.lms_kept.specs.Ways.{Serves, Way, nodes_text}
use Rattle.lms_kept.proofs.SignedByText.{signed_by_text}
use Rattle.lms_kept.proofs.Texts.{stays_genuine}
use Rattle.lms_kept.proofs.signing.sign_kept.Goals.{then-held, else-held}
use Rattle.lms_kept.proofs.signing.sign_kept.Goals as goal

pub sign-requires-clause-room : goal.sign-requires-clause-room
sign-requires-clause-room g c =
    let found = rw c.in-Some.is at c.in_ok-trees.ensures.found in
    omega (
      arith,
      c.in_ok-memory.ensures.capacity,
      c.sig_len.ensures,
      ap (λ (key : HssKey). hss_signature_length (levels_of key.levels)) found.are.of_key,
    )

pub returns-clause-signed : goal.returns-clause-signed
returns-clause-signed g c =
    let found = rw c.in-Some.is at c.in_ok-trees.ensures.found in
    let made = c.in-Some-sign in
    let Kept : Option Way → Type 0 = λ o. IfSome o (λ trees. trees ≡ c.in-Some.trees) in
    let Changed : Option Way → Type 0 = λ o. IfSome o (λ _. ¬ Serves found.nodes c.args.index) in
    let Unchanged : Option Way → Type 0 = λ o. IfNone o (Serves found.nodes c.args.index) in
    signed_by_text _ _ c.args.index c.args.c.now c.args.msg.now made.signature.items _ (Some found.nodes)
    c.in-Some.trees found.of_text tt found.are made.ensures.signature made.ensures.checked
    (elim c.if-held.branch [
      | then-held w ↦ subst Kept (sym w.result-is) tt
      | else-held w ↦ subst Kept (sym w.result-is) refl
    ])
    (elim c.if-held.branch [
      | then-held w ↦ subst Changed (sym w.result-is) tt
      | else-held w ↦ subst Changed (sym w.result-is) (found.other w.if-held.false)
    ])
    (elim c.if-held.branch [
      | then-held w ↦ subst Unchanged (sym w.result-is) (found.same w.if-held.true)
      | else-held w ↦ subst Unchanged (sym w.result-is) tt
    ])

pub returns-in_default-sign-clause-none : goal.returns-in_default-sign-clause-none
returns-in_default-sign-clause-none g c =
    let found = rw c.in-Some.is at c.in_ok-trees.ensures.found in
    let refused = c.in_default-sign.ensures.refused in
    λ way is of_key text_is right.
    let Same : Option (List ℕ) → Type 0 = λ o. IfSome o (λ (text : List ℕ). text ≡ nodes_text found.nodes) in
    let same = subst Same text_is (subst Same (sym found.of_text.text_is) refl) in
    refused (found.are.right
    (stays_genuine way found.nodes is found.of_text.way (of_key ∙ sym found.of_text.of_key) same right))
