-- The first signed key of bytes that are accepted.
use Rattle.std.proofs.Common.{ℕ, zero, suc, ◌≡◌, ◌+◌, ◌≤◌, List, ◌++◌, length, take, drop, sym, ◌∙◌, ap, arith, subst}
use Rattle.std.proofs.Common.{subst₂, append_assoc, length-append}
use Rattle.std.proofs.lemmas.List.{take_at, drop_at}
use Rattle.lms_spec.specs.Parameters.{OtsSet, LmsSet, lms_signature_length}
use Rattle.lms_spec.specs.Tree.{LmsAccepts}
use Rattle.lms_spec.specs.Hss.{AcceptsThrough}
use Rattle.lms_spec.proofs.HierarchyParts.{through-parts, through-length}
use Rattle.lms_verification.specs.Parts.{IsLmsPublicKey, HasSignaturesOf}
use Rattle.lms_verification.proofs.Acceptance.{key-of-accepted}
use Rattle.lms_hss.specs.SignedKeys.{IsFirstSignedKey}

-- bytes that are accepted are at least as long as a signature and a key
pub accepted-long : (count n : ℕ) (signer message text : List ℕ)
    → HasSignaturesOf n signer → AcceptsThrough (suc count) signer message text → n + 56 ≤ length text
accepted-long count n signer message text has accepted =
    let there = subst (λ key. AcceptsThrough (suc count) key message text) has.parts.parts accepted in
    omega (
      arith,
      has.length_is,
      through-length count has.lms has.ots has.id has.root message text has.parts.lms_known has.parts.ots_known
          has.parts.id_length there,
    )

-- the parts of bytes that are accepted are accepted
pub accepted-parts : (count : ℕ) (signer message text signature key rest : List ℕ)
    → IsFirstSignedKey signer text signature key rest → AcceptsThrough (suc count) signer message text
    → LmsAccepts signer key signature × AcceptsThrough count key message rest
accepted-parts count signer message text signature key rest cut accepted =
    let has = cut.signature_length in
    let is = has.parts in
    let n = lms_signature_length has.lms has.ots in
    let there = subst (λ signer. AcceptsThrough (suc count) signer message text) is.parts accepted in
    let parts = through-parts count has.lms has.ots has.id has.root message text is.lms_known is.ots_known
    is.id_length there in
    let from_left : text ≡ signature ++ (key ++ rest) = cut.parts ∙ append_assoc signature key rest in
    let signature_is : take n text ≡ signature =
    ap (take n) from_left ∙ take_at signature (key ++ rest) n has.length_is in
    let after : drop n text ≡ key ++ rest = ap (drop n) from_left ∙ drop_at signature (key ++ rest) n has.length_is in
    let key_is : take 56 (drop n text) ≡ key = ap (take 56) after ∙ take_at key rest 56 cut.key_length in
    let rest_is : drop (n + 56) text ≡ rest
    = ap (drop (n + 56)) cut.parts ∙ drop_at (signature ++ key) rest (n + 56)
    (omega (arith, length-append signature key, has.length_is, cut.key_length)) in
    let first = subst (λ signer. LmsAccepts signer (take 56 (drop n text)) (take n text)) (sym is.parts) parts.0 in (
      subst₂ (LmsAccepts signer) key_is signature_is first,
      subst₂ (λ key rest. AcceptsThrough count key message rest) key_is rest_is parts.1,
    )

-- bytes whose parts are accepted are accepted
pub accepts-parts : (count : ℕ) (signer message text signature key rest : List ℕ)
    → IsFirstSignedKey signer text signature key rest → LmsAccepts signer key signature
    → AcceptsThrough count key message rest
    → AcceptsThrough (suc count) signer message text
accepts-parts count signer message text signature key rest cut first others =
    (signature, key, rest, cut.parts, first, others)

-- nothing is accepted under what is no public key
pub never-through : (count : ℕ) (signer message text : List ℕ)
    → ((m : LmsSet) (t : OtsSet) (id root : List ℕ) → ¬ IsLmsPublicKey m t id root signer)
    → ¬ AcceptsThrough count signer message text
never-through zero signer message text none a = none a.lms a.ots a.id a.root (key-of-accepted signer message text a)
never-through (suc count) signer message text none (signature, key, rest, parts, a, others) =
    none a.lms a.ots a.id a.root (key-of-accepted signer key signature a)
