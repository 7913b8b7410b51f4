-- What is accepted through the upper levels and the lower ones.
use Rattle.std.proofs.Common.{ℕ, zero, suc, ◌≡◌, ◌+◌, List, ◌++◌, length, refl, ◌∙◌, ap, arith, subst, append_assoc}
use Rattle.lms_spec.specs.Tree.{LmsAccepts}
use Rattle.lms_spec.specs.Hss.{AcceptsThrough}
use Rattle.lms_spec.proofs.Lengths.{length-lms}
use Rattle.lms_verification.specs.Parts.{HasSignaturesOf}
use Rattle.lms_verification.proofs.Acceptance.{key-of-accepted}
use Rattle.lms_hss.specs.SignedKeys.{IsFirstSignedKey}
use Rattle.lms_hss.proofs.SignedKeys.{accepted-parts}
use Rattle.lms_join.specs.Cuts.{IsCut}

-- a key under which something is accepted has 56 bytes
pub key-length : (count : ℕ) (signer message text : List ℕ) → AcceptsThrough count signer message text
    → length signer ≡ 56
key-length zero signer message text a = (length-lms signer message text a).0
key-length (suc count) signer message text (first, next, rest, parts, a, others) = (length-lms signer next first a).0

signatures-of : (signer message text : List ℕ) → LmsAccepts signer message text → HasSignaturesOf (length text) signer
signatures-of signer message text a = record {
  lms = a.lms;
  ots = a.ots;
  id = a.id;
  root = a.root;
  parts = key-of-accepted signer message text a;
  length_is = (length-lms signer message text a).1;
}

-- what is accepted is cut where the typecodes say
pub cut-of-accepted : (count : ℕ) (signer message text : List ℕ) → AcceptsThrough count signer message text
    → IsCut count signer text
cut-of-accepted zero signer message text a = signatures-of signer message text a
cut-of-accepted (suc count) signer message text (first, next, rest, parts, a, others) = (
  first,
  next,
  rest,
  record {
    signature_length = signatures-of signer next first a;
    key_length = key-length count next message rest others;
    parts = parts;
  },
  cut-of-accepted count next message rest others,
)

one-level-down : (upper key lower first next rest : List ℕ) → upper ≡ first ++ next ++ rest
    → upper ++ key ++ lower ≡ first ++ next ++ (rest ++ key ++ lower)
one-level-down upper key lower first next rest parts =
    ap (λ u. u ++ key ++ lower) parts
    ∙ (ap (λ u. u ++ lower) (append_assoc (first ++ next) rest key) ∙ append_assoc (first ++ next) (rest ++ key) lower)

-- a lower key that is accepted through the upper levels leads on to what it accepts
pub accepts-joined : (count lower : ℕ) (signer key message upper_text lower_text : List ℕ)
    → AcceptsThrough count signer key upper_text → AcceptsThrough lower key message lower_text
    → AcceptsThrough (count + 1 + lower) signer message (upper_text ++ key ++ lower_text)
accepts-joined zero lower signer key message upper_text lower_text a b =
    let e : suc lower ≡ zero + 1 + lower = omega arith in
    subst (λ n. AcceptsThrough n signer message (upper_text ++ key ++ lower_text)) e
    (upper_text, key, lower_text, refl, a, b)
accepts-joined (suc count) lower signer key message upper_text lower_text (first, next, rest, parts, a, others) b =
    let below = accepts-joined count lower next key message rest lower_text others b in
    let e : suc (count + 1 + lower) ≡ suc count + 1 + lower = omega arith in
    subst (λ n. AcceptsThrough n signer message (upper_text ++ key ++ lower_text)) e
    (first, next, rest ++ key ++ lower_text, one-level-down upper_text key lower_text first next rest parts, a, below)

-- what is accepted of parts that are cut is accepted in each
pub joined-apart : (count lower : ℕ) (signer key message upper_text lower_text : List ℕ)
    → length key ≡ 56 → IsCut count signer upper_text
    → AcceptsThrough (count + 1 + lower) signer message (upper_text ++ key ++ lower_text)
    → AcceptsThrough count signer key upper_text × AcceptsThrough lower key message lower_text
joined-apart zero lower signer key message upper_text lower_text long cut accepted =
    let e : zero + 1 + lower ≡ suc lower = omega arith in
    let first : IsFirstSignedKey signer (upper_text ++ key ++ lower_text) upper_text key lower_text
    = record { signature_length = cut; key_length = long; parts = refl } in
    accepted-parts lower signer message (upper_text ++ key ++ lower_text) upper_text key lower_text first
    (subst (λ n. AcceptsThrough n signer message (upper_text ++ key ++ lower_text)) e accepted)
joined-apart (suc count) lower signer key message upper_text lower_text long (first, next, rest, cut, cuts) accepted =
    let whole = upper_text ++ key ++ lower_text in
    let others = rest ++ key ++ lower_text in
    let e : suc count + 1 + lower ≡ suc (count + 1 + lower) = omega arith in
    let there : IsFirstSignedKey signer whole first next others = record {
      signature_length = cut.signature_length;
      key_length = cut.key_length;
      parts = one-level-down upper_text key lower_text first next rest cut.parts;
    } in
    let parts = accepted-parts (count + 1 + lower) signer message whole first next others there
    (subst (λ n. AcceptsThrough n signer message whole) e accepted) in
    let below = joined-apart count lower next key message rest lower_text long cuts parts.1 in
    ((first, next, rest, cut.parts, parts.0, below.0), below.1)
