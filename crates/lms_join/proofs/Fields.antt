-- What the fields of an endorsement say of the keys and the signature that contracts see.
use Rattle.std.proofs.Common.{ℕ, ◌≡◌, ◌+◌, ◌-◌, ◌^◌, ◌<◌, ◌≤◌, ◌↔◌, List, ◌++◌, length, refl, sym, ◌∙◌, ap, arith}
use Rattle.std.proofs.Common.{subst}
use Rattle.lms_spec.specs.Bytes.{u32str}
use Rattle.lms_spec.specs.Hss.{HssAccepts}
use Rattle.lms_verification.specs.Heads.{lms_head}
use Rattle.lms_hss.proofs.TopKeys.{accepts-by-numbers}
use Rattle.lms_hss.specs.Verifying.{HasTaken}
use Rattle.lms_hss.specs.declared.verification.Verifier.{Verifier}
use Rattle.lms_join.specs.Joined.{count_of, after_count, joined_public, joined_signature}
use Rattle.lms_join.specs.Endorsements.{EndorsementParts, HasMessageHead, HoldsEndorsement, endorsement_of}
use Rattle.lms_join.proofs.Through.{cut-of-accepted}
use Rattle.lms_join.proofs.Joins.{count-is, rest-is, joined-public-parts, joined-signature-parts, joined-exactly}

-- a signature with a message head is cut at its count
pub cut-by-head : (n : ℕ) (public_key signature rest : List ℕ) → n < 2 ^ 32 → signature ≡ u32str n ++ rest
    → HasMessageHead public_key signature → signature ≡ u32str (count_of public_key - 1) ++ rest
cut-by-head n public_key signature rest fits e (head, is) =
    let bottom = is.bottom in
    let most = bottom.eight_at_most in
    let levels : count_of public_key ≡ bottom.levels =
    count-is bottom.levels public_key bottom.top_key (omega arith) bottom.key_parts in
    let count : count_of signature ≡ bottom.levels - 1 =
    count-is (bottom.levels - 1) signature bottom.signatures (omega arith) bottom.signature_parts in
    let number : count_of signature ≡ n = count-is n signature rest fits e in
    e ∙ ap (λ m. u32str m ++ rest) (sym number ∙ count ∙ ap (λ m. m - 1) (sym levels))

-- and it is long enough for one
pub long-by-head : (public_key signature : List ℕ) → HasMessageHead public_key signature → 4 ≤ length signature
long-by-head public_key signature (head, is) =
    let count = u32str (is.bottom.levels - 1) in
    let long : 4 ≤ length (count ++ is.bottom.signatures) = omega arith in
    subst (λ (text : List ℕ). 4 ≤ length text) (sym is.bottom.signature_parts) long

-- a verifier that has begun knows the message head
pub head-of-begun : (v : Verifier) (public_key signature taken : List ℕ) → HasTaken v public_key signature taken
    → HasMessageHead public_key signature
head-of-begun v public_key signature taken is = (
  lms_head is.bottom_key is.bottom_signature,
  record {
    bottom_key = is.bottom_key;
    bottom_signature = is.bottom_signature;
    bottom = is.bottom;
    head_is = refl;
  },
)

-- the number of levels of the signer's key
pub signer-count : (top_levels signer_levels : ℕ) (top_key signatures signer_key : List ℕ) (parts : EndorsementParts)
    → HoldsEndorsement top_levels signer_levels top_key signatures signer_key
    → endorsement_of top_levels signer_levels top_key signatures signer_key ≡ parts
    → count_of parts.signer_public ≡ signer_levels
signer-count top_levels signer_levels top_key signatures signer_key parts holds e =
    let most = holds.eight_at_most in
    ap (λ (parts : EndorsementParts). count_of parts.signer_public) (sym e)
    ∙ count-is signer_levels (u32str signer_levels ++ signer_key) signer_key (omega arith) refl

pub public-of-fields : (top_levels signer_levels : ℕ) (top_key signatures signer_key : List ℕ)
    (parts : EndorsementParts)
    → HoldsEndorsement top_levels signer_levels top_key signatures signer_key
    → endorsement_of top_levels signer_levels top_key signatures signer_key ≡ parts
    → u32str (top_levels + signer_levels) ++ top_key ≡ joined_public parts.top_public parts.signer_public
public-of-fields top_levels signer_levels top_key signatures signer_key parts holds e =
    let most = holds.eight_at_most in
    sym (joined-public-parts top_levels signer_levels (u32str top_levels ++ top_key) top_key
    (u32str signer_levels ++ signer_key) signer_key
    (omega arith) (omega arith) refl refl)
    ∙ ap (λ (parts : EndorsementParts). joined_public parts.top_public parts.signer_public) e

pub signature-of-fields : (top_levels signer_levels : ℕ) (top_key signatures signer_key : List ℕ)
    (parts : EndorsementParts) (n : ℕ) (signature text : List ℕ)
    → HoldsEndorsement top_levels signer_levels top_key signatures signer_key
    → endorsement_of top_levels signer_levels top_key signatures signer_key ≡ parts
    → signature ≡ u32str n ++ text
    → u32str (top_levels + signer_levels - 1) ++ signatures ++ signer_key ++ text
    ≡ joined_signature parts.top_public parts.endorsement parts.signer_public signature
signature-of-fields top_levels signer_levels top_key signatures signer_key parts n signature text holds e es =
    let most = holds.eight_at_most in
    sym (joined-signature-parts top_levels signer_levels (top_levels - 1) n
    (u32str top_levels ++ top_key) top_key (u32str (top_levels - 1) ++ signatures) signatures
    (u32str signer_levels ++ signer_key) signer_key signature text
    (omega arith) (omega arith) refl refl refl es)
    ∙ ap (λ (parts : EndorsementParts).
    joined_signature parts.top_public parts.endorsement parts.signer_public signature) e

-- what is joined is accepted exactly where the signer's signature is
pub exact-of-fields : (top_levels signer_levels : ℕ) (top_key signatures signer_key : List ℕ) (parts : EndorsementParts)
    (signature text message : List ℕ)
    → HoldsEndorsement top_levels signer_levels top_key signatures signer_key
    → endorsement_of top_levels signer_levels top_key signatures signer_key ≡ parts
    → signature ≡ u32str (signer_levels - 1) ++ text
    → (HssAccepts (joined_public parts.top_public parts.signer_public) message
    (joined_signature parts.top_public parts.endorsement parts.signer_public signature)
    ↔ HssAccepts parts.signer_public message signature)
exact-of-fields top_levels signer_levels top_key signatures signer_key parts signature text message holds e es =
    let least = holds.some_top in
    let least' = holds.some_signer in
    let most = holds.eight_at_most in
    let top_public = u32str top_levels ++ top_key in
    let endorsement = u32str (top_levels - 1) ++ signatures in
    let signer_public = u32str signer_levels ++ signer_key in
    let exact = joined-exactly top_public endorsement signer_public signature message (record {
      top_levels = top_levels;
      signer_levels = signer_levels;
      top_key = top_key;
      top_signatures = signatures;
      signer_key = signer_key;
      signer_signatures = text;
      some_top = least;
      some_signer = least';
      eight_at_most = most;
      top_parts = refl;
      endorsement_parts = refl;
      signer_parts = refl;
      signature_parts = es;
      key_length = holds.key_length;
      endorsement_cut = cut-of-accepted (top_levels - 1) top_key signer_key signatures holds.accepted;
    }) in
    let key_is : after_count signer_public ≡ signer_key = rest-is signer_levels signer_public signer_key refl in
    let endorsed : HssAccepts top_public (after_count signer_public) endorsement
    = subst (λ key. HssAccepts top_public key endorsement) (sym key_is)
    ((accepts-by-numbers top_levels (top_levels - 1) top_public top_key signer_key endorsement signatures
    (omega arith) (omega arith) (omega arith) refl refl refl).1 holds.accepted) in
    subst (λ (parts : EndorsementParts).
    (HssAccepts (joined_public parts.top_public parts.signer_public) message
    (joined_signature parts.top_public parts.endorsement parts.signer_public signature)
    ↔ HssAccepts parts.signer_public message signature)) e
    (λ a. (exact.0 a).1, λ b. exact.1 (endorsed, b))
