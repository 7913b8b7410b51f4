-- What is joined, by its parts, and when it is accepted.
use Rattle.std.proofs.Common.{ℕ, ◌≡◌, ◌+◌, ◌-◌, ◌^◌, ◌<◌, ◌≤◌, ◌↔◌, List, ◌++◌, refl, sym, ◌∙◌, ap, ap₂, arith, subst}
use Rattle.std.proofs.Common.{subst₂, append_assoc}
use Rattle.std.proofs.lemmas.List.{take_at, drop_at}
use Rattle.lms_spec.specs.Bytes.{number_of, u32str}
use Rattle.lms_spec.specs.Hss.{most_levels, AcceptsThrough, HssAccepts}
use Rattle.lms_spec.proofs.Numbers.{number_of-u32}
use Rattle.lms_hss.proofs.TopKeys.{accepts-by-numbers}
use Rattle.lms_join.specs.Joined.{count_of, after_count, joined_levels, joined_public, joined_signature}
use Rattle.lms_join.specs.Cuts.{AreCut}
use Rattle.lms_join.proofs.Through.{key-length, cut-of-accepted, accepts-joined, joined-apart}

-- the count at the front, and what is after it
pub count-is : (n : ℕ) (bytes rest : List ℕ) → n < 2 ^ 32 → bytes ≡ u32str n ++ rest → count_of bytes ≡ n
count-is n bytes rest fits e = ap count_of e ∙ (ap number_of (take_at (u32str n) rest 4 refl) ∙ number_of-u32 n fits)

pub rest-is : (n : ℕ) (bytes rest : List ℕ) → bytes ≡ u32str n ++ rest → after_count bytes ≡ rest
rest-is n bytes rest e = ap after_count e ∙ drop_at (u32str n) rest 4 refl

pub joined-public-parts : (top_levels signer_levels : ℕ) (top_public top_key signer_public signer_key : List ℕ)
    → top_levels ≤ 8 → signer_levels ≤ 8
    → top_public ≡ u32str top_levels ++ top_key → signer_public ≡ u32str signer_levels ++ signer_key
    → joined_public top_public signer_public ≡ u32str (top_levels + signer_levels) ++ top_key
joined-public-parts top_levels signer_levels top_public top_key signer_public signer_key most most' eu el =
    ap₂ (λ n rest. u32str n ++ rest)
    (ap₂ (λ m n. m + n) (count-is top_levels top_public top_key (omega arith) eu)
    (count-is signer_levels signer_public signer_key (omega arith) el))
    (rest-is top_levels top_public top_key eu)

pub joined-signature-parts : (top_levels signer_levels n m : ℕ)
    (top_public top_key endorsement top_signatures signer_public signer_key signature signer_signatures : List ℕ)
    → top_levels ≤ 8 → signer_levels ≤ 8
    → top_public ≡ u32str top_levels ++ top_key → endorsement ≡ u32str n ++ top_signatures
    → signer_public ≡ u32str signer_levels ++ signer_key → signature ≡ u32str m ++ signer_signatures
    → joined_signature top_public endorsement signer_public signature
    ≡ u32str (top_levels + signer_levels - 1) ++ top_signatures ++ signer_key ++ signer_signatures
joined-signature-parts top_levels signer_levels n m top_public top_key endorsement top_signatures signer_public
    signer_key signature signer_signatures most most' eu es el et =
    let levels_are : joined_levels top_public signer_public ≡ top_levels + signer_levels
    = ap₂ (λ m n. m + n) (count-is top_levels top_public top_key (omega arith) eu)
    (count-is signer_levels signer_public signer_key (omega arith) el) in
    let first = rest-is n endorsement top_signatures es in
    let second = rest-is signer_levels signer_public signer_key el in
    let third = rest-is m signature signer_signatures et in
    ap₂ (λ x y. x ++ y)
    (ap₂ (λ x y. x ++ y) (ap₂ (λ k x. u32str (k - 1) ++ x) levels_are first) second)
    third

-- of parts that are cut, what is joined is accepted exactly where both are
pub joined-exactly : (top_public endorsement signer_public signature message : List ℕ)
    → AreCut top_public endorsement signer_public signature
    → (HssAccepts (joined_public top_public signer_public) message
    (joined_signature top_public endorsement signer_public signature)
    ↔ HssAccepts top_public (after_count signer_public) endorsement × HssAccepts signer_public message signature)
joined-exactly top_public endorsement signer_public signature message is =
    let u = is.top_levels in
    let l = is.signer_levels in
    let least = is.some_top in
    let least' = is.some_signer in
    let most = is.eight_at_most in
    let text = is.top_signatures ++ is.signer_key ++ is.signer_signatures in
    let public_is = joined-public-parts u l top_public is.top_key signer_public is.signer_key (omega arith)
    (omega arith) is.top_parts is.signer_parts in
    let signature_is : joined_signature top_public endorsement signer_public signature ≡ u32str (u + l - 1) ++ text
    = joined-signature-parts u l (u - 1) (l - 1) top_public is.top_key endorsement is.top_signatures signer_public
    is.signer_key signature is.signer_signatures
    (omega arith) (omega arith) is.top_parts is.endorsement_parts is.signer_parts is.signature_parts
    ∙ (ap (λ t. t ++ is.signer_signatures) (append_assoc (u32str (u + l - 1)) is.top_signatures is.signer_key)
    ∙ append_assoc (u32str (u + l - 1)) (is.top_signatures ++ is.signer_key) is.signer_signatures) in
    let whole = accepts-by-numbers (u + l) (u + l - 1) (joined_public top_public signer_public) is.top_key message
    (joined_signature top_public endorsement signer_public signature) text
    (omega arith) (omega arith) (omega arith) refl public_is signature_is in
    let upper = accepts-by-numbers u (u - 1) top_public is.top_key is.signer_key endorsement is.top_signatures
    (omega arith) (omega arith) (omega arith) refl is.top_parts is.endorsement_parts in
    let lower = accepts-by-numbers l (l - 1) signer_public is.signer_key message signature is.signer_signatures
    (omega arith) (omega arith) (omega arith) refl is.signer_parts is.signature_parts in
    let key_is : after_count signer_public ≡ is.signer_key = rest-is l signer_public is.signer_key is.signer_parts in
    let count : u - 1 + 1 + (l - 1) ≡ u + l - 1 = omega arith in (
      λ a.
          let both = joined-apart (u - 1) (l - 1) is.top_key is.signer_key message is.top_signatures
          is.signer_signatures is.key_length is.endorsement_cut
          (subst (λ n. AcceptsThrough n is.top_key message text) (sym count) (whole.0 a)) in
          (subst (λ key. HssAccepts top_public key endorsement) (sym key_is) (upper.1 both.0), lower.1 both.1),
      λ both.
          whole.1 (subst (λ n. AcceptsThrough n is.top_key message text) count
          (accepts-joined (u - 1) (l - 1) is.top_key is.signer_key message is.top_signatures is.signer_signatures
          (upper.0 (subst (λ key. HssAccepts top_public key endorsement) key_is both.0)) (lower.0 both.1))),
    )

-- what is accepted is cut
pub cut-of-both : (top_public endorsement signer_public signature message : List ℕ)
    → HssAccepts top_public (after_count signer_public) endorsement → HssAccepts signer_public message signature
    → joined_levels top_public signer_public ≤ most_levels
    → AreCut top_public endorsement signer_public signature
cut-of-both top_public endorsement signer_public signature message a b together =
    let most = a.eight_at_most in
    let most' = b.eight_at_most in
    let levels : count_of top_public ≡ a.levels = count-is a.levels top_public a.top_key (omega arith) a.key_parts in
    let signer_levels : count_of signer_public ≡ b.levels =
    count-is b.levels signer_public b.top_key (omega arith) b.key_parts in
    let key_is = rest-is b.levels signer_public b.top_key b.key_parts in
    record {
      top_levels = a.levels;
      signer_levels = b.levels;
      top_key = a.top_key;
      top_signatures = a.signatures;
      signer_key = b.top_key;
      signer_signatures = b.signatures;
      some_top = a.some_level;
      some_signer = b.some_level;
      eight_at_most = subst₂ (λ m n. m + n ≤ 8) levels signer_levels together;
      top_parts = a.key_parts;
      endorsement_parts = a.signature_parts;
      signer_parts = b.key_parts;
      signature_parts = b.signature_parts;
      key_length = key-length (b.levels - 1) b.top_key message b.signatures b.accepted;
      endorsement_cut = cut-of-accepted (a.levels - 1) a.top_key (after_count signer_public) a.signatures a.accepted;
    }

pub joined-accepted : (top_public endorsement signer_public signature message : List ℕ)
    → HssAccepts top_public (after_count signer_public) endorsement → HssAccepts signer_public message signature
    → joined_levels top_public signer_public ≤ most_levels
    → HssAccepts (joined_public top_public signer_public) message
    (joined_signature top_public endorsement signer_public signature)
joined-accepted top_public endorsement signer_public signature message a b together =
    (joined-exactly top_public endorsement signer_public signature message
    (cut-of-both top_public endorsement signer_public signature message a b together)).1 (a, b)
