-- A key and a signature have one bottom level.
use Rattle.std.proofs.Common.{ℕ, zero, suc, ◌≡◌, ◌+◌, ◌-◌, ◌^◌, ◌<◌, ◌≤◌, List, ◌++◌, length, sym, refl, ◌∙◌, ap, ap₂}
use Rattle.std.proofs.Common.{arith, subst, subst₂, length-append}
use Rattle.lms_spec.specs.Parameters.{OtsSet, LmsSet, lms_signature_length}
use Rattle.lms_spec.specs.Bytes.{u32str}
use Rattle.lms_spec.specs.Tree.{LmsAccepts}
use Rattle.lms_spec.specs.Hss.{most_levels}
use Rattle.lms_spec.proofs.FirstNumber.{first-number-same, rest-same}
use Rattle.lms_spec.proofs.Parts.{key-parts-same}
use Rattle.lms_spec.proofs.Pieces.{same-front, same-rest}
use Rattle.lms_verification.specs.Parts.{IsLmsPublicKey, HasSignaturesOf, HasParts}
use Rattle.lms_verification.proofs.Acceptance.{key-of-accepted}
use Rattle.lms_verification.specs.Heads.{lms_head}
use Rattle.lms_hss.specs.SignedKeys.{IsFirstSignedKey}
use Rattle.lms_hss.specs.Bottoms.{Reaches, IsBottom, IsMessageHead}

signature-length-one : (m n : ℕ) (signer : List ℕ) → HasSignaturesOf m signer → HasSignaturesOf n signer → m ≡ n
signature-length-one m n signer a b =
    let pa = a.parts in
    let pb = b.parts in
    let same = key-parts-same a.lms b.lms a.ots b.ots a.id b.id a.root b.root pa.lms_known pb.lms_known pa.ots_known
    pb.ots_known pa.id_length pb.id_length
    (sym pa.parts ∙ pb.parts) in
    a.length_is ∙ (ap₂ lms_signature_length same.0 same.1 ∙ sym b.length_is)

-- bytes that are cut are at least as long as a signature and a key
pub cut-long : (n : ℕ) (signer text signature key rest : List ℕ)
    → HasSignaturesOf n signer → IsFirstSignedKey signer text signature key rest → n + 56 ≤ length text
cut-long n signer text signature key rest has cut =
    let long : n ≡ length signature = signature-length-one n (length signature) signer has cut.signature_length in
    omega (
      arith,
      cut.key_length,
      ap length cut.parts,
      length-append (signature ++ key) rest,
      length-append signature key,
    )

cut-one : (signer text signature key rest signature' key' rest' : List ℕ)
    → IsFirstSignedKey signer text signature key rest → IsFirstSignedKey signer text signature' key' rest'
    → (signature ≡ signature') × (key ≡ key') × (rest ≡ rest')
cut-one signer text signature key rest signature' key' rest' a b =
    let n = length signature in
    let long : length signature' ≡ n =
    signature-length-one (length signature') n signer b.signature_length a.signature_length in
    let front_long : length (signature ++ key) ≡ n + 56 = length-append signature key ∙ ap (λ k. n + k) a.key_length in
    let front_long' : length (signature' ++ key') ≡ n + 56 =
    length-append signature' key' ∙ ap₂ (λ x y. x + y) long b.key_length in
    let e : (signature ++ key) ++ rest ≡ (signature' ++ key') ++ rest' = sym a.parts ∙ b.parts in
    let front = same-front (n + 56) (signature ++ key) (signature' ++ key') rest rest' front_long front_long' e in (
      same-front n signature signature' key key' refl long front,
      same-rest n signature signature' key key' refl long front,
      same-rest (n + 56) (signature ++ key) (signature' ++ key') rest rest' front_long front_long' e,
    )

-- where a bottom level is reached, the first signed key is accepted, and the level is reached below
-- it
pub reaches-parts : (count : ℕ) (signer text first next rest key signature : List ℕ)
    → IsFirstSignedKey signer text first next rest → Reaches (suc count) signer text key signature
    → LmsAccepts signer next first × Reaches count next rest key signature
reaches-parts count signer text first next rest key signature cut (first', next', rest', cut', accepted, below) =
    let same = cut-one signer text first' next' rest' first next rest cut' cut in (
      subst₂ (LmsAccepts signer) same.1 same.0 accepted,
      subst₂ (λ next rest. Reaches count next rest key signature) same.1 same.2 below,
    )

-- from what is no public key no bottom level is reached that has parts
pub never-reaches : (count : ℕ) (signer text key signature : List ℕ)
    → ((m : LmsSet) (t : OtsSet) (id root : List ℕ) → ¬ IsLmsPublicKey m t id root signer)
    → Reaches count signer text key signature → ¬ HasParts key signature
never-reaches zero signer text key signature none reached has =
    none has.lms has.ots has.id has.root
    (subst (IsLmsPublicKey has.lms has.ots has.id has.root) (sym reached.0) has.key_parts)
never-reaches (suc count) signer text key signature none (first, next, rest, cut, a, below) has =
    none a.lms a.ots a.id a.root (key-of-accepted signer next first a)

reaches-one : (count : ℕ) (signer text key signature key' signature' : List ℕ)
    → Reaches count signer text key signature → Reaches count signer text key' signature'
    → (key ≡ key') × (signature ≡ signature')
reaches-one zero signer text key signature key' signature' a b = (sym a.0 ∙ b.0, sym a.1 ∙ b.1)
reaches-one (suc count) signer text key signature key' signature' a (first, next, rest, cut, accepted, below) =
    reaches-one count next rest key signature key' signature'
    (reaches-parts count signer text first next rest key signature cut a).1 below

-- a bottom level is reached by the numbers at the front of a key and of a signature
pub reached-by-numbers : (levels signed_keys : ℕ) (public_key top_key signature signatures key text : List ℕ)
    → levels < 2 ^ 32 → signed_keys < 2 ^ 32 → public_key ≡ u32str levels ++ top_key
    → signature ≡ u32str signed_keys ++ signatures
    → IsBottom public_key signature key text
    → (1 ≤ levels) × (levels ≤ most_levels) × (signed_keys ≡ levels - 1)
    × Reaches signed_keys top_key signatures key text
reached-by-numbers levels signed_keys public_key top_key signature signatures key text fits fits' ek es is =
    let front : u32str is.levels ++ is.top_key ≡ u32str levels ++ top_key = sym is.key_parts ∙ ek in
    let front' : u32str (is.levels - 1) ++ is.signatures ≡ u32str signed_keys ++ signatures =
    sym is.signature_parts ∙ es in
    let least = is.one_at_least in
    let most = is.eight_at_most in
    let number : is.levels ≡ levels = first-number-same is.levels levels is.top_key top_key (omega arith) fits front in
    let count : is.levels - 1 ≡ signed_keys =
    first-number-same (is.levels - 1) signed_keys is.signatures signatures (omega arith) fits' front' in
    let top : is.top_key ≡ top_key = rest-same is.levels levels is.top_key top_key front in
    let others : is.signatures ≡ signatures = rest-same (is.levels - 1) signed_keys is.signatures signatures front' in
    (omega arith, omega arith, omega arith, rw (count, top, others) at is.reached)

bottom-one : (public_key signature key text key' text' : List ℕ)
    → IsBottom public_key signature key text → IsBottom public_key signature key' text' → (key ≡ key') × (text ≡ text')
bottom-one public_key signature key text key' text' a b =
    let most = b.eight_at_most in
    let reached = reached-by-numbers b.levels (b.levels - 1) public_key b.top_key signature b.signatures key text
    (omega arith) (omega arith) b.key_parts b.signature_parts a in
    reaches-one (b.levels - 1) b.top_key b.signatures key text key' text' reached.3 b.reached

-- a level that is reached by those numbers has the parts that a bottom level has
pub parts-by-numbers : (levels signed_keys : ℕ) (public_key top_key signature signatures key text key' text' : List ℕ)
    → levels < 2 ^ 32 → signed_keys < 2 ^ 32 → public_key ≡ u32str levels ++ top_key
    → signature ≡ u32str signed_keys ++ signatures
    → Reaches signed_keys top_key signatures key text → IsBottom public_key signature key' text' → HasParts key text
parts-by-numbers levels signed_keys public_key top_key signature signatures key text key' text' fits fits'
    ek es reached is =
    let found = reached-by-numbers levels signed_keys public_key top_key signature signatures key' text' fits
    fits' ek es is in
    let same = reaches-one signed_keys top_key signatures key' text' key text found.3 reached in
    subst₂ HasParts same.0 same.1 is.has_parts

-- what the hash of a message has before it is the same, by any bottom level that is found
pub head-one : (public_key signature key text head : List ℕ)
    → IsBottom public_key signature key text → IsMessageHead public_key signature head → head ≡ lms_head key text
head-one public_key signature key text head bottom is =
    let same = bottom-one public_key signature is.bottom_key is.bottom_signature key text is.bottom bottom in
    is.head_is ∙ ap₂ lms_head same.0 same.1

-- a top key that is no public key leaves no message head
pub no-head-by-numbers : (levels signed_keys : ℕ) (public_key top_key signature signatures head : List ℕ)
    → levels < 2 ^ 32 → signed_keys < 2 ^ 32 → public_key ≡ u32str levels ++ top_key
    → signature ≡ u32str signed_keys ++ signatures
    → ((key text : List ℕ) → Reaches signed_keys top_key signatures key text → ¬ HasParts key text)
    → ¬ IsMessageHead public_key signature head
no-head-by-numbers levels signed_keys public_key top_key signature signatures head fits fits' ek es never is =
    let found = reached-by-numbers levels signed_keys public_key top_key signature signatures is.bottom_key
    is.bottom_signature fits fits' ek es is.bottom in
    never is.bottom_key is.bottom_signature found.3 is.bottom.has_parts
