-- The parts of an LMS public key and of an LMS signature, as they are cut from their bytes.
use Rattle.std.proofs.Common.{ℕ, ◌≡◌, ◌+◌, ◌*◌, ◌/◌, ◌^◌, ◌<◌, List, ◌++◌, length, All, Some, take, drop, sym, ◌∙◌, ap}
use Rattle.std.proofs.Common.{ap₂, arith, subst, append_assoc, length-append, length-drop, take-append-drop}
use Rattle.std.specs.List.{concat}
use Rattle.std.specs.Simd.{first_chunks}
use Rattle.std.proofs.lemmas.List.{length-take-le}
use Rattle.lms_spec.specs.Parameters.{OtsSet, LmsSet, ots_set, lms_set, ots_signature_length, lms_signature_length}
use Rattle.lms_spec.specs.Bytes.{u32str}
use Rattle.lms_spec.specs.Tree.{lms_public_key}
use Rattle.lms_spec.proofs.Pieces.{Is32, length-concat}
use Rattle.lms_verification.specs.Parts.{IsLmsPublicKey, IsLmsSignature}
use Rattle.lms_spec.proofs.Chunks.{length-chunks, chunks-are-32, concat-chunks}
use Rattle.lms_spec.proofs.Sets.{small-ots_code, small-lms_code}
use Rattle.lms_spec.proofs.FirstNumber.{first-number-same, rest-same}

-- how long a public key is
pub length-lms_key : (m : LmsSet) (t : OtsSet) (id root public_key : List ℕ) → IsLmsPublicKey m t id root public_key
    → length public_key ≡ 56
unfolding lms_public_key
length-lms_key m t id root public_key is =
    let first = is.id_length in
    let last = is.root_length in
    ap length is.parts ∙ (length-append (u32str m.code ++ u32str t.code ++ id) root ∙ omega arith)

-- for the goals where the bytes are too few or too many
pub ruleset key_lengths = (length-lms_key)

-- the sets of a key are those of the typecodes at its front
pub sets-of-key : (m : LmsSet) (t : OtsSet) (id root public_key rest last : List ℕ) (a b : ℕ)
    → a < 2 ^ 32 → b < 2 ^ 32 → public_key ≡ u32str a ++ rest → rest ≡ u32str b ++ last
    → IsLmsPublicKey m t id root public_key → (lms_set a ≡ Some m) × (ots_set b ≡ Some t)
unfolding lms_public_key
sets-of-key m t id root public_key rest last a b ha hb ea eb is =
    let after_code = u32str t.code ++ (id ++ root) in
    let e : u32str m.code ++ after_code ≡ u32str a ++ rest = sym is.parts ∙ ea in
    let e' : after_code ≡ u32str b ++ last = rest-same m.code a after_code rest e ∙ eb in
    let lms : m.code ≡ a = first-number-same m.code a after_code rest (small-lms_code m is.lms_known) ha e in
    let ots : t.code ≡ b = first-number-same t.code b (id ++ root) last (small-ots_code t is.ots_known) hb e' in
    (ap lms_set (sym lms) ∙ is.lms_known, ap ots_set (sym ots) ∙ is.ots_known)

-- bytes cut at a key's parts are that key
pub key-parts : (m : LmsSet) (t : OtsSet) (id root public_key rest last : List ℕ) (a b : ℕ)
    → public_key ≡ u32str a ++ rest → rest ≡ u32str b ++ last → m.code ≡ a → t.code ≡ b → last ≡ id ++ root
    → public_key ≡ lms_public_key m t id root
unfolding lms_public_key
key-parts m t id root public_key rest last a b ea eb ma tb e =
    ea ∙ (ap (λ x. u32str a ++ x) (eb ∙ ap (λ x. u32str b ++ x) e)
    ∙ ap₂ (λ a b. u32str a ++ (u32str b ++ (id ++ root))) (sym ma) (sym tb))

-- how long a signature is
pub length-lms_parts : (m : LmsSet) (t : OtsSet) (q : ℕ) (ots_part : List ℕ) (path : List (List ℕ)) (signature : List ℕ)
    → IsLmsSignature m t q ots_part path signature → length signature ≡ lms_signature_length m t
length-lms_parts m t q ots_part path signature is =
    let all = length-concat path is.path_lengths in
    let count = is.path_count in
    let front = is.ots_length in
    ap length is.parts
    ∙ (length-append (u32str q ++ ots_part ++ u32str m.code) (concat path)
    ∙ omega (arith, length-append (u32str q ++ ots_part) (u32str m.code)))

-- the parts that are cut from as many bytes as are right, with the key's typecode in its place
pub lms-parts : (m : LmsSet) (t : OtsSet) (q : ℕ) (signature rest ots_part after last : List ℕ) (path : List (List ℕ))
    → length signature ≡ lms_signature_length m t → q < 2 ^ m.h → signature ≡ u32str q ++ rest
    → ots_part ≡ take (ots_signature_length t) rest → after ≡ drop (ots_signature_length t) rest
    → after ≡ u32str m.code ++ last → path ≡ first_chunks 32 (length last / 32) last
    → IsLmsSignature m t q ots_part path signature
lms-parts m t q signature rest ots_part after last path long in_tree es eo ea el ep =
    let n = ots_signature_length t in
    let rest_long : length rest ≡ 4 + n + 32 * m.h = omega (arith, ap length es) in
    let after_long : length after ≡ 4 + 32 * m.h = omega (arith, ap length ea, length-drop n rest) in
    let last_long : length last ≡ 32 * m.h = omega (arith, ap length el) in
    let count : length last / 32 ≡ m.h = omega arith in
    let pieces : path ≡ first_chunks 32 m.h last = ep ∙ ap (λ n. first_chunks 32 n last) count in
    let joined : u32str m.code ++ concat path ≡ after
    = ap (λ x. u32str m.code ++ x) (ap concat pieces ∙ concat-chunks m.h last last_long) ∙ sym el in
    let whole : rest ≡ ots_part ++ (u32str m.code ++ concat path)
    = sym (take-append-drop n rest) ∙ ap₂ (λ x y. x ++ y) (sym eo) (sym ea ∙ sym joined) in
    record {
      q_in_tree = in_tree;
      ots_length = ap length eo ∙ length-take-le n rest (omega arith);
      path_count = ap length pieces ∙ length-chunks m.h last;
      path_lengths = subst (All Is32) (sym pieces) (chunks-are-32 m.h last (omega arith));
      parts = es ∙ ap (λ x. u32str q ++ x) (whole ∙ sym (append_assoc ots_part (u32str m.code) (concat path)));
    }
