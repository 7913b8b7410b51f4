-- What the hash of a message has before it, by the parts of a key and of a signature.
use Rattle.std.proofs.Common.{ℕ, ◌≡◌, List, ◌++◌, take, drop, refl, sym, ◌∙◌, ap, ap₂, append_assoc}
use Rattle.std.specs.List.{concat}
use Rattle.std.proofs.lemmas.List.{take_at, drop_at}
use Rattle.lms_spec.specs.Parameters.{OtsSet, LmsSet}
use Rattle.lms_spec.specs.Bytes.{u16str, u32str}
use Rattle.lms_spec.specs.Hashing.{d_mesg}
use Rattle.lms_spec.specs.Ots.{IsOtsSignature}
use Rattle.lms_spec.specs.Tree.{lms_public_key}
use Rattle.lms_ots.specs.Heads.{ots_head}
use Rattle.lms_ots.proofs.OtsParts.{randomizer-of}
use Rattle.lms_verification.specs.Parts.{IsLmsPublicKey, IsLmsSignature}
use Rattle.lms_verification.specs.Heads.{lms_head}

id-of : (m : LmsSet) (t : OtsSet) (id root public_key : List ℕ) → IsLmsPublicKey m t id root public_key
    → take 16 (drop 8 public_key) ≡ id
unfolding lms_public_key
id-of m t id root public_key is =
    let codes = u32str m.code ++ u32str t.code in
    let whole : public_key ≡ codes ++ (id ++ root) = is.parts ∙ append_assoc codes id root in
    ap (λ x. take 16 (drop 8 x)) whole
    ∙ (ap (take 16) (drop_at codes (id ++ root) 8 refl) ∙ take_at id root 16 is.id_length)

pub head-by-parts : (m : LmsSet) (t : OtsSet) (id root public_key : List ℕ) (q : ℕ) (ots_part : List ℕ)
    (path : List (List ℕ)) (signature randomizer : List ℕ) (values : List (List ℕ))
    → IsLmsPublicKey m t id root public_key → IsLmsSignature m t q ots_part path signature
    → IsOtsSignature t randomizer values ots_part
    → ots_head id q ots_part ≡ lms_head public_key signature
head-by-parts m t id root public_key q ots_part path signature randomizer values key is ots =
    let code = u32str t.code in
    let rest = concat values ++ (u32str m.code ++ concat path) in
    let after : signature ≡ u32str q ++ (ots_part ++ (u32str m.code ++ concat path))
    = is.parts ∙ (append_assoc (u32str q ++ ots_part) (u32str m.code) (concat path)
    ∙ append_assoc (u32str q) ots_part (u32str m.code ++ concat path)) in
    let inner : ots_part ++ (u32str m.code ++ concat path) ≡ code ++ (randomizer ++ rest)
    = ap (λ x. x ++ (u32str m.code ++ concat path)) ots.parts
    ∙ (append_assoc (code ++ randomizer) (concat values) (u32str m.code ++ concat path)
    ∙ append_assoc code randomizer rest) in
    let whole : signature ≡ (u32str q ++ code) ++ (randomizer ++ rest)
    = after ∙ (ap (λ x. u32str q ++ x) inner ∙ sym (append_assoc (u32str q) code (randomizer ++ rest))) in
    let leaf : take 4 signature ≡ u32str q =
    ap (take 4) after ∙ take_at (u32str q) (ots_part ++ (u32str m.code ++ concat path)) 4 refl in
    let there : take 32 (drop 8 signature) ≡ randomizer
    = ap (λ x. take 32 (drop 8 x)) whole
    ∙ (ap (take 32) (drop_at (u32str q ++ code) (randomizer ++ rest) 8 refl)
    ∙ take_at randomizer rest 32 ots.randomizer_length) in
    let front = ap₂ (λ x y. x ++ y ++ u16str d_mesg) (sym (id-of m t id root public_key key)) (sym leaf) in
    ap₂ (λ x y. x ++ y) front (randomizer-of t randomizer values ots_part ots ∙ sym there)
