-- How long keys and signatures are.
use Rattle.std.proofs.Common.{map, ◌+◌, ◌/◌, ◌^◌, ℕ, ◌≡◌, List, ◌++◌, length, ◌∙◌, ap, arith, length-append}
use Rattle.std.specs.List.{concat}
use Rattle.sha2.proofs.Facts256.{length-sha256}
use Rattle.lms_spec.specs.Parameters.{OtsSet, ots_signature_length, lms_signature_length}
use Rattle.lms_spec.specs.Bytes.{below, u32str}
use Rattle.lms_spec.specs.Hashing.{chain_secret}
use Rattle.lms_spec.specs.Ots.{IsOtsSignature, ots_signature}
use Rattle.lms_spec.specs.Tree.{Tree, node, sibling, path_of, lms_public_key, public_key_of, lms_signature, LmsAccepts}
use Rattle.lms_spec.proofs.Below.{length-map-below, All-map-below}
use Rattle.lms_spec.proofs.Nodes.{length-node}
use Rattle.lms_spec.proofs.Pieces.{Is32, length-concat}
use Rattle.lms_spec.proofs.OneTime.{signed_value, length-chain}

pub length-ots : (t : OtsSet) (randomizer : List ℕ) (values : List (List ℕ)) (signature : List ℕ)
    → IsOtsSignature t randomizer values signature → length signature ≡ ots_signature_length t
length-ots t randomizer values signature is =
    let all = length-concat values is.value_lengths in
    let each = is.values_count in
    let front = is.randomizer_length in
    ap length is.parts ∙ (length-append (u32str t.code ++ randomizer) (concat values) ∙ omega arith)

pub length-lms : (public_key message signature : List ℕ) (a : LmsAccepts public_key message signature)
    → (length public_key ≡ 56) × (length signature ≡ lms_signature_length a.lms a.ots)
unfolding lms_public_key
length-lms public_key message signature a =
    let all = length-concat a.path a.path_lengths in
    let each = a.path_count in
    let ots_long = length-ots a.ots a.leads_to.randomizer a.leads_to.values a.ots_part a.leads_to.signature_parts in
    let first = a.id_length in
    let last = a.root_length in (
      ap length a.key_parts ∙ (length-append (u32str a.lms.code ++ u32str a.ots.code ++ a.id) a.root ∙ omega arith),
      ap length a.signature_parts ∙ (length-append (u32str a.q ++ a.ots_part ++ u32str a.lms.code) (concat a.path)
          ∙ omega (arith, length-append (u32str a.q ++ a.ots_part) (u32str a.lms.code))),
    )

pub length-ots_signature : (t : OtsSet) (id seed : List ℕ) (q : ℕ) (randomizer message : List ℕ)
    → length randomizer ≡ 32
    → length (ots_signature t id seed q randomizer message) ≡ ots_signature_length t
unfolding ots_signature chain_secret
length-ots_signature t id seed q randomizer message long =
    let f = signed_value t id seed q randomizer message in
    let count = length-map-below f t.p in
    let all = length-concat (map f (below t.p))
    (All-map-below Is32 f t.p (λ i. length-chain id q i 0 _ _ (length-sha256 _))) in
    length-append (u32str t.code ++ randomizer) (concat (map f (below t.p))) ∙ omega arith

pub length-lms_signature : (key : Tree) (q : ℕ) (randomizer message : List ℕ) → length randomizer ≡ 32
    → length (lms_signature key q randomizer message) ≡ lms_signature_length key.lms key.ots
unfolding lms_signature
length-lms_signature key q randomizer message long =
    let f : ℕ → List ℕ = λ level. node key (sibling ((2 ^ key.lms.h + q) / 2 ^ level)) in
    let count = length-map-below f key.lms.h in
    let all = length-concat (path_of key q) (All-map-below Is32 f key.lms.h (λ level. length-node key _)) in
    let o = ots_signature key.ots key.id key.seed q randomizer message in
    let front = length-ots_signature key.ots key.id key.seed q randomizer message long in
    length-append (u32str q ++ o ++ u32str key.lms.code) (concat (path_of key q))
    ∙ omega (arith, length-append (u32str q ++ o) (u32str key.lms.code))

pub length-public_key : (key : Tree) → length key.id ≡ 16 → length (public_key_of key) ≡ 56
unfolding public_key_of lms_public_key
length-public_key key sixteen =
    let root = length-node key 1 in
    length-append (u32str key.lms.code ++ u32str key.ots.code ++ key.id) (node key 1) ∙ omega arith
