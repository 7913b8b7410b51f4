-- What the parts of a key and of a signature have to do with acceptance.
use Rattle.std.proofs.Common.{ℕ, ◌≡◌, ◌+◌, ◌^◌, ◌<◌, ◌↔◌, Bool, IsTrue, List, ◌++◌, sym, ◌∙◌, ap, subst}
use Rattle.std.specs.List.{concat}
use Rattle.lms_spec.specs.Parameters.{OtsSet, LmsSet, ots_signature_length}
use Rattle.lms_spec.specs.Bytes.{u32str}
use Rattle.lms_spec.specs.Ots.{LeadsTo}
use Rattle.lms_spec.specs.Tree.{leaf_hash, climb, LmsAccepts}
use Rattle.lms_spec.proofs.Lengths.{length-ots}
use Rattle.lms_spec.proofs.Parts.{key-parts-same, signature-parts-same, accepted-by-parts}
use Rattle.lms_verification.specs.Parts.{IsLmsPublicKey, IsLmsSignature}
use Rattle.lms_spec.proofs.Sets.{small-leaf}

-- a key under which a signature is accepted has parts
pub key-of-accepted : (public_key message signature : List ℕ) (a : LmsAccepts public_key message signature)
    → IsLmsPublicKey a.lms a.ots a.id a.root public_key
key-of-accepted public_key message signature a = record {
  lms_known = a.lms_known;
  ots_known = a.ots_known;
  id_length = a.id_length;
  root_length = a.root_length;
  parts = a.key_parts;
}

-- an accepted signature has parts under its key's sets, and they lead to a candidate
pub parts-of-accepted : (m : LmsSet) (t : OtsSet) (id root public_key message signature : List ℕ)
    → IsLmsPublicKey m t id root public_key → (a : LmsAccepts public_key message signature)
    → IsLmsSignature m t a.q a.ots_part a.path signature × LeadsTo t id a.q a.ots_part message a.candidate
parts-of-accepted m t id root public_key message signature key a =
    let same = key-parts-same a.lms m a.ots t a.id id a.root root a.lms_known key.lms_known a.ots_known key.ots_known
    a.id_length key.id_length
    (sym a.key_parts ∙ key.parts) in
    let lms : a.lms ≡ m = same.0 in
    let ots : a.ots ≡ t = same.1 in
    let identifier : a.id ≡ id = same.2 in
    let long = length-ots a.ots a.leads_to.randomizer a.leads_to.values a.ots_part a.leads_to.signature_parts in (
      record {
        q_in_tree = subst (λ (m : LmsSet). a.q < 2 ^ m.h) lms a.q_in_tree;
        ots_length = long ∙ ap ots_signature_length ots;
        path_count = a.path_count ∙ ap (λ (m : LmsSet). m.h) lms;
        path_lengths = a.path_lengths;
        parts = a.signature_parts ∙ ap (λ (m : LmsSet). u32str a.q ++ a.ots_part ++ u32str m.code ++ concat a.path) lms;
      },
      rw (ots, identifier) at a.leads_to,
    )

-- the parts of an accepted signature lead to a candidate
pub candidate-of-accepted : (m : LmsSet) (t : OtsSet) (id root public_key : List ℕ) (q : ℕ) (ots_part : List ℕ)
    (path : List (List ℕ)) (message signature : List ℕ)
    → IsLmsPublicKey m t id root public_key → IsLmsSignature m t q ots_part path signature
    → LmsAccepts public_key message signature
    → (k : List ℕ) × LeadsTo t id q ots_part message k
candidate-of-accepted m t id root public_key q ots_part path message signature key is a =
    let found = parts-of-accepted m t id root public_key message signature key a in
    let of_a = found.0 in
    let same = signature-parts-same a.q q m.code m.code (ots_signature_length t) a.ots_part ots_part a.path path
    (small-leaf m a.q key.lms_known of_a.q_in_tree) (small-leaf m q key.lms_known is.q_in_tree)
    of_a.ots_length is.ots_length
    (of_a.path_count ∙ sym is.path_count) of_a.path_lengths is.path_lengths (sym of_a.parts ∙ is.parts) in
    let leaf : a.q ≡ q = same.0 in
    let part : a.ots_part ≡ ots_part = same.1 in
    (a.candidate, rw (leaf, part) at found.1)

-- the parts of an accepted signature climb to the root
pub climb-of-accepted : (m : LmsSet) (t : OtsSet) (id root public_key : List ℕ) (q : ℕ) (ots_part : List ℕ)
    (path : List (List ℕ)) (message signature candidate : List ℕ)
    → IsLmsPublicKey m t id root public_key → IsLmsSignature m t q ots_part path signature
    → LeadsTo t id q ots_part message candidate
    → LmsAccepts public_key message signature
    → climb id (2 ^ m.h + q) (leaf_hash id (2 ^ m.h + q) candidate) path ≡ root
climb-of-accepted m t id root public_key q ots_part path message signature candidate key is leads a =
    let there = rw (key.parts, is.parts) at a in
    accepted-by-parts m t id root q ots_part path message candidate key.lms_known key.ots_known key.id_length
    is.q_in_tree is.path_count is.path_lengths leads there

-- parts that climb to the root are accepted
pub accepts-parts : (m : LmsSet) (t : OtsSet) (id root public_key : List ℕ) (q : ℕ) (ots_part : List ℕ)
    (path : List (List ℕ)) (message signature candidate : List ℕ)
    → IsLmsPublicKey m t id root public_key → IsLmsSignature m t q ots_part path signature
    → LeadsTo t id q ots_part message candidate
    → climb id (2 ^ m.h + q) (leaf_hash id (2 ^ m.h + q) candidate) path ≡ root
    → LmsAccepts public_key message signature
accepts-parts m t id root public_key q ots_part path message signature candidate key is leads climbs = record {
  lms = m;
  ots = t;
  id = id;
  root = root;
  id_length = key.id_length;
  root_length = key.root_length;
  lms_known = key.lms_known;
  ots_known = key.ots_known;
  key_parts = key.parts;
  q = q;
  ots_part = ots_part;
  path = path;
  q_in_tree = is.q_in_tree;
  path_count = is.path_count;
  path_lengths = is.path_lengths;
  signature_parts = is.parts;
  candidate = candidate;
  leads_to = leads;
  climbs_to_root = climbs;
}

-- a test of whether a leaf's climb ends at the root says whether the signature is accepted
pub accepts-when-root : (m : LmsSet) (t : OtsSet) (id root public_key : List ℕ) (q : ℕ) (ots_part : List ℕ)
    (path : List (List ℕ)) (message signature candidate : List ℕ) (leaf : ℕ) (result : Bool)
    → IsLmsPublicKey m t id root public_key → IsLmsSignature m t q ots_part path signature → leaf ≡ 2 ^ m.h + q
    → LeadsTo t id q ots_part message candidate
    → (IsTrue result ↔ climb id leaf (leaf_hash id leaf candidate) path ≡ root)
    → (IsTrue result ↔ LmsAccepts public_key message signature)
accepts-when-root m t id root public_key q ots_part path message signature candidate leaf result key is
    leaf_is leads test =
    let ends : ℕ → Type 0 = λ r. climb id r (leaf_hash id r candidate) path ≡ root in (
      λ e. accepts-parts m t id root public_key q ots_part path message signature candidate key is leads
          (subst ends leaf_is (test.0 e)),
      λ a. test.1 (subst ends (sym leaf_is)
          (climb-of-accepted m t id root public_key q ots_part path message signature candidate key is leads a)),
    )
