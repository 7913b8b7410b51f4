-- The bytes of a public key and of a signature determine their parts.
use Rattle.std.proofs.Common.{ℕ, ◌≡◌, ◌+◌, ◌^◌, ◌<◌, List, ◌++◌, length, All, Some, refl, sym, ◌∙◌, ap, arith}
use Rattle.std.proofs.Common.{length-append}
use Rattle.std.specs.List.{concat}
use Rattle.lms_spec.specs.Parameters.{OtsSet, LmsSet, ots_set, lms_set, ots_signature_length}
use Rattle.lms_spec.specs.Bytes.{u32str}
use Rattle.lms_spec.specs.Ots.{LeadsTo}
use Rattle.lms_spec.specs.Tree.{leaf_hash, climb, lms_public_key, LmsAccepts}
use Rattle.lms_spec.proofs.Sets.{small-ots_code, small-lms_code, small-leaf}
use Rattle.lms_spec.proofs.FirstNumber.{u32str-same}
use Rattle.lms_spec.proofs.Lengths.{length-ots}
use Rattle.lms_spec.proofs.Pieces.{same-front, same-rest, concat-same}
use Rattle.lms_spec.proofs.OneTime.{candidate-one}

same_lms : (m m' : LmsSet) → lms_set m.code ≡ Some m → lms_set m'.code ≡ Some m'
    → u32str m.code ≡ u32str m'.code → m ≡ m'
same_lms m m' known known' e =
    let codes = ap lms_set (u32str-same m.code m'.code (small-lms_code m known) (small-lms_code m' known') e) in cc

same_ots : (t t' : OtsSet) → ots_set t.code ≡ Some t → ots_set t'.code ≡ Some t'
    → u32str t.code ≡ u32str t'.code → t ≡ t'
same_ots t t' known known' e =
    let codes = ap ots_set (u32str-same t.code t'.code (small-ots_code t known) (small-ots_code t' known') e) in cc

pub key-parts-same : (m m' : LmsSet) (t t' : OtsSet) (id id' root root' : List ℕ)
    → lms_set m.code ≡ Some m → lms_set m'.code ≡ Some m' → ots_set t.code ≡ Some t → ots_set t'.code ≡ Some t'
    → length id ≡ 16 → length id' ≡ 16 → lms_public_key m t id root ≡ lms_public_key m' t' id' root'
    → (m ≡ m') × (t ≡ t') × (id ≡ id') × (root ≡ root')
unfolding lms_public_key
key-parts-same m m' t t' id id' root root' km km' kt kt' li li' e =
    let a = u32str m.code in
    let a' = u32str m'.code in
    let b = u32str t.code in
    let b' = u32str t'.code in
    let l : length (a ++ b ++ id) ≡ 24 = omega arith in
    let l' : length (a' ++ b' ++ id') ≡ 24 = omega arith in
    let front = same-front 24 (a ++ b ++ id) (a' ++ b' ++ id') root root' l l' e in
    let codes = same-front 8 (a ++ b) (a' ++ b') id id' refl refl front in (
      same_lms m m' km km' (same-front 4 a a' b b' refl refl codes),
      same_ots t t' kt kt' (same-rest 4 a a' b b' refl refl codes),
      same-rest 8 (a ++ b) (a' ++ b') id id' refl refl front,
      same-rest 24 (a ++ b ++ id) (a' ++ b' ++ id') root root' l l' e,
    )

pub signature-parts-same : (q q' c c' n : ℕ) (o o' : List ℕ) (path path' : List (List ℕ))
    → q < 2 ^ 32 → q' < 2 ^ 32 → length o ≡ n → length o' ≡ n → length path ≡ length path'
    → All (λ v. length v ≡ 32) path → All (λ v. length v ≡ 32) path'
    → u32str q ++ o ++ u32str c ++ concat path ≡ u32str q' ++ o' ++ u32str c' ++ concat path'
    → (q ≡ q') × (o ≡ o') × (path ≡ path')
signature-parts-same q q' c c' n o o' path path' hq hq' lo lo' same long long' e =
    let a = u32str q in
    let a' = u32str q' in
    let b = u32str c in
    let b' = u32str c' in
    let l : length (a ++ o ++ b) ≡ 8 + n = length-append (a ++ o) b ∙ omega arith in
    let l' : length (a' ++ o' ++ b') ≡ 8 + n = length-append (a' ++ o') b' ∙ omega arith in
    let k : length (a ++ o) ≡ 4 + n = omega arith in
    let k' : length (a' ++ o') ≡ 4 + n = omega arith in
    let front = same-front (8 + n) (a ++ o ++ b) (a' ++ o' ++ b') (concat path) (concat path') l l' e in
    let first = same-front (4 + n) (a ++ o) (a' ++ o') b b' k k' front in (
      u32str-same q q' hq hq' (same-front 4 a a' o o' refl refl first),
      same-rest 4 a a' o o' refl refl first,
      concat-same path path' same long long'
          (same-rest (8 + n) (a ++ o ++ b) (a' ++ o' ++ b') (concat path) (concat path') l l' e),
    )

-- one parse of a key and a signature decides
pub accepted-by-parts : (m : LmsSet) (t : OtsSet) (id root : List ℕ) (q : ℕ) (o : List ℕ) (path : List (List ℕ))
    (message candidate : List ℕ)
    → lms_set m.code ≡ Some m → ots_set t.code ≡ Some t → length id ≡ 16 → q < 2 ^ m.h → length path ≡ m.h
    → All (λ v. length v ≡ 32) path
    → LeadsTo t id q o message candidate
    → LmsAccepts (lms_public_key m t id root) message (u32str q ++ o ++ u32str m.code ++ concat path)
    → climb id (2 ^ m.h + q) (leaf_hash id (2 ^ m.h + q) candidate) path ≡ root
accepted-by-parts m t id root q o path message candidate km kt li hq lp long leads a =
    let k = key-parts-same a.lms m a.ots t a.id id a.root root a.lms_known km a.ots_known kt a.id_length li
    (sym a.key_parts) in
    let em : a.lms ≡ m = k.0 in
    let et : a.ots ≡ t = k.1 in
    let eid : a.id ≡ id = k.2 in
    let eroot : a.root ≡ root = k.3 in
    let lo = length-ots t leads.randomizer leads.values o leads.signature_parts in
    let lo' : length a.ots_part ≡ ots_signature_length t = length-ots a.ots a.leads_to.randomizer a.leads_to.values
    a.ots_part a.leads_to.signature_parts ∙ ap ots_signature_length et in
    let qa : a.q < 2 ^ 32 = small-leaf a.lms a.q a.lms_known a.q_in_tree in
    let qb : q < 2 ^ 32 = small-leaf m q km hq in
    let s = signature-parts-same a.q q a.lms.code m.code (ots_signature_length t) a.ots_part o a.path path qa qb lo' lo
    (a.path_count ∙ (ap (λ (m : LmsSet). m.h) em ∙ sym lp)) a.path_lengths long (sym a.signature_parts) in
    let eq : a.q ≡ q = s.0 in
    let eo : a.ots_part ≡ o = s.1 in
    let ep : a.path ≡ path = s.2 in
    let there : LeadsTo t id q o message a.candidate = rw (et, eid, eq, eo) at a.leads_to in
    let ec : a.candidate ≡ candidate = candidate-one t id q o message a.candidate candidate there leads in
    rw (em, eid, eq, ec, ep, eroot) at a.climbs_to_root
