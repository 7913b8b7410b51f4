-- The parts of a hierarchy's signature: how long they are, and that its bytes determine them.
use Rattle.std.proofs.Common.{ℕ, zero, suc, ◌≡◌, ◌+◌, ◌-◌, ◌*◌, ◌≤◌, List, [], ◌++◌, map, length, take, drop, get_or}
use Rattle.std.proofs.Common.{sum_by, Some, sym, ◌∙◌, ap, ap₂, subst₂, arith, length-append, append_assoc}
use Rattle.std.specs.List.{concat, range_with_len}
use Rattle.std.proofs.lemmas.List.{take_at, drop_at, drop_all}
use Rattle.std.proofs.lemmas.List.Sums.{sum_by-drop_more}
use Rattle.sha2.proofs.Facts256.{length-sha256}
use Rattle.lms_spec.specs.Parameters.{OtsSet, LmsSet, ots_set, lms_set, lms_signature_length}
use Rattle.lms_spec.specs.Bytes.{u32str}
use Rattle.lms_spec.specs.Tree.{lms_public_key, public_key_of, lms_signature, LmsAccepts}
use Rattle.lms_spec.specs.Hss.{Level, HssKey, hss_signature_length, AcceptsThrough, no_level}
use Rattle.lms_spec.specs.Profile.{leaf_at, for_randomizer, derived, tree_at, signed_key, hss_public_key, hss_signature}
use Rattle.lms_spec.proofs.Lengths.{length-lms, length-lms_signature, length-public_key}
use Rattle.lms_spec.proofs.Parts.{key-parts-same}
use Rattle.lms_spec.proofs.Hierarchies.{level-lms, level-ots, length-id, signatures_from}

abbrev level_length : Level → ℕ
level_length l = lms_signature_length l.lms l.ots

length-level : (key : HssKey) (g k : ℕ) (randomizer message : List ℕ) → length randomizer ≡ 32
    → length (lms_signature (tree_at key g k) (leaf_at key g k) randomizer message)
    ≡ level_length (get_or key.levels k no_level)
length-level key g k randomizer message long =
    length-lms_signature (tree_at key g k) (leaf_at key g k) randomizer message long
    ∙ ap₂ lms_signature_length (level-lms key g k) (level-ots key g k)

length-from : (key : HssKey) (g : ℕ) (randomizer message : List ℕ) (bottom k count : ℕ)
    → length key.id ≡ 16 → k + count ≡ bottom → bottom + 1 ≡ length key.levels → length randomizer ≡ 32
    → length
    (signatures_from key g (lms_signature (tree_at key g bottom) (leaf_at key g bottom) randomizer message) k count)
    ≡ sum_by level_length (drop k key.levels) + 56 * count
unfolding signed_key derived
length-from key g randomizer message bottom k zero sixteen e h long =
    let here : k ≡ bottom = omega arith in
    let none : drop (k + 1) key.levels ≡ [] = drop_all (k + 1) key.levels (omega arith) in
    let last = sum_by-drop_more level_length key.levels k no_level (omega arith) in
    let rest = ap (sum_by level_length) none in
    ap (λ b. length (lms_signature (tree_at key g b) (leaf_at key g b) randomizer message)) (sym here)
    ∙ (length-level key g k randomizer message long ∙ omega arith)
length-from key g randomizer message bottom k (suc count) sixteen e h long =
    let tree = tree_at key g k in
    let q = leaf_at key g k in
    let next = public_key_of (tree_at key g (k + 1)) in
    let first = lms_signature tree q (derived tree q for_randomizer) next in
    let last = lms_signature (tree_at key g bottom) (leaf_at key g bottom) randomizer message in
    let step = sum_by-drop_more level_length key.levels k no_level (omega arith) in
    let one = length-level key g k (derived tree q for_randomizer) next (length-sha256 _) in
    let two = length-public_key (tree_at key g (k + 1)) (length-id key g (k + 1) sixteen) in
    let rest = length-from key g randomizer message bottom (k + 1) count sixteen (omega arith) h long in
    ap length (append_assoc (signed_key key g k) (concat (map (signed_key key g) (range_with_len (k + 1) count))) last)
    ∙ (length-append (signed_key key g k) (signatures_from key g last (k + 1) count)
    ∙ omega (arith, length-append first next))

pub length-hss : (key : HssKey) (g : ℕ) (randomizer message : List ℕ) → 1 ≤ length key.levels → length key.id ≡ 16
    → length randomizer ≡ 32
    → length (hss_signature key g randomizer message)
    ≡ hss_signature_length key.levels
unfolding hss_signature
length-hss key g randomizer message some sixteen long =
    let bottom = length key.levels - 1 in
    let last = lms_signature (tree_at key g bottom) (leaf_at key g bottom) randomizer message in
    let whole = length-from key g randomizer message bottom 0 bottom sixteen (omega arith) (omega arith) long in
    omega arith

pub length-hss_public_key : (key : HssKey) → length key.id ≡ 16 → length (hss_public_key key) ≡ 60
unfolding hss_public_key
length-hss_public_key key sixteen =
    let top = length-public_key (tree_at key 0 0) sixteen in
    length-append (u32str (length key.levels)) (public_key_of (tree_at key 0 0)) ∙ omega arith

-- the key that an upper tree signs has 56 bytes
next-length : (count : ℕ) (public_key message signatures : List ℕ) → AcceptsThrough count public_key message signatures
    → length public_key ≡ 56
next-length zero public_key message signatures a = (length-lms public_key message signatures a).0
next-length (suc count) public_key message signatures (signature, next, rest, e, a, r) =
    (length-lms public_key next signature a).0

-- how long an upper signature and the key that it signs are
cut-lengths : (count : ℕ) (m : LmsSet) (t : OtsSet) (id root message signature next rest : List ℕ)
    → lms_set m.code ≡ Some m → ots_set t.code ≡ Some t → length id ≡ 16
    → LmsAccepts (lms_public_key m t id root) next signature → AcceptsThrough count next message rest
    → (length signature ≡ lms_signature_length m t) × (length next ≡ 56)
cut-lengths count m t id root message signature next rest km kt li a r =
    let k = key-parts-same a.lms m a.ots t a.id id a.root root a.lms_known km a.ots_known kt a.id_length li
    (sym a.key_parts) in (
      (length-lms (lms_public_key m t id root) next signature a).1 ∙ ap₂ lms_signature_length k.0 k.1,
      next-length count next message rest r,
    )

pub through-parts : (count : ℕ) (m : LmsSet) (t : OtsSet) (id root message signatures : List ℕ)
    → lms_set m.code ≡ Some m → ots_set t.code ≡ Some t → length id ≡ 16
    → AcceptsThrough (suc count) (lms_public_key m t id root) message signatures
    → LmsAccepts (lms_public_key m t id root) (take 56 (drop (lms_signature_length m t) signatures))
    (take (lms_signature_length m t) signatures)
    × AcceptsThrough count (take 56 (drop (lms_signature_length m t) signatures)) message
    (drop (lms_signature_length m t + 56) signatures)
through-parts count m t id root message signatures km kt li (signature, next, rest, e, a, r) =
    let n = lms_signature_length m t in
    let (ls, ln) = cut-lengths count m t id root message signature next rest km kt li a r in
    let nested = e ∙ append_assoc signature next rest in
    let first : take n signatures ≡ signature = ap (take n) nested ∙ take_at signature (next ++ rest) n ls in
    let second : take 56 (drop n signatures) ≡ next
    = ap (take 56) (ap (drop n) nested ∙ drop_at signature (next ++ rest) n ls) ∙ take_at next rest 56 ln in
    let third : drop (n + 56) signatures ≡ rest
    = ap (drop (n + 56)) e ∙ drop_at (signature ++ next) rest (n + 56) (length-append signature next ∙ omega arith) in (
      subst₂ (λ x y. LmsAccepts (lms_public_key m t id root) x y) (sym second) (sym first) a,
      subst₂ (λ x y. AcceptsThrough count x message y) (sym second) (sym third) r,
    )

-- an upper signature and the key that it signs fit into the byte string
pub through-length : (count : ℕ) (m : LmsSet) (t : OtsSet) (id root message signatures : List ℕ)
    → lms_set m.code ≡ Some m → ots_set t.code ≡ Some t → length id ≡ 16
    → AcceptsThrough (suc count) (lms_public_key m t id root) message signatures
    → lms_signature_length m t + 56 ≤ length signatures
through-length count m t id root message signatures km kt li (signature, next, rest, e, a, r) =
    let (ls, ln) = cut-lengths count m t id root message signature next rest km kt li a r in
    omega (arith, ls, ln, ap length e, length-append (signature ++ next) rest, length-append signature next)
