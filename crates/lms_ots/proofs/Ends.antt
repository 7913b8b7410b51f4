-- What the hash over the ends of chains is over, end by end.
use Rattle.std.proofs.Common.{ℕ, ◌≡◌, ◌+◌, List, ◌++◌, map, sym, ◌∙◌, ap, append_assoc, subst}
use Rattle.std.specs.List.{concat}
use Rattle.sha2.specs.Hashers.{Holds256}
use Rattle.sha2.specs.Sha256.{sha256}
use Rattle.sha2.specs.declared.Sha256.{Sha256}
use Rattle.lms_spec.specs.Bytes.{below, u16str}
use Rattle.lms_spec.specs.Hashing.{d_pblc, hash_prefix}
use Rattle.lms_spec.specs.Ots.{ends_hash}
use Rattle.lms_spec.proofs.Below.{concat-below-suc}

-- the bytes before the ends, and the first n ends
abbrev pub first_ends : List ℕ → ℕ → (ℕ → List ℕ) → ℕ → List ℕ
first_ends id q end n = hash_prefix id q ++ u16str d_pblc ++ concat (map end (below n))

-- the first n ends and the next one are the first n + 1
pub one-more-end : (id : List ℕ) (q : ℕ) (end : ℕ → List ℕ) (n : ℕ) (text : List ℕ) → text ≡ end n
    → first_ends id q end n ++ text ≡ first_ends id q end (n + 1)
one-more-end id q end n text is =
    let before = hash_prefix id q ++ u16str d_pblc in
    let so_far = concat (map end (below n)) in
    append_assoc before so_far text ∙ ap (λ t. before ++ t) (ap (λ t. so_far ++ t) is ∙ sym (concat-below-suc end n))

-- a hasher that is given one end more
pub holds-more : (hasher : Sha256) (id : List ℕ) (q : ℕ) (end : ℕ → List ℕ) (n : ℕ) {text : List ℕ} → text ≡ end n
    → Holds256 hasher (first_ends id q end n ++ text) → Holds256 hasher (first_ends id q end (n + 1))
holds-more hasher id q end n {text} is = subst (Holds256 hasher) (one-more-end id q end n text is)

-- the hash over the first n ends, where these are all
pub all-ends : (id : List ℕ) (q : ℕ) (end : ℕ → List ℕ) (n count : ℕ) → n ≡ count
    → sha256 (first_ends id q end n) ≡ ends_hash id q (map end (below count))
unfolding ends_hash
all-ends id q end n count all = ap (λ (m : ℕ). ends_hash id q (map end (below m))) all
