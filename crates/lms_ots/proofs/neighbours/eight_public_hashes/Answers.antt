use Rattle.std.proofs.Common.{◌≡◌, ◌∙◌, ◌+◌, ◌++◌, ℕ, List, [], map, refl, ap, arith}
use Rattle.std.specs.List.{concat}
use Rattle.sha2.specs.Sha256.{sha256}
use Rattle.lms_lanes.specs.Ends.{ends_text}
use Rattle.lms_spec.specs.Bytes.{below, u16str}
use Rattle.lms_spec.specs.Hashing.{chain_secret, d_pblc, hash_prefix}
use Rattle.lms_spec.specs.Ots.{chain, ends_hash, last_digit, public_hash}
use Rattle.lms_spec.proofs.Below.{map-below-same}
use Rattle.lms_params.specs.OtsType.{ots_set_of}
use Rattle.lms_ots.proofs.LaneChains.{lane-from_seed, last_digit-byte}
use Rattle.lms_ots.proofs.neighbours.eight_public_hashes.Goals as goal

pub returns-clause-hashes : goal.returns-clause-hashes
unfolding public_hash ends_hash
returns-clause-hashes c = λ k lt.
    let t = ots_set_of c.args.t in
    let id : List ℕ = c.args.first.i in
    let q : ℕ = c.args.first.q + k in
    let seed : List ℕ = c.args.seed.now in
    let last : ℕ = last_digit t in
    let f : ℕ → List ℕ = λ i. chain id q i 0 last (chain_secret id seed q i) in
    let steps : c.last_digit.result + 1 ≡ last + 1 = omega (arith, c.last_digit.ensures.exact) in
    let ends : map _ (below t.p) ≡ map f (below t.p) =
    map-below-same [] _ f t.p
    (λ i low. lane-from_seed id seed q i last i 255 _ seed refl refl steps refl (last_digit-byte c.args.t)) in
    c.hash_ends.ensures.hashes k lt
    ∙ ap (λ (front : List ℕ). sha256 (ends_text front d_pblc c.p.result 255 (c.last_digit.result + 1) seed))
    (c.lanes.invariant.fronts k (omega (arith, lt)))
    ∙ ap (λ (n : ℕ). sha256 (ends_text (hash_prefix id q) d_pblc n 255 (c.last_digit.result + 1) seed)) c.p.ensures
    ∙ ap (λ (values : List (List ℕ)). sha256 ((hash_prefix id q ++ u16str d_pblc) ++ concat values)) ends
