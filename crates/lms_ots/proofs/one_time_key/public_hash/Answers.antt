use Rattle.std.proofs.Common.{ℕ, ◌≡◌, ◌+◌, ◌*◌, List, [], get_or, min, ◌∙◌, ap, arith, subst}
use Rattle.sha2.specs.Hashers.{Holds256}
use Rattle.lms_spec.specs.Hashing.{chain_secret}
use Rattle.lms_spec.specs.Ots.{chain, last_digit, public_hash}
use Rattle.lms_params.specs.OtsType.{ots_set_of}
use Rattle.lms_ots.proofs.Ends.{all-ends, first_ends, one-more-end}
use Rattle.lms_ots.proofs.one_time_key.public_hash.Goals as goal

pub ends-preserved : goal.ends-preserved
ends-preserved c =
    let id = c.args.id in
    let i : ℕ = 8 * c.groups.group + c.ends.k in
    let f : ℕ → List ℕ =
    λ i. chain id.i id.q i 0 (last_digit (ots_set_of c.args.t)) (chain_secret id.i c.args.seed.now id.q i) in
    let end : List ℕ = get_or c.lane_values-ends.result c.ends.k [] in
    let next : end ≡ f i
    = c.lane_values-ends.ensures.values c.ends.k (omega arith)
    ∙ ap (λ digit. chain id.i id.q i 0 digit (chain_secret id.i c.args.seed.now id.q i))
    c.last_digit-last.ensures.exact in
    let count : i + 1 ≡ 8 * c.groups.group + (c.ends.k + 1) = omega arith in
    let more = one-more-end id.i id.q f i end next ∙ ap (first_ends id.i id.q f) count in
    subst (Holds256 c.update-in-ends.new.self) more (c.update-in-ends.ensures _ c.ends.invariant)

pub returns : goal.returns
unfolding public_hash
returns c =
    let count : min (ots_set_of c.args.t).p (8 * c.groups.group) ≡ (ots_set_of c.args.t).p =
    omega (arith, c.div_ceil-group-end.ensures, c.p.ensures) in
    c.finalize.ensures _ c.groups.invariant ∙ all-ends _ _ _ _ _ count
