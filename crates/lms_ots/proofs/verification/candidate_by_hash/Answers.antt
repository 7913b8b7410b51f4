use Rattle.std.proofs.Common.{ℕ, ◌-◌, List, replicate, subst, slice_index, ◌≤◌, sym}
use Rattle.lms_spec.specs.Ots.{last_digit}
use Rattle.lms_params.specs.OtsType.{ots_set_of}
use Rattle.lms_ots.proofs.Candidates.{digit-in-chain, leads-from-hash}
use Rattle.lms_ots.proofs.verification.candidate_by_hash.Goals as goal

pub ends_hash-requires-clause-limit : goal.ends_hash-requires-clause-limit
ends_hash-requires-clause-limit g c i h =
    let t = ots_set_of c.args.signature.t in
    subst (λ (digits : List ℕ). slice_index digits i ≤ last_digit t) (sym c.digits-digits.ensures)
    (digit-in-chain t c.args.hash.now (replicate (265 - t.p) 0) i h)

pub returns : goal.returns
returns g c text message parts hashed =
    let signature = c.args.signature in
    let t = ots_set_of signature.t in
    leads-from-hash t c.args.id.i c.args.id.q signature.randomizer.now message
    (replicate (265 - t.p) 0) text c.args.hash.now c.digits-digits.result c.ends_hash.result
    signature.values.now parts hashed c.digits-digits.ensures c.ends_hash.ensures
