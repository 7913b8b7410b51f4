use Rattle.std.proofs.Common.{◌+◌, ◌*◌, min}
use Rattle.sha2.specs.Hashers.{Holds256}
use Rattle.lms_spec.specs.Hashing.{chain_secret}
use Rattle.lms_spec.specs.Ots.{chain, last_digit}
use Rattle.lms_params.specs.OtsType.{ots_set_of}
use Rattle.lms_ots.proofs.Ends.{first_ends}
use Rattle.lms_ots.proofs.one_time_key.public_hash.Given as goal

abbrev pub invariant-groups : goal.invariant-groups
invariant-groups l =
    Holds256 l.hasher
    (first_ends l.id.i l.id.q (λ i. chain l.id.i l.id.q i 0 (last_digit (ots_set_of l.fn.t))
    (chain_secret l.id.i l.seed l.id.q i)) (min (ots_set_of l.fn.t).p (8 * l.group)))

abbrev pub invariant-ends : goal.invariant-ends
invariant-ends l =
    Holds256 l.hasher
    (first_ends l.id.i l.id.q (λ i.
    chain l.id.i l.id.q i 0 (last_digit (ots_set_of l.fn.t)) (chain_secret l.id.i l.seed l.id.q i)) (8 * l.group + l.k))
