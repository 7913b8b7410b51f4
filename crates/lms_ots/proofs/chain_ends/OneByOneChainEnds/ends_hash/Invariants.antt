use Rattle.sha2.specs.Hashers.{Holds256}
use Rattle.lms_spec.specs.Ots.{end_from}
use Rattle.lms_params.specs.OtsType.{ots_set_of}
use Rattle.lms_ots.proofs.Ends.{first_ends}
use Rattle.lms_ots.proofs.chain_ends.OneByOneChainEnds.ends_hash.Given as goal

abbrev pub invariant-loop-i : goal.invariant-loop-i
invariant-loop-i l =
    Holds256 l.hasher
    (first_ends l.id.i l.id.q (end_from (ots_set_of l.fn.t) l.id.i l.id.q l.fn.digits l.fn.values) l.i)
