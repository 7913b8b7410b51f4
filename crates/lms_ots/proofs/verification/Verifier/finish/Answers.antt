use Rattle.std.proofs.Common.{◌++◌, ap₂, sym, ◌∙◌, subst}
use Rattle.sha2.specs.Sha256.{sha256}
use Rattle.lms_spec.specs.Bytes.{u16str}
use Rattle.lms_spec.specs.Hashing.{d_mesg, hash_prefix}
use Rattle.lms_spec.specs.Ots.{message_hash, IsOtsSignature}
use Rattle.lms_ots.proofs.verification.Verifier.finish.Goals as goal

pub returns : goal.returns
unfolding message_hash
returns g c t id q signature message taken =
    let of_self = c.args.self.signature in
    rw (taken.set_is, taken.id_is, taken.leaf_is)
    at (c.candidate_by_hash.ensures signature message
    (subst (λ (t : _). IsOtsSignature t of_self.randomizer.now of_self.values.now signature)
    (sym taken.set_is) taken.signature_parts)
    (c.finalize-hash.ensures _ taken.hashed
    ∙ ap₂ (λ id q. sha256 (hash_prefix id q ++ u16str d_mesg ++ of_self.randomizer.now ++ message)) (sym taken.id_is)
    (sym taken.leaf_is)))
