use Rattle.std.proofs.Common.{◌++◌, ap, ap₂, sym, ◌∙◌}
use Rattle.lms_spec.specs.Bytes.{u16str}
use Rattle.lms_spec.specs.Hashing.{d_mesg, hash_prefix}
use Rattle.lms_ots.proofs.OtsParts.{randomizer-of}
use Rattle.lms_ots.proofs.verification.Verifier.head.Goals as goal

pub returns : goal.returns
returns c t id q signature message taken =
    let of_self = c.args.self.now.signature in
    c.message_head.ensures
    ∙ (ap₂ (λ id q. hash_prefix id q ++ u16str d_mesg ++ of_self.randomizer.now) taken.id_is taken.leaf_is
    ∙ ap (λ x. hash_prefix id q ++ u16str d_mesg ++ x)
    (sym (randomizer-of t of_self.randomizer.now of_self.values.now signature taken.signature_parts)))
