use Rattle.std.proofs.Common.{ap, arith, None, refl}
use Rattle.lms_spec.specs.Hss.{hss_signature_length}
use Rattle.lms_hss.specs.Levels.{levels_of}
use Rattle.lms_hss.specs.declared.key.HssKey.{HssKey}
use Rattle.lms_kept.proofs.SignedByText.{signed_by_text}
use Rattle.lms_kept.proofs.planned_trees.PlannedSignature.sign.Goals as goal

pub sign-requires-clause-room : goal.sign-requires-clause-room
sign-requires-clause-room g c =
    omega (
      arith,
      c.requires.long,
      ap (λ (key : HssKey). hss_signature_length (levels_of key.levels)) c.compute-trees.ensures.key,
    )

pub returns-clause-signature : goal.returns-clause-signature
returns-clause-signature g c text not_right =
    let trees = c.compute-trees.ensures in
    let made = c.in-Some in
    signed_by_text text c.args.self.trees.key c.args.self.trees.at c.args.c.now c.args.msg.now made.signature.items _
    None c.compute-trees.result (record { way = tt; of_key = tt; text_is = tt }) not_right
    (record {
      way = trees.way;
      of_key = trees.key;
      serves = trees.serves;
      from = trees.genuine;
      right = λ _. trees.genuine;
    })
    made.ensures.signature made.ensures.checked refl (λ no. no) tt
