use Rattle.std.proofs.Common.{◌∙◌}
use Rattle.lms_verification.proofs.Heads.{head-by-parts}
use Rattle.lms_verification.proofs.verification.Verifier.head.Goals as goal

pub returns : goal.returns
returns c public_key signature message taken =
    let v = c.args.self.now in
    let ots = v.ots.signature in
    c.head.ensures taken.ots v.i taken.q taken.ots_part message taken.taken
    ∙ head-by-parts taken.lms taken.ots v.i v.root public_key taken.q taken.ots_part v.path.now signature
    ots.randomizer.now ots.values.now
    taken.key_parts taken.signature_parts taken.taken.signature_parts
