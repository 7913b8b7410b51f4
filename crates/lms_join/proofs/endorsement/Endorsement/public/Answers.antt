use Rattle.std.proofs.Common.{◌∙◌}
use Rattle.lms_join.proofs.Fields.{public-of-fields}
use Rattle.lms_join.proofs.endorsement.Endorsement.public.Goals as goal

pub returns : goal.returns
returns c =
    let inside = c.self.inside in
    let keys = inside.keys in
    c.joined.ensures
    ∙ public-of-fields keys.top.levels keys.signer.levels keys.top.lms_key.now inside.signatures.now
    keys.signer.lms_key.now c.args.self.now
    c.self.invariant c.self.view_is
