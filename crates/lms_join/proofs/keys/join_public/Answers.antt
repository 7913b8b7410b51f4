use Rattle.std.proofs.Common.{sym, ◌∙◌}
use Rattle.lms_join.proofs.Joins.{joined-public-parts}
use Rattle.lms_join.proofs.keys.join_public.Goals as goal

pub returns-clause-some : goal.returns-clause-some
returns-clause-some c =
    let keys = c.in_ok-keys.keys in
    let top = c.in_ok-keys.ensures.top in
    let signer = c.in_ok-keys.ensures.signer in
    c.joined.ensures
    ∙ sym (joined-public-parts keys.top.levels keys.signer.levels c.args.top.now keys.top.lms_key.now c.args.signer.now
    keys.signer.lms_key.now
    top.eight_at_most signer.eight_at_most top.parts signer.parts)
