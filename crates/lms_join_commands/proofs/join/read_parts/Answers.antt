use Rattle.std.proofs.Common.{inl, inr}
use Rattle.lms_world.proofs.Following.{both_follow}
use Rattle.lms_commands.proofs.Failing.{handed_on}
use Rattle.lms_join_commands.specs.Requests.{names_of}
use Rattle.lms_join_commands.proofs.Joining.{reads_parts}
use Rattle.lms_join_commands.proofs.join.read_parts.Goals as goal

pub returns-in_err-public-clause-unread : goal.returns-in_err-public-clause-unread
returns-in_err-public-clause-unread g c =
    handed_on _ _ _ c.from_residual.ensures.1 (inl c.in_err-public.ensures.unread)

pub returns-in_err-signer-clause-unread : goal.returns-in_err-signer-clause-unread
returns-in_err-signer-clause-unread g c =
    let last = g.W.World.events c.read_two.new.world in
    handed_on _ _ _ c.from_residual-in_err-signer.ensures.1
    (inr (_, _, last, c.in_ok-public.ensures.logged, c.in_err-signer.ensures.unread))

pub returns-clause-logged : goal.returns-clause-logged
returns-clause-logged g c =
    reads_parts (names_of c.args.request.now) _ _ _ _ c.in_ok-public.ensures.logged c.in_ok-signer.ensures.logged

pub returns-in_err-signer-clause-follows : goal.returns-in_err-signer-clause-follows
returns-in_err-signer-clause-follows g c = both_follow c.read_two.ensures.follows c.read_two-2.ensures.follows

pub returns-clause-follows : goal.returns-clause-follows
returns-clause-follows g c = both_follow c.read_two.ensures.follows c.read_two-2.ensures.follows
