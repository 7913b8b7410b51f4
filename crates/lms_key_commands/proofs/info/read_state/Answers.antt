use Rattle.lms_world.proofs.Following.{one_more}
use Rattle.lms_key_commands.proofs.info.read_state.Goals as goal

pub returns-clause-follows : goal.returns-clause-follows
returns-clause-follows g c = one_more c.in_ok-book.ensures.follows c.put_back.ensures.logged c.put_back.ensures.acts
