use Rattle.lms_book.proofs.Known.{knows_is}
use Rattle.lms_book.proofs.reservations.Reservations.knows.Goals as goal

pub returns-then-same_key : goal.returns-then-same_key
returns-then-same_key c =
    let r = c.args.self.now in
    knows_is c.key-2.result c.key.result c.base.result r.openings r.burnt c.history.result.now c.start.result
    c.len.result c.args.self.now c.args.lease.now c.is_given.result
    (λ i. record {
      key = c.key-2.ensures i;
      base = c.base.ensures i;
      openings = r.openings;
      burnt = r.burnt;
      history = c.history.ensures i;
    })
    c.key.ensures c.start.ensures.start c.len.ensures.len (c.same_key.ensures.0 c.if-same_key.true) c.is_given.ensures
