use Rattle.std.proofs.Common.{◌<◌, length, arith}
use Rattle.lms_files.proofs.Limits.{are_all}
use Rattle.lms_files.proofs.reading.read_at_most.Goals as goal

pub returns-clause-left : goal.returns-clause-left
returns-clause-left g c =
    let text = c.read_to_end.new.buf in
    let bytes = rw (c.take.ensures.inner, c.take.ensures.limit, c.in_ok-text.ensures.items) at
    c.in_ok-read_to_end.ensures.bytes in
    let fewer : length text.items < c.saturating_add-limit.result =
    omega (arith, c.len.ensures, text.ok, c.if-len-limit.false) in
    are_all (g.F.Read.remaining c.args.file) c.saturating_add-limit.result text.items bytes fewer
