use Rattle.std.proofs.Common.{arith}
use Rattle.lms_lines.proofs.SignedLines.{batch_read, batch_refused}
use Rattle.lms_lines.proofs.signing.read_and_sign.Goals as goal

pub returns-clause-signed : goal.returns-clause-signed
returns-clause-signed g c =
    let read = batch_read c.args.service.now (g.I.Read.remaining c.args.reader.now)
    (g.I.Read.remaining c.read_jobs.new.reader)
    c.args.desk.now c.sign_batch_by.new.desk c.deref.result.now c.in-Ok.jobs.items c.deref.ensures.value
    c.in-Ok.ensures.ok c.in-Ok-sign_batch_by.batch
    c.in-Ok-sign_batch_by.ensures in
    (read.0, omega (arith, c.len.ensures, read.1))

pub returns-in-Err-sign_batch_by-clause-unsigned : goal.returns-in-Err-sign_batch_by-clause-unsigned
returns-in-Err-sign_batch_by-clause-unsigned g c =
    batch_refused c.args.service.now (g.I.Read.remaining c.args.reader.now) (g.I.Read.remaining c.read_jobs.new.reader)
    c.args.desk.now c.sign_batch_by.new.desk c.deref.result.now c.in-Ok.jobs.items c.deref.ensures.value
    c.in-Ok.ensures.ok c.in-Err-sign_batch_by.fault
    c.in-Err-sign_batch_by.ensures
