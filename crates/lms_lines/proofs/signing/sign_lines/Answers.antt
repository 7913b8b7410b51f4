use Rattle.std.proofs.Common.{refl}
use Rattle.lms_lines.proofs.SignedLines.{not_answered}
use Rattle.lms_lines.proofs.signing.sign_lines.Goals as goal

pub returns-in_err-jobs : goal.returns-in_err-jobs
returns-in_err-jobs g c = not_answered _ _ _ _ _ _ _ _ _ c.from_residual.ensures.1 c.in_err-jobs.ensures.unsigned

pub returns-in-Ok : goal.returns-in-Ok
returns-in-Ok g c = record {
  done = (c.in_ok-jobs.jobs, c.in_ok-jobs.ensures.signed, c.in-Ok.ensures.ok, c.count_signatures.ensures, refl);
  fault = tt;
  silent = tt;
}

pub returns : goal.returns
returns g c = record {
  done = tt;
  fault = (c.in_ok-jobs.jobs.batch, c.in_ok-jobs.ensures.signed.0, c.in-Err.ensures.err);
  silent = λ other. absurd (other refl);
}
