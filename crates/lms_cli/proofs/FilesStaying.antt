-- At which ends of a run no file of a world in memory is changed.
use Rattle.std.proofs.Common.{◌<◌, ap, inl, inr, arith, subst}
use Rattle.std.specs.Prelude.{◌≢◌}
use Rattle.lms_world.specs.Held.{Held}
use Rattle.lms_commands.specs.Faults.{status_number, status_of}
use Rattle.lms_commands.specs.declared.fault.Fault.{Fault}
use Rattle.lms_commands.specs.declared.fault.Fault.TheVariants.{WriteOutput}
use Rattle.lms_commands.specs.declared.status.Status.{Status}
use Rattle.lms_commands.proofs.Telling.{nothing_done}
use Rattle.lms_cli.specs.RunsInMemory.{FilesStay}
use Rattle.lms_cli.proofs.ChangesInMemory.{failed}
use Rattle.lms_cli.proofs.Ending.{obeyed_low}

not_output : (fault : Fault) → status_number (status_of fault) < 6 → fault ≢ WriteOutput
not_output fault low is =
    let at : status_number (status_of WriteOutput) < 6 =
    subst (λ (f : Fault). status_number (status_of f) < 6) is low in
    absurd (omega (arith, at))

pub files_stay_at : FilesStay
files_stay_at words end input rest before printed eb ea old new earlier now
    (inl (inl (none, is), told)) follows high low =
    ap (λ (h : Held). h.files) (nothing_done old new none follows)
files_stay_at words end input rest before printed eb ea old new earlier now
    (inl (inr (command, reads, is), told)) follows high low =
    absurd (obeyed_low command end input rest before printed earlier now high is)
files_stay_at words end input rest before printed eb ea old new earlier now
    (inr (fault, end_is, line, inl (none, is))) follows high low =
    ap (λ (h : Held). h.files) (nothing_done old new none follows)
files_stay_at words end input rest before printed eb ea old new earlier now
    (inr (fault, end_is, line, inr (command, reads, is))) follows high low =
    let other = not_output fault (subst (λ (s : Status). status_number s < 6) end_is low) in
    (failed input rest before printed old new earlier now follows command fault is).1 other
