-- What `keygen` logged, by what its steps did.
use Rattle.std.proofs.Common.{inl, inr, Ok, Err, sym, ℕ, List, ◌∷◌}
use Rattle.std.proofs.Common.{subst}
use Rattle.lms_world.specs.Events.{Writing, Written}
use Rattle.lms_world.specs.Names.{Bytes}
use Rattle.lms_spec.specs.Profile.{hss_public_key}
use Rattle.lms_hss.specs.Keys.{hss_key_of}
use Rattle.lms_hss.specs.declared.key.HssKey.{HssKey as KeyOfCode}
use Rattle.lms_key_commands.specs.KeygenLogs.{LogsUnmade, WritesKey, capacity_line}
use Rattle.lms_commands.specs.declared.fault.Fault.{Fault}
use Rattle.lms_commands.specs.Logs.{FailsToPublish, WorldCalls}
use Rattle.lms_commands.specs.Logs.{write_cause}

-- a key's state was stored, and its public key or capacity not published
pub unmade : (key : KeyOfCode) (public : Bytes) (before printed : List ℕ) (old kept new : WorldCalls)
    → ((answer : Writing) → WritesKey key public answer old
    (Written public (hss_public_key (hss_key_of key)) answer ∷ kept)) → (fault : Fault)
    → FailsToPublish public (hss_public_key (hss_key_of key)) (capacity_line key) before printed fault kept new
    → LogsUnmade key public before printed fault old new
unmade key public before printed old kept new writes fault (inl (refused, calls, same)) =
    let written = subst (λ (log : WorldCalls). WritesKey key public (Err (write_cause fault)) old log) (sym calls)
    (writes (Err (write_cause fault))) in
    inl (same, inr (inr (inr (refused, written))))
unmade key public before printed old kept new writes fault (inr (at, calls, line)) =
    inr (at, record { until_written = _; writes = writes (Ok tt); prints = calls }, line)
