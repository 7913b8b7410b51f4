-- Faults that several commands share have a status of 2 at least.
use Rattle.std.proofs.Common.{◌≡◌, ◌≤◌, ℕ, List, Option, Some, None, zero, suc}
use Rattle.std.proofs.Common.{arith, inl, inr, subst, sym}
use Rattle.lms_commands.specs.Faults.{status_number, status_of}
use Rattle.lms_commands.specs.Logs.{BurnsUnsigned, IsLockRefused, IsReadRefused, IsWriteRefused, KeyState}
use Rattle.lms_commands.specs.Logs.{LeavesUnsigned, LogsUnopened, WorldCalls}
use Rattle.lms_commands.specs.Watching.{BurnsWatched, FailsToNote, IsRefusedBy, LogsUnseen, LogsUnwatched}
use Rattle.lms_commands.specs.Watching.{SparesWatched, UnsignedWatched, Watch}
use Rattle.lms_commands.specs.declared.fault.Fault.{Fault}
use Rattle.lms_commands.specs.declared.fault.Fault.TheVariants.{BadJob, BadState, BadWitness, Exhausted, OutOfMemory}
use Rattle.lms_commands.specs.declared.fault.Fault.TheVariants.{OutOfMemoryBurnt, ReadInput, ReadState, ReadWitness}
use Rattle.lms_commands.specs.declared.fault.Fault.TheVariants.{StateInUse, StateOlder, TooManyJobs, WitnessExists}
use Rattle.lms_commands.specs.declared.fault.Fault.TheVariants.{WriteOutput, WriteStateBurnt, WriteWitness}
use Rattle.lms_commands.specs.declared.fault.Fault.TheVariants.{WriteWitnessBurnt}
use Rattle.lms_key_commands.specs.WitnessLogs.{LogsWitnessThere}
use Rattle.lms_batch_commands.specs.BatchLogs.{AreUnread}
use Rattle.lms_join_commands.specs.JoinLogs.{FailsToReadTwo}

-- the fault has a status of 2 at least
abbrev pub IsHigh : Fault → Type 0
IsHigh fault = 2 ≤ status_number (status_of fault)

module _ (fault : Fault) where
  pub at : (other : Fault) → IsHigh other → fault ≡ other → IsHigh fault
  at other high is = subst IsHigh (sym is) high

  pub at_lock : IsLockRefused fault → IsHigh fault
  at_lock (inl is) = at StateInUse (omega arith) is
  at_lock (inr is) = at OutOfMemory (omega arith) is

  pub at_read : IsReadRefused fault → IsHigh fault
  at_read (inl is) = at ReadInput (omega arith) is
  at_read (inr is) = at OutOfMemory (omega arith) is

  pub at_write : IsWriteRefused fault → IsHigh fault
  at_write (inl is) = at WriteOutput (omega arith) is
  at_write (inr is) = at OutOfMemory (omega arith) is

  pub at_two : (first second : List ℕ) (old new : WorldCalls) → FailsToReadTwo first second fault old new
      → IsHigh fault
  at_two first second old new (refused, _) = at_read refused

  pub at_unread : (input : Option (List ℕ)) → AreUnread input fault → IsHigh fault
  at_unread input (inl refused) = at_read refused
  at_unread input (inr (inl (line, is, _))) = at (BadJob line) (omega arith) is
  at_unread input (inr (inr (is, _))) = at TooManyJobs (omega arith) is

  pub at_unopened : (old new : WorldCalls) → LogsUnopened fault old new → IsHigh fault
  at_unopened old new (inl (is, _)) = at OutOfMemory (omega arith) is
  at_unopened old new (inr (_, inl (is, _))) = at OutOfMemory (omega arith) is
  at_unopened old new (inr (_, inr (inl (is, _, _)))) = at ReadState (omega arith) is
  at_unopened old new (inr (_, inr (inr (bad, _, is, _, _, _)))) = at (BadState bad) (omega arith) is

  pub at_unseen : (old new : WorldCalls) → LogsUnseen fault old new → IsHigh fault
  at_unseen old new (inl (is, _)) = at ReadWitness (omega arith) is
  at_unseen old new (inr (is, _)) = at OutOfMemory (omega arith) is

  pub at_there : (old new : WorldCalls) → LogsWitnessThere fault old new → IsHigh fault
  at_there old new (inl is) = at_unseen old new is
  at_there old new (inr (is, _)) = at WitnessExists (omega arith) is

  at_refused : (watch : Watch) (id : List ℕ) (index : ℕ) → IsRefusedBy watch id index fault → IsHigh fault
  at_refused None id index never = absurd never
  at_refused (Some text) id index (inl (is, _)) = at BadWitness (omega arith) is
  at_refused (Some text) id index (inr (is, _)) = at StateOlder (omega arith) is

  pub at_unwatched : (old new : WorldCalls) → LogsUnwatched fault old new → IsHigh fault
  at_unwatched old new (inl is) = at_unseen old new is
  at_unwatched old new (inr (inl (text, inl (is, _)))) = at WriteWitness (omega arith) is
  at_unwatched old new (inr (inl (text, inr (is, _)))) = at OutOfMemory (omega arith) is
  at_unwatched old new (inr (inr (inl (watch, is)))) = at_unopened _ new is
  at_unwatched old new (inr (inr (inr (watch, state, refused, _)))) = at_refused watch _ _ refused

  -- where no signature is made
  at_spared : (n : ℕ) (state : KeyState) (old new : WorldCalls) → LeavesUnsigned n fault state old new → IsHigh fault
  at_spared n state old new (inl (is, _, _)) = at (Exhausted _) (omega arith) is
  at_spared n state old new (inr (is, _)) = at OutOfMemory (omega arith) is

  at_burnt : (n : ℕ) (state : KeyState) (old new : WorldCalls) → BurnsUnsigned n fault state old new → IsHigh fault
  at_burnt n state old new (inl (is, _)) = at (WriteStateBurnt _ _) (omega arith) is
  at_burnt n state old new (inr (is, _)) = at (OutOfMemoryBurnt _) (omega arith) is

  at_unsaid : (n : ℕ) (watch : Watch) (id : List ℕ) (start : ℕ) (old new : WorldCalls)
      → FailsToNote n watch id start fault old new → IsHigh fault
  at_unsaid zero watch id start old new never = absurd never
  at_unsaid (suc n) None id start old new never = absurd never
  at_unsaid (suc n) (Some text) id start old new (is, _) = at (WriteWitnessBurnt _ _) (omega arith) is

  pub spares : (n : ℕ) (state : KeyState) (old new : WorldCalls) → SparesWatched n fault state old new → IsHigh fault
  spares n state old new (by, is) = at_spared n state _ new is

  pub burns : (n : ℕ) (state : KeyState) (old new : WorldCalls) → BurnsWatched n fault state old new → IsHigh fault
  burns n state old new (by, inl is) = at_burnt n state _ new is
  burns n state old new (by, inr (last, _, is)) = at_unsaid n by.watch _ _ last new is

  pub at_unsigned : (n : ℕ) (state : KeyState) (old new : WorldCalls) → UnsignedWatched n fault state old new
      → IsHigh fault
  at_unsigned n state old new (inl is) = spares n state old new is
  at_unsigned n state old new (inr is) = burns n state old new is
