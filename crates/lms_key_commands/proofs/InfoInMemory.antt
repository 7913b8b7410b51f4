-- What `info` finds in a world in memory, by its calls.
use Rattle.std.proofs.Common.{◌≡◌, ◌∙◌, ◌∷◌, ◌++◌, [], ℕ, List, Some, false, ap, refl, subst}
use Rattle.std.proofs.Common.{sym, inl, inr}
use Rattle.lms_book.specs.Stops.{StoreView}
use Rattle.lms_blocks.specs.Writing.{AppendsFront}
use Rattle.lms_world.specs.Names.{Bytes}
use Rattle.lms_world.specs.Events.{Acquired, Locked, PutBack, Taken, Unlocked}
use Rattle.lms_world.specs.Held.{Follows, Held}
use Rattle.lms_commands.specs.InMemory.{FindsState}
use Rattle.lms_commands.specs.Logs.{KeyState, WorldCalls}
use Rattle.lms_key_commands.specs.InfoInMemory.{DescribesInMemory, FailsToDescribeInMemory}
use Rattle.lms_key_commands.specs.InfoLogs.{info_of, ReadsToPrint}
use Rattle.lms_commands.proofs.AtState.{locked_still, not_locked, unopened}
use Rattle.lms_commands.proofs.Telling.{Adds, and_then, told, told_stays, was_state}

-- the state that was read was there, and is there still
found : (state : Bytes) (before : List ℕ) (read : KeyState) {earlier last now : WorldCalls} (old new : Held)
    → ReadsToPrint read before (Locked state Acquired ∷ earlier) last → now ≡ Unlocked ∷ last
    → Follows (Some old) earlier (Some new) now
    → (old.in_use ≡ false) × ((finds : FindsState old new) × (finds.state ≡ read))
found state before read {earlier} old new is calls follows =
    let (taken, left, reads, back) = is.reads in
    let first = PutBack left ∷ Taken (Some taken) ∷ Locked state Acquired ∷ [] in
    let read_so : Adds earlier is.until_read = record { calls = first; are = back } in
    let all = told old new (and_then (and_then read_so is.prints) calls) follows in
    let found = all.tell.0.0.0.1.0 in
    let finds : FindsState old new = record {
      state = read;
      was = was_state read reads found;
      stays = told_stays all refl (all.state ∙ (ap (λ (v : StoreView). v.now) reads.given ∙ found)) refl refl;
    } in
    (all.tell.0.0.0.0.1, (finds, refl))

pub describes_in_memory : DescribesInMemory
describes_in_memory state before printed old new earlier now (read, last, is, lines, calls) follows =
    let finds = found state before read old new is calls follows in
    (finds.0, (finds.1.0, lines ∙ ap (λ (s : KeyState). before ++ info_of s) (sym finds.1.1)))

pub fails_to_describe_in_memory : FailsToDescribeInMemory
fails_to_describe_in_memory state before printed fault old new earlier now (inl (refused, calls, same)) follows =
    inl (not_locked fault state earlier now old new refused calls follows)
fails_to_describe_in_memory state before printed fault old new earlier now
    (inr (last, inl (never, same), calls)) follows =
    let is = unopened (Locked state Acquired ∷ []) locked_still {before = earlier} refl calls old new follows
    fault never in
    inr (is.0.1, inl is.1)
fails_to_describe_in_memory state before printed fault old new earlier now
    (inr (last, inr (at, (read, is, lines)), calls)) follows =
    let finds = found state before read old new is calls follows in
    let front =
    subst (λ (s : KeyState). AppendsFront (Some before) (Some printed) (info_of s)) (sym finds.1.1) lines in
    inr (finds.0, inr (at, (finds.1.0, front)))
