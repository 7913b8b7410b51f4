-- What `keygen` and `info` do with their state, by the calls that they make.
use Rattle.std.proofs.Common.{⊎_elim, ◌++◌, ◌≡◌, ◌∙◌, ℕ, false, List, [], ◌∷◌, Some, None}
use Rattle.std.proofs.Common.{Ok, Err, ap, refl, inl, inr}
use Rattle.std.specs.Prelude.{◌⊎◌}
use Rattle.std.specs.List.{list_any}
use Rattle.lms_spec.specs.Profile.{hss_public_key}
use Rattle.lms_hss.specs.Keys.{hss_key_of}
use Rattle.lms_hss.specs.declared.key.HssKey.{HssKey as KeyOfCode}
use Rattle.lms_book.specs.Stops.{StoreView}
use Rattle.lms_world.specs.Names.{Bytes}
use Rattle.lms_world.specs.Events.{Acquired, Asked, Locked, Printing, PutBack, Taken}
use Rattle.lms_world.specs.Events.{Unlocked, WitnessRead, Writing}
use Rattle.lms_commands.specs.Histories.{IsTurn, HandsNothing}
use Rattle.lms_key_commands.specs.KeyTurns.{HandsKey}
use Rattle.lms_key_commands.specs.KeyTurns.{HandsState}
use Rattle.lms_commands.specs.Histories.{StoresNothing, Makes, Turn}
use Rattle.lms_commands.specs.Histories.{hands_out, store_calls, witness_calls, written_in}
use Rattle.lms_key_commands.specs.KeygenLogs.{capacity_line, LogsKeygen, LogsKeygenFailed, LogsUnmade, LogsUnstored}
use Rattle.lms_key_commands.specs.KeygenLogs.{PublishesKey, StoresKey, WritesKey, finding_none}
use Rattle.lms_key_commands.specs.WitnessLogs.{LogsWitnessThere}
use Rattle.lms_commands.specs.Logs.{KeyState, WorldCalls}
use Rattle.lms_commands.specs.Logs.{write_cause}
use Rattle.lms_key_commands.specs.InfoLogs.{info_of, LogsInfo, LogsInfoFailed}
use Rattle.lms_key_commands.specs.InfoLogs.{ReadsToPrint}
use Rattle.lms_commands.specs.declared.fault.Fault.{Fault}
use Rattle.lms_commands.proofs.Turns.{Ends, begun, idle_as, kept_calls, keeping, left_so, no_text, one_more, one_use}
use Rattle.lms_commands.proofs.Turns.{unopened, unwritten, whole_text}

-- ---- `info`

describes : (read : KeyState) (state : Bytes) (before : List ℕ) (last whole : WorldCalls)
    → ReadsToPrint read before (Locked state Acquired ∷ []) last → whole ≡ Unlocked ∷ last
    → (turn : Turn) × IsTurn turn [] whole × (written_in whole ≡ [])
describes read state before last whole is calls =
    let locked = left_so (Locked state Acquired ∷ []) refl refl read is.until_read is.reads in (
      StoresNothing,
      one_more whole Unlocked refl calls (one_more last (Printing before) refl is.prints locked.takes),
      ap written_in calls ∙ (ap written_in is.prints ∙ locked.unwritten),
    )

pub info_turn : (state : Bytes) (before printed : List ℕ) (whole : WorldCalls) → LogsInfo state before printed [] whole
    → Ends HandsState whole before printed
info_turn state before printed whole (read, last, is, text, calls) =
    let turn = describes read state before last whole is calls in
    (turn.0, turn.1, (turn.2, inr (read, whole_text before printed (info_of read) text)))

pub info_failed_turn : (state : Bytes) (before printed : List ℕ) (fault : Fault) (whole : WorldCalls)
    → LogsInfoFailed state before printed fault [] whole
    → Ends HandsState whole before printed
info_failed_turn state before printed fault whole (inl (refused, calls, same)) =
    (StoresNothing, idle_as whole _ calls refl refl, (ap written_in calls, inl same))
info_failed_turn state before printed fault whole (inr (last, inl (never, same), calls)) =
    let is = unopened (Locked state Acquired ∷ []) refl refl last fault never in
    (StoresNothing, one_more whole Unlocked refl calls is.takes, (ap written_in calls ∙ is.unwritten, inl same))
info_failed_turn state before printed fault whole (inr (last, inr (at, (read, is, text)), calls)) =
    let turn = describes read state before last whole is calls in (turn.0, turn.1, (turn.2, inr (read, text)))

-- ---- `keygen`

-- what `keygen` hands out
abbrev pub HandsKeyAtMost : WorldCalls → List ℕ → List ℕ → Type 0
HandsKeyAtMost whole before printed = HandsNothing whole before printed ⊎ HandsKey whole before printed

module _ (old : WorldCalls) (quiet : list_any hands_out old ≡ false) (none : store_calls old ≡ [])
    (unnoted : witness_calls old ≡ []) (no_file : written_in old ≡ []) (key : KeyOfCode) where
  kept : kept_calls old ≡ []
  kept = ap (λ (calls : WorldCalls). calls ++ witness_calls old) none ∙ unnoted

  made_key : (new : WorldCalls) → StoresKey key (finding_none old) new
      → IsTurn (Makes key) [] new × (written_in new ≡ [])
  made_key new (taken, calls) = (
    begun (Makes key) [] new (
      ap witness_calls calls ∙ unnoted,
      (PutBack _ ∷ Taken (Some taken) ∷ WitnessRead (Ok None) ∷ [], old, calls, none),
      (taken, _, inl refl, one_use (finding_none old) quiet kept new taken _ calls),
    )
        (ap (list_any hands_out) calls ∙ quiet) refl,
    ap written_in calls ∙ no_file,
  )

  writes_key : (public : Bytes) (answer : Writing) (new : WorldCalls) → WritesKey key public answer old new
      → IsTurn (Makes key) [] new × (written_in new ≡ hss_public_key (hss_key_of key) ∷ [])
  writes_key public written new is =
      let made = made_key is.until_stored is.stores in
      let keeps = keeping is.trees is.until_stored is.until_kept is.keeps made.0 in (
        one_more new _ refl is.writes keeps.0,
        ap written_in is.writes
            ∙ ap (λ (texts : List (List ℕ)). hss_public_key (hss_key_of key) ∷ texts) (keeps.1 ∙ made.1),
      )

  publishes_key : (public : Bytes) (before : List ℕ) (new : WorldCalls) → PublishesKey key public before old new
      → IsTurn (Makes key) [] new × (written_in new ≡ hss_public_key (hss_key_of key) ∷ [])
  publishes_key public before new is =
      let written = writes_key public (Ok tt) is.until_written is.writes in
      (one_more new _ refl is.prints written.0, ap written_in is.prints ∙ written.1)

  unstored : (new : WorldCalls) (fault : Fault) → LogsUnstored key fault (finding_none old) new
      → (turn : Turn) × IsTurn turn [] new × (written_in new ≡ [])
  unstored new fault (inl (at, calls)) = (StoresNothing, idle_as new _ calls kept quiet, ap written_in calls ∙ no_file)
  unstored new fault (inr (taken, left, inl (at, same), calls)) =
      let is = unwritten (finding_none old) quiet kept new taken left calls
      (ap (λ (v : StoreView). v.now) same, ap (λ (v : StoreView). v.past) same) in
      (StoresNothing, is.takes, is.unwritten ∙ no_file)
  unstored new fault (inr (taken, left, inr (at, fails), calls)) =
      let once = one_use (finding_none old) quiet kept new taken left calls in
      let quietly = ap (list_any hands_out) calls ∙ quiet in (
        Makes key,
        begun (Makes key) [] new (
          ap witness_calls calls ∙ unnoted,
          (PutBack left ∷ Taken (Some taken) ∷ WitnessRead (Ok None) ∷ [], old, calls, none),
          (taken, left, inr fails, once),
        )
            quietly refl,
        ap written_in calls ∙ no_file,
      )

  -- a witness is there, or can't be read
  witness_there : (new : WorldCalls) (fault : Fault) → LogsWitnessThere fault (Asked false ∷ old) new
      → IsTurn StoresNothing [] new × (written_in new ≡ [])
  witness_there new fault (inl (inl (at, calls))) = (idle_as new _ calls kept quiet, ap written_in calls ∙ no_file)
  witness_there new fault (inl (inr (at, calls))) = (idle_as new _ calls kept quiet, ap written_in calls ∙ no_file)
  witness_there new fault (inr (at, (text, calls))) = (idle_as new _ calls kept quiet, ap written_in calls ∙ no_file)

  unmade : (public : Bytes) (before printed : List ℕ) (new : WorldCalls) (fault : Fault)
      → LogsUnmade key public before printed fault old new
      → Ends HandsKeyAtMost new before printed
  unmade public before printed new fault (inl (same, inl (at, calls))) =
      (StoresNothing, idle_as new _ calls kept quiet, inl (ap written_in calls ∙ no_file, same))
  unmade public before printed new fault (inl (same, inr (inl there))) =
      let is = witness_there new fault there in (StoresNothing, is.0, inl (is.1, same))
  unmade public before printed new fault (inl (same, inr (inr (inl never)))) =
      let is = unstored new fault never in (is.0, is.1, inl (is.2, same))
  unmade public before printed new fault (inl (same, inr (inr (inr (refused, is))))) =
      let written = writes_key public (Err (write_cause fault)) new is in
      (Makes key, written.0, inr (key, written.1, no_text before printed _ same))
  unmade public before printed new fault (inr (at, is, line)) =
      let written = publishes_key public before new is in (Makes key, written.0, inr (key, written.1, line))

pub keygen_turn : (key : KeyOfCode) (state public : Bytes) (before printed : List ℕ) (whole : WorldCalls)
    → LogsKeygen key state public before printed [] whole
    → Ends HandsKeyAtMost whole before printed
keygen_turn key state public before printed whole (last, publishes, line, calls) =
    let written = publishes_key (Locked state Acquired ∷ []) refl refl refl refl key public before last publishes in (
      Makes key,
      one_more whole Unlocked refl calls written.0,
      inr (key, ap written_in calls ∙ written.1, whole_text before printed (capacity_line key) line),
    )

pub keygen_failed_turn : (key : KeyOfCode) (state public : Bytes) (before printed : List ℕ) (fault : Fault)
    (whole : WorldCalls)
    → LogsKeygenFailed key state public before printed fault [] whole → Ends HandsKeyAtMost whole before printed
keygen_failed_turn key state public before printed fault whole (inl (at, calls, same)) =
    (StoresNothing, idle_as whole _ calls refl refl, inl (ap written_in calls, same))
keygen_failed_turn key state public before printed fault whole (inr (inl (refused, calls, same))) =
    (StoresNothing, idle_as whole _ calls refl refl, inl (ap written_in calls, same))
keygen_failed_turn key state public before printed fault whole (inr (inr (last, never, calls))) =
    let is = unmade (Locked state Acquired ∷ []) refl refl refl refl key public before printed last fault never in (
      is.0,
      one_more whole Unlocked refl calls is.1,
      ⊎_elim (λ nothing. inl (ap written_in calls ∙ nothing.0, nothing.1))
          (λ hands. inr (hands.0, ap written_in calls ∙ hands.1, hands.2)) is.2,
    )
