-- What the commands that join do with a state, by their calls: nothing; and what leaves them.
use Rattle.std.proofs.Common.{◌≡◌, ◌∙◌, ℕ, false, Ok, Err, List, [], ◌∷◌, ap, refl, inl, inr}
use Rattle.std.specs.List.{list_any}
use Rattle.lms_join.specs.Joined.{joined_public}
use Rattle.lms_join.specs.Keys.{AreJoinable}
use Rattle.lms_world.specs.Names.{Bytes}
use Rattle.lms_world.specs.Events.{Read, Writing, Written}
use Rattle.lms_commands.specs.Histories.{StoresNothing, hands_out, written_in}
use Rattle.lms_commands.specs.Logs.{WorldCalls, read_cause, write_cause}
use Rattle.lms_commands.specs.declared.fault.Fault.{Fault}
use Rattle.lms_commands.proofs.Turns.{Ends, idle_as, kept_calls, one_more}
use Rattle.lms_join_commands.specs.JoinLogs.{JoinNames, JoinParts, JoinsParts, LogsJoin, LogsJoinFailed, LogsJoinKeys}
use Rattle.lms_join_commands.specs.JoinLogs.{LogsJoinKeysFailed, ReadsParts, ReadsTwo}
use Rattle.lms_join_commands.specs.Joined.{HandsJoined, HandsJoinedKey, WasRead}

-- ---- `join`

module _ (names : JoinNames) (before printed : List ℕ) (same : printed ≡ before) where
  -- nothing is written
  quiet : (whole calls : WorldCalls) → whole ≡ calls → kept_calls calls ≡ [] → list_any hands_out calls ≡ false
      → written_in calls ≡ [] → Ends (HandsJoined names.signature) whole before printed
  quiet whole calls is none silent no_file =
      (StoresNothing, idle_as whole calls is none silent, (same, inl (ap written_in is ∙ no_file)))

  -- the joined signature is, or it fails to be
  writes : (parts : JoinParts) (joined : List ℕ) (answer : Writing) (last whole : WorldCalls)
      → ReadsParts names parts [] last → JoinsParts parts joined → whole ≡ Written names.out joined answer ∷ last
      → Ends (HandsJoined names.signature) whole before printed
  writes parts joined answer last whole reads joins calls =
      let event = Written names.out joined answer in
      let earlier =
      Read names.signer (Ok parts.signer) ∷ Read names.endorsement (Ok parts.endorsement)
      ∷ Read names.public (Ok parts.public) ∷ [] in
      let read : WasRead names.signature parts.signature whole =
      (event ∷ [], earlier, calls ∙ ap (λ (log : WorldCalls). event ∷ log) reads) in
      let written = ap written_in calls ∙ ap (λ (log : WorldCalls). joined ∷ written_in log) reads in (
        StoresNothing,
        one_more whole event refl calls (idle_as last _ reads refl refl),
        (same, inr (parts, joined, joins, read, written)),
      )

  pub join_turn : (whole : WorldCalls) → LogsJoin names [] whole
      → Ends (HandsJoined names.signature) whole before printed
  join_turn whole (parts, joined, last, reads, joins, calls) = writes parts joined (Ok tt) last whole reads joins calls

  pub join_failed_turn : (fault : Fault) (whole : WorldCalls) → LogsJoinFailed names fault [] whole
      → Ends (HandsJoined names.signature) whole before printed
  join_failed_turn fault whole (inl (inl (refused, inl calls))) = quiet whole _ calls refl refl refl
  join_failed_turn fault whole (inl (inl (refused, inr (one, calls)))) = quiet whole _ calls refl refl refl
  join_failed_turn fault whole (inl (inr (one, two, last, reads, (refused, inl calls)))) =
      let event = Read names.signer (Err (read_cause fault)) in
      quiet whole _ (calls ∙ ap (λ (log : WorldCalls). event ∷ log) reads) refl refl refl
  join_failed_turn fault whole (inl (inr (one, two, last, reads, (refused, inr (three, calls))))) =
      let event = Read names.signature (Err (read_cause fault)) in
      quiet whole _ (calls ∙ ap (λ (log : WorldCalls). event ∷ Read names.signer (Ok three) ∷ log) reads) refl refl refl
  join_failed_turn fault whole (inr (parts, last, reads, inl (unjoined, none))) =
      quiet whole _ (none ∙ reads) refl refl refl
  join_failed_turn fault whole (inr (parts, last, reads, inr (joined, joins, refused, calls))) =
      writes parts joined (Err (write_cause fault)) last whole reads joins calls

-- ---- `join-public`

module _ (public signer out : Bytes) (before printed : List ℕ) (same : printed ≡ before) where
  no_key : (whole calls : WorldCalls) → whole ≡ calls → kept_calls calls ≡ [] → list_any hands_out calls ≡ false
      → written_in calls ≡ [] → Ends HandsJoinedKey whole before printed
  no_key whole calls is none silent no_file =
      (StoresNothing, idle_as whole calls is none silent, (same, inl (ap written_in is ∙ no_file)))

  writes_key : (top_public signer_public : List ℕ) (answer : Writing) (last whole : WorldCalls)
      → ReadsTwo public signer top_public signer_public [] last
      → AreJoinable top_public signer_public
      → whole ≡ Written out (joined_public top_public signer_public) answer ∷ last
      → Ends HandsJoinedKey whole before printed
  writes_key top_public signer_public answer last whole reads joinable calls =
      let key = joined_public top_public signer_public in
      let written = ap written_in calls ∙ ap (λ (log : WorldCalls). key ∷ written_in log) reads in (
        StoresNothing,
        one_more whole (Written out key answer) refl calls (idle_as last _ reads refl refl),
        (same, inr (top_public, signer_public, joinable, written)),
      )

  pub join_keys_turn : (whole : WorldCalls) → LogsJoinKeys public signer out [] whole
      → Ends HandsJoinedKey whole before printed
  join_keys_turn whole (top_public, signer_public, last, reads, joinable, calls) =
      writes_key top_public signer_public (Ok tt) last whole reads joinable calls

  pub join_keys_failed_turn : (fault : Fault) (whole : WorldCalls) → LogsJoinKeysFailed public signer out fault [] whole
      → Ends HandsJoinedKey whole before printed
  join_keys_failed_turn fault whole (inl (refused, inl calls)) = no_key whole _ calls refl refl refl
  join_keys_failed_turn fault whole (inl (refused, inr (one, calls))) = no_key whole _ calls refl refl refl
  join_keys_failed_turn fault whole (inr (top_public, signer_public, last, reads, inl (why, none))) =
      no_key whole _ (none ∙ reads) refl refl refl
  join_keys_failed_turn fault whole (inr (top_public, signer_public, last, reads, inr (joinable, refused, calls))) =
      writes_key top_public signer_public (Err (write_cause fault)) last whole reads joinable calls
