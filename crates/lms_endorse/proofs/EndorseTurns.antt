-- What `endorse` does with its state, and which signature leaves it, by the calls that it makes.
use Rattle.std.proofs.Common.{◌≡◌, ◌∙◌, ℕ, false, List, [], ◌∷◌, Option, Ok, Err, ap, refl, inl, inr}
use Rattle.std.specs.List.{list_any}
use Rattle.lms_join.specs.Joined.{after_count}
use Rattle.lms_world.specs.Names.{Bytes}
use Rattle.lms_world.specs.Events.{NodesRead, Unlocked}
use Rattle.lms_commands.specs.Histories.{IsTurn, Prints, Signature, StoresNothing, Turn, found_in, hands_out}
use Rattle.lms_commands.specs.Histories.{written_in}
use Rattle.lms_commands.specs.Logs.{WorldCalls}
use Rattle.lms_commands.specs.declared.fault.Fault.{Fault}
use Rattle.lms_commands.proofs.Turns.{Quietly, idle_as, kept_calls, left_watched, no_text, one_more, whole_text}
use Rattle.lms_signature_commands.proofs.SigningTurns.{not_signed, signature_of, writes_one}
use Rattle.lms_endorse.specs.Endorsing.{IsSigner}
use Rattle.lms_endorse.specs.EndorseLogs.{DeliversEndorsement, Endorsing, LogsEndorse, LogsEndorseFailed}
use Rattle.lms_endorse.specs.EndorseLogs.{LogsNotEndorsed, LogsUnendorsed, endorsed_lines, until_locked}
use Rattle.lms_endorse.specs.EndorseTurns.{AreEndorsed}

-- the signature that leaves is the one that is written
abbrev pub Endorses : List ℕ → List ℕ → WorldCalls → Type 0
Endorses before printed whole = (turn : Turn) × (signatures : List Signature) × IsTurn turn signatures whole
    × AreEndorsed signatures whole before printed

module _ (old : WorldCalls) (quiet : list_any hands_out old ≡ false) (none : kept_calls old ≡ [])
    (unseen : found_in old ≡ []) (no_file : written_in old ≡ []) (signer : List ℕ) (joined : ℕ)
    (is_signer : IsSigner signer) where
  endorsed : (random : List ℕ) (out : Bytes) (before printed : List ℕ) (new : WorldCalls)
      (is : DeliversEndorsement random signer joined out before old new)
      → Prints before printed (endorsed_lines is) → Endorses before printed new
  endorsed random out before printed new is line =
      let delivers = is.delivers in
      let one = signature_of old quiet none unseen no_file delivers.writes in
      let written = writes_one old quiet none unseen no_file random (after_count signer) out (Ok tt)
      delivers.until_written delivers.writes in (
        written.0,
        one ∷ [],
        one_more new _ refl delivers.prints written.1,
        (
          ap written_in delivers.prints ∙ written.2,
          inr (one, signer, joined, refl, is_signer, is.may, line),
        ),
      )

  not_endorsed : (new : WorldCalls) (nodes : Option (List ℕ)) (fault : Fault)
      → LogsNotEndorsed signer joined fault (NodesRead nodes ∷ old) new → Quietly (NodesRead nodes ∷ old) new
  not_endorsed new nodes fault (inl never) = not_signed old quiet none unseen no_file new nodes fault (inl never)
  not_endorsed new nodes fault (inr (state, inl (at, differs, leaves))) =
      (StoresNothing, left_watched (NodesRead nodes ∷ old) quiet none unseen state new leaves)
  not_endorsed new nodes fault (inr (state, inr (may, never))) =
      not_signed old quiet none unseen no_file new nodes fault (inr (state, never))

  unendorsed : (random : List ℕ) (out : Bytes) (before printed : List ℕ) (fault : Fault) (new : WorldCalls)
      → LogsUnendorsed random signer joined out before printed fault old new → Endorses before printed new
  unendorsed random out before printed fault new (inl (nodes, never, same)) =
      let is = not_endorsed new nodes fault never in
      (is.0, [], is.1.takes, (is.1.unwritten ∙ no_file, inl (refl, same)))
  unendorsed random out before printed fault new (inr (at, inl (cause, is, may, same))) =
      let one = signature_of old quiet none unseen no_file is in
      let written = writes_one old quiet none unseen no_file random (after_count signer) out (Err cause) new is in (
        written.0,
        one ∷ [],
        written.1,
        (written.2, inr (one, signer, joined, refl, is_signer, may, no_text before printed _ same)),
      )
  unendorsed random out before printed fault new (inr (at, inr (is, line))) =
      endorsed random out before printed new is line

-- the lock is handed back
unlocked : (before printed : List ℕ) (log new : WorldCalls) → new ≡ Unlocked ∷ log → Endorses before printed log
    → Endorses before printed new
unlocked before printed log new calls (turn, signatures, is, (written, line)) =
    (turn, signatures, one_more new Unlocked refl calls is, (ap written_in calls ∙ written, line))

pub endorse_turn : (asked : Endorsing) (before printed : List ℕ) (whole : WorldCalls)
    → LogsEndorse asked before printed [] whole → Endorses before printed whole
endorse_turn asked before printed whole
    (c, signer, joined, last, decoded, spelt, is_signer, (is, line), calls) =
    unlocked before printed last whole calls
    (endorsed (until_locked asked signer []) refl refl refl refl signer joined is_signer c asked.out before printed last
    is (whole_text before printed (endorsed_lines is) line))

nothing_delivered : (before printed : List ℕ) (new calls : WorldCalls) → new ≡ calls → kept_calls calls ≡ []
    → list_any hands_out calls ≡ false → written_in calls ≡ []
    → printed ≡ before → Endorses before printed new
nothing_delivered before printed new calls is none quiet no_file same =
    (StoresNothing, [], idle_as new calls is none quiet, (ap written_in is ∙ no_file, inl (refl, same)))

pub endorse_failed_turn : (asked : Endorsing) (before printed : List ℕ) (fault : Fault) (whole : WorldCalls)
    → LogsEndorseFailed asked before printed fault [] whole → Endorses before printed whole
endorse_failed_turn asked before printed fault whole (inl (bad, calls, same, no_hex)) =
    nothing_delivered before printed whole _ calls refl refl refl same
endorse_failed_turn asked before printed fault whole (inr (inl (bad, calls, same, hex, none))) =
    nothing_delivered before printed whole _ calls refl refl refl same
endorse_failed_turn asked before printed fault whole (inr (inr (inl (at, calls, same, spelt)))) =
    nothing_delivered before printed whole _ calls refl refl refl same
endorse_failed_turn asked before printed fault whole (inr (inr (inr (inl (refused, calls, same, spelt))))) =
    nothing_delivered before printed whole _ calls refl refl refl same
endorse_failed_turn asked before printed fault whole
    (inr (inr (inr (inr (inl (signer, why, calls, same, spelt)))))) =
    nothing_delivered before printed whole _ calls refl refl refl same
endorse_failed_turn asked before printed fault whole
    (inr (inr (inr (inr (inr (inl (signer, refused, is_signer, calls, same, spelt))))))) =
    nothing_delivered before printed whole _ calls refl refl refl same
endorse_failed_turn asked before printed fault whole
    (inr (inr (inr (inr (inr (inr (c, signer, joined, last, decoded, spelt, is_signer, never, calls))))))) =
    unlocked before printed last whole calls
    (unendorsed (until_locked asked signer []) refl refl refl refl signer joined is_signer c asked.out before printed
    fault last never)
