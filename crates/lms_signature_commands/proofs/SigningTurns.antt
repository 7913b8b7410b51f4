-- What `sign` does with its state, and which signatures leave it, by the calls that it makes.
use Rattle.std.proofs.Common.{◌≡◌, ◌∙◌, ℕ, ◌+◌, false, List, [], ◌∷◌, Option, Ok, Err, ap, refl, inl, inr, arith}
use Rattle.std.specs.List.{list_any}
use Rattle.lms_world.specs.Names.{Bytes}
use Rattle.lms_world.specs.Events.{NodesRead, Unlocked, Writing}
use Rattle.lms_commands.specs.Histories.{AreDelivered, AreInOrder, AreWritten, IsSignature, IsTurn, Prints}
use Rattle.lms_commands.specs.Histories.{StoresNothing, Signature, Turn, found_in, hands_out, written_in}
use Rattle.lms_commands.specs.Logs.{WorldCalls}
use Rattle.lms_signature_commands.specs.SignLogs.{DeliversSignature, index_line, LogsNotSigned, LogsSign}
use Rattle.lms_signature_commands.specs.SignLogs.{LogsSignFailed, LogsUndelivered, Signing, WritesSignature}
use Rattle.lms_signature_commands.specs.SignLogs.{until_locked}
use Rattle.lms_commands.specs.declared.fault.Fault.{Fault}
use Rattle.lms_commands.proofs.Turns.{Quietly, idle_as, keeping, kept_calls, one_more, unsigned, unwatched, used}
use Rattle.lms_commands.proofs.Turns.{whole_text}

-- the signatures that leave are those that are written
abbrev pub Delivers : List ℕ → List ℕ → WorldCalls → Type 0
Delivers before printed whole = (turn : Turn) × (signatures : List Signature) × IsTurn turn signatures whole
    × AreDelivered signatures whole before printed

module _ (old : WorldCalls) (quiet : list_any hands_out old ≡ false) (none : kept_calls old ≡ [])
    (unseen : found_in old ≡ []) (no_file : written_in old ≡ []) where
  abbrev pub signature_of : {random message : List ℕ} {out : Bytes} {answer : Writing} {new : WorldCalls}
      → WritesSignature random message out answer old new → Signature
  signature_of writes = record { key = writes.signs.state.key; index = writes.index; bytes = writes.signature }

  pub writes_one : (random message : List ℕ) (out : Bytes) (answer : Writing) (new : WorldCalls)
      (writes : WritesSignature random message out answer old new)
      → (turn : Turn) × IsTurn turn (signature_of writes ∷ []) new × AreWritten (signature_of writes ∷ []) new
  writes_one random message out written new writes =
      let signs = writes.signs in
      let one = signature_of writes in
      let made : IsSignature one = (random, message, inr (signs.signed.nodes, signs.signed.signed)) in
      let are : AreInOrder signs.state.key signs.state.index (signs.state.index + 1) (one ∷ []) =
      (made, refl, omega (arith, signs.next), omega (arith, signs.next), tt) in
      let stored = used (NodesRead writes.nodes ∷ old) quiet none unseen 1 signs.state signs.until_stored signs.stores
      (omega arith) (one ∷ []) are in
      let kept = keeping signs.to_keep signs.until_stored writes.until_signed signs.keeps stored.0 in (
        _,
        one_more new _ refl writes.writes kept.0,
        ap written_in writes.writes ∙ ap (λ (texts : List (List ℕ)). writes.signature ∷ texts)
            (kept.1 ∙ (stored.1 ∙ no_file)),
      )

  delivered : (random message : List ℕ) (out : Bytes) (before printed : List ℕ) (new : WorldCalls)
      (delivers : DeliversSignature random message out before old new)
      → Prints before printed (index_line delivers.writes) → Delivers before printed new
  delivered random message out before printed new delivers line =
      let written = writes_one random message out (Ok tt) delivers.until_written delivers.writes in (
        written.0,
        signature_of delivers.writes ∷ [],
        one_more new _ refl delivers.prints written.1,
        (ap written_in delivers.prints ∙ written.2, inr (signature_of delivers.writes, refl, line)),
      )

  pub not_signed : (new : WorldCalls) (nodes : Option (List ℕ)) (fault : Fault)
      → LogsNotSigned fault (NodesRead nodes ∷ old) new → Quietly (NodesRead nodes ∷ old) new
  not_signed new nodes fault (inl never) =
      (StoresNothing, unwatched (NodesRead nodes ∷ old) quiet none unseen new fault never)
  not_signed new nodes fault (inr (state, never)) =
      unsigned (NodesRead nodes ∷ old) quiet none unseen 1 state new (omega arith) fault never

  undelivered : (random message : List ℕ) (out : Bytes) (before printed : List ℕ) (fault : Fault) (new : WorldCalls)
      → LogsUndelivered random message out before printed fault old new → Delivers before printed new
  undelivered random message out before printed fault new (inl (nodes, never, same)) =
      let is = not_signed new nodes fault never in (is.0, [], is.1.takes, (is.1.unwritten ∙ no_file, inl same))
  undelivered random message out before printed fault new (inr (at, inl (cause, is, same))) =
      let written = writes_one random message out (Err cause) new is in
      (written.0, signature_of is ∷ [], written.1, (written.2, inl same))
  undelivered random message out before printed fault new (inr (at, inr (delivers, line))) =
      delivered random message out before printed new delivers line

-- the lock is handed back
unlocked : (before printed : List ℕ) (log new : WorldCalls) → new ≡ Unlocked ∷ log → Delivers before printed log
    → Delivers before printed new
unlocked before printed log new calls (turn, signatures, is, (written, line)) =
    (turn, signatures, one_more new Unlocked refl calls is, (ap written_in calls ∙ written, line))

pub sign_turn : (asked : Signing) (before printed : List ℕ) (whole : WorldCalls)
    → LogsSign asked before printed [] whole → Delivers before printed whole
sign_turn asked before printed whole (c, text, last, decoded, (delivers, line), calls) =
    unlocked before printed last whole calls
    (delivered (until_locked asked text []) refl refl refl refl c text asked.out before printed last
    delivers (whole_text before printed (index_line delivers.writes) line))

nothing_delivered : (before printed : List ℕ) (new calls : WorldCalls) → new ≡ calls → kept_calls calls ≡ []
    → list_any hands_out calls ≡ false → written_in calls ≡ []
    → printed ≡ before → Delivers before printed new
nothing_delivered before printed new calls is none quiet no_file same =
    (StoresNothing, [], idle_as new calls is none quiet, (ap written_in is ∙ no_file, inl same))

pub sign_failed_turn : (asked : Signing) (before printed : List ℕ) (fault : Fault) (whole : WorldCalls)
    → LogsSignFailed asked before printed fault [] whole → Delivers before printed whole
sign_failed_turn asked before printed fault whole (inl (bad, calls, same, no_hex)) =
    nothing_delivered before printed whole _ calls refl refl refl same
sign_failed_turn asked before printed fault whole (inr (inl (at, calls, same, hex))) =
    nothing_delivered before printed whole _ calls refl refl refl same
sign_failed_turn asked before printed fault whole (inr (inr (inl (refused, calls, same, hex)))) =
    nothing_delivered before printed whole _ calls refl refl refl same
sign_failed_turn asked before printed fault whole
    (inr (inr (inr (inl (text, refused, calls, same, hex))))) =
    nothing_delivered before printed whole _ calls refl refl refl same
sign_failed_turn asked before printed fault whole
    (inr (inr (inr (inr (c, text, last, decoded, never, calls))))) =
    unlocked before printed last whole calls
    (undelivered (until_locked asked text []) refl refl refl refl c text asked.out before printed fault last never)
