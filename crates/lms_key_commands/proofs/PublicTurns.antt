-- What `public` does with its state, by the calls that it makes: it stores nothing, and a public key
-- alone is written.
use Rattle.std.proofs.Common.{◌≡◌, ◌∙◌, ℕ, Ok, Err, List, [], ◌∷◌, ap, refl, subst, sym, inl, inr}
use Rattle.lms_spec.specs.Profile.{hss_public_key}
use Rattle.lms_hss.specs.Keys.{hss_key_of}
use Rattle.lms_world.specs.Names.{Bytes}
use Rattle.lms_world.specs.Events.{Acquired, Locked, Printing, Unlocked, Written}
use Rattle.lms_commands.specs.Histories.{IsTurn, Prints, StoresNothing, Turn, written_in}
use Rattle.lms_key_commands.specs.KeygenLogs.{capacity_line}
use Rattle.lms_commands.specs.Logs.{KeyState, WorldCalls, write_cause}
use Rattle.lms_key_commands.specs.PublicLogs.{LogsPublic, LogsPublicFailed, ReadsKey}
use Rattle.lms_commands.specs.declared.fault.Fault.{Fault}
use Rattle.lms_commands.proofs.Turns.{Ends, idle_as, left_so, no_text, one_more, unopened, whole_text}
use Rattle.lms_key_commands.proofs.KeyTurns.{HandsKeyAtMost}

reads : (read : KeyState) (state : Bytes) (last : WorldCalls) → ReadsKey state read [] last
    → (turn : Turn) × IsTurn turn [] last × (written_in last ≡ [])
reads read state last is =
    let locked = left_so (Locked state Acquired ∷ []) refl refl read is.until_read is.reads in (
      StoresNothing,
      one_more last Unlocked refl is.unlocks locked.takes,
      ap written_in is.unlocks ∙ locked.unwritten,
    )

printing : (read : KeyState) (state public : Bytes) (before printed : List ℕ) (last whole : WorldCalls)
    → ReadsKey state read [] last
    → whole ≡ Printing before ∷ Written public (hss_public_key (hss_key_of read.key)) (Ok tt) ∷ last
    → Prints before printed (capacity_line read.key) → Ends HandsKeyAtMost whole before printed
printing read state public before printed last whole is calls line =
    let turn = reads read state last is in
    let text = hss_public_key (hss_key_of read.key) in
    let written = one_more (Written public text (Ok tt) ∷ last) (Written public text (Ok tt)) refl refl turn.1 in (
      turn.0,
      one_more whole (Printing before) refl calls written,
      inr (read.key, ap written_in calls ∙ ap (λ (texts : List (List ℕ)). text ∷ texts) turn.2, line),
    )

pub public_turn : (state public : Bytes) (before printed : List ℕ) (whole : WorldCalls)
    → LogsPublic state public before printed [] whole → Ends HandsKeyAtMost whole before printed
public_turn state public before printed whole (read, last, is, (calls, line)) =
    printing read state public before printed last whole is calls
    (whole_text before printed (capacity_line read.key) line)

pub public_failed_turn : (state public : Bytes) (before printed : List ℕ) (fault : Fault) (whole : WorldCalls)
    → LogsPublicFailed state public before printed fault [] whole → Ends HandsKeyAtMost whole before printed
public_failed_turn state public before printed fault whole (inl (inl (refused, calls), same)) =
    (StoresNothing, idle_as whole _ calls refl refl, inl (ap written_in calls, same))
public_failed_turn state public before printed fault whole (inl (inr (last, never, calls), same)) =
    let is = unopened (Locked state Acquired ∷ []) refl refl last fault never in (
      StoresNothing,
      one_more whole Unlocked refl calls is.takes,
      inl (ap written_in calls ∙ is.unwritten, same),
    )
public_failed_turn state public before printed fault whole (inr (read, last, is, inl (at, none, same))) =
    let turn = reads read state last is in (
      turn.0,
      subst (λ (log : WorldCalls). IsTurn turn.0 [] log) (sym none) turn.1,
      inl (ap written_in none ∙ turn.2, same),
    )
public_failed_turn state public before printed fault whole
    (inr (read, last, is, inr (inl (refused, calls, same)))) =
    let turn = reads read state last is in
    let text = hss_public_key (hss_key_of read.key) in (
      turn.0,
      one_more whole (Written public text (Err (write_cause fault))) refl calls turn.1,
      inr (
        read.key,
        ap written_in calls ∙ ap (λ (texts : List (List ℕ)). text ∷ texts) turn.2,
        no_text before printed (capacity_line read.key) same,
      ),
    )
public_failed_turn state public before printed fault whole
    (inr (read, last, is, inr (inr (at, calls, line)))) =
    printing read state public before printed last whole is calls line
