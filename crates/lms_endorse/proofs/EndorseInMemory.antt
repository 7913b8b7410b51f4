-- What `endorse` leaves in a world in memory, by its calls.
use Rattle.std.proofs.Common.{◌≡◌, ◌∙◌, ◌∷◌, [], ℕ, List, Option, Some, Ok, Err, ap, false, refl, subst, sym, inl, inr}
use Rattle.std.proofs.Common.{⊎_elim}
use Rattle.lms_spec.specs.HashLength.{hash_length}
use Rattle.lms_join.specs.Joined.{after_count}
use Rattle.lms_texts.specs.Options.{IsHexOf}
use Rattle.lms_world.specs.Events.{Acquired, Event, Locked, NodesRead, Read, Unlocked, Writing}
use Rattle.lms_world.specs.Held.{Follows, Held, answer_in}
use Rattle.lms_commands.specs.InMemory.{FindsState}
use Rattle.lms_commands.specs.Logs.{KeyState, WorldCalls, lock_answer, read_cause}
use Rattle.lms_commands.specs.declared.fault.Fault.{Fault}
use Rattle.lms_commands.specs.declared.fault.Fault.TheVariants.{WriteOutput}
use Rattle.lms_commands.proofs.AtState.{AreStill, finds_watched, lock_refused, unsigned_watched, unwatched}
use Rattle.lms_commands.proofs.AtState.{unwatched_files}
use Rattle.lms_commands.proofs.Telling.{Told, and_then, nothing_done, read_refused, same_held, told, unlocked}
use Rattle.lms_commands.proofs.Telling.{until_printing}
use Rattle.lms_signature_commands.specs.SignLogs.{IsRandomizer, WritesSignature}
use Rattle.lms_signature_commands.proofs.SignInMemory.{all_calls, file_so, no_other, signed_so}
use Rattle.lms_endorse.specs.Endorsing.{IsJoinedText, IsSigner, MayEndorse}
use Rattle.lms_endorse.specs.EndorseInMemory.{EndorsesInMemory, EndorsesKey, FailsLocked, FailsToEndorse}
use Rattle.lms_endorse.specs.EndorseInMemory.{FailsToEndorseInMemory}
use Rattle.lms_endorse.specs.EndorseLogs.{DeliversEndorsement, Endorsing, LogsNotEndorsed, LogsUnendorsed, until_locked}

-- a signer's key is endorsed, and written to a file, or its write fails
endorses : (asked : Endorsing) {c signer : List ℕ} {joined : ℕ} {answer : Writing} {earlier last : WorldCalls}
    (writes : WritesSignature c (after_count signer) asked.out answer
    (Locked asked.state Acquired ∷ Read asked.signer (Ok signer) ∷ earlier) last)
    → MayEndorse writes.signs.state.key signer joined → IsSigner signer → IsJoinedText asked.joined joined
    → (old new : Held) → IsRandomizer asked.randomizer c → Told (all_calls writes).calls old new
    → EndorsesKey asked old new
endorses asked {c = c} {signer = signer} {joined = joined} writes may is_signer spelt old new randomizer is =
    let so = signed_so writes old new is in
    record {
      c = c;
      signer = signer;
      joined = joined;
      nodes = writes.nodes;
      index = writes.index;
      signature = writes.signature;
      randomizer = randomizer;
      joined_is = spelt;
      given = so.read;
      is_signer = is_signer;
      free = so.free;
      nodes_were = so.nodes_were;
      uses = so.uses_index;
      may = subst (λ (s : KeyState). MayEndorse s.key signer joined) (sym so.state_is) may;
    }

pub endorses_in_memory : EndorsesInMemory
unfolding endorses
endorses_in_memory asked before printed old new earlier now
    (c, signer, joined, last, randomizer, spelt, is_signer, (delivers, line), calls) follows =
    let writes = delivers.delivers.writes in
    let all = and_then (and_then (all_calls writes) delivers.delivers.prints) calls in
    let is = until_printing (unlocked (told old new all follows)) in (
      endorses asked writes delivers.may is_signer spelt old new randomizer is,
      file_so writes old new is.files,
      line,
    )

-- no file is changed but where an endorsement is not delivered
abbrev FilesStay : Fault → Held → Held → Type 0
FilesStay fault old new = ¬ (fault ≡ WriteOutput) → new.files ≡ old.files

-- the lock is held
module _ (asked : Endorsing) (before printed : List ℕ) (fault : Fault) (c signer : List ℕ) (joined : ℕ)
    (randomizer : IsRandomizer asked.randomizer c) (spelt : IsJoinedText asked.joined joined)
    (is_signer : IsSigner signer) (old new : Held) {earlier last now : WorldCalls} (calls : now ≡ Unlocked ∷ last)
    (follows : Follows (Some old) earlier (Some new) now) where
  -- what was read first, and why there is no endorsement
  abbrev pub Unendorsed : Type 0
  Unendorsed = (answer_in old.files asked.signer ≡ Ok signer) × (old.in_use ≡ false)
      × FailsLocked asked signer joined fault old new × FilesStay fault old new

  unsigned : (nodes : Option (List ℕ))
      → LogsNotEndorsed signer joined fault (NodesRead nodes ∷ until_locked asked signer earlier) last → Unendorsed
  unsigned nodes never =
      let base : List Event =
      NodesRead nodes ∷ Locked asked.state Acquired ∷ Read asked.signer (Ok signer) ∷ [] in
      let still : AreStill base = record {
        files = λ f. refl;
        state = λ s. refl;
        nodes = λ n. refl;
        witness = λ w. refl;
        may_fail = λ a b is. is;
      } in
      ⊎_elim
      (λ unread.
      let is = unwatched base still {before = earlier} refl calls old new follows fault unread in
      (is.0.0.0.1, is.0.0.1, inl is.1, λ other. unwatched_files is.1))
      (λ (state, why). ⊎_elim
      (λ (at, differs, leaves).
      let is = finds_watched base still {before = earlier} refl calls old new follows state leaves in
      let never = subst (λ (s : KeyState). ¬ MayEndorse s.key signer joined) (sym is.1.1) differs in
      (is.0.0.0.1, is.0.0.1, inr (inl (at, (is.1.0, is.1.2, never))), λ other. is.1.0.stays.files))
      (λ (may, unsigned).
      let is = unsigned_watched base still {before = earlier} refl calls old new follows 1 state fault unsigned in
      (is.0.0.0.1, is.0.0.1, inr (inr (inl is.1.1)), λ other. is.1.0))
      why)
      never

  pub unendorsed :
      LogsUnendorsed c signer joined asked.out before printed fault (until_locked asked signer earlier) last
      → Unendorsed
  unfolding endorses
  unendorsed (inl (nodes, never, same)) = unsigned nodes never
  unendorsed (inr (at, inl (cause, writes, may, same))) =
      let is = unlocked (told old new (and_then (all_calls writes) calls) follows) in
      let made = endorses asked writes may is_signer spelt old new randomizer is in
      let end = inr (inr (inr (at, (made, inl (is.files ∙ no_other writes old))))) in
      (made.given, made.free, end, λ other. absurd (other at))
  unendorsed (inr (at, inr (delivers, line))) =
      let writes = delivers.delivers.writes in
      let all = and_then (and_then (all_calls writes) delivers.delivers.prints) calls in
      let is = until_printing (unlocked (told old new all follows)) in
      let made = endorses asked writes delivers.may is_signer spelt old new randomizer is in
      let end = inr (inr (inr (at, (made, inr (file_so writes old new is.files))))) in
      (made.given, made.free, end, λ other. absurd (other at))

pub fails_to_endorse_in_memory : FailsToEndorseInMemory
fails_to_endorse_in_memory asked before printed fault old new earlier now
    (inl (bad, calls, same, no_hex)) follows =
    let stays = nothing_done old new calls follows in
    (inl (bad, no_hex, stays), λ other. ap (λ (h : Held). h.files) stays)
fails_to_endorse_in_memory asked before printed fault old new earlier now
    (inr (inl (bad, calls, same, hex, none))) follows =
    let stays = nothing_done old new calls follows in
    (inr (hex, inl (bad, none, stays)), λ other. ap (λ (h : Held). h.files) stays)
fails_to_endorse_in_memory asked before printed fault old new earlier now
    (inr (inr (inl (at, calls, same, (hex, (joined, spelt)))))) follows =
    let stays = nothing_done old new calls follows in
    (inr (hex, inr (joined, spelt, inl (at, stays))), λ other. ap (λ (h : Held). h.files) stays)
fails_to_endorse_in_memory asked before printed fault old new earlier now
    (inr (inr (inr (inl (refused, calls, same, (hex, (joined, spelt))))))) follows =
    let is = told old new (record { calls = Read asked.signer (Err (read_cause fault)) ∷ []; are = calls }) follows in
    let stays = same_held old new is.files is.state is.may_fail is.in_use is.nodes is.nodes_fault is.witness in
    let why = read_refused fault asked.signer old.files refused is.tell.1 in (
      inr (
        hex,
        inr (
          joined,
          spelt,
          ⊎_elim (λ memory. inl (memory, stays))
              (λ device. inr (inl (device.0, device.1, stays))) why,
        ),
      ),
      λ other. is.files,
    )
fails_to_endorse_in_memory asked before printed fault old new earlier now
    (inr (inr (inr (inr (inl (signer, why, calls, same, (hex, (joined, spelt)))))))) follows =
    let is = told old new (record { calls = Read asked.signer (Ok signer) ∷ []; are = calls }) follows in
    let stays = same_held old new is.files is.state is.may_fail is.in_use is.nodes is.nodes_fault is.witness in (
      inr (
        hex,
        inr (
          joined,
          spelt,
          ⊎_elim
              (λ (bad, none). inr (inr (signer, is.tell.1, inl (bad, none, stays))))
              (λ (memory, is_signer). inl (memory, stays)) why,
        ),
      ),
      λ other. is.files,
    )
fails_to_endorse_in_memory asked before printed fault old new earlier now
    (inr (inr (inr (inr (inr (inl (signer, refused, is_signer, calls, same, (hex, (joined, spelt))))))))) follows =
    let first = Locked asked.state (lock_answer fault) ∷ Read asked.signer (Ok signer) ∷ [] in
    let is = told old new (record { calls = first; are = calls }) follows in
    let stays = same_held old new is.files is.state is.may_fail is.in_use is.nodes is.nodes_fault is.witness in
    let never = lock_refused fault asked.state (Read asked.signer (Ok signer) ∷ []) old new refused is.tell.1 stays in
    (inr (hex, inr (joined, spelt, inr (inr (signer, is.tell.0.1, inr (is_signer, inl never))))), λ other. is.files)
fails_to_endorse_in_memory asked before printed fault old new earlier now
    (inr (inr (inr (inr (inr (inr (c, signer, joined, last, randomizer, spelt, is_signer, never, calls))))))) follows =
    let hex : IsHexOf hash_length asked.randomizer = (c, randomizer.0, randomizer.1) in
    let (read, free, why, files) = unendorsed asked before printed fault c signer joined randomizer spelt is_signer
    old new calls follows never in (
      inr (hex, inr (joined, spelt, inr (inr (signer, read, inr (is_signer, inr (free, why)))))),
      files,
    )
