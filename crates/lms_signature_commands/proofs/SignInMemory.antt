-- What `sign` leaves in a world in memory, by its calls.
use Rattle.std.proofs.Common.{◌≡◌, ◌∙◌, ◌∷◌, [], ◌++◌, ℕ, List, Option, Some, Ok, Err, ap, refl, subst, sym, inl, inr}
use Rattle.std.proofs.Common.{⊎_elim, append_assoc, false}
use Rattle.std.specs.Prelude.{IfSome}
use Rattle.lms_spec.specs.HashLength.{hash_length}
use Rattle.lms_world.specs.Names.{Bytes}
use Rattle.lms_world.specs.Events.{Acquired, Event, Locked, NodesRead, Read, Writing}
use Rattle.lms_world.specs.Held.{Answers, Held, answer_in}
use Rattle.lms_world.specs.Outcomes.{files_after, nodes_after}
use Rattle.lms_commands.specs.InMemory.{KeepsNodes, WritesFile}
use Rattle.lms_texts.specs.Options.{IsHexOf}
use Rattle.lms_commands.specs.Logs.{WorldCalls, lock_answer, read_cause}
use Rattle.lms_signature_commands.specs.SignInMemory.{FailsToSignInMemory, SignsInMemory, SignsMessage, UsesIndex}
use Rattle.lms_signature_commands.specs.SignLogs.{IsRandomizer, WritesSignature}
use Rattle.lms_commands.proofs.AtState.{AreStill, lock_refused, unsigned_watched, unwatched, unwatched_files}
use Rattle.lms_commands.proofs.Telling.{Adds, KeepsOnly, Told, and_kept, and_then, keeps_only, nothing_done}
use Rattle.lms_commands.proofs.Telling.{read_refused, same_held, told, unlocked, until_printing, was_state}
use Rattle.lms_commands.proofs.Telling.{written_file}
use Rattle.lms_commands.proofs.Using.{UsesSo, uses_so}

-- a file is read, and a signature of these bytes is written to another, or its write fails
module _ {name state out : Bytes} {given c text : List ℕ} {answer : Writing} {earlier last : WorldCalls}
    (writes : WritesSignature c text out answer (Locked state Acquired ∷ Read name (Ok given) ∷ earlier) last) where
  abbrev begun : List Event
  begun = NodesRead writes.nodes ∷ Locked state Acquired ∷ Read name (Ok given) ∷ []

  abbrev uses : UsesSo 1 writes.signs.state
      (NodesRead writes.nodes ∷ Locked state Acquired ∷ Read name (Ok given) ∷ earlier)
      writes.signs.until_stored
  uses = uses_so 1 writes.signs.state writes.signs.stores

  abbrev first : List Event
  first = uses.calls ++ begun

  abbrev keeps : KeepsOnly writes.signs.to_keep writes.signs.until_stored writes.until_signed
  keeps = keeps_only writes.signs.to_keep writes.signs.keeps

  abbrev pub all_calls : Adds earlier last
  all_calls = and_then (and_kept (record {
    calls = first;
    are = uses.are ∙ sym (append_assoc uses.calls begun earlier);
  }) keeps) writes.writes

  -- what was read, and that the next index of the state's key signed
  pub record SignedSo (old new : Held) : Type 0 where
    pub read : answer_in old.files name ≡ Ok given
    pub free : old.in_use ≡ false
    pub nodes_were : IfSome writes.nodes (λ bytes. old.nodes ≡ Some bytes)
    pub uses_index : UsesIndex writes.nodes c text writes.index writes.signature old new
    pub state_is : uses_index.state ≡ writes.signs.state

  pub signed_so : (old new : Held) → Told all_calls.calls old new → SignedSo old new
  signed_so old new is =
      let trees = writes.signs.to_keep in
      let tell = uses.tell begun old (keeps.tell first old is.tell.0) in
      let kept = subst
      (λ (nodes : Option (List ℕ)). KeepsNodes trees nodes (nodes_after (keeps.calls ++ first) old.nodes))
      (uses.nodes begun old.nodes) (keeps.nodes first old.nodes) in
      record {
        read = tell.0.0.0.1;
        free = tell.0.0.1;
        nodes_were = tell.0.1;
        uses_index = record {
          state = writes.signs.state;
          was = was_state writes.signs.state uses.reads tell.1;
          next = writes.signs.next;
          within = uses.within;
          trees = trees;
          signed = writes.signs.signed;
          stored = is.state ∙ (keeps.state first old.state ∙ (uses.state_is begun old.state ∙ uses.counted));
          kept = subst (λ (nodes : Option (List ℕ)). KeepsNodes trees old.nodes nodes) (sym is.nodes) kept;
          watched = (uses.watch, tell.2, uses.admitted);
          witness = is.witness ∙ (keeps.witness first old.witness ∙ uses.witness begun old.witness tell.2);
        };
        state_is = refl;
      }

  pub no_other : (old : Held) → files_after (keeps.calls ++ first) old.files ≡ old.files
  no_other old = keeps.files first old.files ∙ uses.files begun old.files

  -- its file holds the signature, where it was written
  pub file_so : (old new : Held) → new.files ≡ (out, Ok writes.signature) ∷ files_after (keeps.calls ++ first) old.files
      → WritesFile out writes.signature old.files new.files
  file_so old new is = written_file out writes.signature old.files new.files
      (is ∙ ap (λ (files : Answers). (out, Ok writes.signature) ∷ files) (no_other old))

-- so a message that was read is signed
signs : {random name state out : Bytes} {c text : List ℕ} {answer : Writing} {earlier last : WorldCalls}
    (writes : WritesSignature c text out answer (Locked state Acquired ∷ Read name (Ok text) ∷ earlier) last)
    (old new : Held) → IsRandomizer random c → Told (all_calls writes).calls old new
    → SignsMessage random name old new
signs {c = c} {text = text} writes old new randomizer is =
    let so = signed_so writes old new is in
    record {
      c = c;
      text = text;
      nodes = writes.nodes;
      index = writes.index;
      signature = writes.signature;
      randomizer = randomizer;
      given = so.read;
      free = so.free;
      nodes_were = so.nodes_were;
      uses = so.uses_index;
    }

pub signs_in_memory : SignsInMemory
unfolding signs
signs_in_memory asked before printed old new earlier now
    (c, text, last, randomizer, (delivers, line), calls) follows =
    let writes = delivers.writes in
    let all = and_then (and_then (all_calls writes) delivers.prints) calls in
    let is = until_printing (unlocked (told old new all follows)) in
    (signs writes old new randomizer is, file_so writes old new is.files, line)

pub fails_to_sign_in_memory : FailsToSignInMemory
unfolding signs
fails_to_sign_in_memory asked before printed fault old new earlier now
    (inl (bad, calls, same, no_hex)) follows =
    let stays = nothing_done old new calls follows in
    (inl (bad, no_hex, stays), λ other. ap (λ (h : Held). h.files) stays)
fails_to_sign_in_memory asked before printed fault old new earlier now
    (inr (inl (at, calls, same, hex))) follows =
    let stays = nothing_done old new calls follows in
    (inr (hex, inl (at, stays)), λ other. ap (λ (h : Held). h.files) stays)
fails_to_sign_in_memory asked before printed fault old new earlier now
    (inr (inr (inl (refused, calls, same, hex)))) follows =
    let is = told old new (record { calls = Read asked.message (Err (read_cause fault)) ∷ []; are = calls }) follows in
    let stays = same_held old new is.files is.state is.may_fail is.in_use is.nodes is.nodes_fault is.witness in
    let why = read_refused fault asked.message old.files refused is.tell.1 in (
      inr (hex, ⊎_elim (λ memory. inl (memory, stays)) (λ device. inr (inl (device.0, device.1, stays))) why),
      λ other. is.files,
    )
fails_to_sign_in_memory asked before printed fault old new earlier now
    (inr (inr (inr (inl (text, refused, calls, same, hex))))) follows =
    let first = Locked asked.state (lock_answer fault) ∷ Read asked.message (Ok text) ∷ [] in
    let is = told old new (record { calls = first; are = calls }) follows in
    let stays = same_held old new is.files is.state is.may_fail is.in_use is.nodes is.nodes_fault is.witness in
    let never = lock_refused fault asked.state (Read asked.message (Ok text) ∷ []) old new refused is.tell.1 stays in
    (inr (hex, inr (inr (text, is.tell.0.1, inl never))), λ other. is.files)
fails_to_sign_in_memory asked before printed fault old new earlier now
    (inr (inr (inr (inr (c, text, last, randomizer, inl (nodes, never, same), calls))))) follows =
    let base : List Event = NodesRead nodes ∷ Locked asked.state Acquired ∷ Read asked.message (Ok text) ∷ [] in
    let still : AreStill base =
    record { files = λ f. refl; state = λ s. refl; nodes = λ n. refl; witness = λ w. refl; may_fail = λ a b is. is } in
    let hex : IsHexOf hash_length asked.randomizer = (c, randomizer.0, randomizer.1) in
    ⊎_elim
    (λ unread.
    let is = unwatched base still {before = earlier} refl calls old new follows fault unread in
    (inr (hex, inr (inr (text, is.0.0.0.1, inr (is.0.0.1, inl is.1)))), λ other. unwatched_files is.1))
    (λ at.
    let is = unsigned_watched base still {before = earlier} refl calls old new follows 1 at.0 fault at.1 in
    (inr (hex, inr (inr (text, is.0.0.0.1, inr (is.0.0.1, inr (inl is.1.1))))), λ other. is.1.0))
    never
fails_to_sign_in_memory asked before printed fault old new earlier now
    (inr (inr (inr (inr (c, text, last, randomizer, inr (at, inl (cause, writes, same)), calls))))) follows =
    let is = unlocked (told old new (and_then (all_calls writes) calls) follows) in
    let made = signs writes old new randomizer is in
    let end = inr (inr (at, (made, inl (is.files ∙ no_other writes old)))) in (
      inr ((c, randomizer.0, randomizer.1), inr (inr (text, made.given, inr (made.free, end)))),
      λ other. absurd (other at),
    )
fails_to_sign_in_memory asked before printed fault old new earlier now
    (inr (inr (inr (inr (c, text, last, randomizer, inr (at, inr (delivers, line)), calls))))) follows =
    let writes = delivers.writes in
    let all = and_then (and_then (all_calls writes) delivers.prints) calls in
    let is = until_printing (unlocked (told old new all follows)) in
    let made = signs writes old new randomizer is in
    let end = inr (inr (at, (made, inr (file_so writes old new is.files)))) in (
      inr ((c, randomizer.0, randomizer.1), inr (inr (text, made.given, inr (made.free, end)))),
      λ other. absurd (other at),
    )
