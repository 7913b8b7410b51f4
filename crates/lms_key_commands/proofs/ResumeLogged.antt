-- What `resume` logged, by what its steps did.
use Rattle.std.proofs.Common.{◌≡◌, ◌∙◌, ◌∷◌, ℕ, List, Some, Ok, ap, refl, sym, inl, inr}
use Rattle.std.specs.Prelude.{◌⊎◌}
use Rattle.lms_book.specs.States.{BookState}
use Rattle.lms_book.specs.Stops.{StoreView}
use Rattle.lms_world.specs.Events.{PutBack, Taken, WitnessRead}
use Rattle.lms_commands.specs.Logs.{KeyState, LeavesState, OpensState, WorldCalls, state_of}
use Rattle.lms_commands.specs.declared.fault.Fault.{Fault}
use Rattle.lms_key_commands.specs.ResumeLogs.{BurnsBelow, CountsInPart, CountsTo, IsNotResumed, IsOlder, LogsUnburnt}
use Rattle.lms_key_commands.specs.ResumeLogs.{ReadsOlder}

-- a witness was read, a book opened, and its store put back
module _ (end : ℕ) (book after_it : BookState) (text shown : List ℕ) (view : StoreView)
    (old seen opened back : WorldCalls) (reads : seen ≡ WitnessRead (Ok (Some text)) ∷ old) (shows : shown ≡ text)
    (opens : OpensState book seen opened) (view_is : view ≡ after_it.store) (puts : back ≡ PutBack view ∷ opened) where
  all : (left : StoreView) → after_it.store ≡ left
      → back ≡ PutBack left ∷ Taken (Some opens.0) ∷ WitnessRead (Ok (Some shown)) ∷ old
  all left is =
      puts ∙ ap (λ (v : StoreView). PutBack v ∷ opened) (view_is ∙ is)
      ∙ ap (λ (log : WorldCalls). PutBack left ∷ log) (opens.2
      ∙ ap (λ (log : WorldCalls). Taken (Some opens.0) ∷ log) (reads
      ∙ ap (λ (bytes : List ℕ). WitnessRead (Ok (Some bytes)) ∷ old) (sym shows)))

  abbrev read_older : IsOlder end (state_of book) shown → ReadsOlder end (state_of book) old back
  read_older older = record {
    text = shown;
    older = older;
    taken = opens.0;
    given = book.store;
    left = after_it.store;
    reads = opens.1;
    calls = all after_it.store refl;
  }

  pub burnt : IsOlder end (state_of book) shown → CountsTo end (state_of book) book.store after_it.store
      → BurnsBelow end (state_of book) old back
  burnt older counts = (read_older older, counts)

  pub unburnt : (fault : Fault) → (IsNotResumed end shown (state_of book) fault × (after_it ≡ book))
      ⊎ (IsOlder end (state_of book) shown × CountsInPart end (state_of book) fault book.store after_it.store)
      → LogsUnburnt end fault old back
  unburnt fault (inl (refused, same)) =
      let stays : LeavesState (state_of book) (WitnessRead (Ok (Some shown)) ∷ old) back =
      (opens.0, book.store, opens.1, all book.store (ap (λ (b : BookState). b.store) same)) in
      inl (inr (inr (shown, inr (state_of book, refused, stays))))
  unburnt fault (inr (older, part)) = inr (state_of book, read_older older, part)
