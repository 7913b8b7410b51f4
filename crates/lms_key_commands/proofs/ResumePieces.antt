-- What `resume` burns, piece by piece.
use Rattle.std.proofs.Common.{◌≡◌, ◌∙◌, ◌≤◌, ◌<◌, ◌+◌, ℕ, List, [], ◌∷◌, ap, refl, subst, sym, inl, inr, arith}
use Rattle.lms_image.specs.Image.{image_of}
use Rattle.lms_book.specs.Books.{burnt_now, counter, next_image}
use Rattle.lms_book.specs.States.{BookState}
use Rattle.lms_book.specs.Stops.{StoreView, FailsToWrite, after_write}
use Rattle.lms_commands.specs.Logs.{StoresUpTo, image_below, used_after}
use Rattle.lms_commands.specs.Logs.{KeyState, state_of}
use Rattle.lms_commands.specs.declared.fault.Fault.{Fault}
use Rattle.lms_key_commands.specs.ResumePieces.{BurnsNoPiece, BurnsPiece}
use Rattle.lms_key_commands.specs.ResumeLogs.{CountsInPart, CountsTo}

-- a book that was just opened has counted up to some index at or below this one
pub record IsCounted (end : ℕ) (start now : BookState) : Type 0 where
  pub key : now.key ≡ start.key
  pub openings : now.openings ≡ start.openings
  pub burnt_stays : burnt_now now ≡ start.burnt
  pub used : counter now ≤ end
  pub stored : CountsTo (counter now) (state_of start) start.store now.store

-- the image of its next indices
next_is : (end len : ℕ) (start now : BookState) → IsCounted end start now
    → next_image len now ≡ image_below (counter now + len) (state_of start)
next_is end len start now is = λ i. image_of (is.key i) (counter now + len) (is.openings i + 1) (is.burnt_stays i)

-- it counts a piece more
pub counted_piece : (end : ℕ) (start now new : BookState) → IsCounted end start now → BurnsPiece end now new
    → IsCounted end start new
counted_piece end start now new is piece =
    let stored : CountsTo (counter new) (state_of start) start.store new.store = (
      counter new ∷ is.stored.0,
      refl,
      (
        now.store,
        is.stored.2,
        omega (arith, is.stored.1, piece.used, piece.some),
        piece.stored
            ∙ ap (λ (image : List ℕ). after_write image now.store) (next_is end piece.len start now is
            ∙ ap (λ (n : ℕ). image_below n (state_of start)) (sym piece.used)),
      ),
    ) in
    record {
      key = piece.key ∙ is.key;
      openings = piece.openings ∙ is.openings;
      burnt_stays = piece.burnt_stays ∙ is.burnt_stays;
      used = omega (arith, piece.used, piece.within);
      stored = stored;
    }

-- it counts no more
pub counted_in_part : (end : ℕ) (start now new : BookState) (fault : Fault) → IsCounted end start now
    → counter now < end → BurnsNoPiece end now fault new
    → CountsInPart end (state_of start) fault start.store new.store
counted_in_part end start now new fault is more (inl (at, same)) =
    (counter now, now.store, more, is.stored, inl (at, same))
counted_in_part end start now new fault is more (inr (len, at, some, within, fails)) =
    let image = next_is end len start now is in
    let fails_so = subst (λ (text : List ℕ). FailsToWrite text now.store new.store) image fails in
    (counter now, now.store, more, is.stored, inr (len, at, some, within, fails_so))

-- no image counts fewer indices than the state does
pub more_used : (state : KeyState) (ends : List ℕ) (read left : StoreView) → StoresUpTo state ends read left
    → state.index ≤ used_after state ends
more_used state [] read left stored = omega arith
more_used state (end ∷ earlier) read left (before, first, less, is) =
    omega (arith, less, more_used state earlier read before first)

-- what keeps a state that counts more than was read was written last
pub last_write : (end : ℕ) (state : KeyState) (read left : StoreView) → CountsTo end state read left → state.index < end
    → (before : StoreView) × (left ≡ after_write (image_below end state) before)
last_write end state read left ([], same, stored) more = absurd (omega (arith, same, more))
last_write end state read left (last ∷ earlier, same, (before, first, less, is)) more =
    (before, is ∙ ap (λ (n : ℕ). after_write (image_below n state) before) same)
