-- A book that was just opened.
use Rattle.std.proofs.Common.{◌≡◌, ℕ, ◌+◌, List, [], ap, ap₂, arith}
use Rattle.lms_image.specs.Image.{image_of}
use Rattle.lms_book.specs.declared.history.Entry.{Entry}
use Rattle.lms_book.specs.History.{counter_of, burnt_after}
use Rattle.lms_book.specs.States.{BookState}
use Rattle.lms_book.specs.Books.{burnt_now, counter, next_image}

-- a book whose history is empty counts what was read
pub record IsJustOpened (book : BookState) : Type 0 where
  pub used : counter book ≡ book.base
  pub lost : burnt_now book ≡ book.burnt

pub just_opened : (book : BookState) → book.history ≡ [] → IsJustOpened book
just_opened book none = record {
  used = omega (arith, ap (λ (history : List Entry). counter_of book.base history) none);
  lost = omega (arith, ap (λ (history : List Entry). burnt_after book.burnt history) none);
}

-- the image that counts n indices more
pub image_is : (n : ℕ) (book : BookState) → IsJustOpened book
    → next_image n book ≡ image_of book.key (book.base + n) (book.openings + 1) book.burnt
image_is n book is = ap₂ (λ (at lost : ℕ). image_of book.key (at + n) (book.openings + 1) lost) is.used is.lost
