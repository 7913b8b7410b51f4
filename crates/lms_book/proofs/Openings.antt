-- What a book did since it was opened is an opening of which the law of lives speaks.
use Rattle.std.proofs.Common.{◌≡◌, ◌⊎◌, inl, inr, ⊎_elim, ℕ, ◌+◌, ◌≤◌, List, [], ◌∷◌, ◌++◌, ◌∙◌, ap, ap₂, arith}
use Rattle.std.proofs.lemmas.List.Sums.{sum_by-cons}
use Rattle.lms_spec.specs.Hss.{capacity_of}
use Rattle.lms_hss.specs.Keys.{hss_key_of}
use Rattle.lms_hss.specs.declared.key.HssKey.{HssKey as KeyOfCode}
use Rattle.lms_book.specs.declared.history.Entry.{Entry}
use Rattle.lms_book.specs.declared.history.Entry.TheVariants.{Given, Burnt}
use Rattle.lms_image.specs.Image.{image_of}
use Rattle.lms_book.specs.History.{counter_of, burnt_after, len_of, burnt_len}
use Rattle.lms_book.specs.Stops.{Texts, IsAmong, StoreView, MayLeave}
use Rattle.lms_book.specs.Lives.{opening_of, texts_after, IsOpened}
use Rattle.lms_book.specs.States.{ReservationsState}
use Rattle.lms_book.proofs.Histories.{counter-push, text_after}
use Rattle.lms_book.proofs.Leaving.{only_has, or_else_has}

-- the image that counts n indices more than a history
abbrev image_at : KeyOfCode → ℕ → ℕ → ℕ → List Entry → ℕ → List ℕ
image_at key number at lost es n = image_of key (counter_of at es + n) number (burnt_after lost es)

-- the same from one entry on
one_on : (key : KeyOfCode) (number at lost : ℕ) (e : Entry) (es : List Entry) (n : ℕ)
    → image_at key number at lost (e ∷ es) n ≡ image_at key number (at + len_of e) (lost + burnt_len e) es n
one_on key number at lost e es n =
    let top : counter_of at (e ∷ es) + n ≡ counter_of (at + len_of e) es + n = omega (arith, sum_by-cons len_of e es) in
    let few : burnt_after lost (e ∷ es) ≡ burnt_after (lost + burnt_len e) es =
    omega (arith, sum_by-cons burnt_len e es) in
    ap₂ (λ c b. image_of key c number b) top few

no_entry : (key : KeyOfCode) (number at lost n : ℕ)
    → image_at key number at lost [] n ≡ image_of key (at + n) number lost
no_entry key number at lost n =
    let top : counter_of at [] + n ≡ at + n = omega arith in
    let few : burnt_after lost [] ≡ lost = omega arith in
    ap₂ (λ c b. image_of key c number b) top few

-- where none of them is burnt, so many are burnt
same_lost : (key : KeyOfCode) (number at lost : ℕ) (len : ℕ) (es : List Entry) (n : ℕ)
    → image_at key number at lost (Given len ∷ es) n ≡ image_at key number (at + len) lost es n
same_lost key number at lost len es n =
    let none : lost + 0 ≡ lost = omega arith in
    one_on key number at lost (Given len) es n ∙ ap (λ b. image_at key number (at + len) b es n) none

-- after a lease more, its image is left
given_leaves : (key : KeyOfCode) (number at lost n : ℕ) (es : List Entry) (texts : Texts) (text : List ℕ)
    → text ≡ image_at key number at lost es n → IsAmong (texts_after key number at lost (es ++ Given n ∷ []) texts) text
given_leaves key number at lost n [] texts text image =
    only_has (image_of key (at + n) number lost) text (image ∙ no_entry key number at lost n)
given_leaves key number at lost n (Given len ∷ es) texts text image =
    given_leaves key number (at + len) lost n es _ text (image ∙ same_lost key number at lost len es n)
given_leaves key number at lost n (Burnt len ∷ es) texts text image =
    given_leaves key number (at + len) (lost + len) n es _ text (image ∙ one_on key number at lost (Burnt len) es n)

-- after indices are burnt, what was left before may be left, and their image
burnt_leaves : (key : KeyOfCode) (number at lost n : ℕ) (es : List Entry) (texts : Texts) (text : List ℕ)
    → IsAmong (texts_after key number at lost es texts) text ⊎ (text ≡ image_at key number at lost es n)
    → IsAmong (texts_after key number at lost (es ++ Burnt n ∷ []) texts) text
burnt_leaves key number at lost n [] texts text either =
    or_else_has (image_of key (at + n) number lost) text texts
    (⊎_elim inl (λ image. inr (image ∙ no_entry key number at lost n)) either)
burnt_leaves key number at lost n (Given len ∷ es) texts text either =
    burnt_leaves key number (at + len) lost n es _ text
    (⊎_elim inl (λ image. inr (image ∙ same_lost key number at lost len es n)) either)
burnt_leaves key number at lost n (Burnt len ∷ es) texts text either =
    burnt_leaves key number (at + len) (lost + len) n es _ text
    (⊎_elim inl (λ image. inr (image ∙ one_on key number at lost (Burnt len) es n)) either)

module _ (held : Texts) (r : ReservationsState) (n : ℕ) (old new : StoreView)
    (is_opened : IsOpened (opening_of held r.key r.base r.openings r.burnt r.history) old.now)
    (enough : counter_of r.base r.history + n ≤ capacity_of (hss_key_of r.key)) where
  pub opened_given : ((text : List ℕ) → MayLeave new text → text ≡ text_after r n)
      → IsOpened (opening_of held r.key r.base r.openings r.burnt (r.history ++ Given n ∷ [])) new.now
  opened_given only = record {
    lawful = record {
      counted = is_opened.lawful.counted;
      found = is_opened.lawful.found;
      within = omega (arith, counter-push r.base r.history (Given n), enough);
    };
    left = λ text now. given_leaves r.key (r.openings + 1) r.base r.burnt n r.history held text (only text now);
  }

  pub opened_burnt : ((text : List ℕ) → MayLeave new text → MayLeave old text ⊎ (text ≡ text_after r n))
      → IsOpened (opening_of held r.key r.base r.openings r.burnt (r.history ++ Burnt n ∷ [])) new.now
  opened_burnt only = record {
    lawful = record {
      counted = is_opened.lawful.counted;
      found = is_opened.lawful.found;
      within = omega (arith, counter-push r.base r.history (Burnt n), enough);
    };
    left = λ text now. burnt_leaves r.key (r.openings + 1) r.base r.burnt n r.history held text
        (⊎_elim (λ was. inl (is_opened.left text was)) inr (only text now));
  }
