use Rattle.std.proofs.Common.{◌≡◌, ◌∙◌, ℕ, ◌+◌, List, ap, subst}
use Rattle.std.specs.Prelude.{Ok}
use Rattle.lms_hss.specs.declared.key.HssKey.{HssKey as KeyOfCode}
use Rattle.lms_image.specs.Image.{image_of, HasImage}
use Rattle.lms_image.specs.declared.image.Image.{Image}
use Rattle.lms_book.specs.declared.history.Entry.TheVariants.{Burnt}
use Rattle.lms_book.specs.History.{counter_of, burnt_after, confirmed}
use Rattle.lms_book.specs.States.{BookState, LeaseState, ReservationsState, IsNextOf, IsSameOpening}
use Rattle.lms_book.specs.Stops.{after_write}
use Rattle.lms_book.specs.Books.{Reserves}
use Rattle.lms_book.proofs.Histories.{confirmed-push, text_after}
use Rattle.lms_book.proofs.Storing.{book_of, with_given, with_burnt, backed_with_given, backed_with_burnt}
use Rattle.lms_book.proofs.Storing.{same_with_given, same_with_burnt}
use Rattle.lms_book.proofs.book.Book.reserve.Goals as goal

-- the bytes of the next image
written : (text made : List ℕ) (r : ReservationsState) (n : ℕ) (image : Image) → IsNextOf r n image → text ≡ made
    → made ≡ image_of image.key image.counter image.openings image.burnt → text ≡ text_after r n
written text made r n image is t m = t ∙ m ∙ (λ i. image_of (is.key i) (is.counter i) (is.openings i) (is.burnt i))

next_counted : (r : ReservationsState) (n : ℕ) (image : Image) → IsNextOf r n image
    → HasImage r.key (counter_of r.base r.history + n) (r.openings + 1) (burnt_after r.burnt r.history)
next_counted r n image is =
    subst (λ (key : KeyOfCode).
    HasImage key (counter_of r.base r.history + n) (r.openings + 1) (burnt_after r.burnt r.history)) is.key
    (subst (λ (c : ℕ). HasImage image.key c (r.openings + 1) (burnt_after r.burnt r.history)) is.counter
    (subst (λ (o : ℕ). HasImage image.key image.counter o (burnt_after r.burnt r.history)) is.openings
    (subst (λ (b : ℕ). HasImage image.key image.counter image.openings b) is.burnt is.counted)))

-- what was burnt last is given
given_last : (r burnt later : ReservationsState) (n : ℕ) → later ≡ record burnt { history = confirmed burnt.history }
    → burnt ≡ with_burnt r n → later ≡ with_given r n
given_last r burnt later n is was = is ∙ ap (λ (s : ReservationsState). record s { history = confirmed s.history }) was
    ∙ ap (λ l. record r { history = l }) (confirmed-push r.history (Burnt n))

pub invariant_of-self-in-Ok-replace : goal.invariant_of-self-in-Ok-replace
invariant_of-self-in-Ok-replace g c =
    let r = c.self.inside.reservations in
    let next = c.next_image-image.ensures in
    let text = written c.as_slice.result.now c.encode_image-text.result r c.args.n c.next_image-image.result next
    c.as_slice.ensures.bytes c.encode_image-text.ensures in
    let given = given_last r c.begin.new.self c.confirm.new.self c.args.n c.confirm.ensures c.in-Ok.ensures.ok in
    backed_with_given c.args.n r c.as_slice.result.now (g.S.StateStore.seen c.self.inside.store) _ text
    (next_counted r c.args.n c.next_image-image.result next) c.confirm.new.self given c.in-Ok-replace.ensures.writes
    c.self.invariant

pub invariant_of-self-in-Err : goal.invariant_of-self-in-Err
invariant_of-self-in-Err g c =
    let r = c.self.inside.reservations in
    let next = c.next_image-image.ensures in
    let text = written c.as_slice.result.now c.encode_image-text.result r c.args.n c.next_image-image.result next
    c.as_slice.ensures.bytes c.encode_image-text.ensures in
    backed_with_burnt c.args.n r c.as_slice.result.now (g.S.StateStore.seen c.self.inside.store) _ text
    (next_counted r c.args.n c.next_image-image.result next) c.begin.new.self c.in-Ok.ensures.ok c.in-Err.ensures.writes
    c.self.invariant

pub returns-in-Ok-replace-clause-opening : goal.returns-in-Ok-replace-clause-opening
returns-in-Ok-replace-clause-opening g c =
    let r = c.self.inside.reservations in
    let next = c.next_image-image.ensures in
    let text = written c.as_slice.result.now c.encode_image-text.result r c.args.n c.next_image-image.result next
    c.as_slice.ensures.bytes c.encode_image-text.ensures in
    let given = given_last r c.begin.new.self c.confirm.new.self c.args.n c.confirm.ensures c.in-Ok.ensures.ok in
    let new = book_of c.confirm.new.self (g.S.StateStore.seen c.replace.new.self) in
    subst (λ (old : BookState). IsSameOpening old new) c.self.view_is
    (same_with_given c.args.n r c.as_slice.result.now (g.S.StateStore.seen c.self.inside.store) _ text
    (next_counted r c.args.n c.next_image-image.result next) c.confirm.new.self given c.in-Ok-replace.ensures.writes)

pub returns-in-Err-clause-opening : goal.returns-in-Err-clause-opening
returns-in-Err-clause-opening g c =
    let r = c.self.inside.reservations in
    let next = c.next_image-image.ensures in
    let text = written c.as_slice.result.now c.encode_image-text.result r c.args.n c.next_image-image.result next
    c.as_slice.ensures.bytes c.encode_image-text.ensures in
    let new = book_of c.begin.new.self (g.S.StateStore.seen c.replace.new.self) in
    subst (λ (old : BookState). IsSameOpening old new) c.self.view_is
    (same_with_burnt c.args.n r c.as_slice.result.now (g.S.StateStore.seen c.self.inside.store) _ text
    (next_counted r c.args.n c.next_image-image.result next) c.begin.new.self c.in-Ok.ensures.ok
    c.in-Err.ensures.writes)

pub returns-in-Ok-replace-clause-reserves : goal.returns-in-Ok-replace-clause-reserves
returns-in-Ok-replace-clause-reserves g c =
    let r = c.self.inside.reservations in
    let next = c.next_image-image.ensures in
    let text = written c.as_slice.result.now c.encode_image-text.result r c.args.n c.next_image-image.result next
    c.as_slice.ensures.bytes c.encode_image-text.ensures in
    let given = given_last r c.begin.new.self c.confirm.new.self c.args.n c.confirm.ensures c.in-Ok.ensures.ok in
    let new = book_of c.confirm.new.self (g.S.StateStore.seen c.replace.new.self) in
    let lease : LeaseState = record { key = c.key-key.result; start = c.counter-start.result; len = c.args.n } in
    subst (λ (old : BookState). Reserves c.args.n old (Ok lease) new) c.self.view_is (
      (next_counted r c.args.n c.next_image-image.result next).within,
      (λ i. record { key = c.key-key.ensures i; start = c.counter-start.ensures.counter i; len = c.args.n }),
      ap (λ (s : ReservationsState). s.history) given,
      (c.in-Ok-replace.ensures.writes
          ∙ ap (λ (text : List ℕ). after_write text (g.S.StateStore.seen c.self.inside.store)) text),
    )
