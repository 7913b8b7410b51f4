-- A book after reservations, one after another.
use Rattle.std.proofs.Common.{◌≡◌, ℕ, List, [], ◌∷◌, ◌++◌, refl, sym, ◌∙◌, ap, subst, arith, length-append}
use Rattle.std.specs.Prelude.{Result, Ok, Err, IfOk}
use Rattle.std.proofs.lemmas.List.{append_assoc, append-nil}
use Rattle.std.proofs.lemmas.List.Sums.{sum_by-append}
use Rattle.lms_book.specs.declared.history.Entry.{Entry}
use Rattle.lms_book.specs.declared.history.Entry.TheVariants.{Given, Burnt}
use Rattle.lms_book.specs.declared.fault.BookFault.{BookFault}
use Rattle.lms_book.specs.declared.fault.BookFault.TheVariants.{Exhausted, OutOfMemory, Store}
use Rattle.lms_book.specs.History.{given_len, burnt_len}
use Rattle.lms_book.specs.States.{BookState, LeaseState, IsSameOpening}
use Rattle.lms_hss.specs.declared.key.HssKey.{HssKey}
use Rattle.lms_book.specs.Books.{Reserves}
use Rattle.lms_shared_book.specs.Desks.{Counts, Sums, gained, plus, sums, sums_of}
use Rattle.lms_shared_book.specs.Shared.{IsAfter, IsAfterEntry, IsFound, IsSettled}
use Rattle.lms_shared_book.proofs.DeskSums.{burnt_more, given_more}

-- one reservation more
pub after_push : (start : BookState) (es : List Entry) (e : Entry) (book new : BookState) → IsAfter start es book
    → IsAfterEntry book e new
    → IsAfter start (es ++ e ∷ []) new
after_push start [] e book new is step = (new, subst (λ (b : BookState). IsAfterEntry b e new) is step, refl)
after_push start (x ∷ es) e book new (next, first, rest) step = (next, first, after_push next es e book new rest step)

entry_history : (old : BookState) (e : Entry) (new : BookState) → IsAfterEntry old e new
    → new.history ≡ old.history ++ e ∷ []
entry_history old (Given n) new step = step.reservation.2
entry_history old (Burnt n) new step = step.reservation.3

-- the history goes on by the entries
pub after_history : (start : BookState) (es : List Entry) (book : BookState) → IsAfter start es book
    → book.history ≡ start.history ++ es
after_history start [] book is = ap (λ (b : BookState). b.history) is ∙ sym (append-nil start.history)
after_history start (e ∷ es) book (next, first, rest) =
    after_history next es book rest ∙ ap (λ (h : List Entry). h ++ es) (entry_history start e next first)
    ∙ append_assoc start.history (e ∷ []) es

same_sums : (a b : Sums) → a.entries ≡ b.entries → a.received ≡ b.received → a.burnt ≡ b.burnt → a ≡ b
same_sums a b e r u i = record { entries = e i; received = r i; burnt = u i }

sums_append : (h es : List Entry) → sums_of (h ++ es) ≡ plus (sums_of h) (sums_of es)
sums_append h es = same_sums _ _ (length-append h es) (sum_by-append given_len h es) (sum_by-append burnt_len h es)

-- nothing more
plus_none : (s : Sums) → plus s (sums 0 0 0) ≡ s
plus_none s = same_sums _ _ (omega arith) (omega arith) (omega arith)

-- a part that is the same on both sides goes
pub plus_left : (a b c : Sums) → plus a b ≡ plus a c → b ≡ c
plus_left a b c same =
    let e = ap (λ (s : Sums). s.entries) same in
    let r = ap (λ (s : Sums). s.received) same in
    let u = ap (λ (s : Sums). s.burnt) same in
    same_sums b c (omega (arith, e)) (omega (arith, r)) (omega (arith, u))

-- the sums of a book's history are those from before, and those of what was reserved since
pub after_sums : (start : BookState) (es : List Entry) (book : BookState) → IsAfter start es book
    → sums_of book.history ≡ plus (sums_of start.history) (sums_of es)
after_sums start es book is = ap sums_of (after_history start es book is) ∙ sums_append start.history es

-- what a reservation adds to the sums of the book's history
gains : (n : ℕ) (old : BookState) (answer : Result LeaseState BookFault) (new : BookState) → Reserves n old answer new
    → plus (sums_of old.history) (gained n answer) ≡ sums_of new.history
gains n old (Ok lease) new (enough, is, history, wrote) = given_more old.history n ∙ ap sums_of (sym history)
gains n old (Err (Store start len)) new (enough, s, l, history, failed) =
    burnt_more old.history n ∙ ap sums_of (sym history)
gains n old (Err (Exhausted left)) new (full, is, same) =
    plus_none _ ∙ ap (λ (b : BookState). sums_of b.history) (sym same)
gains n old (Err OutOfMemory) new (enough, same) = plus_none _ ∙ ap (λ (b : BookState). sums_of b.history) (sym same)

-- the sums after it
pub more_sums : (n : ℕ) (old : BookState) (answer : Result LeaseState BookFault) (new : BookState) (before more : Sums)
    → before ≡ sums_of old.history → more ≡ gained n answer → Reserves n old answer new
    → plus before more ≡ sums_of new.history
more_sums n old answer new before more was is reserves =
    ap (λ (s : Sums). plus s more) was ∙ ap (plus (sums_of old.history)) is ∙ gains n old answer new reserves

-- what a desk counts of it
pub counts : (n : ℕ) (old : BookState) (answer : Result LeaseState BookFault) (new : BookState) (before : Sums)
    → Reserves n old answer new
    → Counts n before answer (plus before (gained n answer))
counts n old (Ok lease) new before (enough, is, history, wrote) = (ap (λ (l : LeaseState). l.len) is, refl)
counts n old (Err (Store start len)) new before (enough, s, l, history, failed) = (l, refl)
counts n old (Err (Exhausted left)) new before is = plus_none before
counts n old (Err OutOfMemory) new before is = plus_none before

-- the book after it is one after an entry more, or the same
pub after_one_more : (n : ℕ) (old : BookState) (answer : Result LeaseState BookFault) (new start : BookState)
    (es : List Entry) → Reserves n old answer new → IsSameOpening old new → IsAfter start es old
    → (all : List Entry) × IsAfter start all new
after_one_more n old (Ok lease) new start es (enough, is, history, wrote) same after =
    let entry : IsAfterEntry old (Given n) new =
    record { opening = same; reservation = (enough, refl, history, wrote) } in
    (_, after_push start es (Given n) old new after entry)
after_one_more n old (Err (Store s len)) new start es (enough, at, l, history, failed) same after =
    let entry : IsAfterEntry old (Burnt n) new =
    record { opening = same; reservation = (enough, refl, refl, history, failed) } in
    (_, after_push start es (Burnt n) old new after entry)
after_one_more n old (Err (Exhausted left)) new start es (full, is, stays) same after =
    (es, subst (λ (b : BookState). IsAfter start es b) (sym stays) after)
after_one_more n old (Err OutOfMemory) new start es (enough, stays) same after =
    (es, subst (λ (b : BookState). IsAfter start es b) (sym stays) after)

-- a lease is of the book's key
pub lease_key : (n : ℕ) (old : BookState) (answer : Result LeaseState BookFault) (new : BookState) (key : HssKey)
    → Reserves n old answer new → old.key ≡ key → IfOk answer (λ lease. lease.key ≡ key)
lease_key n old (Ok lease) new key (enough, is, history, wrote) same = ap (λ (l : LeaseState). l.key) is ∙ same
lease_key n old (Err fault) new key is same = tt

-- a book behind the lock; the part of the sums that is the book's own counts what was before
pub behind : (shared : BookState) (desks : ℕ) (desk part totals : Sums) (found : BookState) (es : List Entry)
    → IsAfter shared es found
    → totals ≡ sums_of found.history → part ≡ sums_of shared.history → (desks ≡ 1 → plus part desk ≡ totals)
    → IsFound (record { book = shared; desks = desks }) desk found
behind shared desks desk part totals found es after all own alone = record {
  entries = es;
  after = after;
  alone = λ one. plus_left (sums_of shared.history) (sums_of es) desk
      (sym (after_sums shared es found after) ∙ sym all ∙ sym (alone one) ∙ ap (λ (s : Sums). plus s desk) own);
}

-- and in the end
pub settled : (shared : BookState) (desks : Sums) (book : BookState) (es : List Entry) → IsAfter shared es book
    → sums_of book.history ≡ plus (sums_of shared.history) desks → IsSettled shared desks book
settled shared desks book es after all = record {
  entries = es;
  after = after;
  all = plus_left (sums_of shared.history) (sums_of es) desks (sym (after_sums shared es book after) ∙ all);
}

pub settled_sums : (shared : BookState) (desks : Sums) (book : BookState) → IsSettled shared desks book
    → sums_of book.history ≡ plus (sums_of shared.history) desks
settled_sums shared desks book is =
    after_sums shared is.entries book is.after ∙ ap (plus (sums_of shared.history)) is.all
