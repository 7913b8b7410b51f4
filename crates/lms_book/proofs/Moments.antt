-- What a crash could leave at the moments of a reservation.
use Rattle.std.proofs.Common.{◌≡◌, ◌⊎◌, inl, inr, ⊎_elim, ℕ, zero, suc, List, [], ◌∷◌, ◌++◌, sym, ap, subst, arith}
use Rattle.std.proofs.Math.Seq.{drop-append_seam, drop-length}
use Rattle.std.specs.Prelude.{Contains, Result, Ok, Err}
use Rattle.lms_book.specs.declared.fault.BookFault.{BookFault}
use Rattle.lms_book.specs.declared.fault.BookFault.TheVariants.{Exhausted, OutOfMemory, Store}
use Rattle.lms_book.specs.Stops.{Texts, StoreView, IsAmong, MayLeave, LeavesWithin, only, raised, FailsToWrite}
use Rattle.lms_book.specs.States.{BookState, LeaseState}
use Rattle.lms_book.specs.Books.{next_image, Reserves}
use Rattle.lms_book.proofs.Leaving.{among_only, narrowed}

among_one : (a texts : Texts) → Contains (a ∷ []) texts → texts ≡ a
among_one a texts (zero, lt, same) = sym same
among_one a texts (suc k, lt, same) = absurd (omega (arith, lt))

among_two : (a b texts : Texts) → Contains (a ∷ b ∷ []) texts → (texts ≡ a) ⊎ (texts ≡ b)
among_two a b texts (zero, lt, same) = inl (sym same)
among_two a b texts (suc zero, lt, same) = inr (sym same)
among_two a b texts (suc (suc k), lt, same) = absurd (omega (arith, lt))

-- a call within which no moment passed leaves what was left before
not_moved : (old : StoreView) (failures : ℕ) (text : List ℕ) → LeavesWithin old
    (record { now = old.now; past = old.past; given = old.given; failures = failures }) text → MayLeave old text
not_moved old failures text (texts, has, among) =
    let one = subst (λ (l : List Texts). Contains (l ++ old.now ∷ []) texts) (drop-length old.past) has in
    subst (λ (t : Texts). IsAmong t text) (among_one old.now texts one) among

-- a call within which one moment passed leaves what was left before, or what is left now
moved_once : (old : StoreView) (now : Texts) (failures : ℕ) (text : List ℕ)
    → LeavesWithin old (record { now = now; past = old.past ++ old.now ∷ []; given = old.given; failures = failures })
    text → MayLeave old text ⊎ IsAmong now text
moved_once old now failures text (texts, has, among) =
    let two = subst (λ (l : List Texts). Contains (l ++ now ∷ []) texts)
    (drop-append_seam old.past (old.now ∷ [])) has in
    ⊎_elim (λ is. inl (subst (λ (t : Texts). IsAmong t text) is among))
    (λ is. inr (subst (λ (t : Texts). IsAmong t text) is among)) (among_two old.now now texts two)

-- where the store is as it was
same_store : (old new : StoreView) (text : List ℕ) → new ≡ old → LeavesWithin old new text → MayLeave old text
same_store old new text is within =
    not_moved old old.failures text (subst (λ (s : StoreView). LeavesWithin old s text) is within)

failing : (old new : StoreView) (image text : List ℕ) → FailsToWrite image old new → LeavesWithin old new text
    → MayLeave old text ⊎ (text ≡ image)
failing old new image text (inl is) within =
    inl (not_moved old (raised old.failures) text (subst (λ (s : StoreView). LeavesWithin old s text) is within))
failing old new image text (inr (texts, by, is)) within =
    ⊎_elim (λ was. inl was) (narrowed image text old.now texts by)
    (moved_once old texts (raised old.failures) text (subst (λ (s : StoreView). LeavesWithin old s text) is within))

pub no_third_text : (n : ℕ) (old : BookState) (answer : Result LeaseState BookFault) (new : BookState)
    → Reserves n old answer new
    → (text : List ℕ) → LeavesWithin old.store new.store text → MayLeave old.store text ⊎ (text ≡ next_image n old)
no_third_text n old (Ok lease) new (enough, is, history, wrote) text within =
    let image = next_image n old in
    ⊎_elim (λ was. inl was) (λ now. inr (among_only image text now))
    (moved_once old.store (only image) old.store.failures text
    (subst (λ (s : StoreView). LeavesWithin old.store s text) wrote within))
no_third_text n old (Err (Exhausted left)) new (full, is, same) text within =
    inl (same_store old.store new.store text (ap (λ (b : BookState). b.store) same) within)
no_third_text n old (Err OutOfMemory) new (enough, same) text within =
    inl (same_store old.store new.store text (ap (λ (b : BookState). b.store) same) within)
no_third_text n old (Err (Store start len)) new (enough, s, l, history, failed) text within =
    failing old.store new.store _ text failed within
