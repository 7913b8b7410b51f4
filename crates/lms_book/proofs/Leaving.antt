-- Which byte strings a crash may leave.
use Rattle.std.proofs.Common.{◌≡◌, ◌⊎◌, inl, inr, ℕ, zero, suc, List, Some, None, sym, subst, arith}
use Rattle.lms_book.specs.Stops.{Texts, IsAmong, only, or_else, StoreView, MayLeave, after_write, IsLeftBy}
use Rattle.lms_book.specs.Stops.{FailsToWrite}

pub among_only : (text left : List ℕ) → IsAmong (only text) left → left ≡ text
among_only text left (zero, lt, same) = sym same
among_only text left (suc k, lt, same) = absurd (omega (arith, lt))

pub only_has : (text left : List ℕ) → left ≡ text → IsAmong (only text) left
only_has text left is = (0, omega arith, sym is)

pub among_or_else : (text left : List ℕ) (texts : Texts) → IsAmong (or_else text texts) left
    → IsAmong texts left ⊎ (left ≡ text)
among_or_else text left None among = inl tt
among_or_else text left (Some texts) (zero, lt, same) = inr (sym same)
among_or_else text left (Some texts) (suc k, lt, same) = inl (k, omega (arith, lt), same)

pub or_else_has : (text left : List ℕ) (texts : Texts) → IsAmong texts left ⊎ (left ≡ text)
    → IsAmong (or_else text texts) left
or_else_has text left None either = tt
or_else_has text left (Some texts) (inl (k, lt, at)) = (suc k, omega (arith, lt), at)
or_else_has text left (Some texts) (inr is) = (0, omega arith, sym is)

-- a crash after a write leaves its bytes alone
pub leaves_written : (text : List ℕ) (old new : StoreView) → new ≡ after_write text old → (left : List ℕ)
    → MayLeave new left → left ≡ text
leaves_written text old new is left may =
    among_only text left (subst (λ (store : StoreView). MayLeave store left) is may)

pub narrowed : (text left : List ℕ) (before after : Texts) → IsLeftBy text before after → IsAmong after left
    → IsAmong before left ⊎ (left ≡ text)
narrowed text left before after (inl is) among =
    inr (among_only text left (subst (λ (texts : Texts). IsAmong texts left) is among))
narrowed text left before after (inr is) among =
    among_or_else text left before (subst (λ (texts : Texts). IsAmong texts left) is among)

-- a crash after a write that failed leaves its bytes, or what it left before
pub leaves_failed : (text : List ℕ) (old new : StoreView) → FailsToWrite text old new
    → (left : List ℕ) → MayLeave new left → MayLeave old left ⊎ (left ≡ text)
leaves_failed text old new (inl is) left may = inl (subst (λ (store : StoreView). MayLeave store left) is may)
leaves_failed text old new (inr (texts, by, is)) left may =
    narrowed text left old.now texts by (subst (λ (store : StoreView). MayLeave store left) is may)
