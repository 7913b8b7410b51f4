-- What a store is to contracts: what a crash leaves in it, now and at each moment before, what its
-- last read gave, and how many calls failed. What a name calls `text` is a list of bytes.
use Rattle.std.specs.Prelude.{◌≡◌, ◌⊎◌, ℕ, ◌+◌, ◌^◌, ◌-◌, max, min, Bool, true, List, [], ◌∷◌, ◌++◌, Contains, drop}
use Rattle.std.specs.Prelude.{length, Option, Some, None, Result, Ok, Err}
use Rattle.std.specs.Global.{Vec}
use Rattle.lms_book.specs.declared.fault.ReadFault.{ReadFault}
use Rattle.lms_book.specs.declared.fault.ReadFault.TheVariants.{Device, OutOfMemory}

-- the most bytes that a store keeps without taking memory
abbrev pub longest_text : ℕ
longest_text = 256

-- the byte strings of which a crash leaves one, and none where there is none; `None` where it may
-- be any
abbrev pub Texts : Type 0
Texts = Option (List (List ℕ))

abbrev pub IsAmong : Texts → List ℕ → Type 0
IsAmong None text = Unit {0}
IsAmong (Some texts) text = Contains texts text

-- these bytes alone
abbrev pub only : List ℕ → Texts
only text = Some (text ∷ [])

-- these bytes, or one of those byte strings
abbrev pub or_else : List ℕ → Texts → Texts
or_else text None = None
or_else text (Some texts) = Some (text ∷ texts)

-- what contracts see of a store: the byte strings that a crash could leave now, those that it could
-- leave at each moment before, the first moment first, the one that the last read gave, none before
-- a read, and how many calls failed
pub record StoreView : Type 0 where
  pub now : Texts
  pub past : List Texts
  pub given : Option (List ℕ)
  pub failures : ℕ

-- a crash now could leave these bytes
abbrev pub MayLeave : StoreView → List ℕ → Type 0
MayLeave store text = IsAmong store.now text

-- one failure more; at 2^64 - 1 the count stays
abbrev pub raised : ℕ → ℕ
raised n = max n (min (n + 1) (2 ^ 64 - 1))

-- a moment later a crash leaves one of these
abbrev pub moved : Texts → StoreView → StoreView
moved texts store = record store { now = texts; past = store.past ++ store.now ∷ [] }

-- these bytes were stored for certain
abbrev pub after_write : List ℕ → StoreView → StoreView
after_write text store = moved (only text) store

-- a read gave these bytes
abbrev pub having_given : List ℕ → StoreView → StoreView
having_given text store = record store { given = Some text }

-- a failure is counted
abbrev pub after_failure : StoreView → StoreView
after_failure store = record store { failures = raised store.failures }

-- what a crash leaves once a write of these bytes began and failed: these alone, or these or what
-- it left before
abbrev pub IsLeftBy : List ℕ → Texts → Texts → Type 0
IsLeftBy text before after = (after ≡ only text) ⊎ (after ≡ or_else text before)

-- a write of these bytes failed, before it began or later
abbrev pub FailsToWrite : List ℕ → StoreView → StoreView → Type 0
FailsToWrite text old new =
    (new ≡ after_failure old)
    ⊎ ((texts : Texts) × IsLeftBy text old.now texts × (new ≡ after_failure (moved texts old)))

-- what a write of these bytes answers and leaves
abbrev pub WritesStore : {T E : Type 0} → List ℕ → StoreView → Result T E → StoreView → Type 0
WritesStore text old (Ok done) new = new ≡ after_write text old
WritesStore text old (Err fault) new = FailsToWrite text old new

-- what a read answers and leaves, where the device may fail or may not
abbrev pub ReadsStore : Bool → StoreView → Result (Vec ℕ) ReadFault → StoreView → Type 0
ReadsStore may_fail old (Ok text) new =
    MayLeave old text.items × (new ≡ having_given text.items old)
ReadsStore may_fail old (Err Device) new = (may_fail ≡ true) × (new ≡ after_failure old)
ReadsStore may_fail old (Err OutOfMemory) new = new ≡ old

-- the moments of a call, from what the store was to what it is: those that the call added after the
-- earlier ones, and the one now
abbrev pub moments_since : StoreView → StoreView → List Texts
moments_since old new = drop (length old.past) new.past ++ new.now ∷ []

-- a crash at some moment of a call could leave these bytes
abbrev pub LeavesWithin : StoreView → StoreView → List ℕ → Type 0
LeavesWithin old new text =
    (texts : Texts) × Contains (moments_since old new) texts × IsAmong texts text
