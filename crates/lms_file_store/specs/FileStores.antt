-- A store in a file: what it wrote since it was made, and what a crash leaves by that.
use Rattle.std.specs.Prelude.{◌≡◌, ◌⊎◌, ℕ, ◌<◌, ◌≤◌, List, [], ◌∷◌, ◌++◌, codes, length, replicate, reverse, take}
use Rattle.std.specs.Prelude.{Contains}
use Rattle.std.specs.Prelude.{if◌then◌else◌, Bool, true, false, Result, Ok, Err, Option, Some, None}
use Rattle.std.specs.Global.{Vec}
use Rattle.lms_book.specs.declared.fault.ReadFault.{ReadFault}
use Rattle.lms_book.specs.declared.fault.ReadFault.TheVariants.{Device, OutOfMemory}
use Rattle.lms_book.specs.declared.fault.StoreFault.{StoreFault}
use Rattle.lms_book.specs.Stops.{Texts, IsAmong, longest_text, only, or_else, StoreView, raised}
use Rattle.lms_files.specs.Files.{folder_of}
use Rattle.lms_file_store.specs.declared.record.FileWrite.{FileWrite}

-- the writes since the store was made, the newest first, the bytes that the last read gave, none
-- before one, and how many calls failed
pub record FileState : Type 0 where
  pub writes : List FileWrite
  pub given : Option (List ℕ)
  pub failures : ℕ

-- the byte strings of which a crash leaves one after a write of these bytes: they alone where they
-- were stored for certain, and else they or those of before the write
abbrev pub left_after : Bool → List ℕ → Texts → Texts
left_after true text before = only text
left_after false text before = or_else text before

-- the byte strings of which a crash after these writes leaves one; before any write it may be any
abbrev pub texts_now : List FileWrite → Texts
texts_now [] = None
texts_now (newest ∷ older) = left_after newest.stored newest.text (texts_now older)

-- the byte strings of which a crash before each of the writes would have left one, the first write
-- first
abbrev pub texts_before : List FileWrite → List Texts
texts_before [] = []
texts_before (newest ∷ older) = texts_before older ++ texts_now older ∷ []

-- what contracts see of it, as of any store
abbrev pub view_of : FileState → StoreView
view_of store =
    record {
      now = texts_now store.writes;
      past = texts_before store.writes;
      given = store.given;
      failures = store.failures;
    }

-- a crash after these writes could leave these bytes
abbrev pub Leaves : List FileWrite → List ℕ → Type 0
Leaves writes text = IsAmong (texts_now writes) text

-- nothing written or given, no failure counted
abbrev pub fresh : FileState
fresh = record { writes = []; given = None; failures = 0 }

-- one more write
abbrev pub written : FileState → List ℕ → Bool → FileState
written store text stored =
    record store { writes = record { text = text; stored = stored } ∷ store.writes }

-- a read gave these bytes
abbrev pub giving : FileState → List ℕ → FileState
giving store text = record store { given = Some text }

-- a failure is counted
abbrev pub failed : FileState → FileState
failed store = record store { failures = raised store.failures }

-- of the writes that were tried since the last certain one, a store keeps at most so many
abbrev pub most_tried : ℕ
most_tried = 3

-- the bytes that were stored for certain last
abbrev pub last_certain : List FileWrite → Option (List ℕ)
last_certain [] = None
last_certain (newest ∷ older) = if newest.stored then Some newest.text else last_certain older

-- the bytes of each write that was tried since the last certain one, the newest first
abbrev pub tried_since : List FileWrite → List (List ℕ)
tried_since [] = []
tried_since (newest ∷ older) = if newest.stored then [] else newest.text ∷ tried_since older

-- the certain bytes, then the newest tried ones, at most three, the oldest of them first; nothing
-- where none are certain
abbrev pub kept_of : Option (List ℕ) → List (List ℕ) → List (List ℕ)
kept_of None tried = []
kept_of (Some certain) tried = certain ∷ reverse (take most_tried tried)

-- the bytes of each write that a store keeps after these writes
abbrev pub kept_after : List FileWrite → List (List ℕ)
kept_after writes = kept_of (last_certain writes) (tried_since writes)

-- a store takes these bytes for its own after these writes: it keeps none, so that any may be
-- there, or it keeps these
abbrev pub Knows : List FileWrite → List ℕ → Type 0
Knows writes text = (kept_after writes ≡ []) ⊎ Contains (kept_after writes) text

-- what a write of these bytes answers and leaves
abbrev pub RecordsWrite : {T : Type 0} → FileState → List ℕ → Result T StoreFault → FileState
    → Type 0
RecordsWrite old text (Ok done) new = (length text ≤ longest_text) × (new ≡ written old text true)
RecordsWrite old text (Err fault) new =
    ((length text ≤ longest_text) × (new ≡ failed (written old text false)))
    ⊎ ((longest_text < length text) × (new ≡ failed old))

-- what a read answers and leaves
abbrev pub ReadsKnown : FileState → Result (Vec ℕ) ReadFault → FileState → Type 0
ReadsKnown old (Ok text) new = Knows old.writes text.items × (new ≡ giving old text.items)
ReadsKnown old (Err Device) new = new ≡ failed old
ReadsKnown old (Err OutOfMemory) new = new ≡ old

-- what the draft of a witness has before it is written
abbrev pub blanks : List ℕ
blanks = replicate 128 32

-- the new bytes are written beside the state, and the folder is the one that holds both
pub record AreBeside (state draft folder : List ℕ) : Type 0 where
  pub draft_is : draft ≡ state ++ codes ".new"
  pub folder_is : folder ≡ folder_of state
