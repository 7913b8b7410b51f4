-- A store in memory: the bytes that it held, and which calls are to fail.
use Rattle.std.specs.Prelude.{◌≡◌, ◌⊎◌, ℕ, ◌-◌, ◌<◌, ◌≤◌, List, [], ◌∷◌, ◌++◌, length, get_or, drop, replicate, Option}
use Rattle.std.specs.Prelude.{Some, None, Bool, true, false, ◌||◌, is_none, map, Result, Ok, Err}
use Rattle.std.specs.Global.{Vec}
use Rattle.std.proofs.Math.ListN.{set}
use Rattle.lms_book.specs.declared.plans.Left.{Left}
use Rattle.lms_book.specs.declared.plans.Left.TheVariants.{Old, New}
use Rattle.lms_book.specs.declared.plans.Plan.{Plan}
use Rattle.lms_book.specs.declared.fault.ReadFault.{ReadFault}
use Rattle.lms_book.specs.declared.fault.ReadFault.TheVariants.{Device, OutOfMemory}
use Rattle.lms_book.specs.declared.fault.StoreFault.{StoreFault}
use Rattle.lms_book.specs.Stops.{Texts, StoreView, longest_text, only, raised}

pub record MemoryState : Type 0 where
  -- what it held before each write
  pub past : List (Option (List ℕ))
  pub text : Option (List ℕ)
  -- what the last read gave, none before one
  pub given : Option (List ℕ)
  -- its capacity for writes
  pub capacity : ℕ
  pub failures : ℕ
  -- how the next writes are to fail, and whether the next reads are, eight each
  pub writes : List (Option Plan)
  pub reads : List Bool
  -- whether the program crashed in a write
  pub stopped : Bool

-- a crash leaves the byte string that is held, and none where there is none
abbrev pub held : Option (List ℕ) → Texts
held None = Some []
held (Some text) = only text

-- what contracts see of it, as of any store
abbrev pub view_of : MemoryState → StoreView
view_of store =
    record {
      now = held store.text;
      past = map held store.past;
      given = store.given;
      failures =
          store.failures;
    }

-- nothing recorded, given, counted or planned, no crash, and this capacity
pub record IsFresh (capacity : ℕ) (store : MemoryState) : Type 0 where
  pub past : store.past ≡ []
  pub given : store.given ≡ None
  pub capacity_is : store.capacity ≡ capacity
  pub failures : store.failures ≡ 0
  pub writes : store.writes ≡ replicate 8 None
  pub reads : store.reads ≡ replicate 8 false
  pub stopped : store.stopped ≡ false

-- other bytes are held, and those before recorded
abbrev pub holding : MemoryState → List ℕ → MemoryState
holding store text = record store { past = store.past ++ store.text ∷ []; text = Some text }

-- a read gave these bytes
abbrev pub giving : MemoryState → List ℕ → MemoryState
giving store text = record store { given = Some text }

-- a failure is counted
abbrev pub failed : MemoryState → MemoryState
failed store = record store { failures = raised store.failures }

-- the k-th write from now is to fail so
abbrev pub planning : MemoryState → ℕ → Plan → MemoryState
planning store k plan = record store { writes = set store.writes (k - 1) (Some plan) }

-- how the next write is to fail, if it is
abbrev pub next_write : MemoryState → Option Plan
next_write store = get_or store.writes 0 None

-- whether the next read is to fail
abbrev pub next_read : MemoryState → Bool
next_read store = get_or store.reads 0 false

-- whether every call after a write with this plan fails
abbrev pub is_stop : Option Plan → Bool
is_stop None = false
is_stop (Some plan) = plan.stops

-- the plans for writes move one place forward
abbrev pub past_write : MemoryState → MemoryState
past_write store =
    record store {
      writes = drop 1 store.writes
          ++ None ∷ [];
      stopped = store.stopped || is_stop (next_write store);
    }

-- the plans for reads move one place forward
abbrev pub past_read : MemoryState → MemoryState
past_read store = record store { reads = drop 1 store.reads ++ false ∷ [] }

-- the store can take a write of these bytes
pub record Takes (store : MemoryState) (text : List ℕ) : Type 0 where
  pub running : store.stopped ≡ false
  pub capacity_left : length store.past < store.capacity
  pub short : length text ≤ longest_text

-- what a failed write leaves
abbrev pub left_by : Left → MemoryState → List ℕ → MemoryState
left_by Old store text = store
left_by New store text = holding store text

-- a write fails as it is planned to, or where the store can't take it, with the old bytes left
abbrev pub FailsAsPlanned : MemoryState → List ℕ → MemoryState → Type 0
FailsAsPlanned old text new =
    (Takes old text
    × ((plan : Plan) × (next_write old ≡ Some plan)
    × (new ≡ failed (left_by plan.left (past_write old) text))))
    ⊎ ((¬ Takes old text) × (new ≡ failed (past_write old)))

-- what a write of these bytes answers and leaves
abbrev pub Replaces : {T : Type 0} → MemoryState → List ℕ → Result T StoreFault → MemoryState
    → Type 0
Replaces old text (Ok done) new =
    Takes old text × (next_write old ≡ None) × (new ≡ holding (past_write old) text)
Replaces old text (Err fault) new = FailsAsPlanned old text new

-- the next read fails: it is to, or a crash was, or nothing is held
abbrev pub cannot_read : MemoryState → Bool
cannot_read store = store.stopped || (next_read store || is_none store.text)

-- what a read answers and leaves
abbrev pub Reads : MemoryState → Result (Vec ℕ) ReadFault → MemoryState → Type 0
Reads old (Ok text) new =
    (cannot_read old ≡ false) × (old.text ≡ Some text.items) × (new ≡ giving (past_read old) text.items)
Reads old (Err Device) new = (cannot_read old ≡ true) × (new ≡ failed (past_read old))
Reads old (Err OutOfMemory) new = (cannot_read old ≡ false) × (new ≡ past_read old)
