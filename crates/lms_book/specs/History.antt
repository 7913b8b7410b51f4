-- Reservations one after another, from a base on.
use Rattle.std.specs.Prelude.{ℕ, ◌+◌, List, [], ◌∷◌, sum_by, Bool, ◌==◌, ◌&&◌}
use Rattle.std.specs.List.{list_any}
use Rattle.lms_book.specs.declared.history.Entry.{Entry}
use Rattle.lms_book.specs.declared.history.Entry.TheVariants.{Given, Burnt}

-- indices from start on
pub record Range : Type 0 where
  pub start : ℕ
  pub len : ℕ

abbrev pub range_of : ℕ → ℕ → Range
range_of start len = record { start = start; len = len }

-- where it ends: one past its last index
abbrev pub end : Range → ℕ
end range = range.start + range.len

abbrev pub len_of : Entry → ℕ
len_of (Given len) = len
len_of (Burnt len) = len

-- the base plus all lengths
abbrev pub counter_of : ℕ → List Entry → ℕ
counter_of base history = base + sum_by len_of history

-- how many indices an entry gave
abbrev pub given_len : Entry → ℕ
given_len (Given len) = len
given_len (Burnt len) = 0

-- how many a history gave
abbrev pub given_of : List Entry → ℕ
given_of history = sum_by given_len history

-- how many indices an entry burnt
abbrev pub burnt_len : Entry → ℕ
burnt_len (Given len) = 0
burnt_len (Burnt len) = len

-- how many a history burnt
abbrev pub burnt_of : List Entry → ℕ
burnt_of history = sum_by burnt_len history

-- how many indices are burnt: `burnt` before the history, and those that it burnt
abbrev pub burnt_after : ℕ → List Entry → ℕ
burnt_after burnt history = burnt + burnt_of history

-- the ranges of the Given entries; an entry's range starts at the base plus the lengths before it
abbrev pub leases : ℕ → List Entry → List Range
leases base [] = []
leases base (Given len ∷ history) = range_of base len ∷ leases (base + len) history
leases base (Burnt len ∷ history) = leases (base + len) history

-- the end of the last range, or `base` where there is none
abbrev pub last_end : ℕ → List Range → ℕ
last_end base [] = base
last_end base (range ∷ ranges) = last_end (end range) ranges

-- the end of the last Given range, or the base
abbrev pub stored_of : ℕ → List Entry → ℕ
stored_of base history = last_end base (leases base history)

-- the history with its last entry made `Given`
abbrev pub confirmed : List Entry → List Entry
confirmed [] = []
confirmed (last ∷ []) = Given (len_of last) ∷ []
confirmed (first ∷ second ∷ more) = first ∷ confirmed (second ∷ more)

-- whether this is one of the ranges
abbrev pub has_range : Range → List Range → Bool
has_range range ranges = list_any (λ r. (r.start == range.start) && (r.len == range.len)) ranges
