-- What desks count of a shared book.
use Rattle.std.specs.Prelude.{◌≡◌, ℕ, ◌+◌, ◌≤◌, List, [], ◌∷◌, length, Result, Ok, Err}
use Rattle.std.specs.declared.sync.ledger.Blank.{Blank as BlankOfCode}
use Rattle.lms_book.specs.declared.history.Entry.{Entry}
use Rattle.lms_book.specs.declared.fault.BookFault.{BookFault}
use Rattle.lms_book.specs.declared.fault.BookFault.TheVariants.{Exhausted, OutOfMemory, Store}
use Rattle.lms_book.specs.History.{given_of, burnt_of}
use Rattle.lms_book.specs.States.{BookState, LeaseState}

-- the most desks of a shared book
abbrev pub most_desks : ℕ
most_desks = 64

-- numbers of entries, of indices received and of indices burnt
pub record Sums : Type 0 where
  pub entries : ℕ
  pub received : ℕ
  pub burnt : ℕ

-- the three as one
abbrev pub sums : ℕ → ℕ → ℕ → Sums
sums entries received burnt = record { entries = entries; received = received; burnt = burnt }

-- each of the three added
abbrev pub plus : Sums → Sums → Sums
plus a b = sums (a.entries + b.entries) (a.received + b.received) (a.burnt + b.burnt)

-- the sums of all in a list
abbrev pub total : List Sums → Sums
total [] = sums 0 0 0
total (s ∷ more) = plus s (total more)

-- all three of a history: its entries, and the indices that it gave and burnt
abbrev pub sums_of : List Entry → Sums
sums_of history = sums (length history) (given_of history) (burnt_of history)

-- none of the three is more in `a` than in `b`
pub record IsWithin (a b : Sums) : Type 0 where
  pub entries : a.entries ≤ b.entries
  pub received : a.received ≤ b.received
  pub burnt : a.burnt ≤ b.burnt

-- a blank has a ledger's name and number of parts, which is `wanted`
abbrev pub BlankFits : BlankOfCode → ℕ → ℕ → ℕ → Type 0
BlankFits blank name parts wanted = (blank.name ≡ name) × (blank.parts ≡ parts) × (parts ≡ wanted)

-- some parts of the three ledgers, as many of each, with what they count
pub record SharesState : Type 0 where
  pub parts : ℕ
  pub counted : Sums

-- a shared book: the book as it was when it was shared, and how many desks there are
pub record SharedState : Type 0 where
  pub book : BookState
  pub desks : ℕ

-- what a desk counts of a reservation of n indices
abbrev pub Counts : ℕ → Sums → Result LeaseState BookFault → Sums → Type 0
Counts n old (Ok lease) new = (lease.len ≡ n) × (new ≡ plus old (sums 1 n 0))
Counts n old (Err (Store start len)) new = (len ≡ n) × (new ≡ plus old (sums 1 0 n))
Counts n old (Err (Exhausted left)) new = new ≡ old
Counts n old (Err OutOfMemory) new = new ≡ old

-- what a reservation of n indices adds to the sums of a history
abbrev pub gained : ℕ → Result LeaseState BookFault → Sums
gained n (Ok lease) = sums 1 n 0
gained n (Err (Store start len)) = sums 1 0 n
gained n (Err (Exhausted left)) = sums 0 0 0
gained n (Err OutOfMemory) = sums 0 0 0
