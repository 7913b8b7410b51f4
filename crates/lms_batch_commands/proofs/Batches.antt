-- What a list of jobs did to a book.
use Rattle.std.proofs.Common.{◌≡◌, ◌∙◌, inl, inr, ℕ, zero, suc, ◌+◌, ◌-◌, ◌≤◌, List, [], ◌∷◌, ◌++◌, drop, take, length}
use Rattle.std.proofs.Common.{Option, None, Some, Result, Ok, Err, refl, sym, ap, ap₂, subst, arith}
use Rattle.std.specs.Prelude.{IfSome, min}
use Rattle.std.proofs.lemmas.List.Sums.{sum_by-cons}
use Rattle.lms_book.specs.declared.history.Entry.{Entry}
use Rattle.lms_book.specs.declared.history.Entry.TheVariants.{Given, Burnt}
use Rattle.lms_book.specs.declared.fault.BookFault.{BookFault}
use Rattle.lms_book.specs.declared.fault.BookFault.TheVariants as book
use Rattle.lms_book.specs.Stops.{StoreView}
use Rattle.lms_book.specs.States.{BookState, LeaseState}
use Rattle.lms_book.specs.Books.{Reserves, capacity, counter}
use Rattle.lms_book.specs.History.{given_len, burnt_len}
use Rattle.lms_shared_book.specs.Desks.{Sums, plus, sums, sums_of, total}
use Rattle.lms_shared_book.specs.Shared.{IsAfter, IsAfterEntry, IsSettled}
use Rattle.lms_batch.specs.Answers.{CouldBeReserved, IsAnswerAfter, start_of}
use Rattle.lms_batch.specs.declared.collector.Batch.{Batch}
use Rattle.lms_batch.specs.declared.fault.BatchFault.{BatchFault}
use Rattle.lms_batch.specs.declared.fault.BatchFault.TheVariants as unsigned
use Rattle.lms_lines.specs.SignedLines.{IsUnsigned, signatures_in}
use Rattle.lms_lines.specs.declared.fault.JobsFault.TheVariants as jobs
use Rattle.lms_lines.specs.declared.signing.SignedJobs.{SignedJobs}
use Rattle.lms_lines.specs.declared.fault.LinesFault.{LinesFault}
use Rattle.lms_lines.specs.declared.fault.LinesFault.TheVariants as lines
use Rattle.lms_batch_commands.specs.Batches.{IsUnprinted}
use Rattle.lms_commands.specs.Faults.{of_lines}
use Rattle.lms_commands.specs.declared.fault.Fault.{Fault}
use Rattle.lms_commands.specs.declared.fault.Fault.TheVariants.{Exhausted, OutOfMemoryBurnt, WriteStateBurnt}
use Rattle.lms_batch_commands.specs.BatchLogs.{AnswersJobs, LogsBatch, LogsJobsUnsigned, LogsUnprinted}
use Rattle.lms_commands.specs.Logs.{LeavesState, WorldCalls, StoresUse, TriesUse, state_of}
use Rattle.lms_commands.specs.Watching.{Admits, FailsToNote, OpensWatched, UsesAll, Watch, notes, watched}
use Rattle.lms_world.specs.Events.{PutBack}
use Rattle.lms_commands.proofs.Logged.{left_so, stored, tried}
use Rattle.lms_batch_commands.specs.SharedBooks.{IsRefusedBy, IsSignedByBook, at_one_desk}
use Rattle.lms_commands.proofs.Signings.{IsJustOpened}

same_sums : (a b : Sums) → a.entries ≡ b.entries → a.received ≡ b.received → a.burnt ≡ b.burnt → a ≡ b
same_sums a b e r u i = record { entries = e i; received = r i; burnt = u i }

-- the sums of one desk
pub total_one : (d : Sums) → total (d ∷ []) ≡ d
total_one d = same_sums _ _ (omega arith) (omega arith) (omega arith)

-- what is added to nothing
from_none : (d : Sums) → plus (sums 0 0 0) d ≡ d
from_none d = same_sums _ _ (omega arith) (omega arith) (omega arith)

-- what some jobs count
from_some : (n : ℕ) → plus (sums 0 0 0) (sums (min 1 (suc n)) (suc n) 0) ≡ sums 1 (suc n) 0
from_some n =
    let one : min 1 (suc n) ≡ 1 = omega arith in
    same_sums _ _ (omega (arith, one)) (omega arith) (omega arith)

-- no entry was made
no_entry : (start : BookState) (es : List Entry) (left : BookState) → IsAfter start es left
    → sums_of es ≡ sums 0 0 0 → left ≡ start
no_entry start [] left is none = is
no_entry start (e ∷ es) left is none = let count = ap (λ (s : Sums). s.entries) none in absurd (omega (arith, count))

-- one was made, which gave n indices
one_given : (start : BookState) (n : ℕ) (es : List Entry) (left : BookState) → 1 ≤ n → IsAfter start es left
    → sums_of es ≡ sums 1 n 0
    → IsAfterEntry start (Given n) left
one_given start n [] left some is one = let count = ap (λ (s : Sums). s.entries) one in absurd (omega (arith, count))
one_given start n (e ∷ x ∷ es) left some is one =
    let count = ap (λ (s : Sums). s.entries) one in
    absurd (omega (arith, count))
one_given start n (Burnt m ∷ []) left some is one =
    let gave = ap (λ (s : Sums). s.received) one in
    absurd (omega (arith, gave, some, sum_by-cons given_len (Burnt m) []))
one_given start n (Given m ∷ []) left some (next, first, same) one =
    let gave = ap (λ (s : Sums). s.received) one in
    let is : m ≡ n = omega (arith, gave, sum_by-cons given_len (Given m) []) in
    subst (λ (k : ℕ). IsAfterEntry start (Given k) left) is
    (subst (λ (b : BookState). IsAfterEntry start (Given m) b) (sym same) first)

-- or burnt them
one_burnt : (start : BookState) (n : ℕ) (es : List Entry) (left : BookState) → 1 ≤ n → IsAfter start es left
    → sums_of es ≡ sums 1 0 n
    → IsAfterEntry start (Burnt n) left
one_burnt start n [] left some is one = let count = ap (λ (s : Sums). s.entries) one in absurd (omega (arith, count))
one_burnt start n (e ∷ x ∷ es) left some is one =
    let count = ap (λ (s : Sums). s.entries) one in
    absurd (omega (arith, count))
one_burnt start n (Given m ∷ []) left some is one =
    let burnt = ap (λ (s : Sums). s.burnt) one in
    absurd (omega (arith, burnt, some, sum_by-cons burnt_len (Given m) []))
one_burnt start n (Burnt m ∷ []) left some (next, first, same) one =
    let burnt = ap (λ (s : Sums). s.burnt) one in
    let is : m ≡ n = omega (arith, burnt, sum_by-cons burnt_len (Burnt m) []) in
    subst (λ (k : ℕ). IsAfterEntry start (Burnt k) left) is
    (subst (λ (b : BookState). IsAfterEntry start (Burnt m) b) (sym same) first)

-- a reservation at the only desk, the first, finds the book as it was
finds_start : (start : BookState) (n : ℕ) (answer : Result Batch BatchFault)
    → CouldBeReserved (at_one_desk start) (sums 0 0 0) n answer
    → (new : BookState) × (reserved : Result LeaseState BookFault) × Reserves n start reserved new
    × IsAnswerAfter reserved answer
finds_start start n answer (old, new, reserved, found, reserves, follows) =
    let same : old ≡ start = no_entry start found.entries old found.after (found.alone refl) in
    (new, reserved, subst (λ (b : BookState). Reserves n b reserved new) same reserves.reserves, follows)

-- a batch begins with the book's next index
starts_at : (start : BookState) (n : ℕ) (batch : Batch) → CouldBeReserved (at_one_desk start) (sums 0 0 0) n (Ok batch)
    → start_of batch ≡ counter start
starts_at start n batch could = let found = finds_start start n (Ok batch) could in go found.0 found.1 found.2 found.3
  where
    go : (new : BookState) (reserved : Result LeaseState BookFault) → Reserves n start reserved new
        → IsAnswerAfter reserved (Ok batch)
        → start_of batch ≡ counter start
    go new (Ok lease) (enough, is, history, wrote) follows = follows ∙ ap (λ (l : LeaseState). l.start) is
    go new (Err refused) is follows = absurd follows

-- a refusal is the book's
refused_so : (start : BookState) (n : ℕ) (fault : BookFault)
    → CouldBeReserved (at_one_desk start) (sums 0 0 0) n (Err (unsigned.Book fault))
    → (new : BookState) × Reserves n start (Err fault) new
refused_so start n fault could =
    let found = finds_start start n (Err (unsigned.Book fault)) could in
    go found.0 found.1 found.2 found.3
  where
    go : (new : BookState) (reserved : Result LeaseState BookFault) → Reserves n start reserved new
        → IsAnswerAfter reserved (Err (unsigned.Book fault))
        → (new : BookState) × Reserves n start (Err fault) new
    go new (Ok lease) is follows = absurd follows
    go new (Err refused) is follows = (new, subst (λ (f : BookFault). Reserves n start (Err f) new) (sym follows) is)

-- a witness is written of one index at least
notes_some_only : (n : ℕ) (watch : Watch) (id : List ℕ) (start : ℕ) (fault : Fault) (log new : WorldCalls)
    → FailsToNote n watch id start fault log new → 1 ≤ n
notes_some_only zero watch id start fault log new never = absurd never
notes_some_only (suc n) watch id start fault log new fails = omega arith

-- what a list of jobs did to a book, in terms of the calls that were made
module _ (watch : Watch) (start left : BookState) (view : StoreView) (old opened back : WorldCalls)
    (opens : OpensWatched watch start old opened) (is_fresh : IsJustOpened start)
    (view_is : view ≡ left.store) (back_is : back ≡ PutBack view ∷ opened) where
  abbrev by : Admits (state_of start)
  by = record { watch = watch; admitted = opens.0 }

  abbrev from_there : WorldCalls
  from_there = watched by old

  leaves_none : (sum : Sums) → sum ≡ sums 0 0 0 → IsSettled start sum left
      → LeavesState (state_of start) from_there back
  leaves_none sum none settled =
      let same = no_entry start settled.entries left settled.after (settled.all ∙ none) in
      left_so start left view from_there opened back opens.1 is_fresh view_is back_is same

  stores_some : (n : ℕ) → 1 ≤ n → IsSettled start (sums 1 n 0) left → StoresUse n (state_of start) from_there back
  stores_some n some settled =
      let made = (one_given start n settled.entries left some settled.after settled.all).reservation in
      stored start left view from_there opened back opens.1 is_fresh view_is back_is n made.0 made.3

  tries_some : (n : ℕ) → 1 ≤ n → IsSettled start (sums 1 0 n) left → TriesUse n (state_of start) from_there back
  tries_some n some settled =
      let made = (one_burnt start n settled.entries left some settled.after settled.all).reservation in
      tried start left view from_there opened back opens.1 is_fresh view_is back_is n made.0 made.4

  stores_all : (n : ℕ) (sum : Sums) → 1 ≤ n → sum ≡ plus (sums 0 0 0) (sums (min 1 n) n 0) → IsSettled start sum left
      → StoresUse n (state_of start) from_there back
  stores_all zero sum some is settled = absurd (omega (arith, some))
  stores_all (suc n) sum some is settled =
      stores_some (suc n) some (subst (λ (s : Sums). IsSettled start s left) (is ∙ from_some n) settled)

  -- and the witness was written, of no jobs it was not
  uses_all : (n : ℕ) (sum : Sums) (new : WorldCalls) → sum ≡ plus (sums 0 0 0) (sums (min 1 n) n 0)
      → IsSettled start sum left → new ≡ notes n watch start.key.i start.base (Ok tt) ++ back
      → UsesAll n (state_of start) old new
  uses_all zero sum new is settled noted = (
    by,
    subst (λ (log : WorldCalls). LeavesState (state_of start) from_there log) (sym noted) (leaves_none sum is settled),
  )
  uses_all (suc n) sum new is settled noted =
      (by, back, stores_all (suc n) sum (omega arith) is settled, noted)

  pub log_batch : (input rest : Option (List ℕ)) (signed : SignedJobs) (new : WorldCalls)
      → IsSignedByBook start input rest signed left
      → new ≡ notes signed.asked watch start.key.i start.base (Ok tt) ++ back
      → (signs : LogsBatch input rest signed.batch old new) × (signs.state ≡ state_of start)
      × (signed.asked ≡ length signs.jobs)
  log_batch input rest signed new (sum, (is, asked), settled) noted = (
    record {
      state = state_of start;
      jobs = is.jobs;
      read = is.read;
      uses = uses_all (length is.jobs) sum new is.counted settled
          (subst (λ (n : ℕ). new ≡ notes n watch start.key.i start.base (Ok tt) ++ back) asked noted);
      answer = is.answer;
      next = λ some. starts_at start (length is.jobs) signed.batch (is.reserved some) ∙ is_fresh.used;
    },
    refl,
    asked,
  )

  -- the witness was not written
  pub log_unnoted : (input rest : Option (List ℕ)) (signed : SignedJobs) (fault : Fault) (new : WorldCalls)
      → IsSignedByBook start input rest signed left
      → FailsToNote signed.asked watch start.key.i start.base fault back new
      → LogsJobsUnsigned input rest fault (state_of start) old new
  log_unnoted input rest signed fault new (sum, (is, asked), settled) fails =
      let failed = subst (λ (n : ℕ). FailsToNote n watch start.key.i start.base fault back new) asked fails in
      let some = notes_some_only (length is.jobs) watch start.key.i start.base fault back new failed in
      inr (
        is.jobs,
        is.read,
        some,
        inr (by, inr (back, stores_all (length is.jobs) sum some is.counted settled, failed)),
      )

  log_lines : (input rest : Option (List ℕ)) (fault : LinesFault) (sum : Sums)
      → IsUnsigned (at_one_desk start) input rest (sums 0 0 0) sum fault
      → IsSettled start sum left → LogsJobsUnsigned input rest (of_lines fault) (state_of start) old back
  log_lines input rest (lines.Jobs jobs.Read) sum is settled = inl (inl (inl refl), (by, leaves_none sum is.1 settled))
  log_lines input rest (lines.Jobs (jobs.BadJob line)) sum is settled =
      inl (inr (inl (line, refl, is.0)), (by, leaves_none sum is.1 settled))
  log_lines input rest (lines.Jobs jobs.TooManyJobs) sum is settled =
      inl (inr (inr (refl, is.0)), (by, leaves_none sum is.1 settled))
  log_lines input rest (lines.Jobs jobs.OutOfMemory) sum is settled =
      inl (inl (inr refl), (by, leaves_none sum is.1 settled))
  log_lines input rest (lines.Batch unsigned.TooMany) sum is settled = absurd (is.few refl)
  log_lines input rest (lines.Batch (unsigned.Book (book.Exhausted count))) sum is settled =
      let (full, count_is, same) = (refused_so start (length is.jobs) (book.Exhausted count) is.reserved).1 in
      let left_is : count ≡ capacity start - start.base = omega (arith, count_is, is_fresh.used) in
      inr (
        is.jobs,
        is.read,
        is.some,
        inl (
          by,
          inl (
            ap (λ (n : ℕ). Exhausted n) left_is,
            omega (arith, full, is_fresh.used),
            leaves_none sum is.counted settled,
          ),
        ),
      )
  log_lines input rest (lines.Batch (unsigned.Book book.OutOfMemory)) sum is settled =
      inl (inl (inr refl), (by, leaves_none sum is.counted settled))
  log_lines input rest (lines.Batch (unsigned.Book (book.Store first len))) sum is settled =
      let n = length is.jobs in
      let refused = (refused_so start n (book.Store first len) is.reserved).1 in
      let tries = tries_some n is.some
      (subst (λ (s : Sums). IsSettled start s left) (is.counted.1 ∙ from_none _) settled) in
      let at = ap₂ (λ (a b : ℕ). WriteStateBurnt a b) (refused.1 ∙ is_fresh.used) is.counted.0 in
      inr (is.jobs, is.read, is.some, inr (by, inl (inl (at, tries))))
  log_lines input rest (lines.Batch (unsigned.OutOfMemory burnt)) sum is settled =
      let n = length is.jobs in
      let stores = stores_some n is.some
      (subst (λ (s : Sums). IsSettled start s left) (is.counted.1 ∙ from_none _) settled) in
      inr (is.jobs, is.read, is.some, inr (by, inl (inr (ap (λ (m : ℕ). OutOfMemoryBurnt m) is.counted.0, stores))))
  log_lines input rest lines.Write sum is settled = absurd is

  pub log_refused : (input rest : Option (List ℕ)) (fault : Fault) (new : WorldCalls)
      → IsRefusedBy start input rest fault left → new ≡ back
      → LogsJobsUnsigned input rest fault (state_of start) old new
  log_refused input rest fault new (sum, (lines, same, is), settled) calls =
      subst (λ (log : WorldCalls). LogsJobsUnsigned input rest fault (state_of start) old log) (sym calls)
      (subst (λ (f : Fault). LogsJobsUnsigned input rest f (state_of start) old back) (sym same)
      (log_lines input rest lines sum is settled))

-- what the jobs use is within the key's capacity
pub uses_some : (start left : BookState) → IsJustOpened start → (input rest : Option (List ℕ)) (signed : SignedJobs)
    → IsSignedByBook start input rest signed left → 1 ≤ signed.asked → start.base + signed.asked ≤ capacity start
uses_some start left is_fresh input rest signed (sum, (is, asked), settled) some =
    go (length is.jobs) is.counted (subst (λ (n : ℕ). 1 ≤ n) asked some) asked
  where
    go : (n : ℕ) → sum ≡ plus (sums 0 0 0) (sums (min 1 n) n 0) → 1 ≤ n → signed.asked ≡ n
        → start.base + signed.asked ≤ capacity start
    go zero counted some all = absurd (omega (arith, some))
    go (suc n) counted some all =
        let given = (one_given start (suc n) settled.entries left some settled.after
        ((settled.all ∙ counted) ∙ from_some n)).reservation in
        omega (arith, given.0, is_fresh.used, all)

-- the only desk of a shared book counts all that was reserved
pub settled_one : (start book left : BookState) (desks : List Sums) (counted : Sums) → book ≡ start
    → desks ≡ counted ∷ [] → IsSettled book (total desks) left
    → IsSettled start counted left
settled_one start book left desks counted same is settled =
    subst (λ (s : Sums). IsSettled start s left) (ap total is ∙ total_one counted)
    (subst (λ (b : BookState). IsSettled b (total desks) left) same settled)

-- what a list of one desk is once its slice was lent
pub lent_one : (len : ℕ) (items lent : List Sums) (first counted : Sums) → len ≡ 1 → items ≡ first ∷ []
    → lent ≡ counted ∷ []
    → take len (lent ++ drop (length lent) items) ≡ counted ∷ []
lent_one len items lent first counted one was is =
    ap (λ (n : ℕ). take n (lent ++ drop (length lent) items)) one
    ∙ ap (λ (ds : List Sums). take 1 (ds ++ drop (length ds) items)) is
    ∙ ap (λ (ds : List Sums). take 1 (counted ∷ drop 1 ds)) was

-- of an input of which nothing is said
pub says_nothing : (input : Option (List ℕ)) → IfSome input (λ text. Unit {0})
says_nothing None = tt
says_nothing (Some text) = tt

-- the calls of a batch whose lines are not all printed
pub log_unprinted : (input rest : Option (List ℕ)) (before printed : List ℕ) (signed : SignedJobs)
    (old new : WorldCalls)
    (answers : AnswersJobs input rest before signed.batch old new) → signed.asked ≡ length answers.signs.jobs
    → (fault : Fault)
    → IsUnprinted signed.batch signed.asked (Some before) (Some printed) fault
    → LogsUnprinted input rest before printed fault old new
log_unprinted input rest before printed signed old new answers asked fault (inl (at, differ, lines)) =
    inl (signatures_in signed.batch, signed.asked, at, differ, (signed.batch, answers, refl, asked, lines))
log_unprinted input rest before printed signed old new answers asked fault (inr (at, lines)) =
    inr (at, (signed.batch, answers, lines))
