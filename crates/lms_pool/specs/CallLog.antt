-- A pool of `len` places as one thread would use it, and its call logs. Its state n is how many
-- places are taken.
use Rattle.std.specs.Prelude.{◌≡◌, ℕ, ◌+◌, ◌-◌, List, [], ◌∷◌, ◌++◌, if◌then◌else◌, nat_lt, nat_eq}
use Rattle.std.specs.List.{filter, sum_by}
use Rattle.lms_pool.specs.declared.call_log.Call.{Call}
use Rattle.lms_pool.specs.declared.call_log.Call.TheVariants.{Claim, Look, Stop}
use Rattle.lms_pool.specs.declared.call_log.Reply.{Reply}
use Rattle.lms_pool.specs.declared.call_log.Reply.TheVariants.{Place, Ended, Count}
use Rattle.lms_pool.specs.declared.call_log.LoggedCall.{LoggedCall}

-- what a call answers in the state n, and the state after it
abbrev pub turn : ℕ → ℕ → Call → Reply × ℕ
turn len n Claim = if nat_lt n len then (Place n, n + 1) else (Ended, n)
turn len n Look = (Count n, n)
turn len n Stop = (Count (len - n), len)

-- from the state n on, each call has the reply that the pool gives it
abbrev pub IsLegalFrom : ℕ → ℕ → List LoggedCall → Type 0
IsLegalFrom len n [] = Unit {0}
IsLegalFrom len n (e ∷ es) =
    (e.reply ≡ (turn len n e.call).0) × IsLegalFrom len (turn len n e.call).1 es

abbrev pub IsLegal : ℕ → List LoggedCall → Type 0
IsLegal len log = IsLegalFrom len 0 log

-- the state after a call log that begins in the state n
abbrev pub state_after : ℕ → ℕ → List LoggedCall → ℕ
state_after len n [] = n
state_after len n (e ∷ es) = state_after len (turn len n e.call).1 es

-- how many places are taken after a call log
abbrev pub taken : ℕ → List LoggedCall → ℕ
taken len log = state_after len 0 log

abbrev pub logged_call : ℕ → Call → Reply → LoggedCall
logged_call seat call reply = record { seat = seat; call = call; reply = reply }

-- the calls of one seat
abbrev pub calls_of : ℕ → List LoggedCall → List LoggedCall
calls_of seat log = filter (λ e. nat_eq e.seat seat) log

abbrev pub StartsWith : List LoggedCall → List LoggedCall → Type 0
StartsWith log front = (rest : List LoggedCall) × (log ≡ front ++ rest)

-- the new log is legal, and is the old one, then calls of other seats, and then this call
abbrev pub Extends : ℕ → List LoggedCall → LoggedCall → List LoggedCall → Type 0
Extends len old e new =
    IsLegal len new
    × ((between : List LoggedCall) × (new ≡ (old ++ between) ++ e ∷ [])
    × (calls_of e.seat between ≡ []))

abbrev pub place_in : Reply → List ℕ
place_in (Place k) = k ∷ []
place_in Ended = []
place_in (Count k) = []

-- the places that were claimed, in the order of the call log
abbrev pub places_in : List LoggedCall → List ℕ
places_in [] = []
places_in (e ∷ es) = place_in e.reply ++ places_in es

abbrev pub count_in : Reply → ℕ
count_in (Place k) = 0
count_in Ended = 0
count_in (Count k) = k

-- how many places a call stopped
abbrev pub stopped_by : Call → Reply → ℕ
stopped_by Stop reply = count_in reply
stopped_by Claim reply = 0
stopped_by Look reply = 0

abbrev pub stopped_in : List LoggedCall → ℕ
stopped_in log = sum_by (λ e. stopped_by e.call e.reply) log
