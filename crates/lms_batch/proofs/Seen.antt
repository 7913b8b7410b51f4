-- What a seat has seen taken after a call.
use Rattle.std.proofs.Common.{◌≡◌, ℕ, ◌+◌, ◌≤◌, List, [], ◌∷◌, ◌++◌, sym, ap, ◌∙◌, subst, arith}
use native.Mathlib.Decide.{dec_lt}
use mathlib.Core.Logic.{dite}
use Rattle.lms_pool.specs.declared.call_log.Call.{Call}
use Rattle.lms_pool.specs.declared.call_log.Call.TheVariants.{Claim, Stop}
use Rattle.lms_pool.specs.declared.call_log.Reply.{Reply}
use Rattle.lms_pool.specs.declared.call_log.Reply.TheVariants.{Place, Ended}
use Rattle.lms_pool.specs.declared.call_log.LoggedCall.{LoggedCall}
use Rattle.lms_pool.specs.CallLog.{turn, state_after, logged_call, taken, IsLegal, IsLegalFrom, Extends}
use Rattle.lms_pool.specs.States.{PoolState, SeatState, Calls, seen}
use Rattle.lms_pool.proofs.CallLogs.{claim_next, claim_end, taken_more, taken_within, state-append}

-- the last reply of a legal call log
last_legal : (len n : ℕ) (xs : List LoggedCall) (e : LoggedCall) → IsLegalFrom len n (xs ++ e ∷ [])
    → e.reply ≡ (turn len (state_after len n xs) e.call).0
last_legal len n [] e l = l.0
last_legal len n (x ∷ xs) e l = last_legal len (turn len n x.call).1 xs e l.1

place_taken : (len n p : ℕ) → Place p ≡ (turn len n Claim).0 → (turn len n Claim).1 ≡ n + 1
place_taken len n p e = dite (dec_lt n len)
    (λ l. ap (λ (t : Reply × ℕ). t.1) (claim_next len n l))
    (λ g. let r : Place p ≡ Ended = e ∙ ap (λ (t : Reply × ℕ). t.0) (claim_end len n (omega arith)) in absurd (cc))

call_from : (len : ℕ) (e : LoggedCall) (old new : List LoggedCall) → Extends len old e new
    → taken len old ≤ taken len new
call_from len e old new ext =
    omega (arith, ap (taken len) ext.1.1, taken_more len old ext.1.0, taken_more len (old ++ ext.1.0) (e ∷ []))

claim_from : (len x p : ℕ) (old new : List LoggedCall) → Extends len old (logged_call x Claim (Place p)) new
    → taken len old + 1 ≤ taken len new
claim_from len x p old new ext =
    let whole = subst (IsLegal len) ext.1.1 ext.0 in
    let before : List LoggedCall = old ++ ext.1.0 in
    let e : LoggedCall = logged_call x Claim (Place p) in
    let one = place_taken len (taken len before) p (last_legal len 0 before e whole) in
    omega (arith, one, ap (taken len) ext.1.1, state-append len 0 before (e ∷ []), taken_more len old ext.1.0)

stop_from : (len x : ℕ) (reply : Reply) (old new : List LoggedCall) → Extends len old (logged_call x Stop reply) new
    → taken len new ≡ len
stop_from len x reply old new ext =
    ap (taken len) ext.1.1 ∙ state-append len 0 (old ++ ext.1.0) (logged_call x Stop reply ∷ [])

-- no call forgets
pub sees_more : (call : Call) (reply : Reply) (old new : SeatState) → Calls old call reply new → seen old ≤ seen new
sees_more call reply old new calls =
    subst (λ (p : PoolState). seen old ≤ taken p.len new.log) (sym calls.0)
    (call_from old.pool.len (logged_call old.number call reply) old.log new.log calls.2)

-- a claim that got a place has seen one more taken
pub claim_sees : (place : ℕ) (old new : SeatState) → Calls old Claim (Place place) new → seen old + 1 ≤ seen new
claim_sees place old new calls =
    subst (λ (p : PoolState). seen old + 1 ≤ taken p.len new.log) (sym calls.0)
    (claim_from old.pool.len old.number place old.log new.log calls.2)

-- a stop has seen the end
pub stop_sees : (pool : PoolState) (reply : Reply) (old new : SeatState) → Calls old Stop reply new → new.pool ≡ pool
    → seen new ≡ pool.len
stop_sees pool reply old new calls same =
    subst (λ (p : PoolState). taken p.len new.log ≡ p.len) (sym calls.0)
    (stop_from old.pool.len old.number reply old.log new.log calls.2)
    ∙ ap (λ (p : PoolState). p.len) same

-- nobody sees more places taken than there are
pub sees_within : (seat : SeatState) → seen seat ≤ seat.pool.len
sees_within seat = taken_within seat.pool.len seat.log
