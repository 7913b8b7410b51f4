-- What the seats of a pool know together at its end.
use Rattle.std.proofs.Common.{◌≡◌, ℕ, ◌≤◌, ◌<◌, List, [], ◌∷◌, ◌++◌, length, map, All, Some, sym, ap, ◌∙◌, subst, arith}
use Rattle.std.proofs.Common.{length-append}
use Rattle.std.proofs.lemmas.List.Elements.{All-head}
use mathlib.Core.Option.{some}
use Rattle.atomic_table.proofs.Lists.{at_map}
use Rattle.lms_pool.specs.declared.call_log.LoggedCall.{LoggedCall}
use Rattle.lms_pool.specs.Rule.{Fits}
use Rattle.lms_pool.specs.States.{PoolState, SeatState}
use Rattle.lms_pool.proofs.Wholes.{Whole, hand_of, hands_length, hands_of, nothing_before, whole}
use Rattle.lms_cell_pool.specs.declared.rule.Places.{Places}
use Rattle.lms_cell_pool.specs.Rule.{View, found, hands_in, known, seats_in}
use Rattle.lms_cell_pool.proofs.Steps.{is_filled}

-- what the token of a seat knows that has its hand alone
abbrev pub own_view : PoolState → SeatState → View
own_view pool seat = Some (known pool.seats (hand_of seat ∷ []))

-- the length that the hands of a pool's seats know
length_known : (len : ℕ) (log : List LoggedCall) (pool : PoolState) (seats : List SeatState) → 0 < length seats
    → All (Fits len log) (hands_of seats)
    → All (λ (s : SeatState). s.pool ≡ pool) seats → len ≡ pool.len
length_known len log pool [] full fits own = absurd (omega arith)
length_known len log pool (s ∷ ss) full fits own =
    sym (All-head (Fits len log) (hand_of s) (hands_of ss) fits).long
    ∙ ap (λ (p : PoolState). p.len) (All-head (λ (s : SeatState). s.pool ≡ pool) s ss own)

-- the call log that all seats know, as `finish` finds it
pub ending : (pool : PoolState) (x : Places) (v w : View) (here joined : List SeatState) → found v x x w
    → v ≡ Some (known pool.seats (hands_of joined))
    → pool.seats ≤ length (here ++ joined) → length here ≡ 0 → 1 ≤ pool.seats
    → All (λ (s : SeatState). s.pool ≡ pool) (here ++ joined) → Whole pool.len x.taken joined
ending pool x v w here joined end is many none one own =
    let views = end.0 in
    let id = end.1 in
    let F = is_filled x views id _ (end.2 ∙ ap some is) end.3 in
    let there = at_map hands_in views id v end.2 ∙ ap (λ (w : View). some (hands_in w)) is in
    let enough : pool.seats ≤ length joined = omega (arith, many, none, length-append here joined) in
    let hands : length (hands_in v) ≡ length joined = ap (λ (w : View). length (hands_in w)) is ∙ hands_length joined in
    let seats : pool.seats ≡ x.seats =
    sym (ap seats_in is) ∙ F.count_known id v end.2 (omega (arith, hands, enough, one)) in
    let r = whole x.len x.seats x.taken (map hands_in views) F.agree id joined there (omega (arith, seats, enough))
    (omega (arith, seats, one)) in
    let long = length_known x.len F.agree.log pool joined (omega (arith, enough, one))
    (F.agree.fits id (hands_of joined) there)
    (subst (All (λ (s : SeatState). s.pool ≡ pool)) (nothing_before here joined none) own) in
    subst (λ (len : ℕ). Whole len x.taken joined) long r
