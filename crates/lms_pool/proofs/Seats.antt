-- What a step asks of a seat, and what it leaves.
use Rattle.std.proofs.Common.{◌≡◌, ◌≢◌, ℕ, ◌+◌, ◌-◌, ◌≤◌, ◌<◌, min, Bool, true, false, nat_eq, List, [], ◌∷◌, ◌++◌}
use Rattle.std.proofs.Common.{refl, sym, ap, ◌∙◌, subst, arith}
use lib.Dec.{leb}
use Rattle.std.proofs.lemmas.Bool.Decides.{nat_tests}
use native.Mathlib.Decide.{dec_lt}
use mathlib.Core.Logic.{dite}
use Rattle.atomic_table.specs.Seated.{TableId}
use Rattle.atomic_table.specs.Table.{Allows}
use Rattle.lms_pool.specs.declared.call_log.Call.{Call}
use Rattle.lms_pool.specs.declared.call_log.Call.TheVariants.{Claim, Look, Stop}
use Rattle.lms_pool.specs.declared.call_log.Reply.{Reply}
use Rattle.lms_pool.specs.declared.call_log.Reply.TheVariants.{Place, Ended}
use Rattle.lms_pool.specs.declared.call_log.LoggedCall.{LoggedCall}
use Rattle.lms_pool.specs.declared.call_log.Hand.{Hand}
use Rattle.lms_pool.specs.declared.rule.Shape.{Shape}
use Rattle.lms_pool.specs.declared.seat.DrawSeat.TheInside.{Inside}
use Rattle.lms_pool.specs.CallLog.{turn, state_after, logged_call, taken, IsLegal, IsLegalFrom, Extends, calls_of}
use Rattle.lms_pool.specs.CallLog.{stopped_by, stopped_in}
use Rattle.lms_pool.specs.Rule.{Seated, counting_word, hand, the_hand, Makes, reply_at, took_effect}
use Rattle.lms_pool.specs.States.{PoolState, SeatState, IsPool, IsSeat, Calls, seen}
use Rattle.lms_pool.proofs.CallLogs.{claim_next, claim_end, taken_more, taken_within, state-append, stopped_after}
use Rattle.lms_pool.proofs.CallLogs.{stopped_within}
use Rattle.lms_pool.proofs.Steps.{Rule, one}

pub claim_place : (len n : ℕ) → n < len → reply_at len n Claim ≡ Place n
claim_place len n l =
    let e : min n len ≡ n = omega arith in
    ap (λ (k : ℕ). (turn len k Claim).0) e ∙ ap (λ (t : Reply × ℕ). t.0) (claim_next len n l)

pub claim_over : (len n : ℕ) → len ≤ n → reply_at len n Claim ≡ Ended
claim_over len n l = ap (λ (t : Reply × ℕ). t.0) (claim_end len (min n len) (omega arith))

-- the last reply of a legal call log
last_legal : (len n : ℕ) (xs : List LoggedCall) (e : LoggedCall) → IsLegalFrom len n (xs ++ e ∷ [])
    → e.reply ≡ (turn len (state_after len n xs) e.call).0
last_legal len n [] e l = l.0
last_legal len n (x ∷ xs) e l = last_legal len (turn len n x.call).1 xs e l.1

place_is : (len n p : ℕ) → Place p ≡ (turn len n Claim).0 → n ≡ p
place_is len n p e = dite (dec_lt n len)
    (λ l. let r : Place p ≡ Place n = e ∙ ap (λ (t : Reply × ℕ). t.0) (claim_next len n l) in cc)
    (λ g. let r : Place p ≡ Ended = e ∙ ap (λ (t : Reply × ℕ). t.0) (claim_end len n (omega arith)) in absurd (cc))

-- a claim's place is one that the seat had not seen taken
pub place_from : (len x p : ℕ) (old new : List LoggedCall) → Extends len old (logged_call x Claim (Place p)) new
    → taken len old ≤ p
place_from len x p old new ext =
    let whole = subst (IsLegal len) ext.1.1 ext.0 in
    let before : List LoggedCall = old ++ ext.1.0 in
    let r = place_is len (taken len before) p (last_legal len 0 before (logged_call x Claim (Place p)) whole) in
    omega (arith, r, taken_more len old ext.1.0)

end_is : (len n : ℕ) → Ended ≡ (turn len n Claim).0 → len ≤ n
end_is len n e = dite (dec_lt n len)
    (λ l. let r : Ended ≡ Place n = e ∙ ap (λ (t : Reply × ℕ). t.0) (claim_next len n l) in absurd (cc))
    (λ g. omega arith)

-- a claim ends only where no place is left
pub end_from : (len x : ℕ) (old new : List LoggedCall) → Extends len old (logged_call x Claim Ended) new
    → taken len new ≡ len
end_from len x old new ext =
    let whole = subst (IsLegal len) ext.1.1 ext.0 in
    let before : List LoggedCall = old ++ ext.1.0 in
    let e : LoggedCall = logged_call x Claim Ended in
    let over = end_is len (taken len before) (last_legal len 0 before e whole) in
    omega (
      arith,
      ap (taken len) ext.1.1,
      state-append len 0 before (e ∷ []),
      ap (λ (t : Reply × ℕ). t.1) (claim_end len (taken len before) over),
      over,
      taken_within len before,
    )

-- a seat that has seen the end gets no place
pub end_again : (len x : ℕ) (r : Reply) (old new : List LoggedCall) → taken len old ≡ len
    → Extends len old (logged_call x Claim r) new → r ≡ Ended
end_again len x r old new end ext =
    let whole = subst (IsLegal len) ext.1.1 ext.0 in
    let before : List LoggedCall = old ++ ext.1.0 in
    let over : len ≤ taken len before = omega (arith, end, taken_more len old ext.1.0) in
    last_legal len 0 before (logged_call x Claim r) whole
    ∙ ap (λ (t : Reply × ℕ). t.0) (claim_end len (taken len before) over)

-- the reply of a call tells the state after it
state_shown : (len m n : ℕ) (c : Call) → m ≤ len → n ≤ len → (turn len m c).0 ≡ (turn len n c).0
    → (turn len m c).1 ≡ (turn len n c).1
state_shown len m n Claim k l e = ap (λ (n : ℕ). (turn len n Claim).1) same
  where
    same : m ≡ n
    same = dite (dec_lt n len)
        (λ l. place_is len m n (sym (e ∙ ap (λ (t : Reply × ℕ). t.0) (claim_next len n l))))
        (λ g. let over = end_is len m (sym (e ∙ ap (λ (t : Reply × ℕ). t.0) (claim_end len n (omega arith)))) in
        omega (arith, over, k, l))
state_shown len m n Look k l e = let same : m ≡ n = cc in same
state_shown len m n Stop k l e = refl

-- what is taken after a call that found this word
taken_after : (len x n : ℕ) (c : Call) (old new : List LoggedCall)
    → Extends len old (logged_call x c (reply_at len n c)) new → taken len new ≡ (turn len (min n len) c).1
taken_after len x n c old new ext =
    let whole = subst (IsLegal len) ext.1.1 ext.0 in
    let before : List LoggedCall = old ++ ext.1.0 in
    let e : LoggedCall = logged_call x c (reply_at len n c) in
    ap (taken len) ext.1.1
    ∙ state-append len 0 before (e ∷ [])
    ∙ state_shown len (taken len before) (min n len) c (taken_within len before) (omega arith)
    (sym (last_legal len 0 before e whole))

-- the seat of these fields is in order
abbrev pub IsWell : Inside → Type 0
IsWell me = IsSeat me.pool.value me.number me.stopped me.has_seen_end me.seat.table_id me.seat.me

-- what contracts see of it, once its token is another
abbrev pub seat_with : Inside → Seated → SeatState
seat_with me w = record { pool = me.pool.value; number = me.number; log = (the_hand w.0).log }

-- the hand of its token, in a pool of so many places
abbrev pub own_hand : Inside → ℕ → Hand
own_hand me len = hand me.number len (the_hand me.seat.me.0).log

-- what a step on the word asks of a seat's token
abbrev pub Asks : PoolState → Shape → Inside → (ℕ → ℕ) → (Seated → ℕ → Seated → Type 0) → Type 0
Asks pool shape me f then =
    (me.seat.table_id ≡ pool.table) × (counting_word < pool.table.words)
    × Allows (Rule shape.len shape.seats) pool.table.slots me.seat.id me.seat.me counting_word f (then me.seat.me)

-- a step that the hand of a seat allows is allowed at the seat
pub asks : (me : Inside) (pool : PoolState) (shape : Shape) (f : ℕ → ℕ) (then : Seated → ℕ → Seated → Type 0)
    → me.pool.value ≡ pool → IsPool pool.table shape pool.key pool.start pool.len pool.seats → IsWell me
    → Allows (Rule pool.len pool.seats) pool.table.slots me.seat.id (one (own_hand me pool.len)) counting_word f
    (then (one (own_hand me pool.len)))
    → Asks pool shape me f then
asks me pool shape f then same is seat allowed =
    let at = seat.alone ∙ (λ i. one (own_hand me (same i).len)) in (
      seat.of_pool.table_is ∙ ap (λ (p : PoolState). p.table) same,
      omega (arith, is.words),
      subst (λ (p : Shape × Seated).
          Allows (Rule p.0.len p.0.seats) pool.table.slots me.seat.id p.1 counting_word f (then p.1))
          (λ i. (sym is.shape_is i, sym at i)) allowed,
    )

-- an addition that found the last place, or none, saw the end
pub claim_step_ends : (len n : ℕ) → 1 ≤ len → len - 1 ≤ n → true ≡ nat_eq (turn len (min n len) Claim).1 len
claim_step_ends len n some le = dite (dec_lt n len)
    (λ l. let t : true ≡ nat_eq (min n len + 1) len = grind (arith, nat_tests) in
    t ∙ ap (λ (t : Reply × ℕ). nat_eq t.1 len) (sym (claim_next len (min n len) (omega arith))))
    (λ g. let t : true ≡ nat_eq (min n len) len = grind (arith, nat_tests) in
    t ∙ ap (λ (t : Reply × ℕ). nat_eq t.1 len) (sym (claim_end len (min n len) (omega arith))))

-- another one did not
pub claim_step_leaves : (len n : ℕ) → n < len - 1 → false ≡ nat_eq (turn len (min n len) Claim).1 len
claim_step_leaves len n l =
    let t : false ≡ nat_eq (min n len + 1) len = grind (arith, nat_tests) in
    t ∙ ap (λ (t : Reply × ℕ). nat_eq t.1 len) (sym (claim_next len (min n len) (omega arith)))

pub look_ends : (len n : ℕ) → leb len n ≡ nat_eq (min n len) len
look_ends len n = by_test (leb len n) refl
  where
    by_test : (b : Bool) → leb len n ≡ b → b ≡ nat_eq (min n len) len
    by_test true e = grind (arith, nat_tests)
    by_test false e = grind (arith, nat_tests)

pub is_len : (len : ℕ) → true ≡ nat_eq len len
is_len len = grind (arith, nat_tests)

-- what a call leaves of a seat's view
record Left (len number : ℕ) (old : List LoggedCall) (c : Call) (r : Reply) (w : Seated) : Type 0 where
  pub alone : w ≡ one (hand number len (the_hand w.0).log)
  pub log : Extends len old (logged_call number c r) (the_hand w.0).log

left_by : (len number : ℕ) (old : List LoggedCall) (c : Call) (r : Reply) (w : Seated) (k : Hand) → w ≡ one k
    → Makes c r (hand number len old) k → Left len number old c r w
left_by len number old c r w k e m =
    subst (Left len number old c r) (sym e) (record { alone = λ i. one (hand (m.0 i) (m.1 i) k.log); log = m.2 })

-- after a call with this reply, which found this word, the seat has made it, and is in order where
-- it counts and tells what it has to
pub record Called (me : Inside) (c : Call) (r : Reply) (n : ℕ) (w : Seated) : Type 0 where
  pub makes : (before : SeatState) → seat_with me me.seat.me ≡ before → Calls before c r (seat_with me w)
  pub stays : (stopped : ℕ) (has_seen_end : Bool) (table : TableId) → table ≡ me.seat.table_id
      → stopped ≡ me.stopped + stopped_by c r
      → has_seen_end ≡ nat_eq (turn me.pool.value.len (min n me.pool.value.len) c).1 me.pool.value.len
      → IsSeat me.pool.value me.number stopped has_seen_end table w

module _ (me : Inside) (seat : IsWell me) where
  abbrev old_log : List LoggedCall
  old_log = (the_hand me.seat.me.0).log

  -- a step that is a call's
  pub after_call : (c : Call) (r : Reply) (n : ℕ) (w : Seated) → took_effect c me.seat.me n w
      → reply_at me.pool.value.len n c ≡ r → Called me c r n w
  after_call c r n w step is =
      let len = me.pool.value.len in
      let new = (the_hand w.0).log in
      let t = step (own_hand me len) seat.alone in
      let found = left_by len me.number old_log c (reply_at len n c) w t.0 t.1 t.2 in
      let left = subst (λ (r : Reply). Left len me.number old_log c r w) is found in
      record {
        makes = λ before is. subst (λ (s : SeatState). Calls s c r (seat_with me w)) is (refl, refl, left.log);
        stays = λ stopped has_seen_end table same adds sees.
            let counted : stopped ≡ stopped_in (calls_of me.number new) = omega (
              arith,
              adds,
              seat.of_pool.counted,
              stopped_after len old_log (logged_call me.number c r) new left.log,
            ) in
            record {
              of_pool = record {
                below = seat.of_pool.below;
                table_is = same ∙ seat.of_pool.table_is;
                counted = counted;
                few = omega (arith, counted, stopped_within len me.number new left.log.0);
              };
              alone = left.alone;
              end = sees ∙ ap (λ (k : ℕ). nat_eq k len) (sym (taken_after len me.number n c old_log new found.log));
            };
      }

  -- whether the seat has seen the end
  pub has_ended : me.has_seen_end ≡ true → taken me.pool.value.len old_log ≡ me.pool.value.len
  has_ended e =
      let t : nat_eq (taken me.pool.value.len old_log) me.pool.value.len ≡ true = sym seat.end ∙ e in
      grind (arith, nat_tests)

  pub has_places : me.has_seen_end ≡ false → taken me.pool.value.len old_log < me.pool.value.len
  has_places e =
      let t : nat_eq (taken me.pool.value.len old_log) me.pool.value.len ≡ false = sym seat.end ∙ e in
      let apart : taken me.pool.value.len old_log ≢ me.pool.value.len = grind (arith, nat_tests) in
      omega (arith, taken_within me.pool.value.len old_log, apart)

  pub not_ended : taken me.pool.value.len old_log < me.pool.value.len → me.has_seen_end ≡ false
  not_ended l =
      let t : nat_eq (taken me.pool.value.len old_log) me.pool.value.len ≡ false = grind (arith, nat_tests) in
      seat.end ∙ t

  -- the load of a claim finds no place, and the seat has seen the end as before
  pub after_load : (n : ℕ) (w : Seated) → took_effect Claim me.seat.me n w
      → taken me.pool.value.len old_log ≡ me.pool.value.len
      → (reply_at me.pool.value.len n Claim ≡ Ended)
      × (me.has_seen_end ≡ nat_eq (turn me.pool.value.len (min n me.pool.value.len) Claim).1 me.pool.value.len)
  after_load n w step end =
      let len = me.pool.value.len in
      let t = step (own_hand me len) seat.alone in
      let none = end_again len me.number (reply_at len n Claim) old_log t.0.log end t.2.2 in
      let over : len ≤ min n len = end_is len (min n len) (sym none) in (
        none,
        seat.end ∙ ap (λ (k : ℕ). nat_eq k len)
            (omega (arith, end, over, ap (λ (t : Reply × ℕ). t.1) (claim_end len (min n len) over))),
      )

-- the same of a seat
pub ended_seen : (pool : PoolState) (old new : SeatState) → old.pool ≡ pool → Calls old Claim Ended new
    → seen new ≡ pool.len
ended_seen pool old new same calls =
    ap (λ (p : PoolState). taken p.len new.log) calls.0 ∙ end_from old.pool.len old.number old.log new.log calls.2
    ∙ ap (λ (p : PoolState). p.len) same

pub place_seen : (place : ℕ) (old new : SeatState) → Calls old Claim (Place place) new → seen old ≤ place
place_seen place old new calls = place_from old.pool.len old.number place old.log new.log calls.2
