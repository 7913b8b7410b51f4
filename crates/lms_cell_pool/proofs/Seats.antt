-- What a step asks of a seat, and what it leaves.
use Rattle.std.proofs.Common.{◌≡◌, ℕ, ◌+◌, ◌<◌, List, [], ◌∷◌, Some, Result, Ok, Err, refl, sym, ap, ◌∙◌, subst, arith}
use Rattle.std.specs.Result.{OnErr}
use Rattle.atomic_table.specs.Seated.{TableId}
use Rattle.crossbeam_utils.specs.Seq.{cell_view}
use Rattle.lms_pool.specs.declared.call_log.Call.{Call}
use Rattle.lms_pool.specs.declared.call_log.Reply.{Reply}
use Rattle.lms_pool.specs.declared.call_log.LoggedCall.{LoggedCall}
use Rattle.lms_pool.specs.declared.call_log.Hand.{Hand}
use Rattle.lms_pool.specs.CallLog.{logged_call, calls_of, stopped_by, stopped_in}
use Rattle.lms_pool.specs.Rule.{hand, Makes}
use Rattle.lms_pool.specs.States.{SeatState, IsSeatOf, Calls}
use Rattle.lms_pool.proofs.CallLogs.{stopped_after, stopped_within}
use Rattle.lms_cell_pool.specs.declared.rule.Places.{Places}
use Rattle.lms_cell_pool.specs.declared.seat.CellSeat.TheInside.{Inside}
use Rattle.lms_cell_pool.specs.Rule.{View, known, hand_in, peeked}
use Rattle.lms_cell_pool.specs.States.{IsCellSeat}

-- the seat of these fields is in order
abbrev pub IsWell : Inside → Type 0
IsWell me = IsCellSeat me.pool.value me.number me.stopped me.token.table_id (cell_view me.token)

-- what contracts see of it, once its token knows this
abbrev pub seat_with : Inside → View → SeatState
seat_with me w = record { pool = me.pool.value; number = me.number; log = (hand_in w).log }

-- its hand
abbrev pub own_hand : Inside → Hand
own_hand me = hand me.number me.pool.value.len (hand_in (cell_view me.token)).log

-- after a call with this reply the seat has made it, and is in order where it counts what it has to
pub record Called (me : Inside) (c : Call) (r : Reply) (w : View) : Type 0 where
  pub makes : (before : SeatState) → seat_with me (cell_view me.token) ≡ before → Calls before c r (seat_with me w)
  pub stays : (stopped : ℕ) (table : TableId) → table ≡ me.token.table_id → stopped ≡ me.stopped + stopped_by c r
      → IsCellSeat me.pool.value me.number stopped table w

module _ (me : Inside) (seat : IsWell me) where
  abbrev old_log : List LoggedCall
  old_log = (hand_in (cell_view me.token)).log

  -- its hand became this one by a call
  pub after_call : (c : Call) (r : Reply) (w : View) (k : Hand) → w ≡ Some (known me.pool.value.seats (k ∷ []))
      → Makes c r (own_hand me) k → Called me c r w
  after_call c r w k is m = subst (Called me c r) (sym is) (record {
    makes = λ before same. subst (λ (s : SeatState).
        Calls s c r (seat_with me (Some (known me.pool.value.seats (k ∷ []))))) same (refl, refl, m.2);
    stays = λ stopped table same adds.
        let counted : stopped ≡ stopped_in (calls_of me.number k.log) = omega (
          arith,
          adds,
          seat.of_pool.counted,
          stopped_after me.pool.value.len old_log (logged_call me.number c r) k.log m.2,
        ) in
        record {
          of_pool = record {
            below = seat.of_pool.below;
            table_is = same ∙ seat.of_pool.table_is;
            counted = counted;
            few = omega (arith, counted, stopped_within me.pool.value.len me.number k.log m.2.0);
          };
          alone = λ i. Some (known me.pool.value.seats (hand (m.0 i) (m.1 i) k.log ∷ []));
        };
  })

  -- the load of a call that found places left its hand
  pub still : (c : Call) (x : Places) (w : View) → peeked c (cell_view me.token) x x w → x.taken < me.pool.value.len
      → w ≡ Some (known me.pool.value.seats (own_hand me ∷ []))
  still c x w peek low =
      let t = peek me.pool.value.seats (own_hand me) seat.alone in
      t.1 ∙ ap (λ (h : Hand). Some (known me.pool.value.seats (h ∷ []))) (t.2.0 low)

  -- its hand stayed
  pub unchanged : (w : View) (k : Hand) (table : TableId) → w ≡ Some (known me.pool.value.seats (k ∷ []))
      → k ≡ own_hand me → table ≡ me.token.table_id
      → IsCellSeat me.pool.value me.number me.stopped table w × (seat_with me w ≡ seat_with me (cell_view me.token))
  unchanged w k table is same there =
      let stays : w ≡ cell_view me.token = is ∙ ap (λ (h : Hand). Some (known me.pool.value.seats (h ∷ []))) same
      ∙ sym seat.alone in
      let of_pool : IsSeatOf me.pool.value me.number me.stopped table old_log =
      record {
        below = seat.of_pool.below;
        table_is = there ∙ seat.of_pool.table_is;
        counted = seat.of_pool.counted;
        few = seat.of_pool.few;
      } in (
        subst (λ (v : View). IsCellSeat me.pool.value me.number me.stopped table v) (sym stays)
            (record { of_pool = of_pool; alone = seat.alone }),
        ap (seat_with me) stays,
      )

pub on_err : {A E P : Type 0} → (r : Result A E) → P → OnErr r P
on_err (Ok a) p = tt
on_err (Err e) p = p
