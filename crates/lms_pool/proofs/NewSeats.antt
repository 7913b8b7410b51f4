-- The seats of a pool, made one after another.
use Rattle.std.proofs.Common.{ℕ, ◌≡◌, ◌+◌, ◌<◌, List, [], ◌∷◌, ◌++◌, Ok, length, All, Vec, vec_capacity, vec_len}
use Rattle.std.proofs.Common.{refl, sym, ap, ◌∙◌, subst, arith}
use Rattle.std.specs.Global.{Global}
use Rattle.lms_spec.proofs.Below.{map-below-push, length-map-below, All-map-below}
use Rattle.lms_book.specs.States.{LeaseState}
use Rattle.lms_pool.specs.States.{IsOver, OpensLease, PoolState, SeatState, new_seat, new_seats}

-- a list has the seats below a number, and room for all
pub record AreBegun (pool : PoolState) (number : ℕ) (all : Vec SeatState Global) : Type 0 where
  pub room : vec_capacity all ≡ pool.seats
  pub seats : all.items ≡ new_seats pool number

module _ (pool : PoolState) (number : ℕ) (all : Vec SeatState Global) (begun : AreBegun pool number all) where
  count : vec_len all ≡ number
  count = all.ok.0 ∙ ap (length {A = SeatState}) begun.seats ∙ length-map-below (new_seat pool) number

  pub has_room : number < pool.seats → vec_len all < vec_capacity all
  has_room low = omega (arith, count, begun.room, low)

  -- the seat of this number comes next
  pub with_next : (next : Vec SeatState Global) (seat : SeatState) → seat ≡ new_seat pool number
      → vec_capacity next ≡ vec_capacity all → next.items ≡ all.items ++ seat ∷ [] → AreBegun pool (number + 1) next
  with_next next seat new room items = record {
    room = room ∙ begun.room;
    seats = items ∙ ap (λ (seats : List SeatState). seats ++ seat ∷ []) begun.seats
        ∙ ap (λ (s : SeatState). new_seats pool number ++ s ∷ []) new ∙ sym (map-below-push (new_seat pool) number);
  }

  abbrev OfPool : SeatState → Type 0
  OfPool seat = seat.pool ≡ pool

  -- all are made
  pub are_all : {E : Type 0} (lease : LeaseState) (seats : ℕ) → IsOver lease seats pool → number ≡ seats
      → OpensLease {E = E} lease seats (Ok (pool, all))
  are_all lease seats over end = record {
    pool = over;
    seats = begun.seats ∙ ap (new_seats pool) end;
    counted = count ∙ end;
    own = subst (All OfPool) (sym begun.seats) (All-map-below OfPool (new_seat pool) number (λ i. refl));
    err = tt;
  }
