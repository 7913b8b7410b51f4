-- What a seat keeps, and what stands for its calls.
use Rattle.std.specs.Prelude.{◌≡◌, ℕ, ◌-◌, [], ◌∷◌, Some, Ok, Err, Result}
use Rattle.std.specs.List.{range_with_len}
use Rattle.atomic_table.specs.Seated.{TableId}
use Rattle.lms_pool.specs.declared.call_log.Reply.{Reply}
use Rattle.lms_pool.specs.declared.call_log.Reply.TheVariants.{Place, Ended}
use Rattle.lms_pool.specs.Rule.{hand, new_hands}
use Rattle.lms_pool.specs.States.{PoolState, IsSeatOf}
use Rattle.lms_cell_pool.specs.Rule.{View, hand_in, known}

-- what a seat keeps: its token has its hand alone
pub record IsCellSeat (pool : PoolState) (number stopped : ℕ) (table : TableId)
    (view : View) : Type 0 where
  pub of_pool : IsSeatOf pool number stopped table (hand_in view).log
  pub alone : view ≡ Some (known pool.seats (hand number pool.len (hand_in view).log ∷ []))

-- a token that stands for the seats from a number on, none of which has made a call
abbrev pub IsRest : PoolState → ℕ → TableId → View → Type 0
IsRest pool number table view =
    (table ≡ pool.table)
    × (view
    ≡ Some
    (known pool.seats (new_hands pool.len (range_with_len number (pool.seats - number)))))

-- the reply that a claimed place, or none, stands for
abbrev pub place_reply : {E : Type 0} → Result ℕ E → Reply
place_reply (Ok place) = Place place
place_reply (Err e) = Ended
