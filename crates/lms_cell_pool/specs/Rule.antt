-- The rule of a pool's cell and of the views of its tokens, and what each step answers.
use Rattle.std.specs.Prelude.{◌≡◌, ◌⊎◌, ℕ, ◌≤◌, ◌<◌, List, [], ◌∷◌, ◌++◌, length, map, Option, None, Some}
use mathlib.Core.Option.{some}
use lib.ListN.{get_elem?}
use Rattle.lms_spec.specs.Bytes.{below}
use Rattle.lms_pool.specs.declared.call_log.Call.{Call}
use Rattle.lms_pool.specs.declared.call_log.Call.TheVariants.{Look}
use Rattle.lms_pool.specs.declared.call_log.Hand.{Hand}
use Rattle.lms_pool.specs.Rule.{View as Hands, Agree, Makes, first_hand, new_hands, other_hands, reply_at, the_hand}
use Rattle.lms_cell_pool.specs.declared.rule.Known.{Known}
use Rattle.lms_cell_pool.specs.declared.rule.Places.{Places}

-- what a token knows
abbrev pub View : Type 0
View = Option Known

abbrev pub known : ℕ → Hands → Known
known seats hands = record { seats = seats; hands = hands }

abbrev pub hands_in : View → Hands
hands_in None = []
hands_in (Some v) = v.hands

abbrev pub seats_in : View → ℕ
seats_in None = 0
seats_in (Some v) = v.seats

abbrev pub hand_in : View → Hand
hand_in v = the_hand (hands_in v)

abbrev pub first_view : View → View
first_view v = Some (known (seats_in v) (first_hand (hands_in v)))

abbrev pub other_views : View → View
other_views v = Some (known (seats_in v) (other_hands (hands_in v)))

-- a view that knows of no seat
abbrev pub nobody : View
nobody = Some (known 0 [])

-- what is left where a token gave all its hands away
abbrev pub handed_over : View → View
handed_over v = nobody

abbrev pub together : View → View → View
together v w = Some (known (seats_in v) (hands_in w ++ hands_in v))

-- of a filled cell: each token knows something, one that has a hand knows how many seats there are,
-- and the count and all hands agree. As in the rule of `lms_pool`, the count may pass the length,
-- so that both pools share their lemmas. No step of this pool does that, but `look` and `finish`
-- allow for it
pub record Filled (x : Places) (views : List View) : Type 0 where
  pub knows : (id : ℕ) (v : View) → get_elem? views id ≡ some v
      → v ≡ Some (known (seats_in v) (hands_in v))
  pub count_known : (id : ℕ) (v : View) → get_elem? views id ≡ some v → 0 < length (hands_in v)
      → seats_in v ≡ x.seats
  pub agree : Agree x.len x.seats x.taken (map hands_in views)

-- until it is filled, there is one token, which knows nothing
abbrev pub CellKept : Places → List View → Type 0
CellKept x views = (views ≡ None ∷ []) ⊎ Filled x views

-- what a step tells a token that has one hand
abbrev pub SeatTells : (Hand → Hand → Type 0) → View → View → Type 0
SeatTells P v w =
    (n : ℕ) (h : Hand) → v ≡ Some (known n (h ∷ [])) → (k : Hand) × (w ≡ Some (known n (k ∷ [])))
    × P h k

-- a call took effect when the cell held x
abbrev pub MakesAt : Call → Places → Hand → Hand → Type 0
MakesAt call x h k = Makes call (reply_at h.len x.taken call) h k

-- the fill gives its token the hands of all seats. Here and below, v and w are what a token knows
-- before and after a step, and x and y what the cell holds
abbrev pub filled : View → Places → Places → View → Type 0
filled v x y w = w ≡ Some (known y.seats (new_hands y.len (below y.seats)))

abbrev pub called_look : View → Places → Places → View → Type 0
called_look v x y w = SeatTells (MakesAt Look x) v w

-- the load of a claim or of a stop: where a place is left the hand stays, and where none is the
-- call took effect
abbrev pub peeked : Call → View → Places → Places → View → Type 0
peeked call v x y w =
    SeatTells (λ h k. (x.taken < h.len → k ≡ h) × (h.len ≤ x.taken → MakesAt call x h k)) v w

-- an exchange: where the cell kept its value the hand stays, and where more are taken after it the
-- call took effect
abbrev pub changed : Call → View → Places → Places → View → Type 0
changed call v x y w =
    SeatTells (λ h k. (y ≡ x → k ≡ h) × (x.taken < y.taken → MakesAt call x h k)) v w

-- after the last load the rule is known to have held, with this token's view among the views
abbrev pub found : View → Places → Places → View → Type 0
found v x y w = (views : List View) × (id : ℕ) × (get_elem? views id ≡ some v) × CellKept x views
