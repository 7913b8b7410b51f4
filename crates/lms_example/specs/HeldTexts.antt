-- The bytes of a state in memory, and those before them.
use Rattle.std.specs.Prelude.{ℕ, List, [], ◌∷◌, ◌++◌, Option, Some, None}
use Rattle.lms_book.specs.Stops.{Texts, StoreView, only}

pub record HeldTexts : Type 0 where
  pub text : Option (List ℕ)
  -- what was held before each write, the last write first
  pub past : List (Option (List ℕ))
  -- what the last read gave, none before one
  pub given : Option (List ℕ)
  pub failures : ℕ

-- a crash leaves the bytes that are held, and none where there are none
abbrev pub held : Option (List ℕ) → Texts
held None = Some []
held (Some text) = only text

-- what a crash left before each write, the first write first
abbrev pub held_before : List (Option (List ℕ)) → List Texts
held_before [] = []
held_before (last ∷ earlier) = held_before earlier ++ held last ∷ []

-- what contracts see of it, as of any store
abbrev pub view_of : HeldTexts → StoreView
view_of store =
    record {
      now = held store.text;
      past = held_before store.past;
      given = store.given;
      failures = store.failures;
    }

-- other bytes are held, and those before recorded
abbrev pub holding : HeldTexts → List ℕ → HeldTexts
holding store text = record store { text = Some text; past = store.text ∷ store.past }
