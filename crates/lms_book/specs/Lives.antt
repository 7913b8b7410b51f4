-- Openings of one store, one after another.
use Rattle.std.specs.Prelude.{◌≡◌, ℕ, ◌+◌, ◌<◌, ◌≤◌, List, [], ◌∷◌, ◌++◌, map, AllPairs, Contains}
use Rattle.lms_spec.specs.Hss.{capacity_of}
use Rattle.lms_hss.specs.Keys.{hss_key_of}
use Rattle.lms_hss.specs.declared.key.HssKey.{HssKey as KeyOfCode}
use Rattle.lms_book.specs.declared.history.Entry.{Entry}
use Rattle.lms_book.specs.declared.history.Entry.TheVariants.{Given, Burnt}
use Rattle.lms_image.specs.Image.{image_of, HasImage, IsImage}
use Rattle.lms_book.specs.History.{Range, end, counter_of, given_of, leases}
use Rattle.lms_book.specs.Stops.{Texts, IsAmong, only, or_else}

-- an opening: the byte strings of which the store held one, the key and the numbers that were read,
-- and the reservations
pub record Opening : Type 0 where
  pub held : Texts
  pub key : KeyOfCode
  pub base : ℕ
  pub openings : ℕ
  pub burnt : ℕ
  pub history : List Entry

abbrev pub opening_of : Texts → KeyOfCode → ℕ → ℕ → ℕ → List Entry → Opening
opening_of held key base openings burnt history =
    record {
      held = held;
      key = key;
      base = base;
      openings = openings;
      burnt = burnt;
      history =
          history;
    }

-- the number that an opening's images carry
abbrev pub number_in : Opening → ℕ
number_in opening = opening.openings + 1

-- the byte strings that a crash could leave after reservations of an opening with this number: a
-- Given entry leaves its image alone, a Burnt entry adds its image. Each image counts the indices
-- that were burnt before it was written.
abbrev pub texts_after : KeyOfCode → ℕ → ℕ → ℕ → List Entry → Texts → Texts
texts_after key number counter burnt [] texts = texts
texts_after key number counter burnt (Given len ∷ history) texts =
    texts_after key number (counter + len) burnt history
    (only (image_of key (counter + len) number burnt))
texts_after key number counter burnt (Burnt len ∷ history) texts =
    texts_after key number (counter + len) (burnt + len) history
    (or_else (image_of key (counter + len) number burnt) texts)

-- the byte strings that a crash after an opening could leave
abbrev pub texts_left : Opening → Texts
texts_left opening =
    texts_after opening.key
    (number_in opening) opening.base opening.burnt opening.history opening.held

-- one of the byte strings is an image of this key and these numbers, of either version
abbrev pub Finds : Texts → KeyOfCode → ℕ → ℕ → ℕ → Type 0
Finds texts key counter openings burnt =
    (text : List ℕ) × IsAmong texts text × IsImage text key counter openings burnt

-- one of the byte strings was read, an image, and no reservation went past the capacity
pub record IsOpening (opening : Opening) : Type 0 where
  pub counted : HasImage opening.key opening.base opening.openings opening.burnt
  pub found : Finds opening.held opening.key opening.base opening.openings opening.burnt
  pub within : counter_of opening.base opening.history ≤ capacity_of (hss_key_of opening.key)

-- what the next opening finds, if there is one, is among these byte strings
abbrev pub IsNext : Texts → List Opening → Type 0
IsNext texts [] = Unit {0}
IsNext texts (opening ∷ life) = (text : List ℕ) → IsAmong opening.held text → IsAmong texts text

-- each opening finds what the one before it may have left
abbrev pub IsLife : List Opening → Type 0
IsLife [] = Unit {0}
IsLife (opening ∷ life) = IsOpening opening × IsNext (texts_left opening) life × IsLife life

-- the leases of all openings, with their keys
abbrev pub all_leases : List Opening → List (KeyOfCode × Range)
all_leases [] = []
all_leases (opening ∷ life) =
    map (λ range. (opening.key, range)) (leases opening.base opening.history) ++ all_leases life

-- the second begins at or after the end of the first, if they are of one key
abbrev pub IsPast : KeyOfCode × Range → KeyOfCode × Range → Type 0
IsPast first second = first.0 ≡ second.0 → end first.1 ≤ second.1.start

-- in every life no two leases of one key overlap
abbrev pub LeasesNeverOverlap : Type 0
LeasesNeverOverlap = (life : List Opening) → IsLife life → AllPairs IsPast (all_leases life)

-- how many indices a life gave
abbrev pub given_in : List Opening → ℕ
given_in [] = 0
given_in (opening ∷ life) = given_of opening.history + given_in life

-- in every image that a life leaves, the indices that the life gave and those that the image counts
-- as burnt are at most those that it counts as used
abbrev pub ImagesCountAllUses : Type 0
ImagesCountAllUses =
    (life : List Opening) (last : Opening) → IsLife (life ++ last ∷ [])
    → (text : List ℕ) → IsAmong (texts_left last) text
    → (key : KeyOfCode) (counter openings burnt : ℕ) → HasImage key counter openings burnt
    → IsImage text key counter openings burnt
    → given_in (life ++ last ∷ []) + burnt ≤ counter

-- an opening gave a lease
abbrev pub GaveLease : Opening → Type 0
GaveLease opening = (len : ℕ) × Contains opening.history (Given len)

-- where the first gave a lease, the second carries a higher number
abbrev pub IsNumberedPast : Opening → Opening → Type 0
IsNumberedPast first second = GaveLease first → number_in first < number_in second

-- in every life an opening carries a higher number than each earlier opening that gave a lease
abbrev pub OpeningsAreNumbered : Type 0
OpeningsAreNumbered = (life : List Opening) → IsLife life → AllPairs IsNumberedPast life

-- what was reserved since a store was opened is an opening of which these laws speak, and what a
-- crash now leaves is left by it
pub record IsOpened (opening : Opening) (now : Texts) : Type 0 where
  pub lawful : IsOpening opening
  pub left : (text : List ℕ) → IsAmong now text → IsAmong (texts_left opening) text
