-- In every life of a store, an opening carries a higher number than each earlier opening that gave
-- a lease.
use Rattle.std.proofs.Common.{ℕ, zero, suc, ◌+◌, ◌<◌, ◌≤◌, List, [], ◌∷◌, arith}
use Rattle.std.specs.Prelude.{Contains}
use Rattle.std.specs.List.{AllByRecursion}
use Rattle.std.proofs.lemmas.List.Sums.{sum_by-cons}
use Rattle.lms_spec.specs.Hss.{capacity_of}
use Rattle.lms_hss.specs.Keys.{hss_key_of}
use Rattle.lms_hss.specs.declared.key.HssKey.{HssKey as KeyOfCode}
use Rattle.lms_book.specs.declared.history.Entry.{Entry}
use Rattle.lms_book.specs.declared.history.Entry.TheVariants.{Given, Burnt}
use Rattle.lms_book.specs.History.{len_of, counter_of}
use Rattle.lms_book.specs.Stops.{Texts}
use Rattle.lms_book.specs.Lives.{Opening, number_in, texts_after, texts_left, IsNext, IsLife, GaveLease, IsNumberedPast}
use Rattle.lms_book.specs.Lives.{OpeningsAreNumbered}
use Rattle.lms_book.proofs.Overlap.{pairs_cons}
use Rattle.lms_book.proofs.Readings.{AllRead, AreSpelt, opening_spelt, read_only, read_after, read_found, read_left}
use Rattle.lms_book.proofs.Readings.{read_next}

-- at least so many openings are counted
abbrev Counts : ℕ → KeyOfCode → ℕ → ℕ → ℕ → Type 0
Counts number k counter openings burnt = number ≤ openings

abbrev Gave : List Entry → Type 0
Gave history = (len : ℕ) × Contains history (Given len)

-- after a lease, each image carries the opening's number
all_numbered : (key : KeyOfCode) (number counter burnt : ℕ) (history : List Entry) (texts : Texts) → AreSpelt key number
    → counter_of counter history ≤ capacity_of (hss_key_of key) → burnt ≤ counter → Gave history
    → AllRead (Counts number) (texts_after key number counter burnt history texts)
all_numbered key number counter burnt [] texts fits within few (len, (i, lt, at)) = absurd (omega (arith, lt))
all_numbered key number counter burnt (Given n ∷ history) texts fits within few gave =
    let more = sum_by-cons len_of (Given n) history in
    let fit = fits (counter + n) burnt (omega (arith, within, more)) (omega (arith, few)) in
    read_after (Counts number) key number (counter + n) burnt history _ fits (omega (arith, within, more))
    (omega (arith, few))
    (λ c b from. omega arith) (read_only (Counts number) key (counter + n) number burnt fit (omega arith))
all_numbered key number counter burnt (Burnt n ∷ history) texts fits within few (len, (zero, lt, at)) = absurd cc
all_numbered key number counter burnt (Burnt n ∷ history) texts fits within few (len, (suc i, lt, at)) =
    all_numbered key number (counter + n) (burnt + n) history _ fits
    (omega (arith, within, sum_by-cons len_of (Burnt n) history)) (omega (arith, few))
    (len, (i, omega (arith, lt), at))

-- all openings carry a higher number
abbrev IsAbove : ℕ → Opening → Type 0
IsAbove number opening = number < number_in opening

all_above : (number : ℕ) (texts : Texts) (life : List Opening) → AllRead (Counts number) texts
    → IsNext texts life → IsLife life
    → AllByRecursion (IsAbove number) life
all_above number texts [] all next life = tt
all_above number texts (opening ∷ rest) all next life =
    let here = read_next (Counts number) texts opening rest next all in
    let at : number ≤ opening.openings = read_found (Counts number) opening life.0 here in (
      omega (arith, at),
      all_above number (texts_left opening) rest
          (read_left (Counts number) opening life.0 (λ c b from. omega (arith, at)) here) life.1 life.2,
    )

above_so : (first : Opening) (life : List Opening) → (GaveLease first → AllByRecursion (IsAbove (number_in first)) life)
    → AllByRecursion (IsNumberedPast first) life
above_so first [] all = tt
above_so first (opening ∷ life) all = (λ gave. (all gave).0, above_so first life (λ gave. (all gave).1))

pub numbered : OpeningsAreNumbered
numbered [] is = λ i j d lt long. absurd (omega arith)
numbered (opening ∷ life) is =
    pairs_cons IsNumberedPast opening life
    (above_so opening life (λ gave. all_above (number_in opening) (texts_left opening) life
    (all_numbered opening.key (number_in opening) opening.base opening.burnt opening.history opening.held
    (opening_spelt opening is.0)
    is.0.within is.0.counted.burnt_within gave) is.1 is.2))
    (numbered life is.2)
