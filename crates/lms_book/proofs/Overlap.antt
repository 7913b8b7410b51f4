-- In every life of a store, a lease begins past each earlier lease of its key.
use Rattle.std.proofs.Common.{◌≡◌, ℕ, zero, suc, ◌+◌, ◌≤◌, List, [], ◌∷◌, ◌++◌, map, sym, arith}
use Rattle.std.specs.Prelude.{AllPairs}
use Rattle.std.specs.List.{AllByRecursion}
use Rattle.std.proofs.lemmas.List.Elements.{All-from_recursion}
use Rattle.std.proofs.lemmas.List.Sums.{sum_by-cons}
use Rattle.lms_spec.specs.Hss.{capacity_of}
use Rattle.lms_hss.specs.Keys.{hss_key_of}
use Rattle.lms_hss.specs.declared.key.HssKey.{HssKey as KeyOfCode}
use Rattle.lms_book.specs.declared.history.Entry.{Entry}
use Rattle.lms_book.specs.declared.history.Entry.TheVariants.{Given, Burnt}
use Rattle.lms_image.specs.Image.{image_of}
use Rattle.lms_book.specs.History.{Range, range_of, end, len_of, counter_of, leases}
use Rattle.lms_book.specs.Stops.{Texts, only, or_else}
use Rattle.lms_book.specs.Lives.{Opening, number_in, texts_after, texts_left, IsNext, IsLife, all_leases, IsPast}
use Rattle.lms_book.proofs.Readings.{AllRead, AreSpelt, opening_spelt, read_only, read_after, read_found, read_left}
use Rattle.lms_book.proofs.Readings.{read_next}

-- where it is of this key, the counter is at or past this one
abbrev Behind : KeyOfCode → ℕ → KeyOfCode → ℕ → ℕ → ℕ → Type 0
Behind key floor k counter openings burnt = k ≡ key → floor ≤ counter

-- ---- leases

abbrev IsFrom : KeyOfCode → ℕ → KeyOfCode × Range → Type 0
IsFrom key floor lease = lease.0 ≡ key → floor ≤ lease.1.start

leases_from : (key k : KeyOfCode) (floor counter : ℕ) (history : List Entry) (rest : List (KeyOfCode × Range))
    → (k ≡ key → floor ≤ counter)
    → AllByRecursion (IsFrom key floor) rest
    → AllByRecursion (IsFrom key floor) (map (λ (range : Range). (k, range)) (leases counter history) ++ rest)
leases_from key k floor counter [] rest le all = all
leases_from key k floor counter (Given len ∷ history) rest le all =
    (le, leases_from key k floor (counter + len) history rest (λ same. omega (arith, le same)) all)
leases_from key k floor counter (Burnt len ∷ history) rest le all =
    leases_from key k floor (counter + len) history rest (λ same. omega (arith, le same)) all

-- all later leases of the key are past the floor
later : (key : KeyOfCode) (floor : ℕ) (texts : Texts) (life : List Opening) → AllRead (Behind key floor) texts
    → IsNext texts life → IsLife life
    → AllByRecursion (IsFrom key floor) (all_leases life)
later key floor texts [] all next life = tt
later key floor texts (opening ∷ rest) all next life =
    let here = read_next (Behind key floor) texts opening rest next all in
    let at : opening.key ≡ key → floor ≤ opening.base = read_found (Behind key floor) opening life.0 here in
    leases_from key opening.key floor opening.base opening.history (all_leases rest) at
    (later key floor (texts_left opening) rest
    (read_left (Behind key floor) opening life.0 (λ c b from same. omega (arith, from, at same)) here) life.1 life.2)

past_all : (key : KeyOfCode) (first : Range) (ls : List (KeyOfCode × Range))
    → AllByRecursion (IsFrom key (end first)) ls
    → AllByRecursion (IsPast (key, first)) ls
past_all key first [] all = tt
past_all key first (l ∷ ls) all = (λ same. all.0 (sym same), past_all key first ls all.1)

pub pairs_cons : {X : Type 0} (R : X → X → Type 0) (x : X) (xs : List X) → AllByRecursion (R x) xs → AllPairs R xs
    → AllPairs R (x ∷ xs)
pairs_cons R x xs first rest zero zero d lt long = absurd (omega arith)
pairs_cons R x xs first rest zero (suc j) d lt long = All-from_recursion (R x) xs first j d (omega arith)
pairs_cons R x xs first rest (suc i) zero d lt long = absurd (omega arith)
pairs_cons R x xs first rest (suc i) (suc j) d lt long = rest i j d (omega arith) (omega arith)

-- after a reservation come the others of its opening, and the next openings
within_opening : (key : KeyOfCode) (number counter burnt : ℕ) (history : List Entry) (texts : Texts)
    (life : List Opening) → AreSpelt key number
    → counter_of counter history ≤ capacity_of (hss_key_of key) → burnt ≤ counter
    → IsNext (texts_after key number counter burnt history texts) life → IsLife life → AllPairs IsPast (all_leases life)
    → AllPairs IsPast (map (λ (range : Range). (key, range)) (leases counter history) ++ all_leases life)
within_opening key number counter burnt [] texts life fits within few next is pairs = pairs
within_opening key number counter burnt (Given len ∷ history) texts life fits within few next is pairs =
    let more = sum_by-cons len_of (Given len) history in
    let top = counter + len in
    let image : Texts = only (image_of key top number burnt) in
    let fit = fits top burnt (omega (arith, within, more)) (omega (arith, few)) in
    let behind = read_after (Behind key top) key number top burnt history image fits (omega (arith, within, more))
    (omega (arith, few))
    (λ c b from same. from) (read_only (Behind key top) key top number burnt fit (λ same. omega arith)) in
    pairs_cons IsPast (key, range_of counter len)
    (map (λ (range : Range). (key, range)) (leases top history) ++ all_leases life)
    (past_all key (range_of counter len) _ (leases_from key key top top history (all_leases life) (λ same. omega arith)
    (later key top (texts_after key number top burnt history image) life behind next is)))
    (within_opening key number top burnt history image life fits (omega (arith, within, more))
    (omega (arith, few)) next is pairs)
within_opening key number counter burnt (Burnt len ∷ history) texts life fits within few next is pairs =
    within_opening key number (counter + len) (burnt + len) history
    (or_else (image_of key (counter + len) number burnt) texts) life fits
    (omega (arith, within, sum_by-cons len_of (Burnt len) history)) (omega (arith, few)) next is pairs

pub never_overlap : (life : List Opening) → IsLife life → AllPairs IsPast (all_leases life)
never_overlap [] is = λ i j d lt long. absurd (omega arith)
never_overlap (opening ∷ life) is =
    within_opening opening.key (number_in opening) opening.base opening.burnt opening.history opening.held life
    (opening_spelt opening is.0)
    is.0.within is.0.counted.burnt_within is.1 is.2 (never_overlap life is.2)
