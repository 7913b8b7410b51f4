-- In every image that a life leaves, given and burnt indices are counted as used.
use Rattle.std.proofs.Common.{◌≡◌, ℕ, ◌+◌, ◌≤◌, List, [], ◌∷◌, ◌++◌, arith}
use Rattle.std.proofs.lemmas.List.Sums.{sum_by-cons}
use Rattle.lms_spec.specs.Hss.{capacity_of}
use Rattle.lms_hss.specs.Keys.{hss_key_of}
use Rattle.lms_hss.specs.declared.key.HssKey.{HssKey as KeyOfCode}
use Rattle.lms_book.specs.declared.history.Entry.{Entry}
use Rattle.lms_book.specs.declared.history.Entry.TheVariants.{Given, Burnt}
use Rattle.lms_image.specs.Image.{image_of}
use Rattle.lms_book.specs.History.{len_of, given_len, given_of, counter_of}
use Rattle.lms_book.specs.Stops.{Texts, only, or_else}
use Rattle.lms_book.specs.Lives.{Opening, number_in, texts_after, texts_left, given_in, IsOpening, IsNext, IsLife}
use Rattle.lms_book.specs.Lives.{ImagesCountAllUses}
use Rattle.lms_book.proofs.Readings.{AllRead, AreSpelt, opening_spelt, read_only, read_or_else, read_found, read_next}

-- these given indices and the burnt ones are used
abbrev CountsGiven : ℕ → KeyOfCode → ℕ → ℕ → ℕ → Type 0
CountsGiven given k counter openings burnt = given + burnt ≤ counter

more_given : (given n : ℕ) (texts : Texts) → given ≡ n → AllRead (CountsGiven given) texts
    → AllRead (CountsGiven n) texts
more_given given n texts same all text there key counter openings burnt has image =
    omega (arith, same, all text there key counter openings burnt has image)

-- after the reservations of an opening
given_after : (given : ℕ) (key : KeyOfCode) (number counter burnt : ℕ) (history : List Entry) (texts : Texts)
    → AreSpelt key number
    → counter_of counter history ≤ capacity_of (hss_key_of key) → given + burnt ≤ counter
    → AllRead (CountsGiven given) texts
    → AllRead (CountsGiven (given + given_of history)) (texts_after key number counter burnt history texts)
given_after given key number counter burnt [] texts fits within used all =
    more_given given (given + given_of []) texts (omega arith) all
given_after given key number counter burnt (Given len ∷ history) texts fits within used all =
    let more = sum_by-cons len_of (Given len) history in
    let gives = sum_by-cons given_len (Given len) history in
    let fit = fits (counter + len) burnt (omega (arith, within, more)) (omega (arith, used)) in
    more_given ((given + len) + given_of history) (given + given_of (Given len ∷ history))
    (texts_after key number (counter + len) burnt history (only (image_of key (counter + len) number burnt)))
    (omega (arith, gives))
    (given_after (given + len) key number (counter + len) burnt history _ fits (omega (arith, within, more))
    (omega (arith, used))
    (read_only (CountsGiven (given + len)) key (counter + len) number burnt fit (omega (arith, used))))
given_after given key number counter burnt (Burnt len ∷ history) texts fits within used all =
    let more = sum_by-cons len_of (Burnt len) history in
    let gives = sum_by-cons given_len (Burnt len) history in
    let fit = fits (counter + len) burnt (omega (arith, within, more)) (omega (arith, used)) in
    more_given (given + given_of history) (given + given_of (Burnt len ∷ history))
    (texts_after key number (counter + len) (burnt + len) history
    (or_else (image_of key (counter + len) number burnt) texts)) (omega (arith, gives))
    (given_after given key number (counter + len) (burnt + len) history _ fits (omega (arith, within, more))
    (omega (arith, used))
    (read_or_else (CountsGiven given) key (counter + len) number burnt texts fit (omega (arith, used)) all))

opening_counts : (given : ℕ) (opening : Opening) → IsOpening opening → AllRead (CountsGiven given) opening.held
    → AllRead (CountsGiven (given + given_of opening.history)) (texts_left opening)
opening_counts given opening is all =
    given_after given opening.key (number_in opening) opening.base opening.burnt opening.history opening.held
    (opening_spelt opening is)
    is.within (read_found (CountsGiven given) opening is all) all

-- the rest of a life, before which so many indices were given
life_counts : (given : ℕ) (texts : Texts) (life : List Opening) (last : Opening) → AllRead (CountsGiven given) texts
    → IsNext texts (life ++ last ∷ []) → IsLife (life ++ last ∷ [])
    → AllRead (CountsGiven (given + given_in (life ++ last ∷ []))) (texts_left last)
life_counts given texts [] last all next is =
    more_given (given + given_of last.history) (given + given_in (last ∷ [])) (texts_left last) (omega arith)
    (opening_counts given last is.0 (read_next (CountsGiven given) texts last [] next all))
life_counts given texts (opening ∷ life) last all next is =
    let here = read_next (CountsGiven given) texts opening (life ++ last ∷ []) next all in
    more_given ((given + given_of opening.history) + given_in (life ++ last ∷ []))
    (given + given_in (opening ∷ (life ++ last ∷ []))) (texts_left last) (omega arith)
    (life_counts (given + given_of opening.history) (texts_left opening) life last
    (opening_counts given opening is.0 here) is.1 is.2)

-- whatever a store holds, no more indices are counted as burnt than as used
none_given : (texts : Texts) → AllRead (CountsGiven 0) texts
none_given texts text there key counter openings burnt has image = omega (arith, has.burnt_within)

first_held : List Opening → Opening → Texts
first_held [] last = last.held
first_held (opening ∷ life) last = opening.held

first_next : (life : List Opening) (last : Opening) → IsNext (first_held life last) (life ++ last ∷ [])
unfolding first_held
first_next [] last = λ text there. there
first_next (opening ∷ life) last = λ text there. there

pub uses : ImagesCountAllUses
uses life last is text there key counter openings burnt has image =
    let all = life_counts 0 (first_held life last) life last (none_given _)
    (first_next life last) is text there key counter openings burnt has image in
    omega (arith, all)
