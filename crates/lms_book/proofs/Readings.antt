-- What can be read of the bytes that an opening leaves.
use Rattle.std.proofs.Common.{◌≡◌, inl, ⊎_elim, ℕ, ◌+◌, ◌≤◌, List, [], ◌∷◌, subst, arith}
use Rattle.std.proofs.lemmas.List.Sums.{sum_by-cons}
use Rattle.lms_spec.specs.Hss.{capacity_of}
use Rattle.lms_hss.specs.Keys.{hss_key_of}
use Rattle.lms_hss.specs.declared.key.HssKey.{HssKey as KeyOfCode}
use Rattle.lms_hss.proofs.Keys.{capacity-limit}
use Rattle.lms_image.specs.Image.{image_of, HasImage, IsImage}
use Rattle.lms_image.proofs.Images.{IsSpelt, spelt, spelt-same}
use Rattle.lms_book.specs.declared.history.Entry.{Entry}
use Rattle.lms_book.specs.declared.history.Entry.TheVariants.{Given, Burnt}
use Rattle.lms_book.specs.History.{len_of, counter_of}
use Rattle.lms_book.specs.Stops.{Texts, IsAmong, only, or_else}
use Rattle.lms_book.specs.Lives.{Opening, number_in, texts_after, texts_left, IsOpening, IsNext}
use Rattle.lms_book.proofs.Leaving.{among_only, among_or_else}

-- something that is said of a key and of the three numbers
abbrev pub Said : Type 1
Said = KeyOfCode → ℕ → ℕ → ℕ → Type 0

-- whatever is read of one of the byte strings, this holds of it
abbrev pub AllRead : Said → Texts → Type 0
AllRead P texts =
    (text : List ℕ) → IsAmong texts text
    → (key : KeyOfCode) (counter openings burnt : ℕ) → HasImage key counter openings burnt
    → IsImage text key counter openings burnt
    → P key counter openings burnt

-- an image is read as what was written
read_image : (P : Said) (key : KeyOfCode) (counter number burnt : ℕ) → IsSpelt key counter number burnt
    → P key counter number burnt
    → (text : List ℕ) → text ≡ image_of key counter number burnt
    → (key' : KeyOfCode) (counter' openings' burnt' : ℕ) → HasImage key' counter' openings' burnt'
    → IsImage text key' counter' openings' burnt'
    → P key' counter' openings' burnt'
read_image P key counter number burnt fits holds text is key' counter' openings' burnt' has image =
    let same = spelt-same text key key' counter counter' number openings' burnt burnt' fits
    (spelt key' counter' openings' burnt' has) (inl is) image in
    subst (λ k. P k counter' openings' burnt') same.0
    (subst (λ c. P key c openings' burnt') same.1
    (subst (λ o. P key counter o burnt') same.2 (subst (λ b. P key counter number b) same.3 holds)))

pub read_only : (P : Said) (key : KeyOfCode) (counter number burnt : ℕ) → IsSpelt key counter number burnt
    → P key counter number burnt
    → AllRead P (only (image_of key counter number burnt))
read_only P key counter number burnt fits holds text there =
    read_image P key counter number burnt fits holds text (among_only (image_of key counter number burnt) text there)

pub read_or_else : (P : Said) (key : KeyOfCode) (counter number burnt : ℕ) (texts : Texts)
    → IsSpelt key counter number burnt
    → P key counter number burnt → AllRead P texts → AllRead P (or_else (image_of key counter number burnt) texts)
read_or_else P key counter number burnt texts fits holds before text there =
    ⊎_elim (before text) (read_image P key counter number burnt fits holds text)
    (among_or_else (image_of key counter number burnt) text texts there)

-- images of a key with a number can be taken apart, whatever they count
abbrev pub AreSpelt : KeyOfCode → ℕ → Type 0
AreSpelt key number = (counter burnt : ℕ) → counter ≤ capacity_of (hss_key_of key) → burnt ≤ counter
    → IsSpelt key counter number burnt

pub opening_spelt : (opening : Opening) → IsOpening opening → AreSpelt opening.key (number_in opening)
opening_spelt opening is counter burnt within few =
    let limit = capacity-limit opening.key is.counted.admitted in
    record {
      admitted = is.counted.admitted;
      seed_length = is.counted.seed_length;
      seed_bytes = is.counted.seed_bytes;
      id_length = is.counted.id_length;
      id_bytes = is.counted.id_bytes;
      counter_fits = omega (arith, limit, within);
      openings_fit = omega (arith, limit, is.counted.openings_within, is.counted.within);
      burnt_fits = omega (arith, limit, within, few);
    }

-- what holds of the byte strings before, and of each image of an opening, holds of those after
pub read_after : (P : Said) (key : KeyOfCode) (number counter burnt : ℕ) (history : List Entry) (texts : Texts)
    → AreSpelt key number
    → counter_of counter history ≤ capacity_of (hss_key_of key) → burnt ≤ counter
    → ((c b : ℕ) → counter ≤ c → P key c number b) → AllRead P texts
    → AllRead P (texts_after key number counter burnt history texts)
read_after P key number counter burnt [] texts fits within few holds before = before
read_after P key number counter burnt (Given len ∷ history) texts fits within few holds before =
    let more = sum_by-cons len_of (Given len) history in
    let fit = fits (counter + len) burnt (omega (arith, within, more)) (omega (arith, few)) in
    read_after P key number (counter + len) burnt history _ fits (omega (arith, within, more)) (omega (arith, few))
    (λ c b from. holds c b (omega (arith, from)))
    (read_only P key (counter + len) number burnt fit (holds (counter + len) burnt (omega arith)))
read_after P key number counter burnt (Burnt len ∷ history) texts fits within few holds before =
    let more = sum_by-cons len_of (Burnt len) history in
    let fit = fits (counter + len) burnt (omega (arith, within, more)) (omega (arith, few)) in
    read_after P key number (counter + len) (burnt + len) history _ fits (omega (arith, within, more))
    (omega (arith, few))
    (λ c b from. holds c b (omega (arith, from)))
    (read_or_else P key (counter + len) number burnt texts fit (holds (counter + len) burnt (omega arith)) before)

-- what holds of all that an opening may find holds of what it read
pub read_found : (P : Said) (opening : Opening) → IsOpening opening → AllRead P opening.held
    → P opening.key opening.base opening.openings opening.burnt
read_found P opening is all =
    all is.found.0 is.found.1 opening.key opening.base opening.openings opening.burnt is.counted is.found.2

-- what holds before an opening holds after it
pub read_left : (P : Said) (opening : Opening) → IsOpening opening
    → ((c b : ℕ) → opening.base ≤ c → P opening.key c (number_in opening) b) → AllRead P opening.held
    → AllRead P (texts_left opening)
read_left P opening is holds before =
    read_after P opening.key (number_in opening) opening.base opening.burnt opening.history opening.held
    (opening_spelt opening is)
    is.within is.counted.burnt_within holds before

-- the next opening finds no other byte strings
pub read_next : (P : Said) (texts : Texts) (opening : Opening) (life : List Opening) → IsNext texts (opening ∷ life)
    → AllRead P texts
    → AllRead P opening.held
read_next P texts opening life next all text there = all text (next text there)
