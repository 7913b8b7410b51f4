-- How a book's numbers and promises go on with one entry more.
use Rattle.std.proofs.Common.{◌≡◌, ◌⊎◌, inl, inr, ⊎_elim, ℕ, zero, suc, ◌+◌, ◌<◌, ◌≤◌, length, slice_index_or}
use Rattle.std.proofs.Common.{slice_set, List, [], ◌∷◌, ◌++◌, ◌-◌, refl, sym, ◌∙◌, ap, ap₂, subst, arith, length-append}
use Rattle.std.specs.List.{AllByRecursion}
use Rattle.std.proofs.lemmas.List.Sums.{sum_by-cons, sum_by_push}
use Rattle.lms_spec.specs.Hss.{capacity_of}
use Rattle.lms_hss.specs.Keys.{hss_key_of}
use Rattle.lms_hss.specs.declared.key.HssKey.{HssKey as KeyOfCode}
use Rattle.lms_book.specs.declared.history.Entry.{Entry}
use Rattle.lms_book.specs.declared.history.Entry.TheVariants.{Given, Burnt}
use Rattle.lms_image.specs.Image.{image_of, HasImage, IsImageFrom}
use Rattle.lms_book.specs.History.{Range, range_of, end, len_of, counter_of, burnt_len, burnt_after, leases, last_end}
use Rattle.lms_book.specs.History.{stored_of, confirmed}
use Rattle.lms_book.specs.Stops.{StoreView, MayLeave}
use Rattle.lms_book.specs.States.{ReservationsState, IsSafe, IsKept}

pub counter-push : (base : ℕ) (es : List Entry) (e : Entry)
    → counter_of base (es ++ e ∷ []) ≡ counter_of base es + len_of e
counter-push base es e = omega (arith, sum_by_push len_of es e)

pub burnt-push : (burnt : ℕ) (es : List Entry) (e : Entry)
    → burnt_after burnt (es ++ e ∷ []) ≡ burnt_after burnt es + burnt_len e
burnt-push burnt es e = omega (arith, sum_by_push burnt_len es e)

leases-push_given : (base at n : ℕ) (es : List Entry) → at ≡ counter_of base es
    → leases base (es ++ Given n ∷ []) ≡ leases base es ++ range_of at n ∷ []
leases-push_given base at n [] is = let same : base ≡ at = omega arith in ap (λ (k : ℕ). range_of k n ∷ []) same
leases-push_given base at n (Given len ∷ es) is = ap (λ (rs : List Range). range_of base len ∷ rs)
    (leases-push_given (base + len) at n es (omega (arith, sum_by-cons len_of (Given len) es)))
leases-push_given base at n (Burnt len ∷ es) is =
    leases-push_given (base + len) at n es (omega (arith, sum_by-cons len_of (Burnt len) es))

leases-push_burnt : (base n : ℕ) (es : List Entry) → leases base (es ++ Burnt n ∷ []) ≡ leases base es
leases-push_burnt base n [] = refl
leases-push_burnt base n (Given len ∷ es) =
    ap (λ (rs : List Range). range_of base len ∷ rs) (leases-push_burnt (base + len) n es)
leases-push_burnt base n (Burnt len ∷ es) = leases-push_burnt (base + len) n es

last_end-push : (base : ℕ) (rs : List Range) (r : Range) → last_end base (rs ++ r ∷ []) ≡ end r
last_end-push base [] r = refl
last_end-push base (x ∷ rs) r = last_end-push (end x) rs r

-- no lease goes past the counter
ends_within : (base top : ℕ) (es : List Entry) → counter_of base es ≤ top
    → AllByRecursion (λ r. end r ≤ top) (leases base es)
ends_within base top [] le = tt
ends_within base top (Given len ∷ es) le =
    let more = sum_by-cons len_of (Given len) es in
    (omega (arith, more), ends_within (base + len) top es (omega (arith, more)))
ends_within base top (Burnt len ∷ es) le =
    ends_within (base + len) top es (omega (arith, sum_by-cons len_of (Burnt len) es))

-- a key that has an image with some numbers has one with others
pub recount : (key : KeyOfCode) (m o b n o' b' : ℕ) → HasImage key m o b → n ≤ capacity_of (hss_key_of key) → o' ≤ n
    → b' ≤ n → HasImage key n o' b'
recount key m o b n o' b' is within low few = record {
  admitted = is.admitted;
  seed_length = is.seed_length;
  id_length = is.id_length;
  seed_bytes = is.seed_bytes;
  id_bytes = is.id_bytes;
  within = within;
  openings_within = low;
  burnt_within = few;
}

-- the image that counts n indices more
pub next_counted : (key : KeyOfCode) (m o b n : ℕ) → HasImage key m o b → 1 ≤ n → m + n ≤ capacity_of (hss_key_of key)
    → HasImage key (m + n) (o + 1) b
next_counted key m o b n is some enough =
    recount key m o b (m + n) (o + 1) b is enough (omega (arith, is.openings_within, some))
    (omega (arith, is.burnt_within))

lower : (key : KeyOfCode) (number floor top : ℕ) (left : List ℕ) → floor ≤ top → IsImageFrom key number top left
    → IsImageFrom key number floor left
lower key number floor top left le from =
    record {
      counter = from.counter;
      burnt = from.burnt;
      past = omega (arith, from.past);
      counted = from.counted;
      text_is = from.text_is;
    }

safe_at : (key : KeyOfCode) (number top : ℕ) (rs : List Range) (may_leave : List ℕ → Type 0)
    → AllByRecursion (λ r. end r ≤ top) rs
    → ((left : List ℕ) → may_leave left → IsImageFrom key number top left) → IsSafe key number rs may_leave
safe_at key number top [] may_leave ends from = tt
safe_at key number top (r ∷ rs) may_leave ends from = (
  λ left now. lower key number (end r) top left ends.0 (from left now),
  safe_at key number top rs may_leave ends.1 from,
)

safe_or : (key : KeyOfCode) (number top : ℕ) (rs : List Range) (old new : List ℕ → Type 0)
    → AllByRecursion (λ r. end r ≤ top) rs
    → ((left : List ℕ) → new left → old left ⊎ IsImageFrom key number top left) → IsSafe key number rs old
    → IsSafe key number rs new
safe_or key number top [] old new ends from safe = tt
safe_or key number top (r ∷ rs) old new ends from safe = (
  λ left now. ⊎_elim (safe.0 left) (lower key number (end r) top left ends.0) (from left now),
  safe_or key number top rs old new ends.1 from safe.1,
)

-- the last entry of a history is given
pub confirmed-push : (es : List Entry) (e : Entry) → confirmed (es ++ e ∷ []) ≡ es ++ Given (len_of e) ∷ []
confirmed-push [] e = refl
confirmed-push (x ∷ []) e = refl
confirmed-push (x ∷ y ∷ es) e = ap (λ (l : List Entry). x ∷ l) (confirmed-push (y ∷ es) e)

at-seam : (front : List Entry) (e other : Entry) → slice_index_or (front ++ e ∷ []) (length front) other ≡ e
at-seam [] e other = refl
at-seam (x ∷ front) e other = at-seam front e other

-- a history that has entries has a last one
ends : (es : List Entry) → 0 < length es → (front : List Entry) × (last : Entry) × (es ≡ front ++ last ∷ [])
ends [] some = absurd (omega (arith, some))
ends (x ∷ []) some = ([], x, refl)
ends (x ∷ y ∷ es) some =
    let rest = ends (y ∷ es) (omega arith) in
    (x ∷ rest.0, rest.1, ap (λ (l : List Entry). x ∷ l) rest.2)

-- and it is in the last place
last-at : (es front : List Entry) (e other : Entry) (i : ℕ) → i + 1 ≡ length es → es ≡ front ++ e ∷ []
    → slice_index_or es i other ≡ e
last-at es front e other i at is =
    let long : length es ≡ length front + 1 = ap length is ∙ length-append front (e ∷ []) in
    let here : i ≡ length front = omega (arith, at, long) in
    ap₂ (λ (l : List Entry) (k : ℕ). slice_index_or l k other) is here ∙ at-seam front e other

-- the last entry is written over as given
pub confirmed-set : (es : List Entry) (last : Entry) (i len : ℕ) → i + 1 ≡ length es → last ≡ slice_index_or es i last
    → len ≡ len_of last
    → slice_set es i (Given len) ≡ confirmed es
confirmed-set [] last i len at is l = absurd (omega (arith, at))
confirmed-set (x ∷ []) last zero len at is l = ap (λ (k : ℕ). Given k ∷ []) (l ∙ ap len_of is)
confirmed-set (x ∷ []) last (suc i) len at is l = absurd (omega (arith, at))
confirmed-set (x ∷ y ∷ es) last zero len at is l = absurd (omega (arith, at))
confirmed-set (x ∷ y ∷ es) last (suc i) len at is l =
    ap (λ (l : List Entry). x ∷ l) (confirmed-set (y ∷ es) last i len (omega (arith, at)) is l)

-- ---- the running numbers

abbrev with_history : ReservationsState → List Entry → ReservationsState
with_history r history =
    record { key = r.key; base = r.base; openings = r.openings; burnt = r.burnt; history = history }

pub kept_burnt : (r : ReservationsState) (counter stored burnt n : ℕ) → IsKept r counter stored burnt
    → counter + n ≤ capacity_of (hss_key_of r.key)
    → IsKept (with_history r (r.history ++ Burnt n ∷ [])) (counter + n) stored (burnt + n)
kept_burnt r counter stored burnt n kept enough = record {
  counter_is = omega (arith, counter-push r.base r.history (Burnt n), kept.counter_is);
  stored_is = kept.stored_is ∙ sym (ap (last_end r.base) (leases-push_burnt r.base n r.history));
  burnt_is = omega (arith, burnt-push r.burnt r.history (Burnt n), kept.burnt_is);
  counted = recount r.key counter r.openings burnt (counter + n) r.openings (burnt + n) kept.counted enough
      (omega (arith, kept.counted.openings_within)) (omega (arith, kept.counted.burnt_within));
}

kept_given : (r : ReservationsState) (es : List Entry) (e : Entry) (counter stored burnt : ℕ)
    → IsKept (with_history r (es ++ e ∷ [])) counter stored burnt
    → IsKept (with_history r (es ++ Given (len_of e) ∷ [])) counter counter (burnt - burnt_len e)
kept_given r es e counter stored burnt kept =
    let before : counter ≡ counter_of r.base es + len_of e = kept.counter_is ∙ counter-push r.base es e in
    let top : counter ≡ counter_of r.base (es ++ Given (len_of e) ∷ []) =
    before ∙ sym (counter-push r.base es (Given (len_of e))) in
    let ranges = leases-push_given r.base (counter_of r.base es) (len_of e) es refl in
    let last : stored_of r.base (es ++ Given (len_of e) ∷ []) ≡ counter_of r.base es + len_of e
    = ap (last_end r.base) ranges
    ∙ last_end-push r.base (leases r.base es) (range_of (counter_of r.base es) (len_of e)) in
    let few = kept.counted.burnt_within in
    record {
      counter_is = top;
      stored_is = before ∙ sym last;
      burnt_is = omega (arith, kept.burnt_is, burnt-push r.burnt es e, burnt-push r.burnt es (Given (len_of e)));
      counted = recount r.key counter r.openings burnt counter r.openings
          (burnt - burnt_len e) kept.counted kept.counted.within kept.counted.openings_within (omega (arith, few));
    }

-- the last entry, which may be burnt, is given
pub kept_confirmed : (r : ReservationsState) (last : Entry) (i counter stored burnt : ℕ) → i + 1 ≡ length r.history
    → last ≡ slice_index_or r.history i last
    → IsKept r counter stored burnt
    → IsKept (with_history r (confirmed r.history)) counter counter (burnt - burnt_len last)
kept_confirmed r last i counter stored burnt at is kept =
    let (front, e, ends_so) = ends r.history (omega (arith, at)) in
    let same : last ≡ e = is ∙ last-at r.history front e last i at ends_so in
    let before = subst (λ (l : List Entry). IsKept (with_history r l) counter stored burnt) ends_so kept in
    let there = sym (ap confirmed ends_so ∙ confirmed-push front e) in
    subst (λ (x : Entry). IsKept (with_history r (confirmed r.history)) counter counter (burnt - burnt_len x))
    (sym same)
    (subst (λ (l : List Entry). IsKept (with_history r l) counter counter (burnt - burnt_len e)) there
    (kept_given r front e counter stored burnt before))

-- ---- what a crash leaves

-- the bytes that a reservation of n indices more stores
abbrev pub text_after : ReservationsState → ℕ → List ℕ
text_after r n = image_of r.key (counter_of r.base r.history + n) (r.openings + 1) (burnt_after r.burnt r.history)

module _ (r : ReservationsState) (n : ℕ) (old new : StoreView)
    (counted : HasImage r.key (counter_of r.base r.history + n) (r.openings + 1) (burnt_after r.burnt r.history)) where
  at_top : (left : List ℕ) → left ≡ text_after r n
      → IsImageFrom r.key (r.openings + 1) (counter_of r.base r.history + n) left
  at_top left is =
      record {
        counter = counter_of r.base r.history + n;
        burnt = burnt_after r.burnt r.history;
        past = omega arith;
        counted = counted;
        text_is = is;
      }

  -- a lease more, and a crash leaves its image alone
  pub safe_given : ((left : List ℕ) → MayLeave new left → left ≡ text_after r n)
      → IsSafe r.key (r.openings + 1) (leases r.base (r.history ++ Given n ∷ [])) (MayLeave new)
  safe_given only =
      let top : counter_of r.base (r.history ++ Given n ∷ []) ≤ counter_of r.base r.history + n =
      omega (arith, counter-push r.base r.history (Given n)) in
      safe_at r.key (r.openings + 1) (counter_of r.base r.history + n) _ (MayLeave new)
      (ends_within r.base (counter_of r.base r.history + n) (r.history ++ Given n ∷ []) top)
      (λ left now. at_top left (only left now))

  -- indices burnt, and a crash may leave their image too
  pub safe_burnt : IsSafe r.key (r.openings + 1) (leases r.base r.history) (MayLeave old)
      → ((left : List ℕ) → MayLeave new left → MayLeave old left ⊎ (left ≡ text_after r n))
      → IsSafe r.key (r.openings + 1) (leases r.base (r.history ++ Burnt n ∷ [])) (MayLeave new)
  safe_burnt safe only = subst (λ (rs : List Range). IsSafe r.key (r.openings + 1) rs (MayLeave new))
      (sym (leases-push_burnt r.base n r.history)) (
      safe_or r.key (r.openings + 1) (counter_of r.base r.history + n) (leases r.base r.history)
      (MayLeave old) (MayLeave new)
      (ends_within r.base (counter_of r.base r.history + n) r.history (omega arith))
      (λ left now. ⊎_elim (λ was. inl was) (λ text. inr (at_top left text)) (only left now)) safe)
