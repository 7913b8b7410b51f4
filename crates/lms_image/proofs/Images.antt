-- Images of keys and their numbers: they have no fault, and each is that of one key and of one of
-- each number.
use Rattle.std.proofs.Common.{ℕ, ◌≡◌, inl, inr, ◌+◌, ◌^◌, ◌<◌, ◌≤◌, List, ◌++◌, length, map, All, Some, None, sum_by}
use Rattle.std.proofs.Common.{refl, sym, ◌∙◌, ap, ap₂, arith, subst, append_assoc, length-append}
use Rattle.std.specs.List.{concat, list_all}
use Rattle.std.proofs.lemmas.Bool.{not_from_true}
use Rattle.std.proofs.lemmas.Slice.Eq.{bytes_eq-Decides}
use Rattle.std.proofs.lemmas.List.{length-map}
use Rattle.sha2.specs.Sha256.{sha256}
use Rattle.sha2.proofs.Facts256.{length-sha256}
use Rattle.lms_spec.specs.Bytes.{u32str, u64str}
use Rattle.lms_spec.specs.Hss.{height_of, capacity_of}
use Rattle.lms_spec.proofs.Pieces.{same-front, same-rest}
use Rattle.lms_params.specs.declared.lms_type.LmsType.{LmsType}
use Rattle.lms_params.specs.declared.ots_type.OtsType.{OtsType}
use Rattle.lms_hss.specs.Levels.{levels_of, IsAdmitted}
use Rattle.lms_hss.specs.Keys.{hss_key_of}
use Rattle.lms_hss.proofs.Keys.{capacity-limit}
use Rattle.lms_hss.specs.declared.key.HssKey.{HssKey as KeyOfCode}
use Rattle.lms_image.specs.declared.fault.ImageFault.TheVariants.{CounterTooHigh, OpeningTooHigh, BurntTooHigh}
use Rattle.lms_image.specs.declared.version.Version.{Version}
use Rattle.lms_image.specs.declared.version.Version.TheVariants.{First, Second}
use Rattle.lms_image.specs.Image.{Fields, magic, code_of, level_text, head_text, later_text, body_text, sealed}
use Rattle.lms_image.specs.Image.{fields_of, image_of, first_image_of, IsImage, is_level, height_in, body_in, levels_in}
use Rattle.lms_image.specs.Image.{counter_in, openings_in, burnt_in, fault_of, HasImage}
use Rattle.lms_image.specs.Reading.{IsHeaded, IsCut, AreLater}
use Rattle.lms_image.specs.Laws.{ImagesAreFaultless, ImagesAreToldApart}
use Rattle.lms_image.proofs.LevelTexts.{levels-same, levels-of-texts, heights-of-texts, texts-are-8}
use Rattle.lms_image.proofs.Parts.{IsLaidOut, IsWhole, IsKeyed, after_count, laid-out, whole, no-fault}
use Rattle.lms_image.proofs.Parts.{counter-too-high, opening-too-high, burnt-too-high, regroup}

-- a key whose image can be taken apart, with numbers that eight bytes each hold
pub record IsSpelt (key : KeyOfCode) (counter openings burnt : ℕ) : Type 0 where
  pub admitted : IsAdmitted key.levels
  pub seed_length : length key.seed ≡ 32
  pub seed_bytes : All (λ b. b < 256) key.seed
  pub id_length : length key.i ≡ 16
  pub id_bytes : All (λ b. b < 256) key.i
  pub counter_fits : counter < 2 ^ 64
  pub openings_fit : openings < 2 ^ 64
  pub burnt_fits : burnt < 2 ^ 64

pub spelt : (key : KeyOfCode) (counter openings burnt : ℕ) → HasImage key counter openings burnt
    → IsSpelt key counter openings burnt
spelt key counter openings burnt is =
    let limit = capacity-limit key is.admitted in
    let within = is.within in
    let openings_within = is.openings_within in
    let burnt_within = is.burnt_within in
    record {
      admitted = is.admitted;
      seed_length = is.seed_length;
      seed_bytes = is.seed_bytes;
      id_length = is.id_length;
      id_bytes = is.id_bytes;
      counter_fits = omega arith;
      openings_fit = omega arith;
      burnt_fits = omega arith;
    }

-- the bytes of an image of a version
abbrev pub text_of : Version → KeyOfCode → ℕ → ℕ → ℕ → List ℕ
text_of v key counter openings burnt = sealed (body_text (fields_of v key counter openings burnt))

-- an image is one of some version, whose numbers are right for it
pub record IsVersioned (text : List ℕ) (key : KeyOfCode) (counter openings burnt : ℕ) : Type 0 where
  pub version : Version
  pub later : AreLater version openings burnt
  pub text_is : text ≡ text_of version key counter openings burnt

pub versioned-image : (text : List ℕ) (key : KeyOfCode) (counter openings burnt : ℕ)
    → IsSpelt key counter openings burnt
    → IsImage text key counter openings burnt → IsVersioned text key counter openings burnt
unfolding image_of first_image_of
versioned-image text key counter openings burnt is (inl e) =
    record { version = Second; later = (is.openings_fit, is.burnt_fits); text_is = e }
versioned-image text key counter openings burnt is (inr (e, no_openings, no_burnt)) = record {
  version = First;
  later = (no_openings, no_burnt);
  text_is = e ∙ ap₂ (λ o b. text_of First key counter o b) (sym no_openings) (sym no_burnt);
}

pub image-versioned : (text : List ℕ) (key : KeyOfCode) (counter openings burnt : ℕ) (v : Version)
    → AreLater v openings burnt
    → text ≡ text_of v key counter openings burnt → IsImage text key counter openings burnt
unfolding image_of first_image_of
image-versioned text key counter openings burnt First are e =
    inr (e ∙ ap₂ (λ o b. text_of First key counter o b) are.0 are.1, are.0, are.1)
image-versioned text key counter openings burnt Second are e = inl e

sealed-parts : (f : Fields) → sealed (body_text f)
    ≡ magic ++ (u32str (code_of f.version) ++ (u32str (length f.levels) ++ after_count f (sha256 (body_text f))))
unfolding sealed body_text head_text
sealed-parts f =
    ap (λ r. magic ++ (u32str (code_of f.version) ++ (u32str (length f.levels) ++ r)))
    (regroup (concat f.levels) f.seed f.id (u64str f.counter) (later_text f.version f.openings f.burnt)
    (sha256 (body_text f)))

image-head : (v : Version) (key : KeyOfCode) (counter openings burnt : ℕ) → IsSpelt key counter openings burnt
    → IsHeaded (text_of v key counter openings burnt)
    (after_count (fields_of v key counter openings burnt) (sha256 (body_text (fields_of v key counter openings burnt))))
    v (length (map level_text key.levels))
image-head v key counter openings burnt is =
    let some = is.admitted.some_level in
    let most = is.admitted.eight_at_most in
    let count = length-map key.levels level_text in
    record {
      some_level = omega arith;
      eight_at_most = omega arith;
      parts = sealed-parts (fields_of v key counter openings burnt);
    }

image-cut : (v : Version) (key : KeyOfCode) (counter openings burnt : ℕ) → IsSpelt key counter openings burnt
    → AreLater v openings burnt
    → IsCut (length (map level_text key.levels))
    (after_count (fields_of v key counter openings burnt) (sha256 (body_text (fields_of v key counter openings burnt))))
    (fields_of v key counter openings burnt) (sha256 (body_text (fields_of v key counter openings burnt)))
image-cut v key counter openings burnt is are = record {
  level_count = refl;
  level_lengths = texts-are-8 key.levels;
  seed_length = is.seed_length;
  seed_bytes = is.seed_bytes;
  id_length = is.id_length;
  id_bytes = is.id_bytes;
  counter_fits = is.counter_fits;
  later = are;
  digest_length = length-sha256 _;
  parts = refl;
}

pub image-laid-out : (v : Version) (key : KeyOfCode) (counter openings burnt : ℕ) → IsSpelt key counter openings burnt
    → AreLater v openings burnt
    → IsLaidOut (text_of v key counter openings burnt) (fields_of v key counter openings burnt)
    (sha256 (body_text (fields_of v key counter openings burnt)))
image-laid-out v key counter openings burnt is are =
    let f = fields_of v key counter openings burnt in
    laid-out (text_of v key counter openings burnt) (after_count f (sha256 (body_text f)))
    (length (map level_text key.levels)) f
    (sha256 (body_text f)) (image-head v key counter openings burnt is) (image-cut v key counter openings burnt is are)

-- an image's digest is right
image-whole : (v : Version) (key : KeyOfCode) (counter openings burnt : ℕ) → IsSpelt key counter openings burnt
    → AreLater v openings burnt
    → IsWhole (text_of v key counter openings burnt) (fields_of v key counter openings burnt)
image-whole v key counter openings burnt is are =
    let f = fields_of v key counter openings burnt in
    let digest = sha256 (body_text f) in
    let text = text_of v key counter openings burnt in
    let laid = image-laid-out v key counter openings burnt is are in
    whole text f digest laid
    (not_from_true _ ((bytes_eq-Decides digest (sha256 (body_in text))).1 (ap sha256 (sym laid.body_is))))

-- levels that the signer takes are those of a key
pub keyed : (f : Fields) (levels : List (LmsType × OtsType)) → map level_text levels ≡ f.levels
    → IsAdmitted levels → IsKeyed f
keyed f levels e admitted =
    let heights : sum_by height_in f.levels ≡ height_of (levels_of levels) =
    ap (sum_by height_in) (sym e) ∙ heights-of-texts levels in
    let low = admitted.not_too_tall in
    record { known = sym (ap (list_all is_level) e) ∙ levels-of-texts levels; low = omega arith }

power-of : (f : Fields) (key : KeyOfCode) (levels : List (LmsType × OtsType)) → map level_text levels ≡ f.levels
    → key.levels ≡ levels
    → 2 ^ sum_by height_in f.levels ≡ capacity_of (hss_key_of key)
power-of f key levels e el =
    ap (λ h. 2 ^ h)
    (ap (sum_by height_in) (sym e) ∙ heights-of-texts levels ∙ ap (λ ls. height_of (levels_of ls)) (sym el))

image-without-fault : (v : Version) (text : List ℕ) (key : KeyOfCode) (counter openings burnt : ℕ)
    → HasImage key counter openings burnt
    → AreLater v openings burnt → text ≡ text_of v key counter openings burnt → fault_of text ≡ None
image-without-fault v text key counter openings burnt is are e =
    let f = fields_of v key counter openings burnt in
    let power = power-of f key key.levels refl refl in
    let within = is.within in
    ap fault_of e
    ∙ no-fault (text_of v key counter openings burnt) f
    (image-whole v key counter openings burnt (spelt key counter openings burnt is) are)
    (keyed f key.levels refl is.admitted) (omega arith) is.openings_within is.burnt_within

-- what was written is read again
pub image-has-no-fault : ImagesAreFaultless
image-has-no-fault text key counter openings burnt is image =
    let versioned = versioned-image text key counter openings burnt (spelt key counter openings burnt is) image in
    image-without-fault versioned.version text key counter openings burnt is versioned.later versioned.text_is

same-key : (key other : KeyOfCode) → key.levels ≡ other.levels → key.seed ≡ other.seed → key.i ≡ other.i → key ≡ other
same-key key other l s i = λ k. record { levels = l k; seed = s k; i = i k }

regroup-five : (a b c d e : List ℕ) → (((a ++ b) ++ c) ++ d) ++ e ≡ a ++ (b ++ (c ++ (d ++ e)))
regroup-five a b c d e = simp append_assoc

length-head : (v : Version) (texts : List (List ℕ)) → length (head_text v texts) ≡ 12 + length (concat texts)
unfolding head_text
length-head v texts = length-append (magic ++ u32str (code_of v) ++ u32str (length texts)) (concat texts)

-- bodies with the same levels have the same seed and identifier
body-parts : (f g : Fields) → f.levels ≡ g.levels → length f.seed ≡ 32 → length g.seed ≡ 32 → length f.id ≡ 16
    → length g.id ≡ 16
    → body_text f ≡ body_text g → (f.seed ≡ g.seed) × (f.id ≡ g.id)
unfolding body_text
body-parts f g same s s' i i' e =
    let numbers : Fields → List ℕ = λ x. u64str x.counter ++ later_text x.version x.openings x.burnt in
    let head : Fields → List ℕ = λ x. head_text x.version x.levels in
    let regrouped : head f ++ (f.seed ++ (f.id ++ numbers f)) ≡ head g ++ (g.seed ++ (g.id ++ numbers g))
    = sym (regroup-five (head f) f.seed f.id (u64str f.counter) (later_text f.version f.openings f.burnt))
    ∙ (e ∙ regroup-five (head g) g.seed g.id (u64str g.counter) (later_text g.version g.openings g.burnt)) in
    let long : length (head g) ≡ length (head f)
    = length-head g.version g.levels
    ∙ (ap (λ t. 12 + length (concat t)) (sym same) ∙ sym (length-head f.version f.levels)) in
    let after = same-rest (length (head f)) (head f) (head g) (f.seed ++ (f.id ++ numbers f))
    (g.seed ++ (g.id ++ numbers g)) refl long regrouped in
    let after_seed = same-rest 32 f.seed g.seed (f.id ++ numbers f) (g.id ++ numbers g) s s' after in (
      same-front 32 f.seed g.seed (f.id ++ numbers f) (g.id ++ numbers g) s s' after,
      same-front 16 f.id g.id (numbers f) (numbers g) i i' after_seed,
    )

-- bytes of two images are those of one key and of one of each number
pub spelt-same : (text : List ℕ) (key other : KeyOfCode) (counter counter' openings openings' burnt burnt' : ℕ)
    → IsSpelt key counter openings burnt → IsSpelt other counter' openings' burnt'
    → IsImage text key counter openings burnt → IsImage text other counter' openings' burnt'
    → (key ≡ other) × (counter ≡ counter') × (openings ≡ openings') × (burnt ≡ burnt')
spelt-same text key other counter counter' openings openings' burnt burnt' is is' image image' =
    let one = versioned-image text key counter openings burnt is image in
    let two = versioned-image text other counter' openings' burnt' is' image' in
    let f = fields_of one.version key counter openings burnt in
    let g = fields_of two.version other counter' openings' burnt' in
    let a = image-laid-out one.version key counter openings burnt is one.later in
    let b = image-laid-out two.version other counter' openings' burnt' is' two.later in
    let e : text_of one.version key counter openings burnt ≡ text_of two.version other counter' openings' burnt' =
    sym one.text_is ∙ two.text_is in
    let texts : map level_text key.levels ≡ map level_text other.levels =
    sym a.levels_are ∙ (ap levels_in e ∙ b.levels_are) in
    let bodies : body_text f ≡ body_text g = sym a.body_is ∙ (ap body_in e ∙ b.body_is) in
    let parts = body-parts f g texts is.seed_length is'.seed_length is.id_length is'.id_length bodies in (
      same-key key other (levels-same key.levels other.levels texts) parts.0 parts.1,
      sym a.counter_is ∙ (ap counter_in e ∙ b.counter_is),
      sym a.openings_are ∙ (ap openings_in e ∙ b.openings_are),
      sym a.burnt_are ∙ (ap burnt_in e ∙ b.burnt_are),
    )

pub image-same : ImagesAreToldApart
image-same text key other counter counter' openings openings' burnt burnt' is is' =
    spelt-same text key other counter counter' openings openings' burnt burnt' (spelt key counter openings burnt is)
    (spelt other counter' openings' burnt' is')

-- ---- bytes that were read

-- bytes whose levels are those of a key are that key's image
pub read-image : (text : List ℕ) (f : Fields) (key : KeyOfCode) (levels : List (LmsType × OtsType)) → IsWhole text f
    → map level_text levels ≡ f.levels → key.levels ≡ levels → key.seed ≡ f.seed → key.i ≡ f.id
    → AreLater f.version f.openings f.burnt
    → IsImage text key f.counter f.openings f.burnt
read-image text f key levels is e el es ei are =
    image-versioned text key f.counter f.openings f.burnt f.version are
    (is.text_is ∙ (λ k. sealed (body_text (record {
      version = f.version;
      levels = sym (ap (map level_text) el ∙ e) k;
      seed = sym es k;
      id = sym ei k;
      counter = f.counter;
      openings = f.openings;
      burnt = f.burnt;
    }))))

pub read-counted : (f : Fields) (count : ℕ) (rest digest : List ℕ) (key : KeyOfCode) (levels : List (LmsType × OtsType))
    → IsCut count rest f digest
    → IsAdmitted levels → key.levels ≡ levels → key.seed ≡ f.seed → key.i ≡ f.id
    → f.counter ≤ capacity_of (hss_key_of key) → f.openings ≤ f.counter → f.burnt ≤ f.counter
    → HasImage key f.counter f.openings f.burnt
read-counted f count rest digest key levels cut admitted el es ei within low few = record {
  admitted = subst IsAdmitted (sym el) admitted;
  seed_length = ap length es ∙ cut.seed_length;
  seed_bytes = subst (All (λ b. b < 256)) (sym es) cut.seed_bytes;
  id_length = ap length ei ∙ cut.id_length;
  id_bytes = subst (All (λ b. b < 256)) (sym ei) cut.id_bytes;
  within = within;
  openings_within = low;
  burnt_within = few;
}

-- what is known of bytes once their levels were read as those of a key
pub record IsRead (text : List ℕ) (f : Fields) (key : KeyOfCode) : Type 0 where
  pub all : IsWhole text f
  pub levels_known : IsKeyed f
  pub power : 2 ^ sum_by height_in f.levels ≡ capacity_of (hss_key_of key)

pub is-read : (text : List ℕ) (f : Fields) (key : KeyOfCode) (levels : List (LmsType × OtsType)) → IsWhole text f
    → map level_text levels ≡ f.levels → IsAdmitted levels → key.levels ≡ levels → IsRead text f key
is-read text f key levels is e admitted el =
    record { all = is; levels_known = keyed f levels e admitted; power = power-of f key levels e el }

pub read-counter-too-high : (text : List ℕ) (f : Fields) (key : KeyOfCode) → IsRead text f key
    → capacity_of (hss_key_of key) < f.counter
    → fault_of text ≡ Some CounterTooHigh
read-counter-too-high text f key is high =
    counter-too-high text f is.all is.levels_known (omega (arith, is.power, high))

pub read-opening-too-high : (text : List ℕ) (f : Fields) (key : KeyOfCode) → IsRead text f key
    → f.counter ≤ capacity_of (hss_key_of key)
    → f.counter < f.openings → fault_of text ≡ Some OpeningTooHigh
read-opening-too-high text f key is within high =
    opening-too-high text f is.all is.levels_known (omega (arith, is.power, within)) high

pub read-burnt-too-high : (text : List ℕ) (f : Fields) (key : KeyOfCode) → IsRead text f key
    → f.counter ≤ capacity_of (hss_key_of key)
    → f.openings ≤ f.counter → f.counter < f.burnt → fault_of text ≡ Some BurntTooHigh
read-burnt-too-high text f key is within low high =
    burnt-too-high text f is.all is.levels_known (omega (arith, is.power, within)) low high

pub read-no-fault : (text : List ℕ) (f : Fields) (key : KeyOfCode) → IsRead text f key
    → f.counter ≤ capacity_of (hss_key_of key)
    → f.openings ≤ f.counter → f.burnt ≤ f.counter → fault_of text ≡ None
read-no-fault text f key is within low few =
    no-fault text f is.all is.levels_known (omega (arith, is.power, within)) low few
