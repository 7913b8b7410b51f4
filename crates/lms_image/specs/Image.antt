-- The state image, in its two versions: the bytes that a store keeps of a key, of how many of its
-- indices are used, of how many openings stored something and of how many indices were burnt. Its
-- numbers are big-endian. Bytes are a list of numbers below 256.
use Rattle.std.specs.Prelude.{ℕ, ◌≡◌, ◌⊎◌, ◌+◌, ◌-◌, ◌*◌, ◌^◌, ◌<◌, ◌≤◌, Bool, not, ◌||◌, ◌&&◌, ◌==◌, nat_lt}
use Rattle.std.specs.Prelude.{if◌then◌else◌, List, [], ◌∷◌, ◌++◌, length, map, take, drop, sum_by, find, All, Option}
use Rattle.std.specs.Prelude.{is_some, option_map, unwrap_or, codes}
use Rattle.std.specs.List.{concat, list_all}
use Rattle.std.specs.Str.{bytes_eq}
use Rattle.std.specs.Simd.{first_chunks}
use Rattle.sha2.specs.Sha256.{sha256}
use Rattle.lms_spec.specs.HashLength.{hash_length}
use Rattle.lms_spec.specs.Parameters.{ots_set, lms_set}
use Rattle.lms_spec.specs.Bytes.{u32str, u64str, number_of}
use Rattle.lms_spec.specs.Hss.{capacity_of, most_levels}
use Rattle.lms_params.specs.LmsType.{lms_set_of}
use Rattle.lms_params.specs.OtsType.{ots_set_of}
use Rattle.lms_params.specs.declared.lms_type.LmsType.{LmsType}
use Rattle.lms_params.specs.declared.ots_type.OtsType.{OtsType}
use Rattle.lms_hss.specs.Levels.{IsAdmitted, most_height}
use Rattle.lms_hss.specs.Keys.{hss_key_of}
use Rattle.lms_hss.specs.declared.key.HssKey.{HssKey as KeyOfCode}
use Rattle.lms_image.specs.declared.fault.ImageFault.{ImageFault}
use Rattle.lms_image.specs.declared.fault.ImageFault.TheVariants.{Truncated, NotAnImage, UnknownVersion, BadLevels}
use Rattle.lms_image.specs.declared.fault.ImageFault.TheVariants.{WrongLength, Damaged, BadType, TooTall}
use Rattle.lms_image.specs.declared.fault.ImageFault.TheVariants.{CounterTooHigh, OpeningTooHigh, BurntTooHigh}
use Rattle.lms_image.specs.declared.version.Version.{Version}
use Rattle.lms_image.specs.declared.version.Version.TheVariants.{First, Second}

-- the first four bytes of every image
abbrev pub magic : List ℕ
magic = codes "HSSK"

-- the eight bytes of a level: the typecodes of its LMS set and of its LM-OTS set
unfoldable pub level_text : LmsType × OtsType → List ℕ
level_text sets = u32str (lms_set_of sets.0).code ++ u32str (ots_set_of sets.1).code

-- the number by which an image states its version
abbrev pub code_of : Version → ℕ
code_of First = 1
code_of Second = 2

-- the bytes of the parts of an image: of `HSSK`, of a version, a count or a typecode, of all before
-- the levels, of a level, the seed and the identifier, of each number after these, and of the
-- digest
abbrev pub magic_size : ℕ
magic_size = 4

abbrev pub code_size : ℕ
code_size = 4

abbrev pub head_size : ℕ
head_size = magic_size + 2 * code_size

abbrev pub level_size : ℕ
level_size = 2 * code_size

abbrev pub seed_size : ℕ
seed_size = hash_length

abbrev pub id_size : ℕ
id_size = 16

abbrev pub number_size : ℕ
number_size = 8

abbrev pub digest_size : ℕ
digest_size = 32

-- the bytes before the counter, of an image with no levels
abbrev pub before_counter : ℕ
before_counter = head_size + seed_size + id_size

-- how many bytes the numbers take that follow the counter
abbrev pub later_length : Version → ℕ
later_length First = 0
later_length Second = 2 * number_size

-- how many bytes follow the number of levels, where it is `count`
abbrev pub rest_length : Version → ℕ → ℕ
rest_length version count =
    seed_size + id_size + number_size + digest_size + later_length version + level_size * count

-- the bytes of an image with so many levels
abbrev pub image_length : Version → ℕ → ℕ
image_length version count = head_size + rest_length version count

-- the most bytes of an image
abbrev pub longest_image : ℕ
longest_image = image_length Second most_levels

-- what an image says: its version, the eight bytes of each level, the seed, the identifier and the
-- numbers after them
pub record Fields : Type 0 where
  pub version : Version
  pub levels : List (List ℕ)
  pub seed : List ℕ
  pub id : List ℕ
  pub counter : ℕ
  pub openings : ℕ
  pub burnt : ℕ

-- what is before the seed
unfoldable pub head_text : Version → List (List ℕ) → List ℕ
head_text version levels =
    magic ++ u32str (code_of version) ++ u32str (length levels) ++ concat levels

-- the numbers that follow the counter since version 2
abbrev pub later_text : Version → ℕ → ℕ → List ℕ
later_text First openings burnt = []
later_text Second openings burnt = u64str openings ++ u64str burnt

-- what is before the digest
unfoldable pub body_text : Fields → List ℕ
body_text f =
    head_text f.version f.levels ++ f.seed ++ f.id ++ u64str f.counter
    ++ later_text f.version f.openings f.burnt

-- bytes with their digest after them
unfoldable pub sealed : List ℕ → List ℕ
sealed body = body ++ sha256 body

-- what an image of a version says of a key and its numbers
abbrev pub fields_of : Version → KeyOfCode → ℕ → ℕ → ℕ → Fields
fields_of version key counter openings burnt = record {
  version = version;
  levels = map level_text key.levels;
  seed = key.seed;
  id = key.i;
  counter = counter;
  openings = openings;
  burnt = burnt;
}

-- the image of a key, of how many of its indices are used, of how many openings stored something,
-- and of how many indices were burnt: version 2, which alone is written
unfoldable pub image_of : KeyOfCode → ℕ → ℕ → ℕ → List ℕ
image_of key counter openings burnt =
    sealed (body_text (fields_of Second key counter openings burnt))

-- the image of a key and a counter: version 1, which is only read
unfoldable pub first_image_of : KeyOfCode → ℕ → List ℕ
first_image_of key counter = sealed (body_text (fields_of First key counter 0 0))

-- the bytes are an image of these: version 2, or version 1, which counts no openings and no burnt
-- indices
abbrev pub IsImage : List ℕ → KeyOfCode → ℕ → ℕ → ℕ → Type 0
IsImage text key counter openings burnt =
    (text ≡ image_of key counter openings burnt)
    ⊎ ((text ≡ first_image_of key counter) × (openings ≡ 0) × (burnt ≡ 0))

-- a key and numbers that have an image: the signer takes the levels, seed and identifier have their
-- lengths, the counter is at most the capacity, at which the key is exhausted, and neither more
-- openings nor more burnt indices are counted than used indices
pub record HasImage (key : KeyOfCode) (counter openings burnt : ℕ) : Type 0 where
  pub admitted : IsAdmitted key.levels
  pub seed_length : length key.seed ≡ seed_size
  pub seed_bytes : All (λ b. b < 256) key.seed
  pub id_length : length key.i ≡ id_size
  pub id_bytes : All (λ b. b < 256) key.i
  pub within : counter ≤ capacity_of (hss_key_of key)
  pub openings_within : openings ≤ counter
  pub burnt_within : burnt ≤ counter

-- an image that an opening with this number wrote of this key, with a counter at or past this one
pub record IsImageFrom (key : KeyOfCode) (number floor : ℕ) (text : List ℕ) : Type 0 where
  pub counter : ℕ
  pub burnt : ℕ
  pub past : floor ≤ counter
  pub counted : HasImage key counter number burnt
  pub text_is : text ≡ image_of key counter number burnt

-- the number in n bytes of `text`, from byte k on
abbrev pub number_at : ℕ → ℕ → List ℕ → ℕ
number_at k n text = number_of (take n (drop k text))

-- the version that the bytes state
abbrev pub version_in : List ℕ → ℕ
version_in text = number_at 4 4 text

-- the number of levels that the bytes state
abbrev pub count_in : List ℕ → ℕ
count_in text = number_at 8 4 text

-- the eight bytes of each of these levels
abbrev pub levels_in : List ℕ → List (List ℕ)
levels_in text = first_chunks level_size (count_in text) (drop head_size text)

-- where the counter of an image with so many levels is, after the levels, the seed and the
-- identifier
abbrev pub counter_place : ℕ → ℕ
counter_place count = before_counter + level_size * count

-- where the openings are, after the counter, and the burnt indices, after these
abbrev pub openings_place : ℕ → ℕ
openings_place count = before_counter + number_size + level_size * count

abbrev pub burnt_place : ℕ → ℕ
burnt_place count = before_counter + 2 * number_size + level_size * count

-- the counter that the bytes state
abbrev pub counter_in : List ℕ → ℕ
counter_in text = number_at (counter_place (count_in text)) number_size text

-- a number that begins at byte k, and that version 1 has not: there it is 0
abbrev pub later_number : ℕ → List ℕ → ℕ
later_number k text = if version_in text == 1 then 0 else number_at k number_size text

-- the openings and the burnt indices that the bytes state, 0 in version 1
abbrev pub openings_in : List ℕ → ℕ
openings_in text = later_number (openings_place (count_in text)) text

abbrev pub burnt_in : List ℕ → ℕ
burnt_in text = later_number (burnt_place (count_in text)) text

-- how many bytes an image has that states this version, 1 or 2, and this number of levels
abbrev pub stated_length : ℕ → ℕ → ℕ
stated_length version count =
    if version == 1 then image_length First count else image_length Second count

-- all bytes but the digest at the end, and the digest
abbrev pub body_in : List ℕ → List ℕ
body_in text = take (length text - digest_size) text

abbrev pub digest_in : List ℕ → List ℕ
digest_in text = drop (length text - digest_size) text

-- both typecodes of a level are known
unfoldable pub is_level : List ℕ → Bool
is_level level = is_some (lms_set (number_at 0 4 level)) && is_some (ots_set (number_at 4 4 level))

-- the height that a level's first typecode names, 0 where none is known
unfoldable pub height_in : List ℕ → ℕ
height_in level = unwrap_or (option_map (λ m. m.h) (lms_set (number_at 0 4 level))) 0

-- the heights of the levels in the bytes, added up
abbrev pub heights_in : List ℕ → ℕ
heights_in text = sum_by height_in (levels_in text)

-- whether the bytes have a fault, whatever other faults they have
unfoldable pub has_fault : ImageFault → List ℕ → Bool
has_fault Truncated text = nat_lt (length text) head_size
has_fault NotAnImage text = not (bytes_eq (take 4 text) magic)
has_fault UnknownVersion text = not (version_in text == 1 || version_in text == 2)
has_fault BadLevels text = count_in text == 0 || nat_lt most_levels (count_in text)
has_fault WrongLength text = not (length text == stated_length (version_in text) (count_in text))
has_fault Damaged text = not (bytes_eq (digest_in text) (sha256 (body_in text)))
has_fault BadType text = not (list_all is_level (levels_in text))
has_fault TooTall text = nat_lt most_height (heights_in text)
has_fault CounterTooHigh text = nat_lt (2 ^ heights_in text) (counter_in text)
has_fault OpeningTooHigh text = nat_lt (counter_in text) (openings_in text)
has_fault BurntTooHigh text = nat_lt (counter_in text) (burnt_in text)

-- the faults, in the order in which they are looked for
abbrev pub faults : List ImageFault
faults =
    Truncated ∷ NotAnImage ∷ UnknownVersion ∷ BadLevels ∷ WrongLength ∷ Damaged ∷ BadType ∷ TooTall
    ∷ CounterTooHigh
    ∷ OpeningTooHigh ∷ BurntTooHigh ∷ []

-- the first fault that the bytes have
unfoldable pub fault_of : List ℕ → Option ImageFault
fault_of text = find (λ fault. has_fault fault text) faults
