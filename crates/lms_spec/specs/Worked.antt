-- Worked cases of the definitions, which the checker computes.
use Rattle.std.specs.Prelude.{ℕ, ◌≡◌, List, [], ◌∷◌, ◌++◌, length, map, replicate, take}
use Rattle.std.specs.List.{concat}
use Rattle.sha2.specs.Sha256.{sha256}
use Rattle.lms_spec.specs.Bytes.{below}
use Rattle.lms_spec.specs.Parameters.{OtsSet, LmsSet, ots_w1, ots_w2, ots_w4, ots_w8, lms_h5, lms_h10, lms_h15, lms_h25}
use Rattle.lms_spec.specs.Parameters.{ots_sets, ots_signature_length, lms_signature_length}
use Rattle.lms_spec.specs.Digits.{digits_of}
use Rattle.lms_spec.specs.Hashing.{chain_secret, chain_step}
use Rattle.lms_spec.specs.Ots.{last_digit, ends_hash, message_hash}
use Rattle.lms_spec.specs.Tree.{Tree, leaf_hash, inner_hash, lms_public_key}
use Rattle.lms_spec.specs.Hss.{Level, HssKey, hss_signature_length, capacity_of}
use Rattle.lms_spec.specs.Profile.{leaf_at, for_randomizer, derived, child}

-- a list n times over
abbrev pub times : ℕ → List ℕ → List ℕ
times n xs = concat (replicate n xs)

-- a hash of zeros has the largest checksum, and a hash of ones the checksum 0
pub record WorkedExtremes : Type 0 where
  pub zeros_w1 : digits_of ots_w1 (replicate 32 0) ≡ replicate 256 0 ++ 1 ∷ replicate 8 0
  pub zeros_w2 : digits_of ots_w2 (replicate 32 0) ≡ replicate 128 0 ++ 1 ∷ 2 ∷ 0 ∷ 0 ∷ 0 ∷ []
  pub zeros_w4 : digits_of ots_w4 (replicate 32 0) ≡ replicate 64 0 ++ 3 ∷ 12 ∷ 0 ∷ []
  pub zeros_w8 : digits_of ots_w8 (replicate 32 0) ≡ replicate 32 0 ++ 31 ∷ 224 ∷ []
  pub ones_w1 : digits_of ots_w1 (replicate 32 0xff) ≡ replicate 256 1 ++ replicate 9 0
  pub ones_w2 : digits_of ots_w2 (replicate 32 0xff) ≡ replicate 128 3 ++ replicate 5 0
  pub ones_w4 : digits_of ots_w4 (replicate 32 0xff) ≡ replicate 64 15 ++ replicate 3 0
  pub ones_w8 : digits_of ots_w8 (replicate 32 0xff) ≡ replicate 32 255 ++ replicate 2 0

-- the digits are in the order of the bytes, the highest bits of a byte first
pub record WorkedOrder : Type 0 where
  pub bytes_w8 : digits_of ots_w8 (below 32) ≡ below 32 ++ 29 ∷ 240 ∷ []
  pub halves_w4 :
      digits_of ots_w4 (times 4 (0x01 ∷ 0x23 ∷ 0x45 ∷ 0x67 ∷ 0x89 ∷ 0xab ∷ 0xcd ∷ 0xef ∷ []))
      ≡ times 4 (below 16) ++ 1 ∷ 14 ∷ 0 ∷ []
  pub quarters_w2 : digits_of ots_w2 (replicate 32 0x1b) ≡ times 32 (below 4)
      ++ 0 ∷ 3 ∷ 0 ∷ 0 ∷ 0 ∷ []
  pub bits_w1 : digits_of ots_w1 (replicate 32 0xaa) ≡ times 128 (1 ∷ 0 ∷ [])
      ++ 0 ∷ 1 ∷ replicate 7 0

-- the values that are hashed in the cases below: an identifier, a seed or a hash, a randomizer
abbrev pub id_bytes : List ℕ
id_bytes = below 16

abbrev pub value_bytes : List ℕ
value_bytes = replicate 32 0xaa

abbrev pub randomizer_bytes : List ℕ
randomizer_bytes = replicate 32 0xcc

-- what the standard hashes and a public key, byte by byte, and the last digit of each width
pub record WorkedTexts : Type 0 where
  pub last_digits : map last_digit ots_sets ≡ 1 ∷ 3 ∷ 15 ∷ 255 ∷ []
  pub secret : chain_secret id_bytes value_bytes 1 0x102
      ≡ sha256 (id_bytes ++ 0 ∷ 0 ∷ 0 ∷ 1 ∷ 1 ∷ 2 ∷ 0xff ∷ value_bytes)
  pub step : chain_step id_bytes 1 0x102 3 value_bytes
      ≡ sha256 (id_bytes ++ 0 ∷ 0 ∷ 0 ∷ 1 ∷ 1 ∷ 2 ∷ 3 ∷ value_bytes)
  pub ends :
      ends_hash id_bytes 1 (value_bytes ∷ randomizer_bytes ∷ [])
      ≡ sha256 (id_bytes ++ 0 ∷ 0 ∷ 0 ∷ 1 ∷ 0x80 ∷ 0x80 ∷ value_bytes ++ randomizer_bytes)
  pub message :
      message_hash id_bytes 1 randomizer_bytes (0x61 ∷ 0x62 ∷ 0x63 ∷ [])
      ≡ sha256 (id_bytes ++ 0 ∷ 0 ∷ 0 ∷ 1 ∷ 0x81 ∷ 0x81 ∷ randomizer_bytes
      ++ 0x61 ∷ 0x62 ∷ 0x63 ∷ [])
  pub leaf : leaf_hash id_bytes 33 value_bytes
      ≡ sha256 (id_bytes ++ 0 ∷ 0 ∷ 0 ∷ 33 ∷ 0x82 ∷ 0x82 ∷ value_bytes)
  pub inner :
      inner_hash id_bytes 16 value_bytes randomizer_bytes
      ≡ sha256 (id_bytes ++ 0 ∷ 0 ∷ 0 ∷ 16 ∷ 0x83 ∷ 0x83 ∷ value_bytes ++ randomizer_bytes)
  pub public_key :
      lms_public_key lms_h5 ots_w8 id_bytes value_bytes ≡ 0 ∷ 0 ∷ 0 ∷ 5 ∷ 0 ∷ 0 ∷ 0 ∷ 4 ∷ id_bytes
      ++ value_bytes

-- a level and a tree of the cases below
abbrev pub level_in_case : LmsSet → OtsSet → Level
level_in_case m t = record { lms = m; ots = t }

abbrev pub tree_in_case : Tree
tree_in_case = record { lms = lms_h5; ots = ots_w8; id = id_bytes; seed = value_bytes }

-- what is derived at a leaf for the tree below it and for the signature of its key
pub record WorkedChildren : Type 0 where
  pub seed :
      (child tree_in_case 1 (level_in_case lms_h5 ots_w8)).seed
      ≡ sha256 (id_bytes ++ 0 ∷ 0 ∷ 0 ∷ 1 ∷ 0xff ∷ 0xfe ∷ 0xff ∷ value_bytes)
  pub id :
      (child tree_in_case 1 (level_in_case lms_h5 ots_w8)).id
      ≡ take 16 (sha256 (id_bytes ++ 0 ∷ 0 ∷ 0 ∷ 1 ∷ 0xff ∷ 0xff ∷ 0xff ∷ value_bytes))
  pub randomizer :
      derived tree_in_case 1 for_randomizer
      ≡ sha256 (id_bytes ++ 0 ∷ 0 ∷ 0 ∷ 1 ∷ 0xff ∷ 0xfd ∷ 0xff ∷ value_bytes)

-- a key of these levels
abbrev pub key_of : List Level → HssKey
key_of levels = record { levels = levels; id = id_bytes; seed = value_bytes }

-- the leaves that an index goes through, from the top
abbrev pub leaves_of : List Level → ℕ → List ℕ
leaves_of levels g = map (leaf_at (key_of levels) g) (below (length levels))

abbrev pub two_levels : List Level
two_levels = replicate 2 (level_in_case lms_h5 ots_w8)

abbrev pub three_levels : List Level
three_levels =
    level_in_case lms_h5 ots_w8 ∷ level_in_case lms_h10 ots_w4 ∷ level_in_case lms_h5 ots_w8 ∷ []

abbrev pub eight_levels : List Level
eight_levels = replicate 8 (level_in_case lms_h5 ots_w8)

-- leaves of indices, and capacities
pub record WorkedPlaces : Type 0 where
  pub last_of_first : leaves_of two_levels 31 ≡ 0 ∷ 31 ∷ []
  pub first_of_second : leaves_of two_levels 32 ≡ 1 ∷ 0 ∷ []
  pub last_of_all : leaves_of two_levels 1023 ≡ 31 ∷ 31 ∷ []
  pub heights_differ : leaves_of three_levels 33000 ≡ 1 ∷ 7 ∷ 8 ∷ []
  pub below_the_top : leaves_of eight_levels 34359738367 ≡ 0 ∷ replicate 7 31
  pub at_the_top : leaves_of eight_levels 34359738368 ≡ 1 ∷ replicate 7 0
  pub two_capacity : capacity_of (key_of two_levels) ≡ 1024
  pub four_capacity : capacity_of (key_of (replicate 4 (level_in_case lms_h15 ots_w8)))
      ≡ 1152921504606846976
  pub eight_capacity : capacity_of (key_of eight_levels) ≡ 1099511627776

-- the lengths of signatures
pub record WorkedLengths : Type 0 where
  pub one_time : map ots_signature_length ots_sets ≡ 8516 ∷ 4292 ∷ 2180 ∷ 1124 ∷ []
  pub h5_w8 : lms_signature_length lms_h5 ots_w8 ≡ 1292
  pub h10_w4 : lms_signature_length lms_h10 ots_w4 ≡ 2508
  pub h25_w1 : lms_signature_length lms_h25 ots_w1 ≡ 9324
  pub hss_one : hss_signature_length (level_in_case lms_h5 ots_w8 ∷ []) ≡ 1296
  pub hss_two : hss_signature_length two_levels ≡ 2644
  pub hss_three : hss_signature_length three_levels ≡ 5208
  pub hss_four : hss_signature_length (replicate 4 (level_in_case lms_h15 ots_w8)) ≡ 6620
  pub hss_all_widths : hss_signature_length (map (level_in_case lms_h5) ots_sets) ≡ 16956
  pub hss_eight : hss_signature_length eight_levels ≡ 10732
