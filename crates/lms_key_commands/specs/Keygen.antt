-- The key that options spell.
use Rattle.std.specs.Prelude.{ℕ, ◌≡◌, ◌⊎◌, List, Option, length, Ok, Err}
use Rattle.hex.specs.Hex.{decode_of}
use Rattle.lms_params.specs.declared.lms_type.LmsType.{LmsType}
use Rattle.lms_params.specs.declared.ots_type.OtsType.{OtsType}
use Rattle.lms_hss.specs.Levels.{IsAdmitted, JudgesLevels}
use Rattle.lms_hss.specs.declared.key.HssKey.{HssKey as KeyOfCode}
use Rattle.lms_hss.specs.declared.fault.KeyFault.{KeyFault}
use Rattle.lms_hss.specs.declared.fault.KeyFault.TheVariants as refused
use Rattle.lms_image.specs.Image.{id_size, seed_size}
use Rattle.lms_world.specs.Names.{Bytes}
use Rattle.lms_texts.specs.Options.{IsHexOf, IsLevelsText}
use Rattle.lms_texts.specs.Seeds.{IsNoSeed, IsSeedOf}
use Rattle.lms_texts.specs.declared.fault.SeedFault.{SeedFault}
use Rattle.lms_commands.specs.Faults.{of_seed}
use Rattle.lms_commands.specs.declared.fault.Fault.{Fault}
use Rattle.lms_commands.specs.declared.fault.Fault.TheVariants.{BadLevels, TooManyLevels, TooTall, BadId, OutOfMemory}

-- the signer takes the key's levels, its seed has 32 bytes and its identifier 16
pub record IsTaken (key : KeyOfCode) : Type 0 where
  pub admitted : IsAdmitted key.levels
  pub seed_length : length key.seed ≡ seed_size
  pub id_length : length key.i ≡ id_size

-- the texts are those of a key's levels, seed and identifier, where the seed's may ask for the
-- input, and the signer takes the key
pub record IsKeyOf (levels seed id : Bytes) (input rest : Option (List ℕ))
    (key : KeyOfCode) : Type 0 where
  pub levels_are : IsLevelsText levels key.levels
  pub seed_is : IsSeedOf seed input rest key.seed
  pub id_is : decode_of id ≡ Ok key.i
  pub taken : IsTaken key

-- the text is that of levels which are refused so
abbrev pub AreRefused : Bytes → KeyFault → Type 0
AreRefused text fault =
    (levels : List (LmsType × OtsType)) × IsLevelsText text levels × JudgesLevels levels (Err fault)

-- the text is that of levels which the signer takes
abbrev pub AreTaken : Bytes → Type 0
AreTaken text =
    (levels : List (LmsType × OtsType)) × IsLevelsText text levels × JudgesLevels levels (Ok levels)

-- why the text is that of no levels which the signer takes; memory may run out while it is read
abbrev pub AreNoLevels : Bytes → Fault → Type 0
AreNoLevels levels fault =
    (fault ≡ OutOfMemory)
    ⊎ (((fault ≡ BadLevels) × ((pairs : List (LmsType × OtsType)) → ¬ IsLevelsText levels pairs))
    ⊎ (((fault ≡ TooManyLevels) × AreRefused levels refused.TooManyLevels)
    ⊎ ((fault ≡ TooTall) × AreRefused levels refused.TooTall)))

-- there is a seed, by its digits or on the input
abbrev pub HasSeed : Bytes → Option (List ℕ) → Option (List ℕ) → Type 0
HasSeed seed input rest =
    (bytes : List ℕ) × (length bytes ≡ seed_size) × IsSeedOf seed input rest bytes

-- why the texts are those of no key: the first of them that is bad; before the seed is read nothing
-- of the input is
abbrev pub IsNoKey : Bytes → Bytes → Bytes → Option (List ℕ) → Option (List ℕ) → Fault → Type 0
IsNoKey levels seed id input rest fault =
    (AreNoLevels levels fault × (rest ≡ input))
    ⊎ (AreTaken levels
    × (((why : SeedFault) × (fault ≡ of_seed why) × IsNoSeed seed input rest why)
    ⊎ ((fault ≡ BadId) × HasSeed seed input rest × ¬ IsHexOf id_size id)))
