-- What the functions that read an image say of its parts.
use Rattle.std.specs.Prelude.{ℕ, ◌≡◌, ◌+◌, ◌*◌, ◌^◌, ◌<◌, ◌≤◌, List, ◌++◌, length, map, sum_by, All, Result, true}
use Rattle.std.specs.Prelude.{false}
use Rattle.std.specs.Prelude.Result.{Ok, Err}
use Rattle.std.specs.List.{concat, list_all}
use Rattle.lms_spec.specs.Bytes.{u32str, u64str}
use Rattle.lms_spec.specs.Hss.{most_levels}
use Rattle.lms_params.specs.declared.lms_type.LmsType.{LmsType}
use Rattle.lms_params.specs.declared.ots_type.OtsType.{OtsType}
use Rattle.lms_hss.specs.Levels.{IsAdmitted, most_height}
use Rattle.lms_hss.specs.declared.fault.KeyFault.{KeyFault}
use Rattle.lms_hss.specs.declared.fault.KeyFault.TheVariants.{NoLevels, TooManyLevels, TooTall as TallLevels}
use Rattle.lms_image.specs.declared.fault.ImageFault.{ImageFault}
use Rattle.lms_image.specs.declared.fault.ImageFault.TheVariants.{BadType, TooTall}
use Rattle.lms_image.specs.declared.version.Version.{Version}
use Rattle.lms_image.specs.declared.version.Version.TheVariants.{First, Second}
use Rattle.lms_image.specs.Image.{Fields, magic, code_of, later_length, later_text, level_text, is_level, height_in}
use Rattle.lms_image.specs.Image.{head_size, level_size, seed_size, id_size, digest_size}

-- `text` begins as an image of this version and of `count` levels, 1 to 8, does, and goes on with
-- `rest`
pub record IsHeaded (text rest : List ℕ) (version : Version) (count : ℕ) : Type 0 where
  pub some_level : 1 ≤ count
  pub eight_at_most : count ≤ most_levels
  pub parts : text ≡ magic ++ (u32str (code_of version) ++ (u32str count ++ rest))

-- the most bytes before the seed
abbrev pub longest_head : ℕ
longest_head = head_size + level_size * most_levels

-- what openings and burnt indices may be that are read: below 2^64, and 0 in version 1, which has
-- neither
abbrev pub AreLater : Version → ℕ → ℕ → Type 0
AreLater First openings burnt = (openings ≡ 0) × (burnt ≡ 0)
AreLater Second openings burnt = (openings < 2 ^ 64) × (burnt < 2 ^ 64)

-- these numbers are read from the front of the bytes `text`, and these bytes follow
pub record ReadsLater (version : Version) (text : List ℕ) (openings burnt : ℕ)
    (rest : List ℕ) : Type 0 where
  pub are : AreLater version openings burnt
  pub parts : text ≡ later_text version openings burnt ++ rest
  pub long : length text ≡ later_length version + length rest

-- the parts of what follows an image's count of levels
pub record IsCut (count : ℕ) (rest : List ℕ) (f : Fields) (digest : List ℕ) : Type 0 where
  pub level_count : length f.levels ≡ count
  pub level_lengths : All (λ level. length level ≡ level_size) f.levels
  pub seed_length : length f.seed ≡ seed_size
  pub seed_bytes : All (λ b. b < 256) f.seed
  pub id_length : length f.id ≡ id_size
  pub id_bytes : All (λ b. b < 256) f.id
  pub counter_fits : f.counter < 2 ^ 64
  pub later : AreLater f.version f.openings f.burnt
  pub digest_length : length digest ≡ digest_size
  pub parts : rest ≡ concat f.levels
      ++ (f.seed
      ++ (f.id ++ (u64str f.counter ++ (later_text f.version f.openings f.burnt ++ digest))))

-- the fault of an image whose levels the signer refuses
abbrev pub refused_as : KeyFault → ImageFault
refused_as TallLevels = TooTall
refused_as NoLevels = BadType
refused_as TooManyLevels = BadType

-- the levels that these bytes name, or the fault of the bytes
abbrev pub ReadsLevels : List (List ℕ) → Result (List (LmsType × OtsType)) ImageFault → Type 0
ReadsLevels texts (Ok levels) = (map level_text levels ≡ texts) × IsAdmitted levels
ReadsLevels texts (Err BadType) = list_all is_level texts ≡ false
ReadsLevels texts (Err TooTall) =
    (list_all is_level texts ≡ true) × (most_height < sum_by height_in texts)
ReadsLevels texts (Err _) = ⊥
