-- The seed that an option names: by its digits, or by `-`, those of an input.
use Rattle.std.specs.Prelude.{ℕ, ◌≡◌, ◌≢◌, ◌⊎◌, ◌*◌, ◌+◌, ◌≤◌, List, [], ◌++◌, length, codes, Ok, Option, IfSome}
use Rattle.std.specs.Io.KnownBytes.{Consumes, IsAtEnd}
use Rattle.hex.specs.Hex.{decode_of}
use Rattle.lms_spec.specs.HashLength.{hash_length}
use Rattle.lms_texts.specs.Options.{IsHexOf}
use Rattle.lms_texts.specs.declared.fault.SeedFault.{SeedFault}
use Rattle.lms_texts.specs.declared.fault.SeedFault.TheVariants.{Bad, Read}

-- the option that asks for the input
abbrev pub on_input : List ℕ
on_input = codes "-"

-- nothing, or LF
abbrev pub IsLineEnd : List ℕ → Type 0
IsLineEnd bytes = (bytes ≡ []) ⊎ (bytes ≡ codes "\n")

-- the hexadecimal digits of a seed, and perhaps LF after them
pub record IsSeedText (text seed : List ℕ) : Type 0 where
  pub digits : List ℕ
  pub ending : List ℕ
  pub parts : text ≡ digits ++ ending
  pub digits_length : length digits ≡ 2 * hash_length
  pub line_end : IsLineEnd ending
  pub seed_is : decode_of digits ≡ Ok seed

-- an input is read to its end, and is the text of this seed
pub record ReadsSeed (input rest : Option (List ℕ)) (seed : List ℕ) : Type 0 where
  pub text : List ℕ
  pub consumed : Consumes input rest text
  pub at_end : IsAtEnd rest
  pub is_text : IsSeedText text seed

-- where the bytes of an input are known, they are the text of no seed
abbrev pub GivesNoSeed : Option (List ℕ) → Type 0
GivesNoSeed input = IfSome input (λ text. (seed : List ℕ) → ¬ IsSeedText text seed)

-- the most that is read of an input: one byte more than a seed's text has
abbrev pub most_read : ℕ
most_read = 2 * hash_length + 2

-- so many bytes of an input are read at most
abbrev pub TakesAtMost : ℕ → Option (List ℕ) → Option (List ℕ) → Type 0
TakesAtMost most input rest =
    (bytes : List ℕ) × (length bytes ≤ most) × Consumes input rest bytes

-- the seed is that of the option's digits, and nothing is read; or the option asks for the input,
-- and it is that of the input
abbrev pub IsSeedOf : List ℕ → Option (List ℕ) → Option (List ℕ) → List ℕ → Type 0
IsSeedOf option input rest seed =
    ((option ≢ on_input) × (decode_of option ≡ Ok seed) × (rest ≡ input))
    ⊎ ((option ≡ on_input) × ReadsSeed input rest seed)

-- why there is no seed: the option's text is no digits, and nothing is read; or the input, of which
-- at most `most_read` bytes are read, is the text of none, or can't be read
abbrev pub IsNoSeed : List ℕ → Option (List ℕ) → Option (List ℕ) → SeedFault → Type 0
IsNoSeed option input rest fault =
    ((option ≢ on_input) × (fault ≡ Bad) × (¬ IsHexOf hash_length option) × (rest ≡ input))
    ⊎ ((option ≡ on_input) × TakesAtMost most_read input rest
    × (((fault ≡ Bad) × GivesNoSeed input) ⊎ (fault ≡ Read)))
