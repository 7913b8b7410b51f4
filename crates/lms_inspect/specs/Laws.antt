-- Laws over what bytes are.
use Rattle.std.specs.Prelude.{ℕ, ◌≡◌, ◌+◌, ◌<◌, ◌≤◌, List, length, All, Option, Some}
use Rattle.lms_spec.specs.HashLength.{hash_length}
use Rattle.lms_spec.specs.Hss.{HasKnownSets, HssAccepts, HssKey, capacity_of, height_of, most_levels}
use Rattle.lms_spec.specs.Profile.{hss_signature}
use Rattle.lms_hss.specs.Levels.{most_height}
use Rattle.lms_image.specs.declared.image.Image.{Image}
use Rattle.lms_inspect.specs.Indices.{all_sets, indexed}
use Rattle.lms_inspect.specs.PublicKeys.{SaysPublic}
use Rattle.lms_inspect.specs.Signatures.{SaysLevels}
use Rattle.lms_inspect.specs.Texts.{state_text}
use Rattle.lms_inspect.specs.declared.level.Level.{Level}
use Rattle.lms_inspect.specs.declared.public_key.PublicParts.{PublicParts}
use Rattle.lms_inspect.specs.declared.signature.KeyedLevel.{KeyedLevel}

-- where a signature is accepted for some message under some public key, both say what they are, and
-- the same number of levels and the same sets of the top tree
abbrev pub AcceptedSays : Type 0
AcceptedSays = (public_key message signature : List ℕ) → HssAccepts public_key message signature
    → (parts : PublicParts) × (top : Level) × (below : List KeyedLevel)
    × SaysPublic parts public_key × SaysLevels top below signature
    × (parts.levels ≡ length below + 1) × (parts.top.lms ≡ top.lms) × (parts.top.ots ≡ top.ots)

-- a key's signature by an index says the key's levels, and leaves that make this index, and nothing else
abbrev pub IndexIsSaid : Type 0
IndexIsSaid = (key : HssKey) (index : ℕ) (randomizer message : List ℕ)
    → 1 ≤ length key.levels → length key.levels ≤ most_levels → height_of key.levels ≤ most_height
    → All HasKnownSets key.levels → length key.id ≡ 16 → index < capacity_of key → length randomizer ≡ hash_length
    → let signature = hss_signature key index randomizer message in
    ((top : Level) × (below : List KeyedLevel) × SaysLevels top below signature)
    × ((top : Level) (below : List KeyedLevel) → SaysLevels top below signature
    → (all_sets top below ≡ key.levels) × (indexed top below ≡ Some index))

-- the same image under another seed
abbrev pub reseeded : Image → List ℕ → Image
reseeded image seed = record image { key = record image.key { seed = seed } }

-- what is said of a state says nothing of its seed
abbrev pub SeedIsUnsaid : Type 0
SeedIsUnsaid = (image : Image) (seed : List ℕ) (witness : Option ℕ)
    → state_text (reseeded image seed) witness ≡ state_text image witness
