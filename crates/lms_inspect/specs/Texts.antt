-- The lines that say what bytes are.
use Rattle.std.specs.Prelude.{ℕ, ◌+◌, List, [], ◌∷◌, ◌++◌, length, codes, Option, Some, None}
use Rattle.std.specs.Fmt.{decimal}
use Rattle.hex.specs.Hex.{encode_lower}
use Rattle.sha2.specs.Sha256.{sha256}
use Rattle.lms_params.specs.declared.lms_type.LmsType.{LmsType}
use Rattle.lms_params.specs.declared.ots_type.OtsType.{OtsType}
use Rattle.lms_hss.specs.Texts.{pair_text}
use Rattle.lms_image.specs.declared.image.Image.{Image}
use Rattle.lms_texts.specs.Descriptions.{info_text, number_line}
use Rattle.lms_inspect.specs.Indices.{indexed}
use Rattle.lms_inspect.specs.declared.found.Found.{Found}
use Rattle.lms_inspect.specs.declared.found.Found.TheVariants.{State, Public, Signature, Nothing}
use Rattle.lms_inspect.specs.declared.level.Level.{Level}
use Rattle.lms_inspect.specs.declared.public_key.PublicParts.{PublicParts}
use Rattle.lms_inspect.specs.declared.signature.KeyedLevel.{KeyedLevel}
use Rattle.lms_inspect.specs.declared.signature.SignatureParts.{SignatureParts}

-- an identifier
abbrev pub id_line : List ℕ → List ℕ
id_line id = codes "id " ++ encode_lower id ++ codes "\n"

-- a hash
abbrev pub digest_line : List ℕ → List ℕ
digest_line digest = codes "sha256 " ++ encode_lower digest ++ codes "\n"

-- the sets of a top tree
abbrev pub sets_line : LmsType → OtsType → List ℕ
sets_line lms ots = codes "top " ++ pair_text (lms, ots) ++ codes "\n"

-- the sets of a level, and the leaf that signed
abbrev pub level_line : Level → List ℕ
level_line level =
    codes "level " ++ pair_text (level.lms, level.ots) ++ codes " leaf " ++ decimal level.leaf ++ codes "\n"

-- below which index a witness says that all are used
abbrev pub witness_line : Option ℕ → List ℕ
witness_line None = codes "witness none\n"
witness_line (Some counter) = number_line (codes "witness") counter

-- what a state says
abbrev pub state_text : Image → Option ℕ → List ℕ
state_text image witness =
    codes "state\n" ++ info_text image.key image.counter image.openings image.burnt
    ++ id_line image.key.i ++ witness_line witness

-- what a public key of these bytes says
abbrev pub public_text : PublicParts → List ℕ → List ℕ
public_text parts bytes =
    codes "public key\n" ++ number_line (codes "levels") parts.levels ++ sets_line parts.top.lms parts.top.ots
    ++ id_line parts.top.id ++ digest_line (sha256 bytes)

-- the keys in a signature, with their levels
abbrev pub keyed_lines : List KeyedLevel → List ℕ
keyed_lines [] = []
keyed_lines (keyed ∷ more) = id_line keyed.id ++ level_line keyed.level ++ keyed_lines more

-- the index that the leaves make, which is the signer's only where all levels are one key's
abbrev pub index_line : Option ℕ → List ℕ
index_line None = []
index_line (Some index) = codes "index " ++ decimal index ++ codes " if all levels are one key's\n"

-- what a signature of this length says
abbrev pub signature_text : SignatureParts → ℕ → List ℕ
signature_text parts size =
    codes "signature\n" ++ number_line (codes "levels") (length parts.below.items + 1)
    ++ number_line (codes "length") size ++ level_line parts.top
    ++ keyed_lines parts.below.items ++ index_line (indexed parts.top parts.below.items)

-- what is said of bytes that are this; of a state also below which index its witness says that all are used
abbrev pub found_text : Found → List ℕ → Option ℕ → List ℕ
found_text (State image) bytes witness = state_text image witness
found_text (Public parts) bytes witness = public_text parts bytes
found_text (Signature parts) bytes witness = signature_text parts (length bytes)
found_text Nothing bytes witness = codes "no state, public key or signature\n"
