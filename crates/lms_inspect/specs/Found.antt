-- What bytes are: the first of a state image, a public key and a signature.
use Rattle.std.specs.Prelude.{ℕ, ◌≡◌, List, Some}
use Rattle.lms_image.specs.Image.{HasImage, IsImage, fault_of}
use Rattle.lms_image.specs.declared.fault.ImageFault.{ImageFault}
use Rattle.lms_commands.specs.declared.status.Status.{Status}
use Rattle.lms_commands.specs.declared.status.Status.TheVariants.{Done, Negative}
use Rattle.lms_inspect.specs.PublicKeys.{SaysPublic}
use Rattle.lms_inspect.specs.Signatures.{SaysLevels}
use Rattle.lms_inspect.specs.declared.found.Found.{Found}
use Rattle.lms_inspect.specs.declared.found.Found.TheVariants.{State, Public, Signature, Nothing}
use Rattle.lms_inspect.specs.declared.level.Level.{Level}
use Rattle.lms_inspect.specs.declared.public_key.PublicParts.{PublicParts}
use Rattle.lms_inspect.specs.declared.signature.KeyedLevel.{KeyedLevel}

-- the bytes have a fault as a state image
abbrev pub IsNoState : List ℕ → Type 0
IsNoState bytes = (fault : ImageFault) × (fault_of bytes ≡ Some fault)

-- they are no public key of known typecodes
abbrev pub IsNoPublic : List ℕ → Type 0
IsNoPublic bytes = (parts : PublicParts) → ¬ SaysPublic parts bytes

-- they are no signature of known typecodes
abbrev pub IsNoSignature : List ℕ → Type 0
IsNoSignature bytes = (top : Level) (below : List KeyedLevel) → ¬ SaysLevels top below bytes

-- they are this, and nothing that comes before it
abbrev pub IsFound : Found → List ℕ → Type 0
IsFound (State image) bytes = IsImage bytes image.key image.counter image.openings image.burnt
    × HasImage image.key image.counter image.openings image.burnt
IsFound (Public parts) bytes = IsNoState bytes × SaysPublic parts bytes
IsFound (Signature parts) bytes =
    IsNoState bytes × IsNoPublic bytes × SaysLevels parts.top parts.below.items bytes
IsFound Nothing bytes = IsNoState bytes × IsNoPublic bytes × IsNoSignature bytes

-- some bytes are this
abbrev pub IsOfSome : Found → Type 0
IsOfSome found = (bytes : List ℕ) × IsFound found bytes

-- how the program ends that found this
abbrev pub status_for : Found → Status
status_for Nothing = Negative
status_for found = Done
