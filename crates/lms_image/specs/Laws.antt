-- Laws over images.
use Rattle.std.specs.Prelude.{ℕ, ◌≡◌, ◌<◌, ◌↔◌, List, All, None}
use Rattle.lms_hss.specs.declared.key.HssKey.{HssKey as KeyOfCode}
use Rattle.lms_image.specs.Image.{IsImage, fault_of, HasImage}

-- a list of numbers below 256
abbrev pub IsText : List ℕ → Type 0
IsText text = All (λ b. b < 256) text

-- bytes have no fault exactly where they are an image, of either version, of some key and its
-- numbers
abbrev pub FaultlessAreImages : Type 0
FaultlessAreImages =
    (text : List ℕ) → IsText text
    → (fault_of text ≡ None)
    ↔ ((key : KeyOfCode) × (counter openings burnt : ℕ) × HasImage key counter openings burnt
    × IsImage text key counter openings burnt)

-- what was written is read again, in either version
abbrev pub ImagesAreFaultless : Type 0
ImagesAreFaultless =
    (text : List ℕ) (key : KeyOfCode) (counter openings burnt : ℕ)
    → HasImage key counter openings burnt
    → IsImage text key counter openings burnt → fault_of text ≡ None

-- an image is that of one key, with one counter, one number of openings and one of burnt indices
abbrev pub ImagesAreToldApart : Type 0
ImagesAreToldApart =
    (text : List ℕ) (key other : KeyOfCode) (counter counter' openings openings' burnt burnt' : ℕ)
    → HasImage key counter openings burnt → HasImage other counter' openings' burnt'
    → IsImage text key counter openings burnt → IsImage text other counter' openings' burnt'
    → (key ≡ other) × (counter ≡ counter') × (openings ≡ openings') × (burnt ≡ burnt')
