-- What the faults of a state image print: their names.
use Rattle.std.specs.Prelude.{ℕ, List, codes}
use Rattle.lms_image.specs.declared.fault.ImageFault.{ImageFault}
use Rattle.lms_image.specs.declared.fault.ImageFault.TheVariants.{Truncated, NotAnImage, UnknownVersion, BadLevels}
use Rattle.lms_image.specs.declared.fault.ImageFault.TheVariants.{WrongLength, Damaged, BadType, TooTall}
use Rattle.lms_image.specs.declared.fault.ImageFault.TheVariants.{CounterTooHigh, OpeningTooHigh, BurntTooHigh}

-- a fault's name, as it is printed
abbrev pub image_fault_text : ImageFault → List ℕ
image_fault_text Truncated = codes "Truncated"
image_fault_text NotAnImage = codes "NotAnImage"
image_fault_text UnknownVersion = codes "UnknownVersion"
image_fault_text BadLevels = codes "BadLevels"
image_fault_text WrongLength = codes "WrongLength"
image_fault_text Damaged = codes "Damaged"
image_fault_text BadType = codes "BadType"
image_fault_text TooTall = codes "TooTall"
image_fault_text CounterTooHigh = codes "CounterTooHigh"
image_fault_text OpeningTooHigh = codes "OpeningTooHigh"
image_fault_text BurntTooHigh = codes "BurntTooHigh"
