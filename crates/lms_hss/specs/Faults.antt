-- What the fault of a list of levels prints.
use Rattle.std.specs.Prelude.{ℕ, List, codes}
use Rattle.lms_hss.specs.declared.fault.KeyFault.{KeyFault}
use Rattle.lms_hss.specs.declared.fault.KeyFault.TheVariants.{NoLevels, TooManyLevels, TooTall}

-- why levels are refused, as it is printed
abbrev pub key_fault_text : KeyFault → List ℕ
key_fault_text NoLevels = codes "no levels"
key_fault_text TooManyLevels = codes "too many levels"
key_fault_text TooTall = codes "too tall"
