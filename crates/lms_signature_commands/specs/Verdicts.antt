-- What a verdict says, and the line that is printed for it.
use Rattle.std.specs.Prelude.{ℕ, List, codes}
use Rattle.lms_spec.specs.Hss.{HssAccepts}
use Rattle.lms_commands.specs.declared.status.Status.{Status}
use Rattle.lms_commands.specs.declared.status.Status.TheVariants as status
use Rattle.lms_signature_commands.specs.declared.verdict.Verdict.{Verdict}
use Rattle.lms_signature_commands.specs.declared.verdict.Verdict.TheVariants.{Valid, Invalid}

-- the verdict is right for this public key, message and signature
abbrev pub IsRightFor : Verdict → List ℕ → List ℕ → List ℕ → Type 0
IsRightFor Valid public message signature = HssAccepts public message signature
IsRightFor Invalid public message signature = ¬ HssAccepts public message signature

-- the bytes of its line
abbrev pub line_of : Verdict → List ℕ
line_of Valid = codes "valid\n"
line_of Invalid = codes "invalid\n"

-- how the program ends with it
abbrev pub verdict_status : Verdict → Status
verdict_status Valid = status.Done
verdict_status Invalid = status.Negative
