-- The calls that `verify` makes on its world: it writes nothing, and reaches no state.
use Rattle.std.specs.Prelude.{◌≡◌, ◌⊎◌, List, [], ◌∷◌, ◌++◌, ℕ, Option, Some, None, Ok, Err, IfSome}
use Rattle.lms_blocks.specs.Writing.{AppendsFront}
use Rattle.lms_world.specs.Names.{Bytes}
use Rattle.lms_world.specs.Events.{Read, Opened, Printing, after}
use Rattle.lms_commands.specs.Logs.{IsReadRefused, WorldCalls}
use Rattle.lms_commands.specs.Logs.{read_cause}
use Rattle.lms_signature_commands.specs.Verdicts.{IsRightFor, line_of}
use Rattle.lms_commands.specs.declared.fault.Fault.{Fault}
use Rattle.lms_commands.specs.declared.fault.Fault.TheVariants.{WriteOutput}
use Rattle.lms_signature_commands.specs.declared.verdict.Verdict.{Verdict}

-- what `verify` reads, before it prints
abbrev pub LogsJudging : Bytes → Bytes → Bytes → List ℕ → Option (List ℕ) → List ℕ → WorldCalls
    → WorldCalls → Type 0
LogsJudging public message signature key held signed old new =
    new ≡ after
    (Read public (Ok key) ∷ Opened message (Ok held) ∷ Read signature (Ok signed) ∷ []) old

-- the bytes that were judged are those that the file holds, where that is known
abbrev pub IsHeld : Option (List ℕ) → List ℕ → Type 0
IsHeld held text = IfSome held (λ bytes. text ≡ bytes)

-- all calls of `verify`: its verdict, which is right for what was read and for the message, is
-- printed
abbrev pub LogsVerify : Bytes → Bytes → Bytes → Verdict → List ℕ → List ℕ → WorldCalls → WorldCalls
    → Type 0
LogsVerify public message signature verdict before printed old new =
    (key text signed : List ℕ) × IsRightFor verdict key text signed
    × ((last : WorldCalls) × (held : Option (List ℕ)) × IsHeld held text
    × LogsJudging public message signature key held signed old last
    × (new ≡ after (Printing before ∷ []) last))
    × (printed ≡ before ++ line_of verdict)

-- the same, where it fails
abbrev pub LogsVerifyFailed : Bytes → Bytes → Bytes → List ℕ → List ℕ → Fault → WorldCalls
    → WorldCalls → Type 0
LogsVerifyFailed public message signature before printed fault old new =
    (IsReadRefused fault × (printed ≡ before)
    × ((new ≡ after (Read public (Err (read_cause fault)) ∷ []) old)
    ⊎ ((key : List ℕ)
    × ((new ≡ after (Read public (Ok key) ∷ Opened message (Err (read_cause fault)) ∷ []) old)
    ⊎ (((held : Option (List ℕ)) × (new ≡ after (Read public (Ok key) ∷ Opened message (Ok held)
    ∷ Read signature (Err (read_cause fault)) ∷ []) old))
    ⊎ ((signed : List ℕ) × LogsJudging public message signature key None signed old new))))))
    ⊎ ((fault ≡ WriteOutput)
    × ((verdict : Verdict) × (key text signed : List ℕ) × IsRightFor verdict key text signed
    × ((last : WorldCalls) × (held : Option (List ℕ)) × IsHeld held text
    × LogsJudging public message signature key held signed old last
    × (new ≡ after (Printing before ∷ []) last))
    × AppendsFront (Some before) (Some printed) (line_of verdict)))
