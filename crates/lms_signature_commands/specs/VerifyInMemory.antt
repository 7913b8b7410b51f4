-- What `verify` finds in a world in memory, by its calls, and that it changes nothing.
use Rattle.std.specs.Prelude.{ℕ, ◌≡◌, ◌⊎◌, List, Some, Ok}
use Rattle.lms_blocks.specs.Writing.{AppendsFront}
use Rattle.lms_world.specs.Names.{Bytes}
use Rattle.lms_world.specs.Held.{Follows, Held, answer_in}
use Rattle.lms_commands.specs.Logs.{WorldCalls}
use Rattle.lms_signature_commands.specs.VerifyLogs.{LogsVerify, LogsVerifyFailed}
use Rattle.lms_signature_commands.specs.Verdicts.{IsRightFor, line_of}
use Rattle.lms_commands.specs.declared.fault.Fault.{Fault}
use Rattle.lms_commands.specs.declared.fault.Fault.TheVariants.{OutOfMemory, ReadInput, WriteOutput}
use Rattle.lms_signature_commands.specs.declared.verdict.Verdict.{Verdict}
use Rattle.lms_commands.specs.InMemory.{IsUnreadable}

-- the verdict is right for what the three files hold
pub record Judges (public message signature : Bytes) (verdict : Verdict)
    (held : Held) : Type 0 where
  pub key : List ℕ
  pub text : List ℕ
  pub signed : List ℕ
  pub key_is : answer_in held.files public ≡ Ok key
  pub text_is : answer_in held.files message ≡ Ok text
  pub signed_is : answer_in held.files signature ≡ Ok signed
  pub right : IsRightFor verdict key text signed

-- of a world in memory, `verify` at status 0 or 1 judges its files, and changes nothing
abbrev pub JudgesInMemory : Type 0
JudgesInMemory = (public message signature : Bytes) (verdict : Verdict)
    (before printed : List ℕ) (old new : Held) (earlier now : WorldCalls)
    → LogsVerify public message signature verdict before printed earlier now
    → Follows (Some old) earlier (Some new) now
    → Judges public message signature verdict old × (new ≡ old)

-- why no verdict is printed
abbrev pub FailsToJudge : Bytes → Bytes → Bytes → List ℕ → List ℕ → Fault → Held → Type 0
FailsToJudge public message signature before printed fault held =
    (fault ≡ OutOfMemory)
    ⊎ (((fault ≡ ReadInput)
    × (IsUnreadable public held ⊎ (IsUnreadable message held ⊎ IsUnreadable signature held)))
    ⊎ ((fault ≡ WriteOutput) × ((verdict : Verdict) × Judges public message signature verdict held
    × AppendsFront (Some before) (Some printed) (line_of verdict))))

-- of a world in memory, this is why `verify` fails, and changes nothing
abbrev pub FailsToJudgeInMemory : Type 0
FailsToJudgeInMemory = (public message signature : Bytes) (before printed : List ℕ) (fault : Fault)
    (old new : Held) (earlier now : WorldCalls)
    → LogsVerifyFailed public message signature before printed fault earlier now
    → Follows (Some old) earlier (Some new) now
    → FailsToJudge public message signature before printed fault old × (new ≡ old)
