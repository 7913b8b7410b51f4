-- What `inspect` finds, by its steps.
use Rattle.std.proofs.Common.{◌≡◌, ◌∙◌, ◌∷◌, ℕ, List, Option, Ok, ap, subst}
use Rattle.lms_world.specs.Names.{Bytes}
use Rattle.lms_world.specs.Events.{Opened}
use Rattle.lms_commands.specs.Logs.{WorldCalls}
use Rattle.lms_inspect.specs.Found.{IsFound}
use Rattle.lms_inspect.specs.InspectLogs.{Inspects, IsHeld, LooksAtWitness}
use Rattle.lms_inspect.specs.Texts.{found_text}
use Rattle.lms_inspect.specs.declared.found.Found.{Found}

-- a file that was read, what it is, and its witness
abbrev pub inspected : (file : Bytes) (held : Option (List ℕ)) (bytes : List ℕ) (found : Found) (witness : Option ℕ)
    (old mid last : WorldCalls) → IsHeld held bytes → IsFound found bytes → mid ≡ Opened file (Ok held) ∷ old
    → LooksAtWitness found witness mid last → Inspects file old last
inspected file held bytes found witness old mid last is_held is calls looks = record {
  held = held;
  bytes = bytes;
  is_held = is_held;
  found = found;
  witness = witness;
  is = is;
  looks = subst (λ (log : WorldCalls). LooksAtWitness found witness log last) calls looks;
}

-- a text about the bytes that were kept is one about the bytes that were read
pub text_as : (found : Found) (witness : Option ℕ) {text kept bytes wanted : List ℕ}
    → text ≡ found_text found kept witness → kept ≡ bytes → found_text found bytes witness ≡ wanted → text ≡ wanted
text_as found witness made same is = made ∙ ap (λ (bytes : List ℕ). found_text found bytes witness) same ∙ is
