-- What is judged of a message that comes in pieces.
use Rattle.std.specs.Prelude.{ℕ, List, [], ◌++◌, Option, Some, None}
use Rattle.std.proofs.Common.{subst, sym, append_assoc, append-nil}
use Rattle.lms_spec.specs.Hss.{HssAccepts}
use Rattle.lms_hss.specs.declared.verification.Verifier.{Verifier}
use Rattle.lms_hss.specs.Verifying.{HasTaken as HasTakenByVerifier}
use Rattle.lms_signature_commands.specs.declared.verify.Judge.{Judge}

-- this was taken of the message so far; with no verifier no message is accepted
abbrev pub IsOf : Option Verifier → List ℕ → List ℕ → List ℕ → Type 0
IsOf (Some verifier) public signature message = HasTakenByVerifier verifier public signature message
IsOf None public signature message = (whole : List ℕ) → ¬ HssAccepts public whole signature

abbrev pub HasTaken : Judge → List ℕ → List ℕ → List ℕ → Type 0
HasTaken judge = IsOf judge.verifier

-- a judge that has taken a message has taken these bytes more
abbrev pub Goes : Judge → List ℕ → Judge → Type 0
Goes old bytes new = (public signature message : List ℕ)
    → HasTaken old public signature message → HasTaken new public signature (message ++ bytes)

pub goes-nowhere : (judge : Judge) → Goes judge [] judge
goes-nowhere judge public signature message taken =
    subst (HasTaken judge public signature) (sym (append-nil message)) taken

pub goes-on : (old between new : Judge) (bytes others : List ℕ) → Goes old bytes between
    → Goes between others new → Goes old (bytes ++ others) new
goes-on old between new bytes others first second public signature message taken =
    subst (HasTaken new public signature) (append_assoc message bytes others)
    (second public signature (message ++ bytes) (first public signature message taken))
