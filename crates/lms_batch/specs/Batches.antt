-- Batches of signatures, and what a collector has of one.
use Rattle.std.specs.Prelude.{◌≡◌, ℕ, ◌+◌, ◌≤◌, List, [], ◌∷◌, Option, None, Some, length, map, replicate, slice_get}
use Rattle.std.specs.Prelude.{slice_set, Vec}
use Rattle.std.specs.Global.{Global}
use Rattle.std.specs.Option.{option_map}
use Rattle.lms_spec.specs.Hss.{HssAccepts}
use Rattle.lms_spec.specs.Profile.{hss_public_key}
use Rattle.lms_hss.specs.Keys.{hss_key_of}
use Rattle.lms_hss.specs.declared.key.HssKey.{HssKey as KeyOfCode}
use Rattle.lms_batch.specs.Jobs.{JobText, SignedJob, signature_of}

-- the signatures of the jobs, at one index after another
abbrev pub batch_of : KeyOfCode → ℕ → List JobText → List (List ℕ)
batch_of key start [] = []
batch_of key start (j ∷ js) = signature_of key start j ∷ batch_of key (start + 1) js

-- each slot is empty or holds the item of its place
abbrev pub HoldsOnly : List (List ℕ) → List (Option (List ℕ)) → Type 0
HoldsOnly [] [] = Unit {0}
HoldsOnly (x ∷ xs) (None ∷ slots) = HoldsOnly xs slots
HoldsOnly (x ∷ xs) (Some y ∷ slots) = (y ≡ x) × HoldsOnly xs slots
HoldsOnly [] (slot ∷ slots) = ⊥
HoldsOnly (x ∷ xs) [] = ⊥

-- the verifier accepts each signature for the message of its job
pub record AreAccepted (public : List ℕ) (jobs : List JobText)
    (slots : List (Option (List ℕ))) : Type 0 where
  pub each : (k : ℕ) (job : JobText) (signature : List ℕ) → slice_get jobs k ≡ Some job
      → slice_get slots k ≡ Some (Some signature)
      → HssAccepts public job.message signature

-- what slots hold
abbrev pub contents : List (Option (Vec ℕ Global)) → List (Option (List ℕ))
contents slots = map (option_map (λ v. v.items)) slots

-- the jobs of a key from a start, and a slot for each
pub record Collected : Type 0 where
  pub key : KeyOfCode
  pub start : ℕ
  pub jobs : List JobText
  pub slots : List (Option (List ℕ))

-- none of the jobs is signed
abbrev pub none_of : KeyOfCode → ℕ → List JobText → Collected
none_of key start jobs =
    record { key = key; start = start; jobs = jobs; slots = replicate (length jobs) None }

-- the signature is in the slot of its place
abbrev pub with_signature : Collected → SignedJob → Collected
with_signature collected signed =
    record collected { slots = slice_set collected.slots signed.place (Some signed.signature) }

-- both collect the same jobs of the same key from the same start
pub record IsSameBatch (old new : Collected) : Type 0 where
  pub key : new.key ≡ old.key
  pub start : new.start ≡ old.start
  pub jobs : new.jobs ≡ old.jobs

-- what a collector keeps: each slot is empty or holds the signature of its job, which is accepted,
-- and there is capacity to list all
pub record IsCollecting (collected : Collected) (slots : ℕ) (listed : List (Vec ℕ Global))
    (capacity : ℕ) : Type 0 where
  pub holds : HoldsOnly (batch_of collected.key collected.start collected.jobs) collected.slots
  pub accepted : AreAccepted
      (hss_public_key (hss_key_of collected.key)) collected.jobs collected.slots
  pub one_each : slots ≡ length collected.jobs
  pub none_listed : listed ≡ []
  pub fits : slots ≤ capacity
