-- What a collector answers.
use Rattle.std.specs.Prelude.{◌≡◌, ℕ, ◌+◌, List, None, Some, slice_get, map, Contains}
use Rattle.lms_batch.specs.Jobs.{SignedJob}
use Rattle.lms_spec.specs.Profile.{hss_public_key}
use Rattle.lms_hss.specs.Keys.{hss_key_of}
use Rattle.lms_batch.specs.Batches.{AreAccepted, Collected, batch_of, contents, HoldsOnly}
use Rattle.lms_batch.specs.declared.fault.TakeFault.{TakeFault}
use Rattle.lms_batch.specs.declared.fault.TakeFault.TheVariants.{Stranger, Twice}
use Rattle.lms_batch.specs.declared.collector.Batch.{Batch}
use Rattle.lms_batch.specs.declared.collector.Batch.TheVariants.{Complete, Partial}

-- a signed job is of the batch: of its key, with the index and the job of its place
pub record Belongs (batch : Collected) (signed : SignedJob) : Type 0 where
  pub key : signed.key ≡ batch.key
  pub index : signed.index ≡ batch.start + signed.place
  pub job : slice_get batch.jobs signed.place ≡ Some signed.job

-- there is such a place, without a signature
abbrev pub IsEmpty : Collected → ℕ → Type 0
IsEmpty batch place = slice_get batch.slots place ≡ Some None

-- there is such a place, with a signature
abbrev pub IsFilled : Collected → ℕ → Type 0
IsFilled batch place = (signature : List ℕ) × (slice_get batch.slots place ≡ Some (Some signature))

abbrev pub IsFault : TakeFault → Collected → SignedJob → Type 0
IsFault Stranger batch signed = ¬ Belongs batch signed
IsFault Twice batch signed = Belongs batch signed × IsFilled batch signed.place

-- with every slot filled, the signatures of all jobs; else the slots, each empty or with the
-- signature of its job, and one empty. The verifier accepts each signature
abbrev pub IsBatchOf : Collected → Batch → Type 0
IsBatchOf g (Complete start signatures) =
    (start ≡ g.start) × (map (λ v. v.items) signatures.items ≡ batch_of g.key g.start g.jobs)
    × (map Some (batch_of g.key g.start g.jobs) ≡ g.slots)
    × AreAccepted (hss_public_key (hss_key_of g.key)) g.jobs g.slots
IsBatchOf g (Partial start slots) =
    (start ≡ g.start) × (contents slots.items ≡ g.slots)
    × HoldsOnly (batch_of g.key g.start g.jobs) g.slots × Contains g.slots None
    × AreAccepted (hss_public_key (hss_key_of g.key)) g.jobs g.slots
