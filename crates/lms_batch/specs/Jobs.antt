-- What a job signs, and what contracts see of one that was signed.
use Rattle.std.specs.Prelude.{◌≡◌, ℕ, ◌<◌, List, map}
use Rattle.lms_spec.specs.Hss.{capacity_of, HssAccepts}
use Rattle.lms_spec.specs.Profile.{hss_signature, hss_public_key}
use Rattle.lms_hss.specs.Covered.{most_covered}
use Rattle.lms_hss.specs.Keys.{hss_key_of}
use Rattle.lms_hss.specs.declared.key.HssKey.{HssKey as KeyOfCode}
use Rattle.lms_pool.specs.Rule.{most_seats}
use Rattle.lms_batch.specs.declared.job.Job.{Job}

-- the most jobs of a batch
abbrev pub most_jobs : ℕ
most_jobs = most_covered

-- the most workers of a batch, each of which has a seat
abbrev pub most_workers : ℕ
most_workers = most_seats

-- a randomizer and a message
pub record JobText : Type 0 where
  pub c : List ℕ
  pub message : List ℕ

abbrev pub text_of : Job → JobText
text_of job = record { c = job.c; message = job.message.items }

abbrev pub texts_of : List Job → List JobText
texts_of jobs = map text_of jobs

-- the signature of a job by an index
abbrev pub signature_of : KeyOfCode → ℕ → JobText → List ℕ
signature_of key g job = hss_signature (hss_key_of key) g job.c job.message

-- a job that was signed at a place
pub record SignedJob : Type 0 where
  pub key : KeyOfCode
  pub place : ℕ
  pub index : ℕ
  pub job : JobText
  pub signature : List ℕ

-- what a receipt keeps: its signature is the standard's for its job by its index, and is accepted
pub record IsSigned (signed : SignedJob) : Type 0 where
  pub text : signed.signature ≡ signature_of signed.key signed.index signed.job
  pub accepted : HssAccepts
      (hss_public_key (hss_key_of signed.key)) signed.job.message signed.signature
  pub within : signed.index < capacity_of (hss_key_of signed.key)
