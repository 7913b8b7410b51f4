-- A batch that answers the jobs that were read.
use Rattle.std.proofs.Common.{◌≡◌, ℕ, zero, suc, refl, ◌+◌, ◌≤◌, List, length, map, Option, Result, Ok, Err, IsErrAnd}
use Rattle.std.proofs.Common.{sym, ap, ◌∙◌, subst, arith, true≢false}
use Rattle.std.proofs.lemmas.List.{length-map}
use Rattle.lms_spec.specs.Hss.{capacity_of}
use Rattle.lms_hss.specs.Keys.{hss_key_of}
use Rattle.lms_shared_book.specs.Desks.{SharedState, Sums}
use Rattle.lms_batch.specs.Jobs.{most_jobs, text_of}
use Rattle.lms_batch.specs.Answers.{CouldBeReserved, CountsBatch, IsAnswerTo, SignsBatch, start_of}
use Rattle.lms_batch.specs.declared.collector.Batch.{Batch}
use Rattle.lms_batch.specs.declared.job.Job.{Job}
use Rattle.lms_batch.specs.declared.fault.BatchFault.{BatchFault}
use Rattle.lms_lines.specs.JobsTexts.{ReadsJobs}
use Rattle.lms_lines.specs.SignedLines.{IsBatchRead, IsBatchRefused, IsLinesFault, IsUnsigned, SignsLines}
use Rattle.lms_lines.specs.declared.signing.Done.{Done}
use Rattle.lms_lines.specs.declared.fault.LinesFault.{LinesFault}
use Rattle.lms_lines.specs.declared.fault.LinesFault.TheVariants as lines

-- a number that is not 0
not_none : (n : ℕ) → ¬ (n ≡ 0) → 1 ≤ n
not_none zero some = absurd (some refl)
not_none (suc n) some = omega arith

module _ (shared : SharedState) (old_input new_input : Option (List ℕ)) (before after : Sums) (lent jobs : List Job)
    (same : lent ≡ jobs) (read : ReadsJobs old_input new_input (map text_of jobs)) where
  count : length lent ≡ length (map text_of jobs)
  count = ap length same ∙ sym (length-map jobs text_of)

  few : length lent ≤ most_jobs
  few = omega (arith, count, read.is_text.count)

  pub batch_read : (batch : Batch) → SignsBatch shared lent before (Ok batch) after
      → (is : IsBatchRead shared old_input new_input before after batch) × (length is.jobs ≡ length jobs)
  batch_read batch signs = (
    record {
      jobs = map text_of jobs;
      read = read;
      answer = subst (λ (js : List Job). IsAnswerTo shared.book.key (start_of batch) (map text_of js) batch)
          same signs.answer;
      within = subst (λ (n : ℕ). start_of batch + n ≤ capacity_of (hss_key_of shared.book.key)) count signs.within;
      counted = subst (λ (n : ℕ). CountsBatch n before (Ok batch) after) count signs.desk;
      reserved = λ some. subst (λ (n : ℕ). CouldBeReserved shared before n (Ok batch)) count
          (signs.lawful (omega (arith, some, count)) few);
    },
    length-map jobs text_of,
  )

  pub batch_refused : (fault : BatchFault) → SignsBatch shared lent before (Err fault) after
      → IsBatchRefused shared old_input new_input before after fault
  batch_refused fault refused =
      let some = not_none (length lent) (λ zero. true≢false (sym (refused.none zero).0)) in
      record {
        jobs = map text_of jobs;
        read = read;
        some = omega (arith, some, count);
        counted = subst (λ (n : ℕ). CountsBatch n before (Err fault) after) count refused.desk;
        reserved = subst (λ (n : ℕ). CouldBeReserved shared before n (Err fault)) count (refused.lawful some few);
        few = λ is. (let many = refused.too_many.0 (ap Err is) in let h : ⊥ = omega (arith, many, few) in h);
      }

-- why the jobs were not signed is why no lines are answered
unsigned : (shared : SharedState) (old_input new_input old_output new_output : Option (List ℕ)) (before after : Sums)
    (fault : LinesFault)
    → IsUnsigned shared old_input new_input before after fault
    → IsLinesFault shared old_input new_input old_output new_output before after fault
unsigned shared old_input new_input old_output new_output before after (lines.Jobs fault) is = is
unsigned shared old_input new_input old_output new_output before after (lines.Batch fault) is = is
unsigned shared old_input new_input old_output new_output before after lines.Write is = absurd is

-- where the jobs were not signed, no lines are answered
pub not_answered : {O : Type 0} (contents : O → Option (List ℕ)) (shared : SharedState)
    (old_input new_input : Option (List ℕ)) (writer : O) (before after : Sums)
    (result : Result Done LinesFault) (fault : LinesFault) → IsErrAnd result (λ e. e ≡ fault)
    → IsUnsigned shared old_input new_input before after fault
    → SignsLines contents shared old_input new_input writer writer before after result
not_answered contents shared old_input new_input writer before after (Ok done) fault same is = absurd same
not_answered contents shared old_input new_input writer before after (Err e) fault same is = record {
  done = tt;
  fault = subst (IsLinesFault shared old_input new_input (contents writer) (contents writer) before after) (sym same)
      (unsigned shared old_input new_input (contents writer) (contents writer) before after fault is);
  silent = λ _. refl;
}
