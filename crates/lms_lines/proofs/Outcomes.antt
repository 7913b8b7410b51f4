use Rattle.std.proofs.Common.{◌≡◌, ◌<◌, inl, inr, ℕ, suc, List, [], ◌∷◌, ◌++◌, length, Result, Ok, Err, refl, sym, ap}
use Rattle.std.proofs.Common.{◌∙◌, subst, length-append, arith}
use Rattle.std.proofs.lemmas.Bool.{cases_order}
use Rattle.hex.specs.Hex.{decode_of, decode_sized}
use Rattle.lms_batch.specs.Jobs.{JobText}
use Rattle.lms_lines.specs.JobLines.{IsJobLine}
use Rattle.lms_lines.specs.TextLines.{lines_of}
use Rattle.lms_lines.specs.JobsTexts.{AreJobLines, IsFirstBadLine}
use Rattle.lms_lines.specs.JobsLaws.{HasOneOutcome}
use Rattle.lms_lines.proofs.JobLines.{take-line, drop-line}

bytes_of : {E : Type 0} → Result (List ℕ) E → List ℕ
bytes_of (Ok bytes) = bytes
bytes_of (Err e) = []

job_text : List ℕ → List ℕ → JobText
job_text c message = record { c = c; message = message }

one-job : (line : List ℕ) (a b : JobText) → IsJobLine line a → IsJobLine line b → a ≡ b
unfolding bytes_of job_text
one-job line a b p q =
    let c_digits : p.c_digits ≡ q.c_digits = sym (take-line line a p) ∙ take-line line b q in
    let message_digits : p.message_digits ≡ q.message_digits = sym (drop-line line a p) ∙ drop-line line b q in
    let c : a.c ≡ b.c = ap bytes_of (sym p.c ∙ ap (λ (d : List ℕ). decode_sized d 32) c_digits ∙ q.c) in
    let message : a.message ≡ b.message = ap bytes_of (sym p.message ∙ ap decode_of message_digits ∙ q.message) in
    ap (λ (x : List ℕ). job_text x a.message) c ∙ ap (λ (x : List ℕ). job_text b.c x) message

same-jobs : (lines : List (List ℕ)) (a b : List JobText) → AreJobLines lines a → AreJobLines lines b → a ≡ b
same-jobs [] [] [] p q = refl
same-jobs [] [] (y ∷ b) p q = absurd q
same-jobs [] (x ∷ a) b p q = absurd p
same-jobs (l ∷ lines) [] b p q = absurd p
same-jobs (l ∷ lines) (x ∷ a) [] p q = absurd q
same-jobs (l ∷ lines) (x ∷ a) (y ∷ b) p q =
    ap (λ (j : JobText). j ∷ a) (one-job l x y p.0 q.0)
    ∙ ap (λ (js : List JobText). y ∷ js) (same-jobs lines a b p.1 q.1)

same-length : (lines : List (List ℕ)) (jobs : List JobText) → AreJobLines lines jobs → length lines ≡ length jobs
same-length [] [] p = refl
same-length [] (x ∷ jobs) p = absurd p
same-length (l ∷ lines) [] p = absurd p
same-length (l ∷ lines) (x ∷ jobs) p = ap suc (same-length lines jobs p.1)

no-bad : (before : List (List ℕ)) (bad : List ℕ) (after : List (List ℕ)) (jobs : List JobText)
    → AreJobLines (before ++ bad ∷ after) jobs → ((job : JobText) → ¬ IsJobLine bad job) → ⊥
no-bad [] bad after [] p none = p
no-bad [] bad after (j ∷ jobs) p none = none j p.0
no-bad (l ∷ before) bad after [] p none = p
no-bad (l ∷ before) bad after (j ∷ jobs) p none = no-bad before bad after jobs p.1 none

first_of_lines : List (List ℕ) → List ℕ
first_of_lines [] = []
first_of_lines (l ∷ lines) = l

rest_of_lines : List (List ℕ) → List (List ℕ)
rest_of_lines [] = []
rest_of_lines (l ∷ lines) = lines

-- a bad line is none of the good ones
bad-within : (before : List (List ℕ)) (bad : List ℕ) (after good rest : List (List ℕ)) (jobs : List JobText)
    → before ++ bad ∷ after ≡ good ++ rest → AreJobLines good jobs → ((job : JobText) → ¬ IsJobLine bad job)
    → length before < length good → ⊥
unfolding first_of_lines rest_of_lines
bad-within [] bad after [] rest jobs same p none less = (let h : ⊥ = omega arith in h)
bad-within [] bad after (l ∷ good) rest [] same p none less = p
bad-within [] bad after (l ∷ good) rest (j ∷ jobs) same p none less =
    none j (subst (λ (x : List ℕ). IsJobLine x j) (sym (ap first_of_lines same)) p.0)
bad-within (k ∷ before) bad after [] rest jobs same p none less = (let h : ⊥ = omega arith in h)
bad-within (k ∷ before) bad after (l ∷ good) rest [] same p none less = p
bad-within (k ∷ before) bad after (l ∷ good) rest (j ∷ jobs) same p none less =
    bad-within before bad after good rest jobs (ap rest_of_lines same) p.1 none (omega (arith, less))

bad-no-later : (text : List ℕ) (m n : ℕ) → IsFirstBadLine text m → IsFirstBadLine text n → m < n → ⊥
bad-no-later text m n p q less =
    let one = same-length p.before p.jobs p.good in
    let other = same-length q.before q.jobs q.good in
    let at = p.place in
    let later = q.place in
    let below : length p.before < length q.before = omega (arith, less, one, other, at, later) in
    bad-within p.before p.bad p.after q.before (q.bad ∷ q.after) q.jobs (sym p.parts ∙ q.parts) q.good p.is_bad below

pub one-outcome : (text : List ℕ) → HasOneOutcome text
one-outcome text = record {
  same_jobs = λ a b p q. same-jobs (lines_of text) a b p.each q.each;
  same_line = λ m n p q. elim (cases_order m n) [
    | inl same ↦ same
    | inr (inl less) ↦ absurd (bad-no-later text m n p q less)
    | inr (inr more) ↦ absurd (bad-no-later text n m q p more)
  ];
  jobs_or_bad = λ jobs n p q.
      no-bad q.before q.bad q.after jobs (subst (λ (l : List (List ℕ)). AreJobLines l jobs) q.parts p.each) q.is_bad;
  jobs_or_many = λ jobs p q.
      let all = same-length (lines_of text) jobs p.each in
      let first = same-length q.before q.jobs q.good in
      let whole = ap length q.parts in
      let parts = length-append q.before (q.next ∷ q.after) in
      let most = p.count in
      let many = q.count in
      omega (arith, all, first, whole, parts, most, many);
  bad_or_many = λ n p q.
      let one = same-length p.before p.jobs p.good in
      let first = same-length q.before q.jobs q.good in
      let few = p.count in
      let many = q.count in
      let below : length p.before < length q.before = omega (arith, one, first, few, many) in
      bad-within p.before p.bad p.after q.before (q.next ∷ q.after) q.jobs
      (sym p.parts ∙ q.parts) q.good p.is_bad below;
}
