use Rattle.std.proofs.Common.{◌≡◌, ◌<◌, ◌≤◌, ◌+◌, ℕ, List, [], ◌∷◌, ◌++◌, length, refl, sym, ap, ◌∙◌, subst}
use Rattle.std.proofs.Common.{append_assoc, append-nil, length-append, eq-or-lt_of_le, inl, inr, arith}
use Rattle.lms_batch.specs.Jobs.{most_jobs, JobText}
use Rattle.lms_lines.specs.JobLines.{longest_line, IsJobLine}
use Rattle.lms_lines.specs.TextLines.{lines_of}
use Rattle.lms_lines.specs.JobsTexts.{AreJobLines, IsJobsText, IsFirstBadLine, HasTooManyJobs}
use Rattle.lms_lines.specs.Gathered.{HasNoEnd, Gathered, after_part, after_line, IsGatheredFrom}
use Rattle.lms_lines.proofs.LineLemmas.{no-end-append, lines-end, lines-last, has-line, begins-line}

pub job-lines-more : (lines : List (List ℕ)) (jobs : List JobText) (line : List ℕ) (job : JobText)
    → AreJobLines lines jobs → IsJobLine line job → AreJobLines (lines ++ line ∷ []) (jobs ++ job ∷ [])
job-lines-more [] [] line job good last = (last, tt)
job-lines-more [] (j ∷ jobs) line job good last = absurd good
job-lines-more (l ∷ lines) [] line job good last = absurd good
job-lines-more (l ∷ lines) (j ∷ jobs) line job good last = (good.0, job-lines-more lines jobs line job good.1 last)

-- a job line is no longer than this
pub job-line-short : (line : List ℕ) (job : JobText) → IsJobLine line job → length line ≤ longest_line
job-line-short line job p =
    let whole : length line ≡ length (p.c_digits ++ 32 ∷ p.message_digits) = ap length p.parts in
    let parts : length (p.c_digits ++ 32 ∷ p.message_digits) ≡ length p.c_digits + length (32 ∷ p.message_digits) =
    length-append p.c_digits (32 ∷ p.message_digits) in
    let c = p.c_len in
    let message = p.message_len in
    omega arith

pub record LongLine (text : List ℕ) : Type 0 where
  pub bad : List ℕ
  pub after : List (List ℕ)
  pub parts : lines_of text ≡ bad ∷ after
  pub long : longest_line < length bad

long-line : (start rest : List ℕ) → HasNoEnd start → longest_line < length start → LongLine (start ++ rest)
long-line [] rest one long = absurd (let h : ⊥ = omega arith in h)
long-line (x ∷ front) rest one long =
    let line = begins-line x front rest one in
    record {
      bad = (x ∷ front) ++ line.more;
      after = line.after;
      parts = line.parts;
      long = let len = length-append (x ∷ front) line.more in omega arith;
    }

pub lines-one : (line : List ℕ) → 0 < length line → HasNoEnd line → lines_of line ≡ line ∷ []
lines-one [] some one = absurd (let h : ⊥ = omega arith in h)
lines-one (x ∷ line) some one = lines-last x line one

no-lines : (lines : List (List ℕ)) → lines ++ lines_of [] ≡ lines
unfolding lines_of
no-lines lines = append-nil lines

-- where a line has begun, its job still fits
not-full : (g : Gathered) {done : List ℕ} → IsGatheredFrom done g → 0 < length g.line → length g.jobs < most_jobs
not-full g was some =
    elim (eq-or-lt_of_le was.count) [
      | inl all ↦ absurd (let none : length g.line ≡ 0 = ap length (was.full all) in let h : ⊥ = omega arith in h)
      | inr few ↦ few
    ]

module _ (done : List ℕ) (g : Gathered) (was : IsGatheredFrom done g) where
  pub gathered-part : (part : List ℕ) → HasNoEnd part → length g.line + length part ≤ longest_line
      → length g.jobs < most_jobs → IsGatheredFrom (done ++ part) (after_part g part)
  gathered-part part one short few = record {
    lines = was.lines;
    good = was.good;
    whole = λ rest. ap lines_of (append_assoc done part rest) ∙ was.whole (part ++ rest)
        ∙ ap (λ l. was.lines ++ lines_of l) (sym (append_assoc g.line part rest));
    one_line = no-end-append g.line part was.one_line one;
    short = let len = length-append g.line part in omega arith;
    count = was.count;
    full = λ all. absurd (let h : ⊥ = omega arith in h);
    size = let len = length-append g.line part in
        let read = length-append done part in
        let size = was.size in omega arith;
  }

  pub gathered-line : (job : JobText) → IsJobLine g.line job → length g.jobs < most_jobs
      → IsGatheredFrom (done ++ 10 ∷ []) (after_line g job)
  gathered-line job is few = record {
    lines = was.lines ++ g.line ∷ [];
    good = job-lines-more was.lines g.jobs g.line job was.good is;
    whole = λ rest. ap lines_of (append_assoc done (10 ∷ []) rest) ∙ was.whole (10 ∷ rest) ∙ ap (λ l. was.lines ++ l)
        (lines-end g.line rest was.one_line) ∙ sym (append_assoc was.lines (g.line ∷ []) (lines_of rest));
    one_line = tt;
    short = omega arith;
    count = let len = length-append g.jobs (job ∷ []) in omega arith;
    full = λ all. refl;
    size = let len = length-append g.jobs (job ∷ []) in
        let read = length-append done (10 ∷ []) in
        let size = was.size in
        let short = was.short in omega arith;
  }

  pub bad-long : (part rest : List ℕ) → HasNoEnd part → longest_line < length g.line + length part
      → length g.jobs < most_jobs → IsFirstBadLine (done ++ (part ++ rest)) (length g.jobs + 1)
  bad-long part rest one long few =
      let size : longest_line < length (g.line ++ part) = let len = length-append g.line part in omega arith in
      let line = long-line (g.line ++ part) rest (no-end-append g.line part was.one_line one) size in record {
        before = was.lines;
        bad = line.bad;
        after = line.after;
        jobs = g.jobs;
        parts = was.whole (part ++ rest) ∙ ap (λ l. was.lines ++ lines_of l) (sym (append_assoc g.line part rest))
            ∙ ap (λ l. was.lines ++ l) line.parts;
        good = was.good;
        is_bad = λ job is. let short = job-line-short line.bad job is in let long = line.long in omega arith;
        place = refl;
        count = few;
      }

  pub bad-line : (part rest : List ℕ) → HasNoEnd part → ((job : JobText) → ¬ IsJobLine (g.line ++ part) job)
      → length g.jobs < most_jobs → IsFirstBadLine (done ++ (part ++ 10 ∷ rest)) (length g.jobs + 1)
  bad-line part rest one none few = record {
    before = was.lines;
    bad = g.line ++ part;
    after = lines_of rest;
    jobs = g.jobs;
    parts = was.whole (part ++ 10 ∷ rest)
        ∙ ap (λ l. was.lines ++ lines_of l) (sym (append_assoc g.line part (10 ∷ rest)))
        ∙ ap (λ l. was.lines ++ l) (lines-end (g.line ++ part) rest (no-end-append g.line part was.one_line one));
    good = was.good;
    is_bad = none;
    place = refl;
    count = few;
  }

  all-lines : lines_of done ≡ was.lines ++ lines_of g.line
  all-lines = ap lines_of (sym (append-nil done)) ∙ was.whole [] ∙ ap (λ l. was.lines ++ lines_of l) (append-nil g.line)

  few-jobs : 0 < length g.line → length g.jobs < most_jobs
  few-jobs some = not-full g was some

  pub bad-last : 0 < length g.line → ((job : JobText) → ¬ IsJobLine g.line job)
      → IsFirstBadLine done (length g.jobs + 1)
  bad-last some none = record {
    before = was.lines;
    bad = g.line;
    after = [];
    jobs = g.jobs;
    parts = all-lines ∙ ap (λ l. was.lines ++ l) (lines-one g.line some was.one_line);
    good = was.good;
    is_bad = none;
    place = refl;
    count = few-jobs some;
  }

  pub too-many : (x : ℕ) (rest : List ℕ) → most_jobs ≤ length g.jobs → HasTooManyJobs (done ++ (x ∷ rest))
  too-many x rest all =
      let count : length g.jobs ≡ most_jobs = let most = was.count in omega arith in
      let line = has-line x rest in record {
        before = was.lines;
        next = line.first;
        after = line.after;
        jobs = g.jobs;
        parts = was.whole (x ∷ rest) ∙ ap (λ (l : List ℕ). was.lines ++ lines_of (l ++ x ∷ rest)) (was.full count)
            ∙ ap (λ l. was.lines ++ l) line.parts;
        good = was.good;
        count = count;
      }

  pub whole-end : g.line ≡ [] → IsJobsText done g.jobs
  whole-end none = record {
    each = subst (λ l. AreJobLines l g.jobs)
        (sym (all-lines ∙ ap (λ l. was.lines ++ lines_of l) none ∙ no-lines was.lines)) was.good;
    count = was.count;
  }

  pub whole-last : (job : JobText) → 0 < length g.line → IsJobLine g.line job → IsJobsText done (g.jobs ++ job ∷ [])
  whole-last job some is = record {
    each = subst (λ l. AreJobLines l (g.jobs ++ job ∷ []))
        (sym (all-lines ∙ ap (λ l. was.lines ++ l) (lines-one g.line some was.one_line)))
        (job-lines-more was.lines g.jobs g.line job was.good is);
    count = let len = length-append g.jobs (job ∷ []) in let few = few-jobs some in omega arith;
  }
