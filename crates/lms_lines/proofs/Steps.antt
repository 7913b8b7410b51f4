use Rattle.std.proofs.Common.{◌≡◌, ◌<◌, ◌≤◌, ◌+◌, inl, inr, ℕ, suc, add-one, List, [], ◌∷◌, ◌++◌, length, take, drop}
use Rattle.std.proofs.Common.{get_or, Bool, true, false, length-append, Result, Ok, Err, IfErr, IsErrAnd, Option, None}
use Rattle.std.proofs.Common.{Some, IfSome, refl, sym, ap, ◌∙◌, subst, append_assoc, drop-cons, arith}
use Rattle.std.proofs.lemmas.Bool.{true≢false, cases_lt}
use Rattle.std.proofs.lemmas.List.{take-append-drop}
use Rattle.std.proofs.Math.Seq.{take-suc, take-append_seam}
use Rattle.std.specs.Io.KnownBytes.{Consumes}
use Rattle.lms_batch.specs.Jobs.{most_jobs, JobText}
use Rattle.lms_lines.specs.JobLines.{longest_line, IsJobLine}
use Rattle.lms_lines.specs.JobsTexts.{IsFaultOf}
use Rattle.lms_lines.specs.Gathered.{HasNoEnd, Gathered, after_part, after_line, IsGatheredFrom, IsRefusal, Advances}
use Rattle.lms_lines.specs.Gathered.{Fails}
use Rattle.lms_lines.specs.declared.fault.JobsFault.{JobsFault}
use Rattle.lms_lines.specs.declared.fault.JobsFault.TheVariants.{TooManyJobs, BadJob}
use Rattle.lms_lines.proofs.Growth.{job-line-short, gathered-part, gathered-line, bad-long, bad-line, bad-last}
use Rattle.lms_lines.proofs.Growth.{too-many}

-- a `?` that forwards the same fault
pub IfErr-same : {A E : Type 0} (P : E → Type 0) (r : Result A E) (fault : E) → IsErrAnd r (λ e. e ≡ fault)
    → P fault → IfErr r P
IfErr-same P (Ok x) fault same p = tt
IfErr-same P (Err e) fault same p = subst P (sym same) p

pub split-at : (xs : List ℕ) (at x : ℕ) → at < length xs → get_or xs at 0 ≡ x → xs ≡ take at xs ++ x ∷ drop (at + 1) xs
split-at xs at x below is =
    sym (take-append-drop at xs)
    ∙ ap (λ r. take at xs ++ r) (drop-cons xs at 0 below ∙ ap (λ (y : ℕ). y ∷ drop (suc at) xs) is
    ∙ ap (λ (n : ℕ). x ∷ drop n xs) (sym (add-one at)))

pub take-through-at : (xs : List ℕ) (at x : ℕ) → at < length xs → get_or xs at 0 ≡ x
    → take (at + 1) xs ≡ take at xs ++ x ∷ []
take-through-at xs at x below is =
    ap (λ (n : ℕ). take n xs) (add-one at) ∙ take-suc xs at 0 below ∙ ap (λ (y : ℕ). take at xs ++ y ∷ []) is

pub fails-full : (g : Gathered) (bytes : List ℕ) → 0 < length bytes → most_jobs ≤ length g.jobs
    → Fails g bytes TooManyJobs
fails-full g [] some all = absurd (let h : ⊥ = omega arith in h)
fails-full g (x ∷ bytes) some all = λ done rest was. too-many done g was x (bytes ++ rest) all

pub fails-long : (g : Gathered) (part tail : List ℕ) (fault : JobsFault)
    → IsRefusal g fault (longest_line < length g.line + length part) → HasNoEnd part → length g.jobs < most_jobs
    → Fails g (part ++ tail) fault
fails-long g part tail fault (inl memory) one few =
    λ done rest was. subst (IsFaultOf (done ++ ((part ++ tail) ++ rest))) (sym memory) tt
fails-long g part tail fault (inr bad) one few = λ done rest was.
    subst (IsFaultOf (done ++ ((part ++ tail) ++ rest))) (sym bad.0)
    (subst (λ (l : List ℕ). IsFaultOf (done ++ l) (BadJob (length g.jobs + 1))) (sym (append_assoc part tail rest))
    (bad-long done g was part (tail ++ rest) one bad.1 few))

pub fails-line : (g : Gathered) (part tail : List ℕ) (fault : JobsFault)
    → IsRefusal g fault ((job : JobText) → ¬ IsJobLine (g.line ++ part) job) → HasNoEnd part → length g.jobs < most_jobs
    → Fails g (part ++ 10 ∷ tail) fault
fails-line g part tail fault (inl memory) one few =
    λ done rest was. subst (IsFaultOf (done ++ ((part ++ 10 ∷ tail) ++ rest))) (sym memory) tt
fails-line g part tail fault (inr bad) one few = λ done rest was.
    subst (IsFaultOf (done ++ ((part ++ 10 ∷ tail) ++ rest))) (sym bad.0)
    (subst (λ (l : List ℕ). IsFaultOf (done ++ l) (BadJob (length g.jobs + 1)))
    (sym (append_assoc part (10 ∷ tail) rest)) (bad-line done g was part (tail ++ rest) one bad.1 few))

pub advances-part : (g : Gathered) (part : List ℕ) → HasNoEnd part → length g.line + length part ≤ longest_line
    → length g.jobs < most_jobs → Advances g (after_part g part) part
advances-part g part one short few = λ done was. gathered-part done g was part one short few

pub advances-line : (g : Gathered) (part : List ℕ) (job : JobText) → IsJobLine (g.line ++ part) job → HasNoEnd part
    → length g.jobs < most_jobs → Advances g (after_line g job) (part ++ 10 ∷ [])
advances-line g part job is one few = λ done was.
    let short : length g.line + length part ≤ longest_line =
    let len = length-append g.line part in
    let most = job-line-short (g.line ++ part) job is in
    omega (arith, len, most) in
    subst (λ (l : List ℕ). IsGatheredFrom l (after_line g job)) (append_assoc done part (10 ∷ []))
    (gathered-line (done ++ part) (after_part g part) (gathered-part done g was part one short few) job is few)

-- a line that is too long is none of a job
pub refused-long : (g : Gathered) (part : List ℕ) (fault : JobsFault)
    → IsRefusal g fault (longest_line < length g.line + length part)
    → IsRefusal g fault ((job : JobText) → ¬ IsJobLine (g.line ++ part) job)
refused-long g part fault (inl memory) = inl memory
refused-long g part fault (inr bad) = inr (
  bad.0,
  λ job is.
      let len = length-append g.line part in
      let most = job-line-short (g.line ++ part) job is in
      omega (arith, len, most, bad.1),
)

-- a list of fewer jobs than there may be is not full
pub few-jobs : (is_full : Bool) (n : ℕ) → (is_full ≡ true → most_jobs ≤ n) × (most_jobs ≤ n → is_full ≡ true)
    → is_full ≡ false → n < most_jobs
few-jobs is_full n tells not =
    elim (cases_lt n most_jobs) [
      | inl less ↦ less
      | inr more ↦ absurd (true≢false (sym (tells.1 more) ∙ not))
    ]

pub advances-both : (a b c : Gathered) (xs ys : List ℕ) → Advances a b xs → Advances b c ys → Advances a c (xs ++ ys)
advances-both a b c xs ys p q =
    λ done was. subst (λ (l : List ℕ). IsGatheredFrom l c) (append_assoc done xs ys) (q (done ++ xs) (p done was))

pub fails-after : (a b : Gathered) (xs ys : List ℕ) (fault : JobsFault) → Advances a b xs → Fails b ys fault
    → Fails a (xs ++ ys) fault
fails-after a b xs ys fault p q = λ done rest was.
    let text : (done ++ xs) ++ (ys ++ rest) ≡ done ++ ((xs ++ ys) ++ rest) =
    append_assoc done xs (ys ++ rest) ∙ ap (λ l. done ++ l) (sym (append_assoc xs ys rest)) in
    subst (λ (l : List ℕ). IsFaultOf l fault) text (q (done ++ xs) rest (p done was))

pub last-fault : (done : List ℕ) (g : Gathered) → IsGatheredFrom done g → (fault : JobsFault) → 0 < length g.line
    → IsRefusal g fault ((job : JobText) → ¬ IsJobLine g.line job) → IsFaultOf done fault
last-fault done g was fault some (inl memory) = subst (IsFaultOf done) (sym memory) tt
last-fault done g was fault some (inr bad) = subst (IsFaultOf done) (sym bad.0) (bad-last done g was some bad.1)

-- where the text is known: what was read, and what is left of it
pub known-fault : (old new : Option (List ℕ)) (done : List ℕ) (fault : JobsFault) → Consumes old new done
    → ((rest : List ℕ) → IsFaultOf (done ++ rest) fault) → IfSome old (λ text. IsFaultOf text fault)
known-fault None new done fault read bad = tt
known-fault (Some xs) None done fault read bad = absurd read
known-fault (Some xs) (Some ys) done fault read bad = subst (λ (l : List ℕ). IsFaultOf l fault) (sym read) (bad ys)

pub consumes-none : (a : Option (List ℕ)) → Consumes a a []
consumes-none None = tt
consumes-none (Some xs) = refl

-- what a whole buffer holds after it was lent
pub whole-buffer : (len : ℕ) (new old : List ℕ) → length new ≡ len → take len (new ++ drop (length new) old) ≡ new
whole-buffer len new old same =
    ap (λ (n : ℕ). take n (new ++ drop (length new) old)) (sym same) ∙ take-append_seam new (drop (length new) old)
