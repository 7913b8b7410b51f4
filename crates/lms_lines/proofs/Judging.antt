use Rattle.std.proofs.Common.{◌≡◌, ◌≤◌, ◌+◌, ◌⊎◌, inl, inr, ℕ, List, [], ◌∷◌, ◌++◌, length, take, drop, get_or, Result}
use Rattle.std.proofs.Common.{Ok, Err, refl, sym, ap, ◌∙◌, subst, append-nil, append_assoc, length-append}
use Rattle.std.proofs.Common.{eq-or-lt_of_le, arith}
use Rattle.std.specs.Result.{is_ok}
use Rattle.std.proofs.lemmas.Bool.{true≢false, cases_eq, cases_lt}
use Rattle.std.proofs.lemmas.List.{length-drop, length-take-le, take-append-drop}
use Rattle.hex.specs.Hex.{decode_of, decode_sized}
use Rattle.hex.specs.declared.error.FromHexError.{FromHexError}
use Rattle.lms_batch.specs.Jobs.{most_jobs, JobText}
use Rattle.lms_lines.specs.JobLines.{most_digits, IsJobLine}
use Rattle.lms_lines.specs.TextLines.{lines_of}
use Rattle.lms_lines.specs.JobsTexts.{AreJobLines}
use Rattle.lms_lines.specs.JobsLaws.{HasSomeOutcome}
use Rattle.lms_lines.proofs.JobLines.{take-line, rest-line}
use Rattle.lms_lines.proofs.Growth.{job-lines-more}

-- a line is that of a job, or of none
abbrev pub IsJudged : List ℕ → Type 0
IsJudged line = ((job : JobText) × IsJobLine line job) ⊎ ((job : JobText) → ¬ IsJobLine line job)

-- the digits of the message are those after the space
message-line : (line digits : List ℕ) (job : JobText) (p : IsJobLine line job) → drop 64 line ≡ 32 ∷ digits
    → digits ≡ p.message_digits
message-line line digits job p cut = ap (drop 1) (sym cut ∙ rest-line line job p)

judged-texts : (line digits : List ℕ) (c message : Result (List ℕ) FromHexError) → drop 64 line ≡ 32 ∷ digits
    → length digits ≤ most_digits → decode_sized (take 64 line) 32 ≡ c → decode_of digits ≡ message → IsJudged line
judged-texts line digits (Ok c) (Ok message) cut short of_c of_message =
    inl (
      record { c = c; message = message },
      record {
        c_digits = take 64 line;
        message_digits = digits;
        parts = sym (take-append-drop 64 line) ∙ ap (λ (l : List ℕ). take 64 line ++ l) cut;
        c_len = length-take-le 64 line
            (let len = ap length cut in let left = length-drop 64 line in omega (arith, len, left));
        message_len = short;
        c = of_c;
        message = of_message;
      },
    )
judged-texts line digits (Err e) message cut short of_c of_message =
    inr (λ job p.
    true≢false (ap is_ok (sym p.c ∙ ap (λ (l : List ℕ). decode_sized l 32) (sym (take-line line job p)) ∙ of_c)))
judged-texts line digits (Ok c) (Err e) cut short of_c of_message =
    inr (λ job p.
    true≢false (ap is_ok (sym p.message ∙ ap decode_of (sym (message-line line digits job p cut)) ∙ of_message)))

judged-digits : (line digits : List ℕ) → drop 64 line ≡ 32 ∷ digits → IsJudged line
judged-digits line digits cut =
    elim (cases_lt most_digits (length digits)) [
      | inl long ↦ inr (λ job p. let same = ap length (message-line line digits job p cut) in
          let most = p.message_len in omega (arith, long, same, most))
      | inr short ↦ judged-texts line digits (decode_sized (take 64 line) 32) (decode_of digits) cut short refl refl
    ]

judged-rest : (line rest : List ℕ) → drop 64 line ≡ rest → IsJudged line
judged-rest line [] cut = inr (λ job p. let none = ap length (sym cut ∙ rest-line line job p) in omega (arith, none))
judged-rest line (x ∷ digits) cut =
    elim (cases_eq x 32) [
      | inl space ↦ judged-digits line digits (cut ∙ ap (λ (y : ℕ). y ∷ digits) space)
      | inr other ↦ inr (λ job p. other (ap (λ (l : List ℕ). get_or l 0 0) (sym cut ∙ rest-line line job p)))
    ]

pub judged : (line : List ℕ) → IsJudged line
judged line = judged-rest line (drop 64 line) refl

-- the lines that come after good ones are judged one after another
outcome-from : (text : List ℕ) (before lines : List (List ℕ)) (jobs : List JobText) → lines_of text ≡ before ++ lines
    → AreJobLines before jobs → length jobs ≤ most_jobs → HasSomeOutcome text
outcome-from text before [] jobs parts good most =
    inl (
      jobs,
      record {
        each = subst (λ (l : List (List ℕ)). AreJobLines l jobs) (sym (parts ∙ append-nil before)) good;
        count = most;
      },
    )
outcome-from text before (line ∷ lines) jobs parts good most =
    elim (eq-or-lt_of_le most) [
      | inl all ↦ inr (inr (record {
        before = before;
        next = line;
        after = lines;
        jobs = jobs;
        parts = parts;
        good = good;
        count = all;
      }))
      | inr few ↦
          elim (judged line) [
            | inl is ↦
                outcome-from text (before ++ line ∷ []) lines (jobs ++ is.0 ∷ [])
                (parts ∙ sym (append_assoc before (line ∷ []) lines))
                (job-lines-more before jobs line is.0 good is.1)
                (let len = length-append jobs (is.0 ∷ []) in omega (arith, len, few))
            | inr none ↦ inr (inl (
              length jobs + 1,
              record {
                before = before;
                bad = line;
                after = lines;
                jobs = jobs;
                parts = parts;
                good = good;
                is_bad = none;
                place = refl;
                count = few;
              },
            ))
          ]
    ]

pub some-outcome : (text : List ℕ) → HasSomeOutcome text
some-outcome text = outcome-from text [] (lines_of text) [] refl tt (omega arith)
