use Rattle.std.proofs.Common.{◌≡◌, ◌<◌, ℕ, List, ◌∷◌, ◌++◌, length, take, drop, get_or, Ok, Err, Result, sym, ap, ◌∙◌}
use Rattle.std.proofs.Common.{drop-cons, false}
use Rattle.std.proofs.lemmas.List.{take-append-drop, drop-drop}
use Rattle.std.proofs.Math.Seq.{take-append_seam, drop-append_seam}
use Rattle.std.proofs.lemmas.Bool.{true≢false}
use Rattle.std.specs.Result.{MatchResult, is_err}
use Rattle.lms_batch.specs.Jobs.{JobText}
use Rattle.lms_lines.specs.JobLines.{IsJobLine}

pub take-line : (line : List ℕ) (job : JobText) (p : IsJobLine line job) → take 64 line ≡ p.c_digits
take-line line job p = ap (λ n. take n line) (sym p.c_len) ∙ ap (take (length p.c_digits)) p.parts
    ∙ take-append_seam p.c_digits (32 ∷ p.message_digits)

-- what comes after the randomizer's digits
pub rest-line : (line : List ℕ) (job : JobText) (p : IsJobLine line job) → drop 64 line ≡ 32 ∷ p.message_digits
rest-line line job p =
    ap (λ n. drop n line) (sym p.c_len) ∙ ap (drop (length p.c_digits)) p.parts
    ∙ drop-append_seam p.c_digits (32 ∷ p.message_digits)

pub drop-line : (line : List ℕ) (job : JobText) (p : IsJobLine line job) → drop 1 (drop 64 line) ≡ p.message_digits
drop-line line job p = ap (drop 1) (rest-line line job p)

pub split_line : (line : List ℕ) → 64 < length line → get_or line 64 0 ≡ 32
    → line ≡ take 64 line ++ 32 ∷ drop 1 (drop 64 line)
split_line line long space =
    sym (take-append-drop 64 line)
    ∙ ap (λ r. take 64 line ++ r) (drop-cons line 64 0 long ∙ ap (λ (x : ℕ). x ∷ drop 65 line) space
    ∙ ap (λ (l : List ℕ). 32 ∷ l) (sym (drop-drop 1 64 line)))

pub sized_ok : {E : Type 0} (d : Result (List ℕ) E) (r : Result (Unit {0}) E) (out : List ℕ)
    → MatchResult d (λ bytes. (r ≡ Ok tt) × (out ≡ bytes)) (λ e. r ≡ Err e) → is_err r ≡ false → d ≡ Ok out
sized_ok (Ok bytes) r out h ok = ap Ok (sym h.1)
sized_ok (Err e) r out h ok = absurd (true≢false (ap is_err (sym h) ∙ ok))
