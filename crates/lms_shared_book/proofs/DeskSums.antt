-- Sums of many desks, and of a history.
use Rattle.std.proofs.Common.{◌≡◌, ℕ, ◌≤◌, List, [], ◌∷◌, ◌++◌, sym, ◌∙◌, ap, arith, length-append}
use Rattle.std.specs.Prelude.{sum_by}
use Rattle.std.proofs.lemmas.List.Sums.{sum_by-cons, sum_by_push}
use Rattle.lms_book.specs.declared.history.Entry.{Entry}
use Rattle.lms_book.specs.declared.history.Entry.TheVariants.{Given, Burnt}
use Rattle.lms_book.specs.History.{len_of, given_len, burnt_len, given_of, burnt_of}
use Rattle.lms_shared_book.specs.Desks.{Sums, sums, plus, total, sums_of}

same_sums : (a b : Sums) → a.entries ≡ b.entries → a.received ≡ b.received → a.burnt ≡ b.burnt → a ≡ b
same_sums a b e r u i = record { entries = e i; received = r i; burnt = u i }

plus_comm : (a b : Sums) → plus a b ≡ plus b a
plus_comm a b = same_sums (plus a b) (plus b a) (omega arith) (omega arith) (omega arith)

plus_assoc : (a b c : Sums) → plus (plus a b) c ≡ plus a (plus b c)
plus_assoc a b c = same_sums (plus (plus a b) c) (plus a (plus b c)) (omega arith) (omega arith) (omega arith)

total-push : (ds : List Sums) (d : Sums) → total (ds ++ d ∷ []) ≡ plus (total ds) d
total-push [] d = plus_comm d (sums 0 0 0)
total-push (x ∷ ds) d = ap (plus x) (total-push ds d) ∙ sym (plus_assoc x (total ds) d)

-- the last desk joins what is counted already
pub joined : (all d : Sums) (ds : List Sums) → plus (plus all d) (total ds) ≡ plus all (total (ds ++ d ∷ []))
joined all d ds = plus_assoc all d (total ds) ∙ ap (plus all) (plus_comm d (total ds) ∙ sym (total-push ds d))

-- what was given, or burnt, is within what was reserved
pub given_le : (es : List Entry) → given_of es ≤ sum_by len_of es
given_le [] = omega arith
given_le (Given len ∷ es) =
    omega (arith, given_le es, sum_by-cons len_of (Given len) es, sum_by-cons given_len (Given len) es)
given_le (Burnt len ∷ es) =
    omega (arith, given_le es, sum_by-cons len_of (Burnt len) es, sum_by-cons given_len (Burnt len) es)

pub burnt_le : (es : List Entry) → burnt_of es ≤ sum_by len_of es
burnt_le [] = omega arith
burnt_le (Given len ∷ es) =
    omega (arith, burnt_le es, sum_by-cons len_of (Given len) es, sum_by-cons burnt_len (Given len) es)
burnt_le (Burnt len ∷ es) =
    omega (arith, burnt_le es, sum_by-cons len_of (Burnt len) es, sum_by-cons burnt_len (Burnt len) es)

-- the sums with one entry more
pub given_more : (es : List Entry) (n : ℕ) → plus (sums_of es) (sums 1 n 0) ≡ sums_of (es ++ Given n ∷ [])
given_more es n = same_sums _ _ (omega (arith, length-append es (Given n ∷ [])))
    (omega (arith, sum_by_push given_len es (Given n))) (omega (arith, sum_by_push burnt_len es (Given n)))

pub burnt_more : (es : List Entry) (n : ℕ) → plus (sums_of es) (sums 1 0 n) ≡ sums_of (es ++ Burnt n ∷ [])
burnt_more es n = same_sums _ _ (omega (arith, length-append es (Burnt n ∷ [])))
    (omega (arith, sum_by_push given_len es (Burnt n))) (omega (arith, sum_by_push burnt_len es (Burnt n)))
