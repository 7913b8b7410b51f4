-- What is appended by one write after another, and beginnings of it.
use Rattle.std.proofs.Common.{ℕ, List, [], ◌++◌, Option, None, Some, ap, sym, ◌∙◌, append_assoc, append-nil}
use Rattle.std.specs.Prelude.{Result, Ok, Err, OnErr}
use Rattle.std.specs.Io.KnownBytes.{Appends}
use Rattle.lms_blocks.specs.Writing.{AppendsFront}

pub Appends-none : (a : Option (List ℕ)) → Appends a a []
Appends-none None = tt
Appends-none (Some x) = sym (append-nil x)

pub Appends-both : (a b c : Option (List ℕ)) (xs ys : List ℕ) → Appends a b xs → Appends b c ys → Appends a c (xs ++ ys)
Appends-both None b c xs ys p q = tt
Appends-both (Some x) None c xs ys p q = absurd p
Appends-both (Some x) (Some y) None xs ys p q = absurd q
Appends-both (Some x) (Some y) (Some z) xs ys p q = q ∙ ap (λ l. l ++ ys) p ∙ append_assoc x xs ys

-- a beginning of the first part is one of the whole
pub AppendsFront-more : (a b : Option (List ℕ)) (xs ys : List ℕ) → AppendsFront a b xs → AppendsFront a b (xs ++ ys)
AppendsFront-more a b xs ys p =
    record {
      front = p.front;
      rest = p.rest ++ ys;
      whole = ap (λ l. l ++ ys) p.whole ∙ append_assoc p.front p.rest ys;
      appended = p.appended;
    }

-- the first part, and a beginning of the second
pub AppendsFront-after : (a b c : Option (List ℕ)) (xs ys : List ℕ) → Appends a b xs → AppendsFront b c ys
    → AppendsFront a c (xs ++ ys)
AppendsFront-after a b c xs ys p q =
    record {
      front = xs ++ q.front;
      rest = q.rest;
      whole = ap (λ l. xs ++ l) q.whole ∙ sym (append_assoc xs q.front q.rest);
      appended = Appends-both a b c xs q.front p q.appended;
    }

pub OnErr-always : {T E P : Type 0} (r : Result T E) → P → OnErr r P
OnErr-always (Ok x) p = tt
OnErr-always (Err e) p = p
