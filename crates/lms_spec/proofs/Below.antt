-- What is made of the numbers below n.
use Rattle.std.proofs.Common.{ℕ, ◌≡◌, ◌+◌, ◌<◌, List, [], ◌∷◌, ◌++◌, map, length, get_or, All, ◌∙◌, ap, zero-add, sum}
use Rattle.std.proofs.lemmas.List.{append-nil}
use Rattle.std.proofs.lemmas.List.Elements.{All-map}
use Rattle.std.proofs.lemmas.List.Folds.{concat-append}
use Rattle.std.proofs.lemmas.List.FromFn.{map-range_with_len_more, length-map-range_with_len, get_or-map-range_with_len}
use Rattle.std.proofs.lemmas.List.FromFn.{fill_by_all, sum_by-map-range_with_len_more}
use Rattle.std.specs.List.{concat}
use Rattle.lms_spec.specs.Bytes.{below}

pub map-below-push : {X : Type 0} (f : ℕ → X) (n : ℕ) → map f (below (n + 1)) ≡ map f (below n) ++ f n ∷ []
map-below-push f n = map-range_with_len_more f 0 n n (zero-add n)

pub sum-below-push : (f : ℕ → ℕ) (n : ℕ) → sum (map f (below (n + 1))) ≡ sum (map f (below n)) + f n
sum-below-push f n = sum_by-map-range_with_len_more (λ n. n) f 0 n n (zero-add n)

pub concat-below-suc : (f : ℕ → List ℕ) (n : ℕ) → concat (map f (below (n + 1))) ≡ concat (map f (below n)) ++ f n
concat-below-suc f n =
    ap concat (map-below-push f n)
    ∙ (concat-append (map f (below n)) (f n ∷ []) ∙ ap (λ rest. concat (map f (below n)) ++ rest) (append-nil (f n)))

pub length-map-below : {X : Type 0} (f : ℕ → X) (n : ℕ) → length (map f (below n)) ≡ n
length-map-below f n = length-map-range_with_len f 0 n

pub get_or-map-below : {X : Type 0} (f : ℕ → X) (n i : ℕ) (d : X) → i < n → get_or (map f (below n)) i d ≡ f i
get_or-map-below f n i d h = get_or-map-range_with_len f 0 n i i d h (zero-add i)

-- two functions that agree below n make one list
pub map-below-same : {X : Type 0} (d : X) (f g : ℕ → X) (n : ℕ) → ((i : ℕ) → i < n → f i ≡ g i)
    → map f (below n) ≡ map g (below n)
map-below-same d f g n same =
    fill_by_all g (map f (below n)) n d (length-map-below f n) (λ i h. get_or-map-below f n i d h ∙ same i h)

pub All-map-below : {X : Type 0} (P : X → Type 0) (f : ℕ → X) (n : ℕ) → ((i : ℕ) → P (f i)) → All P (map f (below n))
All-map-below P f n each = All-map P f (below n) (λ k d h. each _)
