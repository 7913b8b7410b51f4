-- A table that is filled from its first place on.
use Rattle.std.proofs.Common.{ℕ, suc, ◌≡◌, ◌+◌, ◌-◌, ◌<◌, List, [], ◌∷◌, ◌++◌, map, set, replicate, sym, ◌∙◌, ap, ap₂}
use Rattle.std.proofs.Common.{arith, append_assoc}
use Rattle.std.proofs.Math.Seq.{set-append_seam}
use Rattle.lms_spec.specs.Bytes.{below}
use Rattle.lms_spec.proofs.Below.{length-map-below, map-below-push}

-- the first i of n places hold f, and the rest zeros
abbrev pub filled : (ℕ → ℕ) → ℕ → ℕ → List ℕ
filled f n i = map f (below i) ++ replicate (n - i) 0

pub set-filled : (f : ℕ → ℕ) (n i : ℕ) → i < n → set (filled f n i) i (f i) ≡ filled f n (i + 1)
set-filled f n i h =
    let front = map f (below i) in
    let rest : List ℕ = replicate (n - (i + 1)) 0 in
    let one : n - i ≡ suc (n - (i + 1)) = omega arith in
    ap₂ (λ m k. set (front ++ replicate m 0) k (f i)) one (sym (length-map-below f i))
    ∙ (set-append_seam front 0 rest (f i)
    ∙ (sym (append_assoc front (f i ∷ []) rest) ∙ ap (λ xs. xs ++ rest) (sym (map-below-push f i))))
