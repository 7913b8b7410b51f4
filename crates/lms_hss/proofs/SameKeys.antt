-- When two keys are the same.
use Rattle.std.proofs.Common.{◌≡◌, Bool, true, false, List, length, take, replicate, refl, sym, ◌∙◌, ap}
use Rattle.std.specs.Prelude.{◌==◌, ◌&&◌, ◌-◌, nat_eq}
use Rattle.std.specs.Bool.{Decides}
use Rattle.std.proofs.lemmas.Bool.Decides.{Decides-eqb}
use Rattle.std.proofs.lemmas.Slice.Eq.{slice_eq-Decides}
use Rattle.std.proofs.lemmas.List.{take_at}
use lib.Pointwise.{pointwise}
use Rattle.lms_params.specs.declared.lms_type.LmsType.{LmsType}
use Rattle.lms_params.specs.declared.ots_type.OtsType.{OtsType}
use Rattle.lms_params.specs.declared.lms_type.LmsType.TheVariants.{H5}
use Rattle.lms_params.specs.declared.ots_type.OtsType.TheVariants.{W1}
use Rattle.lms_hss.specs.Levels.{padded}
use Rattle.lms_hss.specs.declared.key.HssKey.{HssKey as KeyOfCode}

both : {P Q R : Type 0} (a b : Bool) → Decides a P → Decides b Q → (P → Q → R) → (R → P) → (R → Q) → Decides (a && b) R
both true b p q join first second = (λ yes. join (p.0 refl) (q.0 yes), λ r. q.1 (second r))
both false b p q join first second = (λ no. absurd cc, λ r. p.1 (first r))

pairs : {A B : Type 0} {E : A → A → Bool} {F : B → B → Bool} → ((x y : A) → Decides (E x y) (x ≡ y))
    → ((x y : B) → Decides (F x y) (x ≡ y)) → (p q : A × B) → Decides (E p.0 q.0 && F p.1 q.1) (p ≡ q)
pairs {E = E} {F = F} e f p q =
    both (E p.0 q.0) (F p.1 q.1) (e p.0 q.0) (f p.1 q.1) (λ x y i. (x i, y i)) (ap (λ r. r.0)) (ap (λ r. r.1))

-- levels that fill eight places alike, as many of them, are the same
same_levels : (k m : List (LmsType × OtsType)) → padded k ≡ padded m → length k ≡ length m → k ≡ m
same_levels k m places count =
    sym (take_at k (replicate (8 - length k) (H5, W1)) (length k) refl)
    ∙ ap (take (length k)) places
    ∙ take_at m (replicate (8 - length m) (H5, W1)) (length k) (sym count)

pub key-Decides : {E : LmsType → LmsType → Bool} {F : OtsType → OtsType → Bool}
    → ((x y : LmsType) → Decides (E x y) (x ≡ y))
    → ((x y : OtsType) → Decides (F x y) (x ≡ y)) → (k m : KeyOfCode)
    → Decides ((pointwise (λ x y. E x.0 y.0 && F x.1 y.1) (padded k.levels) (padded m.levels)
    && (length k.levels == length m.levels)) && (pointwise nat_eq k.seed m.seed && pointwise nat_eq k.i m.i)) (k ≡ m)
key-Decides {E} {F} e f k m =
    let bytes = slice_eq-Decides Decides-eqb in
    let levels : Decides (pointwise (λ x y. E x.0 y.0 && F x.1 y.1) (padded k.levels) (padded m.levels)
    && (length k.levels == length m.levels)) (k.levels ≡ m.levels)
    = both _ _ (slice_eq-Decides (pairs e f) (padded k.levels) (padded m.levels) _ refl)
    (Decides-eqb (length k.levels) (length m.levels)) (same_levels k.levels m.levels) (ap padded) (ap length) in
    let rest : Decides (pointwise nat_eq k.seed m.seed && pointwise nat_eq k.i m.i) ((k.seed ≡ m.seed) × (k.i ≡ m.i))
    = both _ _ (slice_eq-Decides Decides-eqb k.seed m.seed _ refl) (slice_eq-Decides Decides-eqb k.i m.i _ refl)
    (λ s i. (s, i)) (λ r. r.0) (λ r. r.1) in
    both _ _ levels rest (λ l r i. record { levels = l i; seed = r.0 i; i = r.1 i })
    (ap (λ (key : KeyOfCode). key.levels))
    (λ same. (ap (λ (key : KeyOfCode). key.seed) same, ap (λ (key : KeyOfCode). key.i) same))
