-- Levels that are planned, and the top one that is computed.
use Rattle.std.proofs.Common.{ℕ, suc, ◌≡◌, ◌+◌, ◌-◌, ◌<◌, List, [], ◌∷◌, ◌++◌, length, get_or, sym, ◌∙◌, ap, ap₂}
use Rattle.std.proofs.Common.{arith, subst, ⊎_elim, length-append}
use Rattle.std.proofs.lemmas.List.{get_or_append_left, nil_from_length}
use Rattle.std.proofs.Math.Seq.{get_or-append_seam}
use Rattle.std.proofs.Math.Nat.{eq-or-lt_of_le}
use Rattle.lms_spec.specs.Parameters.{lms_public_key_length}
use Rattle.lms_spec.specs.Hss.{HssKey, capacity_of}
use Rattle.lms_tree.specs.Kept.{AreNodes, HasShape, ServesLeaf}
use Rattle.lms_tree.specs.TreeKey.{signature_length_under, tree_of}
use Rattle.lms_hss.specs.declared.key.HssKey.{HssKey as KeyOfCode}
use Rattle.lms_hss.specs.Keys.{hss_key_of}
use Rattle.lms_hss.specs.Levels.{IsAdmitted}
use Rattle.lms_kept.specs.declared.kept_level.KeptLevel.{KeptLevel}
use Rattle.lms_kept.specs.declared.planned_level.PlannedLevel.{PlannedLevel}
use Rattle.lms_kept.specs.Ways.{ArePlanned, IsGenuine, IsOnWay, IsPlanned, IsWay, signed_length}
use Rattle.lms_kept.proofs.SignatureLengths.{own-signature}
use Rattle.lms_kept.proofs.Ways.{one-more}

-- one level more is planned, above those that are
pub plan-more : (key : HssKey) (g n : ℕ) (plans : List PlannedLevel) (planned : PlannedLevel)
    → ArePlanned key g (n + 1) plans → IsPlanned key g n planned → ArePlanned key g n (plans ++ planned ∷ [])
plan-more key g n plans planned are is = record {
  count = omega (arith, are.count, length-append plans (planned ∷ []));
  each = λ k other from below.
      let place = length key.levels - 1 - k in
      ⊎_elim
      (λ e. let last : place ≡ length plans = omega (arith, are.count, e) in
      let own : get_or (plans ++ planned ∷ []) place other ≡ planned
      = ap (λ i. get_or (plans ++ planned ∷ []) i other) last ∙ get_or-append_seam plans planned [] other in
      subst (IsPlanned key g k) (sym own) (subst (λ k. IsPlanned key g k planned) e is))
      (λ lt. let same = get_or_append_left plans (planned ∷ []) other place (omega (arith, are.count, lt, below)) in
      subst (IsPlanned key g k) (sym same) (are.each k other (omega (arith, lt)) below))
      (eq-or-lt_of_le {n = n} {m = k} from);
}

-- the last one is the highest, and the others are those below it
pub plan-next : (key : HssKey) (g n : ℕ) (plans rest : List PlannedLevel) (planned : PlannedLevel)
    → ArePlanned key g n plans → plans ≡ rest ++ planned ∷ []
    → IsPlanned key g n planned × ArePlanned key g (n + 1) rest
plan-next key g n plans rest planned are parts =
    let long : length plans ≡ length rest + 1 = omega (arith, ap length parts, length-append rest (planned ∷ [])) in
    let here : length key.levels - 1 - n ≡ length rest = omega (arith, are.count, long) in
    let last : get_or plans (length key.levels - 1 - n) planned ≡ planned
    = ap₂ (λ plans i. get_or plans i planned) parts here ∙ get_or-append_seam rest planned [] planned in (
      subst (IsPlanned key g n) last (are.each n planned (omega arith) (omega (arith, are.count, long))),
      record {
        count = omega (arith, are.count, long);
        each = λ k other from below.
            let place = length key.levels - 1 - k in
            let same : get_or plans place other ≡ get_or rest place other
            = ap (λ plans. get_or plans place other) parts
            ∙ get_or_append_left rest (planned ∷ []) other place (omega (arith, are.count, long, from, below)) in
            subst (IsPlanned key g k) same (are.each k other (omega (arith, from)) below);
      },
    )

-- there is memory for what the level above signs of it
pub planned-signed : (key : HssKey) (g k j : ℕ) (planned : PlannedLevel) (parent : KeptLevel) → k ≡ j + 1
    → IsPlanned key g k planned → IsOnWay key g j parent
    → length planned.signed.items ≡ signature_length_under parent.tree.key + lms_public_key_length
planned-signed key g k j planned parent next is on =
    let after : k ≡ suc j = omega (arith, next) in
    is.signed
    ∙ (ap (signed_length key) after ∙ ap (λ n. n + lms_public_key_length) (sym (own-signature key g j parent on)))

-- a top tree that is computed as planned is on the way
pub top-on : (key : HssKey) (g : ℕ) (planned : PlannedLevel) (top : KeptLevel) → IsPlanned key g 0 planned
    → top.tree.key ≡ planned.tree.key → ServesLeaf top.tree planned.tree.first → HasShape top.tree
    → top.signed ≡ planned.signed
    → IsOnWay key g 0 top
top-on key g planned top is key_is served shape signed = record {
  tree = ap tree_of key_is ∙ is.tree;
  served = subst (ServesLeaf top.tree) is.first served;
  shape = shape;
  signed = ap (λ v. length v.items) signed ∙ is.signed;
}

-- and is genuine
pub top-genuine : (key : HssKey) (g : ℕ) (planned : PlannedLevel) (top : KeptLevel) → IsPlanned key g 0 planned
    → AreNodes top.tree → top.signed ≡ planned.signed → IsGenuine key g 0 top
top-genuine key g planned top is nodes signed =
    record { nodes = nodes; signed = nil_from_length top.signed.items (ap (λ v. length v.items) signed ∙ is.signed) }

-- what holds of the first level put into an empty list holds of all
pub only-one : (P : ℕ → KeptLevel → Type 0) (before after : List KeptLevel) (top : KeptLevel) → before ≡ []
    → after ≡ before ++ top ∷ [] → P 0 top → (k : ℕ) (other : KeptLevel) → k < length after → P k (get_or after k other)
only-one P before after top empty more is k other low =
    let none : length before ≡ 0 = ap length empty in
    subst (λ levels. P k (get_or levels k other)) (sym more)
    (one-more P 0 before top none (λ j other low. absurd (omega (arith, low))) is k other
    (omega (arith, low, none, ap length more, length-append before (top ∷ []))))

-- the top level alone is a way
pub top-way : (key : KeyOfCode) (at : ℕ) (before after : List KeptLevel) (top : KeptLevel) → length key.i ≡ 16
    → IsAdmitted key.levels → at < capacity_of (hss_key_of key) → before ≡ [] → after ≡ before ++ top ∷ []
    → IsOnWay (hss_key_of key) at 0 top → IsWay (record { key = key; at = at; levels = after })
top-way key at before after top long admitted within empty more on =
    let one : length after ≡ 1 = omega (arith, ap length more, length-append before (top ∷ []), ap length empty) in
    record {
      id_length = long;
      within = within;
      some = omega (arith, one);
      at_most = omega (arith, one, admitted.some_level);
      each = only-one (IsOnWay (hss_key_of key) at) before after top empty more on;
      admitted = admitted;
    }
