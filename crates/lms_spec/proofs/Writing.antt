-- A part of a list that is written over.
use Rattle.std.proofs.Common.{ℕ, ◌≡◌, List, ◌++◌, length, drop, ◌∙◌, ap, ap₂}
use Rattle.std.proofs.lemmas.List.{take_at, drop_at}
use borrow.Rule.Slice.PartMut.{put_mid, post_of}

pub put_mid-parts : (front mid back ys : List ℕ) (a k : ℕ) → length front ≡ a → length mid ≡ k
    → put_mid a k (front ++ (mid ++ back)) ys ≡ front ++ (ys ++ back)
put_mid-parts front mid back ys a k la lk =
    let rest : drop a (front ++ (mid ++ back)) ≡ mid ++ back = drop_at front (mid ++ back) a la in
    let after : post_of a k (front ++ (mid ++ back)) ≡ back = ap (drop k) rest ∙ drop_at mid back k lk in
    ap₂ (λ x y. x ++ (ys ++ y)) (take_at front (mid ++ back) a la) after
