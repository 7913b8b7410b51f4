use Rattle.std.proofs.Common.{ℕ, ◌≡◌, List, [], ◌∷◌, ◌++◌, length, take, drop, refl, sym, ◌∙◌, ap, ap₂}
use Rattle.std.proofs.lemmas.List.{drop_at}
use Rattle.lms_spec.specs.Bytes.{u32str}
use Rattle.lms_spec.proofs.Writing.{put_mid-parts}
use Rattle.lms_ots.proofs.neighbours.front.Goals as goal
use borrow.Rule.Slice.PartMut.{put_mid}

pub returns : goal.returns
returns c =
    let id : List ℕ = c.args.id.now in
    let leaf : List ℕ = u32str c.args.q in
    let zeros : List ℕ = 0 ∷ 0 ∷ 0 ∷ 0 ∷ [] in
    let long : length id ≡ 16 = ap length (sym c.copy_from_slice.ensures.after) ∙ c.copy_from_slice.ensures.len in
    let first : c.copy_from_slice.new.self ++ zeros ≡ id ++ (zeros ++ []) =
    ap (λ x. x ++ zeros) c.copy_from_slice.ensures.after in
    let number : c.write_u32.new.buf ≡ leaf
    = c.write_u32.ensures ∙ ap (λ x. leaf ++ drop 4 (take 4 x)) (ap (drop 16) first ∙ drop_at id zeros 16 long) in
    ap₂ (put_mid 16 4) first number ∙ put_mid-parts id zeros [] leaf 16 4 long refl
