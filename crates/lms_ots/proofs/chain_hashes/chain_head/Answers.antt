use Rattle.std.proofs.Common.{ℕ, ◌≡◌, List, [], ◌∷◌, ◌++◌, length, take, drop, refl, sym, ◌∙◌, ap, ap₂, arith}
use Rattle.std.proofs.Common.{append_assoc, length-append}
use Rattle.std.proofs.lemmas.List.{drop_at}
use Rattle.lms_spec.specs.Bytes.{u16str, u32str}
use Rattle.lms_spec.proofs.Writing.{put_mid-parts}
use Rattle.lms_ots.proofs.chain_hashes.chain_head.Goals as goal
use borrow.Rule.Slice.PartMut.{put_mid}

pub returns : goal.returns
returns c =
    let id : List ℕ = c.args.id.i in
    let leaf : List ℕ = u32str c.args.id.q in
    let zeros : List ℕ = 0 ∷ 0 ∷ 0 ∷ 0 ∷ 0 ∷ 0 ∷ [] in
    let two : List ℕ = 0 ∷ 0 ∷ [] in
    let long : length id ≡ 16 = ap length (sym c.copy_from_slice.ensures.after) ∙ c.copy_from_slice.ensures.len in
    let first : c.copy_from_slice.new.self ++ zeros ≡ id ++ (zeros ++ []) =
    ap (λ x. x ++ zeros) c.copy_from_slice.ensures.after in
    let number : c.write_u32.new.buf ≡ leaf ++ two
    = c.write_u32.ensures ∙ ap (λ x. leaf ++ drop 4 (take 6 x)) (ap (drop 16) first ∙ drop_at id zeros 16 long) in
    let second : put_mid 16 6 (c.copy_from_slice.new.self ++ zeros) c.write_u32.new.buf ≡ (id ++ leaf) ++ (two ++ [])
    = ap₂ (put_mid 16 6) first number
    ∙ (put_mid-parts id zeros [] (leaf ++ two) 16 6 long refl ∙ sym (append_assoc id leaf two)) in
    let length_second : length (id ++ leaf) ≡ 20 = omega (arith, length-append id leaf) in
    let chain : c.write_u16.new.buf ≡ u16str c.args.i
    = c.write_u16.ensures ∙ ap (λ x. u16str c.args.i ++ drop 2 (take 2 x))
    (ap (drop 20) second ∙ drop_at (id ++ leaf) two 20 length_second) in
    ap₂ (put_mid 20 2) second chain ∙ put_mid-parts (id ++ leaf) two [] (u16str c.args.i) 20 2 length_second refl
