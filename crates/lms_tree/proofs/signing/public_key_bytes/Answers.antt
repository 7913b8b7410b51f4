use Rattle.std.proofs.Common.{ℕ, ◌≡◌, List, [], ◌++◌, length, take, drop, replicate, refl, sym, ◌∙◌, ap, ap₂, arith}
use Rattle.std.proofs.Common.{rules, append_assoc, length-append}
use Rattle.std.proofs.lemmas.List.{append-nil}
use Rattle.lms_spec.specs.Bytes.{u32str}
use Rattle.lms_spec.specs.Tree.{lms_public_key}
use Rattle.lms_params.specs.LmsType.{lms_set_of}
use Rattle.lms_params.specs.OtsType.{ots_set_of}
use Rattle.lms_spec.proofs.Writing.{put_mid-parts}
use Rattle.lms_tree.proofs.signing.public_key_bytes.Goals as goal
use borrow.Rule.Slice.PartMut.{put_mid}

pub returns : goal.returns
unfolding lms_public_key
returns c =
    let lms : List ℕ = u32str (lms_set_of c.args.key.now.lms).code in
    let ots : List ℕ = u32str (ots_set_of c.args.key.now.ots).code in
    let id : List ℕ = c.args.key.now.i in
    let root : List ℕ = c.args.root.now in
    let zeros : ℕ → List ℕ = λ n. replicate n 0 in
    let first : c.write_u32.new.buf ≡ lms ++ (zeros 4 ++ zeros 48)
    = c.write_u32.ensures ∙ ap (λ n. u32str n ++ zeros 52) c.code.ensures in
    let code : c.write_u32-2.new.buf ≡ ots ++ zeros 48
    = c.write_u32-2.ensures ∙ ap₂ (λ n text. u32str n ++ drop 4 (take 52 (drop 4 text))) c.code-2.ensures first in
    let second : put_mid 4 52 c.write_u32.new.buf c.write_u32-2.new.buf ≡ (lms ++ ots) ++ (zeros 16 ++ zeros 32)
    = ap₂ (put_mid 4 52) first code in
    let third : put_mid 8 16 _ c.copy_from_slice.new.self ≡ (lms ++ ots ++ id) ++ (zeros 32 ++ [])
    = ap₂ (put_mid 8 16) second c.copy_from_slice.ensures.after
    ∙ (put_mid-parts (lms ++ ots) (zeros 16) (zeros 32) id 8 16 refl refl
    ∙ sym (append_assoc (lms ++ ots) id (zeros 32))) in
    let sixteen : length id ≡ 16 = search rules in
    let long : length (lms ++ ots ++ id) ≡ 24 = omega (arith, length-append (lms ++ ots) id, sixteen) in
    ap₂ (put_mid 24 32) third c.copy_from_slice-2.ensures.after
    ∙ (put_mid-parts (lms ++ ots ++ id) (zeros 32) [] root 24 32 long refl
    ∙ ap (λ x. (lms ++ ots ++ id) ++ x) (append-nil root))
