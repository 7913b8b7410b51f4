use Rattle.std.proofs.Common.{ℕ, ◌≡◌, List, [], ◌∷◌, ◌++◌, length, replicate, sym, ◌∙◌, ap, arith, append_assoc}
use Rattle.std.proofs.Common.{length-append}
use Rattle.std.proofs.lemmas.List.{append-nil}
use Rattle.sha2.specs.Sha256.{sha256}
use Rattle.lms_spec.proofs.Writing.{put_mid-parts}
use Rattle.lms_ots.proofs.chain_hashes.hash_after.Goals as goal
use borrow.Rule.Slice.PartMut.{put_mid}

pub returns : goal.returns
returns c =
    let head : List ℕ = c.args.head.now in
    let value : List ℕ = c.args.value.now in
    let byte : List ℕ = c.args.byte ∷ [] in
    let spare : List ℕ = replicate 32 c.args.byte in
    let copied = c.copy_from_slice.ensures.after in
    let length_before : length (head ++ byte) ≡ 23 = omega (arith, length-append head byte, c.told-head) in
    let before : c.copy_from_slice.new.self ++ replicate 33 c.args.byte ≡ (head ++ byte) ++ (spare ++ [])
    = ap (λ x. x ++ replicate 33 c.args.byte) copied ∙ sym (append_assoc head byte (spare ++ [])) in
    let text : put_mid 23 32 (c.copy_from_slice.new.self ++ replicate 33 c.args.byte) c.copy_from_slice-2.new.self
    ≡ head ++ c.args.byte ∷ value
    = ap (λ x. put_mid 23 32 x c.copy_from_slice-2.new.self) before
    ∙ (put_mid-parts (head ++ byte) spare [] c.copy_from_slice-2.new.self 23 32 length_before (omega arith)
    ∙ (ap (λ x. (head ++ byte) ++ (x ++ [])) c.copy_from_slice-2.ensures.after
    ∙ (ap (λ x. (head ++ byte) ++ x) (append-nil value) ∙ append_assoc head byte value))) in
    c.digest.ensures ∙ ap sha256 text
