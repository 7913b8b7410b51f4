use Rattle.std.proofs.Common.{ℕ, ◌≡◌, List, [], ◌++◌, length, replicate, refl, ◌∙◌, ap, ap₂, sym}
use Rattle.std.proofs.lemmas.List.{append-nil}
use Rattle.lms_spec.specs.Bytes.{u16str}
use Rattle.lms_spec.specs.Hashing.{d_mesg, hash_prefix}
use Rattle.lms_spec.proofs.Writing.{put_mid-parts}
use Rattle.lms_ots.proofs.signing.message_head.Goals as goal
use borrow.Rule.Slice.PartMut.{put_mid}

pub returns : goal.returns
returns c =
    let front : List ℕ = hash_prefix c.args.id.i c.args.id.q ++ u16str d_mesg in
    let zeros : List ℕ = replicate 32 0 in
    let randomizer : List ℕ = c.args.randomizer.now in
    let first : c.copy_from_slice.new.self ≡ front = c.copy_from_slice.ensures.after ∙ c.chain_head.ensures in
    let long : length front ≡ 22 = ap length (sym first) ∙ c.copy_from_slice.ensures.len in
    ap₂ (λ x y. put_mid 22 32 (x ++ (zeros ++ [])) y) first c.copy_from_slice-2.ensures.after
    ∙ (put_mid-parts front zeros [] randomizer 22 32 long refl
    ∙ ap (λ x. front ++ x) (append-nil randomizer))
