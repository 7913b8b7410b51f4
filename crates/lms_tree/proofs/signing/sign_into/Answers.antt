use Rattle.std.proofs.Common.{ℕ, ◌≡◌, ◌+◌, ◌-◌, ◌^◌, ◌<◌, List, [], ◌++◌, length, drop, sym, ◌∙◌, ap, arith, rules}
use Rattle.std.proofs.Common.{subst, length-append}
use Rattle.std.proofs.lemmas.List.{append-nil, length-take-le}
use Rattle.lms_spec.specs.Parameters.{ots_signature_length}
use Rattle.lms_spec.specs.Bytes.{u32str}
use Rattle.lms_spec.specs.Ots.{ots_signature}
use Rattle.lms_spec.specs.Tree.{public_key_of, lms_signature, LmsAccepts}
use Rattle.lms_spec.proofs.TreeSignatures.{tree-accepts}
use Rattle.lms_params.specs.LmsType.{lms_set_of}
use Rattle.lms_params.specs.OtsType.{ots_set_of}
use Rattle.lms_params.proofs.KnownSets.{known_lms_set, known_ots_set}
use Rattle.lms_spec.proofs.Writing.{put_mid-parts}
use Rattle.lms_tree.specs.declared.tree_key.TreeKey.{TreeKey}
use Rattle.lms_tree.specs.TreeKey.{tree_of}
use Rattle.lms_tree.proofs.signing.sign_into.Goals as goal
use borrow.Rule.Slice.PartMut.{put_mid}

-- what is written before the path, and the path
pub returns-clause-along : goal.returns-clause-along
returns-clause-along g c =
    let start = 8 + c.sig_len-path_start.result in
    let same = c.key-key.ensures.key in
    let head : List ℕ = c.write_head.new.out in
    let path : List ℕ = c.write_path.new.out in
    let rest : List ℕ = drop start c.args.out.now in
    let after = length (head ++ rest) - start in
    let ots_long : c.sig_len-path_start.result ≡ _
    = c.sig_len-path_start.ensures ∙ ap (λ (key : TreeKey). ots_signature_length (ots_set_of key.ots)) same in
    let long : length head ≡ start =
    omega (arith, length-take-le start c.args.out.now (omega (arith, ots_long, c.requires.long))) in
    let of_key : head ≡ _
    = c.write_head.ensures
    ∙ ap (λ (key : TreeKey). u32str c.args.q ++ ots_signature (ots_set_of key.ots) key.i key.seed c.args.q c.args.c.now
    c.args.msg.now ++ u32str (lms_set_of key.lms).code) same in
    record {
      path = path;
      path_length = c.write_path.ensures.long;
      parts = ap (λ text. put_mid start after (head ++ text) path) (sym (append-nil rest))
          ∙ (put_mid-parts head rest [] path start after long (omega (arith, length-append head rest, long))
          ∙ (ap (λ text. head ++ text) (append-nil path) ∙ ap (λ x. x ++ path) of_key));
    }

pub returns-clause-signature : goal.returns-clause-signature
unfolding lms_signature returns-clause-along
returns-clause-signature g c right =
    let tree = tree_of (g.N.NodeSource.tree_key c.args.source.now) in
    (returns-clause-along g c).parts
    ∙ ap (λ path. u32str c.args.q ++ ots_signature tree.ots tree.id tree.seed c.args.q c.args.c.now c.args.msg.now
    ++ u32str tree.lms.code ++ path) (c.write_path.ensures.path right)

pub returns-clause-accepted : goal.returns-clause-accepted
returns-clause-accepted g c right =
    let key = g.N.NodeSource.tree_key c.args.source.now in
    let tree = tree_of key in
    let sixteen : length c.key-key.result.i ≡ 16 = search rules in
    let id : length tree.id ≡ 16 = ap (λ (key : TreeKey). length key.i) (sym c.key-key.ensures.key) ∙ sixteen in
    let leaf : c.args.q < 2 ^ tree.lms.h = omega (arith, c.key-key.ensures.in_tree, c.requires.last) in
    subst (LmsAccepts (public_key_of tree) c.args.msg.now) (sym (returns-clause-signature g c right))
    (tree-accepts tree c.args.q c.args.c.now c.args.msg.now (known_lms_set key.lms)
    (known_ots_set key.ots) id leaf c.told-c)
