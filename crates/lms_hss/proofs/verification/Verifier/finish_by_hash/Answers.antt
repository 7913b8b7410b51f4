use Rattle.std.proofs.Common.{◌++◌, ap, ◌∙◌}
use Rattle.sha2.specs.Sha256.{sha256}
use Rattle.lms_hss.proofs.Bottoms.{head-one}
use Rattle.lms_hss.proofs.verification.Verifier.finish_by_hash.Goals as goal

pub returns : goal.returns
returns g c public_key signature before head message taken is_head hashed =
    let of_bottom = head-one public_key signature taken.bottom_key taken.bottom_signature head taken.bottom is_head in
    let by_tree = c.finish_by_hash.ensures taken.bottom_key taken.bottom_signature before message taken.taken
    (hashed ∙ ap (λ head. sha256 (head ++ message)) of_bottom) in
    let same = taken.same message in
    (λ e. same.1 (by_tree.0 e), λ accepted. by_tree.1 (same.0 accepted))
