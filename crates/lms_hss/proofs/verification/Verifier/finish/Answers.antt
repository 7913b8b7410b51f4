use Rattle.lms_hss.proofs.verification.Verifier.finish.Goals as goal

pub returns : goal.returns
returns g c public_key signature message taken =
    let by_tree = c.finish.ensures taken.bottom_key taken.bottom_signature message taken.taken in
    let same = taken.same message in
    (λ e. same.1 (by_tree.0 e), λ accepted. by_tree.1 (same.0 accepted))
