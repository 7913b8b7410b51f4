use Rattle.std.proofs.Common.{◌++◌, ap, sym, ◌∙◌}
use Rattle.sha2.specs.Sha256.{sha256}
use Rattle.lms_verification.proofs.Acceptance.{accepts-when-root}
use Rattle.lms_verification.proofs.Heads.{head-by-parts}
use Rattle.lms_verification.proofs.verification.Verifier.finish_by_hash.Goals as goal

pub returns : goal.returns
returns g c public_key signature before message taken hashed =
    let v = c.args.self in
    let ots = v.ots.signature in
    let head = head-by-parts taken.lms taken.ots v.i v.root public_key taken.q taken.ots_part v.path.now signature
    ots.randomizer.now ots.values.now
    taken.key_parts taken.signature_parts taken.taken.signature_parts in
    accepts-when-root taken.lms taken.ots v.i v.root public_key taken.q taken.ots_part v.path.now message signature
    c.finish_by_hash-ots_public.result v.leaf c.is_root.result
    taken.key_parts taken.signature_parts taken.leaf_is
    (c.finish_by_hash-ots_public.ensures taken.ots v.i taken.q taken.ots_part before message taken.taken
    (hashed ∙ ap (λ head. sha256 (head ++ message)) (sym head)))
    c.is_root.ensures
