use Rattle.lms_verification.proofs.Acceptance.{accepts-when-root}
use Rattle.lms_verification.proofs.verification.Verifier.finish.Goals as goal

pub returns : goal.returns
returns g c public_key signature message taken =
    let v = c.args.self in
    accepts-when-root taken.lms taken.ots v.i v.root public_key taken.q taken.ots_part v.path.now message signature
    c.finish-ots_public.result v.leaf c.is_root.result
    taken.key_parts taken.signature_parts taken.leaf_is
    (c.finish-ots_public.ensures taken.ots v.i taken.q taken.ots_part message taken.taken) c.is_root.ensures
