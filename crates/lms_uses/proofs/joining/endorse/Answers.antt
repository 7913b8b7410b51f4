use Rattle.std.proofs.Common.{◌≡◌, drop, length, take, arith}
use Rattle.std.proofs.lemmas.List.{length-drop, take_all}
use Rattle.lms_uses.proofs.joining.endorse.Goals as goal

pub returns-clause-accepted : goal.returns-clause-accepted
returns-clause-accepted g c =
    let n : length c.args.signer.now ≡ 60 = search in
    let rest : take 56 (drop 4 c.args.signer.now) ≡ drop 4 c.args.signer.now =
    take_all 56 (drop 4 c.args.signer.now) (omega (arith, length-drop 4 c.args.signer.now, n)) in
    rw rest at c.sign_reserved.ensures.accepted
