use Rattle.std.proofs.Common.{◌≡◌, ◌∙◌, ◌+◌, ap, arith, length, sym}
use Rattle.std.specs.Prelude.{Bool, true, false, not, IsTrue}
use Rattle.lms_join.specs.Keys.{id_of}
use Rattle.lms_endorse.proofs.Orders.{count_is, key_is}
use Rattle.lms_endorse.proofs.order.Order.is_for.Goals as goal

differ : (same : Bool) → IsTrue (not same) → same ≡ true → ⊥
differ true never at = cc never
differ false is at = cc at

pub returns-then-levels-self-clause-never : goal.returns-then-levels-self-clause-never
returns-then-levels-self-clause-never c = λ no may.
    let order = c.args.self.now in
    let own = count_is order.key.levels order.key.lms_key.now order.signer.now c.requires.parts in
    let levels = ap length c.as_slice-levels.ensures.levels in
    absurd (omega (arith, own, levels, may.together, c.if-levels-self.true))

pub returns-clause-may : goal.returns-clause-may
returns-clause-may c = λ differs.
    let order = c.args.self.now in
    let own = count_is order.key.levels order.key.lms_key.now order.signer.now c.requires.parts in
    let key = key_is order.key.levels order.key.lms_key.now order.signer.now c.requires.parts in
    let levels = ap length c.as_slice-levels.ensures.levels in
    record {
      together = omega (arith, own, levels, c.if-levels-self.false);
      other = λ same. differ c.same_id.result differs
          (c.same_id.ensures.1 (same ∙ (ap id_of key ∙ sym c.id.ensures)));
    }
