use Rattle.std.proofs.Common.{suc, ◌≡◌, ◌+◌, ◌-◌, ◌∷◌, ◌++◌, ◌∙◌, ap, ap₂, arith}
use Rattle.sha2.specs.Sha256.{sha256}
use Rattle.lms_spec.specs.Hashing.{chain_step}
use Rattle.lms_spec.specs.Ots.{chain}
use Rattle.lms_ots.proofs.one_time_key.chain.Goals as goal

pub loop-j-preserved : goal.loop-j-preserved
unfolding chain_step
loop-j-preserved c =
    let id = c.args.id in
    let i = c.args.i in
    let j = c.loop-j.j in
    let steps = j - c.args.from in
    let digit : j ≡ c.args.from + steps = omega arith in
    let more : suc steps ≡ j + 1 - c.args.from = omega arith in
    c.hash_after-value.ensures
    ∙ (ap₂ (λ head value. sha256 (head ++ j ∷ value)) c.chain_head-head.ensures c.loop-j.invariant
    ∙ (ap (λ j. chain_step id.i id.q i j (chain id.i id.q i c.args.from steps c.args.x.now)) digit
    ∙ ap (λ n. chain id.i id.q i c.args.from n c.args.x.now) more))
