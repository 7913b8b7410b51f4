use Rattle.std.proofs.Common.{◌≡◌, ◌-◌, [], get_or, ◌∙◌, ap₂, arith}
use Rattle.lms_spec.specs.Ots.{chain, end_from}
use Rattle.lms_params.specs.OtsType.{ots_set_of}
use Rattle.lms_ots.proofs.Ends.{all-ends, holds-more}
use Rattle.lms_ots.proofs.chain_ends.OneByOneChainEnds.ends_hash.Goals as goal

pub loop-i-preserved : goal.loop-i-preserved
loop-i-preserved c =
    let id = c.args.id in
    let i = c.loop-i.i in
    let next : c.chain.result ≡ end_from (ots_set_of c.args.t) id.i id.q c.args.digits.now c.args.values.now i
    = c.chain.ensures ∙ ap₂ (λ from to. chain id.i id.q i from (to - from) (get_or c.args.values.now i []))
    c.from.ensures c.last_digit-last.ensures.exact in
    holds-more _ id.i id.q _ i next (c.update-in-loop-i.ensures _ c.loop-i.invariant)

pub returns : goal.returns
returns c = c.finalize.ensures _ c.loop-i.invariant ∙ all-ends _ _ _ c.loop-i.i _ (omega arith)
