use Rattle.std.proofs.Common.{◌≡◌, ◌%◌, ◌≤◌, ◌∙◌, drop, length, take, ap, arith}
use Rattle.std.proofs.lemmas.List.{get_or-take, length-take-le}
use Rattle.lms_params.specs.OtsType.{ots_set_of}
use Rattle.lms_params.proofs.Widths.{chains_limited}
use Rattle.lms_ots.proofs.Orders.{sorted-order}
use Rattle.lms_ots.proofs.walk.longest_first.Goals as goal

pub returns : goal.returns
returns c =
    let order = c.chains.order in
    let p = (ots_set_of c.args.t).p in
    let n = c.p.result in
    let most : p ≤ 265 = chains_limited c.args.t in
    let same : n ≡ p = omega arith in
    let long : length (take n order) ≡ p =
    length-take-le n order (omega (arith, most, c.chains.invariant.long)) ∙ same in
    sorted-order (take n order) c.sort_unstable.new.self (drop n order) p long (omega (arith, most))
    (λ i lt. ap (λ x. x % 65536) (get_or-take n order i 0 (omega arith)) ∙ c.chains.invariant.ends i (omega arith))
    c.sort_unstable.ensures.permutation
