use Rattle.std.proofs.Common.{suc, ◌≡◌, ◌-◌, sym, ◌∙◌, arith, subst}
use Rattle.std.proofs.lemmas.Bool.{false≢true}
use Rattle.lms_spec.specs.Hss.{AcceptsThrough}
use Rattle.lms_hss.specs.Bottoms.{Reaches}
use Rattle.lms_hss.proofs.Bottoms.{reaches-parts, never-reaches}
use Rattle.lms_hss.proofs.SignedKeys.{accepted-parts, accepts-parts, never-through}
use Rattle.lms_hss.proofs.verification.Bottom.below.Goals as goal

pub returns-in_err-next-clause-none : goal.returns-in_err-next-clause-none
returns-in_err-next-clause-none g c =
    let left = c.loop-left.left in
    let bottom = c.loop-left.bottom in
    let one_more : left ≡ suc (left - 1) = omega arith in
    rw c.from_residual.ensures
    (λ message accepted.
    c.in_err-next.ensures.none (left - 1) message
    (subst (λ n. AcceptsThrough n bottom.key message bottom.signature.now) one_more
    ((c.loop-left.invariant.0 message).0 accepted)))

pub returns-then-not-accepts-clause-none : goal.returns-then-not-accepts-clause-none
returns-then-not-accepts-clause-none g c message accepted =
    let left = c.loop-left.left in
    let bottom = c.loop-left.bottom in
    let next = c.in_ok-next.next in
    let one_more : left ≡ suc (left - 1) = omega arith in
    let parts = accepted-parts (left - 1) bottom.key message bottom.signature.now next.signature.now next.key.now
    next.rest.now c.in_ok-next.ensures.some
    (subst (λ n. AcceptsThrough n bottom.key message bottom.signature.now) one_more
    ((c.loop-left.invariant.0 message).0 accepted)) in
    absurd (false≢true (sym c.if-not-accepts.true ∙ c.accepts.ensures.1 parts.0))

pub returns-in_err-lower-clause-none : goal.returns-in_err-lower-clause-none
returns-in_err-lower-clause-none g c =
    let left = c.loop-left.left in
    let bottom = c.loop-left.bottom in
    let next = c.in_ok-next.next in
    let one_more : left ≡ suc (left - 1) = omega arith in
    rw c.from_residual-in_err-lower.ensures
    (λ message accepted.
    let parts = accepted-parts (left - 1) bottom.key message bottom.signature.now next.signature.now next.key.now
    next.rest.now c.in_ok-next.ensures.some
    (subst (λ n. AcceptsThrough n bottom.key message bottom.signature.now) one_more
    ((c.loop-left.invariant.0 message).0 accepted)) in
    never-through (left - 1) next.key.now message next.rest.now c.in_err-lower.ensures.none parts.1)

pub returns-in_err-next-clause-not_reached : goal.returns-in_err-next-clause-not_reached
returns-in_err-next-clause-not_reached g c =
    let left = c.loop-left.left in
    let bottom = c.loop-left.bottom in
    let one_more : left ≡ suc (left - 1) = omega arith in
    rw c.from_residual.ensures
    (λ key signature reached _.
    let (first, next, rest, cut, accepted, below) = subst (λ n. Reaches n bottom.key bottom.signature.now key signature)
    one_more ((c.loop-left.invariant.1 key signature).0 reached) in
    c.in_err-next.ensures.not_cut first next rest cut)

pub returns-then-not-accepts-clause-not_reached : goal.returns-then-not-accepts-clause-not_reached
returns-then-not-accepts-clause-not_reached g c key signature reached _ =
    let left = c.loop-left.left in
    let bottom = c.loop-left.bottom in
    let next = c.in_ok-next.next in
    let one_more : left ≡ suc (left - 1) = omega arith in
    let parts = reaches-parts (left - 1) bottom.key bottom.signature.now next.signature.now next.key.now next.rest.now
    key signature c.in_ok-next.ensures.some
    (subst (λ n. Reaches n bottom.key bottom.signature.now key signature) one_more
    ((c.loop-left.invariant.1 key signature).0 reached)) in
    absurd (false≢true (sym c.if-not-accepts.true ∙ c.accepts.ensures.1 parts.0))

pub returns-in_err-lower-clause-not_reached : goal.returns-in_err-lower-clause-not_reached
returns-in_err-lower-clause-not_reached g c =
    let left = c.loop-left.left in
    let bottom = c.loop-left.bottom in
    let next = c.in_ok-next.next in
    let one_more : left ≡ suc (left - 1) = omega arith in
    rw c.from_residual-in_err-lower.ensures
    (λ key signature reached.
    let parts = reaches-parts (left - 1) bottom.key bottom.signature.now next.signature.now next.key.now next.rest.now
    key signature c.in_ok-next.ensures.some
    (subst (λ n. Reaches n bottom.key bottom.signature.now key signature) one_more
    ((c.loop-left.invariant.1 key signature).0 reached)) in
    never-reaches (left - 1) next.key.now next.rest.now key signature c.in_err-lower.ensures.none parts.1)

pub loop-left-preserved : goal.loop-left-preserved
loop-left-preserved g c =
    let left = c.loop-left.left in
    let bottom = c.loop-left.bottom in
    let next = c.in_ok-next.next in
    let cut = c.in_ok-next.ensures.some in
    let lower = c.in_ok-lower.ensures.some in
    let one_more : left ≡ suc (left - 1) = omega arith in (
      λ message. (
        λ accepted.
            subst (λ key. AcceptsThrough (left - 1) key message next.rest.now) (sym lower)
            (accepted-parts (left - 1) bottom.key message bottom.signature.now next.signature.now next.key.now
            next.rest.now cut
            (subst (λ n. AcceptsThrough n bottom.key message bottom.signature.now) one_more
            ((c.loop-left.invariant.0 message).0 accepted))).1,
        λ others.
            (c.loop-left.invariant.0 message).1
            (subst (λ n. AcceptsThrough n bottom.key message bottom.signature.now) (sym one_more)
            (accepts-parts (left - 1) bottom.key message bottom.signature.now next.signature.now next.key.now
            next.rest.now cut
            (c.accepts.ensures.0 c.if-not-accepts.false)
            (subst (λ key. AcceptsThrough (left - 1) key message next.rest.now) lower others))),
      ),
      λ key signature. (
        λ reached.
            subst (λ lower. Reaches (left - 1) lower next.rest.now key signature) (sym lower)
            (reaches-parts (left - 1) bottom.key bottom.signature.now next.signature.now next.key.now next.rest.now
            key signature cut
            (subst (λ n. Reaches n bottom.key bottom.signature.now key signature) one_more
            ((c.loop-left.invariant.1 key signature).0 reached))).1,
        λ below.
            (c.loop-left.invariant.1 key signature).1
            (subst (λ n. Reaches n bottom.key bottom.signature.now key signature) (sym one_more) (
              next.signature.now,
              next.key.now,
              next.rest.now,
              cut,
              c.accepts.ensures.0 c.if-not-accepts.false,
              subst (λ lower. Reaches (left - 1) lower next.rest.now key signature) lower below,
            )),
      ),
    )
