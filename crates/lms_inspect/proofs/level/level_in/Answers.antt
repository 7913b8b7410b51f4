use Rattle.std.proofs.Common.{◌≡◌, ◌∙◌, ◌^◌, ◌<◌, ap, arith, length, sym}
use Rattle.lms_spec.specs.Parameters.{LmsSet}
use Rattle.lms_spec.proofs.FirstNumber.{first-number-same}
use Rattle.lms_params.specs.LmsType.{lms_set_of}
use Rattle.lms_inspect.proofs.Cuts.{after-leaf, after-one-time, path-once}
use Rattle.lms_inspect.proofs.level.level_in.Goals as goal

pub returns-in_err-leaf-clause-none : goal.returns-in_err-leaf-clause-none
returns-in_err-leaf-clause-none c =
    rw c.from_residual.ensures
    (λ level rest is. absurd (omega (arith, c.in_err-leaf.ensures.none, ap length is.parts)))

pub returns-in_err-ots-clause-none : goal.returns-in_err-ots-clause-none
returns-in_err-ots-clause-none c =
    let leaf = c.in_ok-leaf in
    rw c.from_residual-in_err-ots.ensures
    (λ level rest is.
    c.in_err-ots.ensures.none level.ots is.after_one_time
    (after-leaf leaf.leaf level c.args.text.now leaf.rest.now rest leaf.ensures.parts is))

pub returns-in_err-lms-clause-none : goal.returns-in_err-lms-clause-none
returns-in_err-lms-clause-none c =
    let leaf = c.in_ok-leaf in
    let ots = c.in_ok-ots in
    rw c.from_residual-in_err-lms.ensures
    (λ level rest is.
    c.in_err-lms.ensures.none level.lms rest
    (after-one-time leaf.leaf ots.ots level c.args.text.now leaf.rest.now ots.rest.now rest leaf.ensures.parts
    ots.ensures.some is).1)

pub returns-then-leaf-leaf_count-clause-none : goal.returns-then-leaf-leaf_count-clause-none
returns-then-leaf-leaf_count-clause-none c level rest is =
    let leaf = c.in_ok-leaf in
    let ots = c.in_ok-ots in
    let lms = c.in_ok-lms in
    let later = after-one-time leaf.leaf ots.ots level c.args.text.now leaf.rest.now ots.rest.now rest leaf.ensures.parts
    ots.ensures.some is in
    let paths = path-once lms.lms level.lms ots.rest.now lms.rest.now rest lms.ensures.some later.1 in
    let count : c.leaf_count.result ≡ 2 ^ (lms_set_of level.lms).h =
    c.leaf_count.ensures.count ∙ ap (λ (m : LmsSet). 2 ^ m.h) paths.0 in
    let few : level.leaf < c.leaf_count.result = rw count is.leaf_in_tree in
    let same = first-number-same level.leaf leaf.leaf is.after_leaf leaf.rest.now
    (omega (arith, few, c.leaf_count.ensures.fits)) leaf.ensures.fits (sym is.parts ∙ leaf.ensures.parts) in
    absurd (omega (arith, few, same, c.if-leaf-leaf_count.true))
