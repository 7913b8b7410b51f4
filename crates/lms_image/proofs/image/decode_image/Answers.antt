use Rattle.std.proofs.Common.{◌≡◌, ℕ, List, Some, None, MatchResult, not, sym, ◌∙◌, ap, arith}
use Rattle.std.specs.Str.{bytes_eq}
use Rattle.std.specs.Prelude.{Result, IsErrAnd}
use Rattle.std.specs.Prelude.Result.{Ok, Err}
use Rattle.sha2.specs.Sha256.{sha256}
use Rattle.lms_image.specs.declared.fault.ImageFault.{ImageFault}
use Rattle.lms_image.specs.Image.{fault_of}
use Rattle.lms_image.proofs.Parts.{wrong-length, laid-out, damaged, whole, fault-read}
use Rattle.lms_image.proofs.Images.{is-read, read-image, read-counted, read-counter-too-high, read-opening-too-high}
use Rattle.lms_image.proofs.Images.{read-burnt-too-high, read-no-fault}
use Rattle.lms_image.proofs.image.decode_image.Goals as goal

-- a fault that `?` forwards
handed-on : {T : Type 0} (text : List ℕ) (result : Result T ImageFault) (fault : ImageFault)
    → IsErrAnd result (λ e. e ≡ fault)
    → fault_of text ≡ Some fault → MatchResult result (λ x. fault_of text ≡ None) (λ e. fault_of text ≡ Some e)
handed-on text (Ok x) fault is e = absurd is
handed-on text (Err f) fault is e = e ∙ ap Some (sym is)

pub returns-in_default-clause-exact : goal.returns-in_default-clause-exact
returns-in_default-clause-exact c =
    let head = c.in_ok-version in
    wrong-length c.args.text.now head.rest.now head.version head.count head.ensures.ok c.in_default.ensures.none

pub returns-then-ne-clause-exact : goal.returns-then-ne-clause-exact
returns-then-ne-clause-exact c =
    let head = c.in_ok-version in
    let digest = c.in-Some.parts.digest.now in
    let laid = laid-out c.args.text.now head.rest.now head.count _ digest head.ensures.ok c.in-Some.ensures.parts in
    damaged c.args.text.now _ digest laid
    (ap (λ d. not (bytes_eq digest d)) (sym (c.digest.ensures ∙ ap sha256 c.split_at.ensures.front))
    ∙ (sym c.ne.ensures ∙ c.if-ne.true))

pub returns-in_err-levels-clause-exact : goal.returns-in_err-levels-clause-exact
returns-in_err-levels-clause-exact c =
    let head = c.in_ok-version in
    let digest = c.in-Some.parts.digest.now in
    let laid = laid-out c.args.text.now head.rest.now head.count _ digest head.ensures.ok c.in-Some.ensures.parts in
    let all = whole c.args.text.now _ digest laid
    (ap (λ d. not (bytes_eq digest d)) (sym (c.digest.ensures ∙ ap sha256 c.split_at.ensures.front))
    ∙ (sym c.ne.ensures ∙ c.if-ne.false)) in
    handed-on c.args.text.now c.from_residual-in_err-levels.result c.in_err-levels.field-0.0
    c.from_residual-in_err-levels.ensures.1
    (fault-read c.args.text.now _ all c.in_err-levels.field-0.0 c.in_err-levels.ensures)

pub returns-then-parts-capacity-clause-exact : goal.returns-then-parts-capacity-clause-exact
returns-then-parts-capacity-clause-exact c =
    let head = c.in_ok-version in
    let digest = c.in-Some.parts.digest.now in
    let laid = laid-out c.args.text.now head.rest.now head.count _ digest head.ensures.ok c.in-Some.ensures.parts in
    let all = whole c.args.text.now _ digest laid
    (ap (λ d. not (bytes_eq digest d)) (sym (c.digest.ensures ∙ ap sha256 c.split_at.ensures.front))
    ∙ (sym c.ne.ensures ∙ c.if-ne.false)) in
    let read = c.in_ok-levels.ensures in
    read-counter-too-high c.args.text.now _ c.new-key.result
    (is-read c.args.text.now _ c.new-key.result c.in_ok-levels.levels all read.0 read.1 c.new-key.ensures.levels)
    (omega (arith, c.capacity.ensures.capacity, c.if-parts-capacity.true))

pub returns-then-parts-clause-exact : goal.returns-then-parts-clause-exact
returns-then-parts-clause-exact c =
    let head = c.in_ok-version in
    let digest = c.in-Some.parts.digest.now in
    let laid = laid-out c.args.text.now head.rest.now head.count _ digest head.ensures.ok c.in-Some.ensures.parts in
    let all = whole c.args.text.now _ digest laid
    (ap (λ d. not (bytes_eq digest d)) (sym (c.digest.ensures ∙ ap sha256 c.split_at.ensures.front))
    ∙ (sym c.ne.ensures ∙ c.if-ne.false)) in
    let read = c.in_ok-levels.ensures in
    read-opening-too-high c.args.text.now _ c.new-key.result
    (is-read c.args.text.now _ c.new-key.result c.in_ok-levels.levels all read.0 read.1 c.new-key.ensures.levels)
    (omega (arith, c.capacity.ensures.capacity, c.if-parts-capacity.false)) (omega (arith, c.if-parts.true))

pub returns-then-parts-2-clause-exact : goal.returns-then-parts-2-clause-exact
returns-then-parts-2-clause-exact c =
    let head = c.in_ok-version in
    let digest = c.in-Some.parts.digest.now in
    let laid = laid-out c.args.text.now head.rest.now head.count _ digest head.ensures.ok c.in-Some.ensures.parts in
    let all = whole c.args.text.now _ digest laid
    (ap (λ d. not (bytes_eq digest d)) (sym (c.digest.ensures ∙ ap sha256 c.split_at.ensures.front))
    ∙ (sym c.ne.ensures ∙ c.if-ne.false)) in
    let read = c.in_ok-levels.ensures in
    read-burnt-too-high c.args.text.now _ c.new-key.result
    (is-read c.args.text.now _ c.new-key.result c.in_ok-levels.levels all read.0 read.1 c.new-key.ensures.levels)
    (omega (arith, c.capacity.ensures.capacity, c.if-parts-capacity.false)) (omega (arith, c.if-parts.false))
    (omega (arith, c.if-parts-2.true))

pub returns-clause-ok : goal.returns-clause-ok
returns-clause-ok c =
    let head = c.in_ok-version in
    let digest = c.in-Some.parts.digest.now in
    let cut = c.in-Some.ensures.parts in
    let laid = laid-out c.args.text.now head.rest.now head.count _ digest head.ensures.ok cut in
    let all = whole c.args.text.now _ digest laid
    (ap (λ d. not (bytes_eq digest d)) (sym (c.digest.ensures ∙ ap sha256 c.split_at.ensures.front))
    ∙ (sym c.ne.ensures ∙ c.if-ne.false)) in
    let read = c.in_ok-levels.ensures in
    let key = c.new-key.ensures in (
      read-image c.args.text.now _ c.new-key.result c.in_ok-levels.levels all read.0 key.levels key.seed
          key.id cut.later,
      read-counted _ head.count head.rest.now digest c.new-key.result c.in_ok-levels.levels cut read.1
          key.levels key.seed key.id
          (omega (arith, c.capacity.ensures.capacity, c.if-parts-capacity.false)) (omega (arith, c.if-parts.false))
          (omega (arith, c.if-parts-2.false)),
    )

pub returns-clause-exact : goal.returns-clause-exact
returns-clause-exact c =
    let head = c.in_ok-version in
    let digest = c.in-Some.parts.digest.now in
    let laid = laid-out c.args.text.now head.rest.now head.count _ digest head.ensures.ok c.in-Some.ensures.parts in
    let all = whole c.args.text.now _ digest laid
    (ap (λ d. not (bytes_eq digest d)) (sym (c.digest.ensures ∙ ap sha256 c.split_at.ensures.front))
    ∙ (sym c.ne.ensures ∙ c.if-ne.false)) in
    let read = c.in_ok-levels.ensures in
    read-no-fault c.args.text.now _ c.new-key.result
    (is-read c.args.text.now _ c.new-key.result c.in_ok-levels.levels all read.0 read.1 c.new-key.ensures.levels)
    (omega (arith, c.capacity.ensures.capacity, c.if-parts-capacity.false)) (omega (arith, c.if-parts.false))
    (omega (arith, c.if-parts-2.false))
