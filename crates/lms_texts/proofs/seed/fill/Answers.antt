use Rattle.std.proofs.Common.{◌≡◌, ◌≤◌, ◌-◌, ◌++◌, length, length-append, take, refl, sym, subst, arith}
use Rattle.std.proofs.lemmas.List.{length-take-le}
use Rattle.std.specs.Io.KnownBytes.{Consumes}
use Rattle.lms_blocks.proofs.Consumed.{consumes-both}
use Rattle.lms_texts.proofs.Seeds.{filled-length, filled-more, taken, taken_before}
use Rattle.lms_texts.proofs.seed.fill.Goals as goal

pub loop-filled-preserved : goal.loop-filled-preserved
loop-filled-preserved g c =
    let was = c.loop-filled.invariant in
    let a = c.loop-filled.filled in
    let block = c.loop-filled.block in
    let k = length block - a in
    let ys = c.read_block.new.block in
    let n = c.in_ok-count.count in
    let within : a ≤ length block = was.0 in
    let long : length ys ≡ k = omega (arith, c.read_block.auto.block, was.0) in (
      omega (arith, filled-length a k block ys within refl long, c.in_ok-count.ensures.bound),
      subst (Consumes (g.R.Read.remaining c.args.reader.now) (g.R.Read.remaining c.read_block.new.reader))
          (sym (filled-more a k n block ys within refl))
          (consumes-both _ _ _ (take a block) (take n ys) was.1 c.in_ok-count.ensures.bytes),
    )

pub returns-in_err-count-clause-at_most : goal.returns-in_err-count-clause-at_most
returns-in_err-count-clause-at_most g c =
    let was = c.loop-filled.invariant in
    taken_before (length c.args.block.now) c.loop-filled.filled c.loop-filled.block _ _ _ was.0
    (omega (arith, c.loop-filled.auto.block)) was.1 c.in_err-count.ensures.kept

pub returns-then-count-eq0-clause-at_most : goal.returns-then-count-eq0-clause-at_most
returns-then-count-eq0-clause-at_most g c =
    let was = c.loop-filled.invariant in
    let a = c.loop-filled.filled in
    let block = c.loop-filled.block in
    let ys = c.read_block.new.block in
    let n = c.in_ok-count.count in (
      take a block ++ take n ys,
      omega (
        arith,
        length-append (take a block) (take n ys),
        length-take-le a block was.0,
        length-take-le n ys c.in_ok-count.ensures.bound,
        c.if-count-eq0.true,
        was.0,
        c.loop-filled.auto.block,
      ),
      consumes-both _ _ _ (take a block) (take n ys) was.1 c.in_ok-count.ensures.bytes,
    )

pub returns-clause-at_most : goal.returns-clause-at_most
returns-clause-at_most g c =
    let was = c.loop-filled.invariant in
    taken (length c.args.block.now) c.loop-filled.filled c.loop-filled.block _ _ was.0
    (omega (arith, c.loop-filled.auto.block)) was.1
