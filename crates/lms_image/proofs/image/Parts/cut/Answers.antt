use Rattle.std.proofs.Common.{◌≡◌, ◌+◌, ◌/◌, ◌++◌, length, sym, ◌∙◌, ap, arith}
use Rattle.std.specs.Simd.{first_chunks}
use Rattle.lms_image.specs.Image.{later_text, later_length}
use Rattle.lms_image.specs.Reading.{ReadsLater}
use Rattle.lms_image.proofs.Cuts.{cut-parts}
use Rattle.lms_image.proofs.image.Parts.cut.Goals as goal

pub returns-clause-parts : goal.returns-clause-parts
returns-clause-parts c =
    let levels = c.in_ok-levels.ensures.cases in
    let seed = c.in_ok-seed.ensures.cases in
    let id = c.in_ok-i.ensures.cases in
    let number = c.in_ok-counter.ensures in
    let later = c.in_ok-openings.ensures.some in
    let digest = c.in_ok-digest.ensures.cases in
    let count = c.args.count in
    let front = c.in_ok-levels.levels.now in
    let chunks : length front / 8 ≡ count = omega (arith, levels.3) in
    let reads : ReadsLater c.args.version c.in_ok-counter.rest.now c.in_ok-openings.openings c.in_ok-openings.burnt
    c.in_ok-digest.digest.now
    = record {
      are = later.are;
      parts = later.parts
          ∙ ap (λ x. later_text c.args.version c.in_ok-openings.openings c.in_ok-openings.burnt ++ x) (sym digest.same);
      long = later.long ∙ ap (λ x. later_length c.args.version + length x) (sym digest.same);
    } in
    cut-parts count c.args.rest.now front c.in_ok-levels.rest.now c.in_ok-seed.seed.now
    c.in_ok-seed.rest.now c.in_ok-i.i.now
    c.in_ok-i.rest.now c.in_ok-counter.rest.now c.in_ok-digest.digest.now c.as_chunks.result.0.now c.args.version
    c.in_ok-counter.counter c.in_ok-openings.openings c.in_ok-openings.burnt
    (λ i. let byte = c.type_inv.rest i in omega arith)
    (omega (arith, levels.3, levels.4, seed.2, id.2, number.long, later.long, digest.long))
    levels.1 levels.2 seed.0 seed.1 id.0 id.1
    (c.as_chunks.ensures.front ∙ ap (λ n. first_chunks 8 n front) chunks) number.parts number.fits reads
