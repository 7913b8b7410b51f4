use Rattle.std.specs.Prelude.{slice_index}
use Rattle.std.proofs.Common.{◌≡◌, ◌<◌, ◌-◌, List, ℕ, length, take, drop, refl, subst, arith}
use Rattle.std.proofs.lemmas.Grind.{common_steps}
use Rattle.std.proofs.lemmas.List.{length-drop}
use Rattle.lms_lines.specs.Gathered.{HasNoEnd}
use Rattle.lms_lines.proofs.Cutting.{cut-so-far, cuts-more, no-lines-in-none}
use Rattle.lms_lines.proofs.pieces.end_of_lines.Goals as goal

pub loop-lines-init : goal.loop-lines-init
loop-lines-init c =
    (omega arith, omega arith, omega (arith, no-lines-in-none), λ some. absurd (omega (arith, some)), λ none. refl)

pub loop-lines-preserved : goal.loop-lines-preserved
loop-lines-preserved c =
    let bytes = c.args.bytes.now in
    let end = c.loop-lines.end in
    let at = c.in-Some.at in
    let was = c.loop-lines.invariant in
    let rest : take (length bytes - end) (drop end bytes) ≡ drop end bytes = grind (arith, common_steps) in
    let found = subst (λ (l : List ℕ). (at < length l) × HasNoEnd (take at l) × (slice_index l at ≡ 10))
    rest c.in-Some.ensures in
    let cut = cuts-more bytes end at (cut-so-far bytes c.loop-lines.lines end was.3 was.4) found.0 found.1 found.2 in (
      omega (arith, found.0, length-drop end bytes),
      omega (arith, c.loop-lines-test.true),
      omega (arith, was.2, cut.count),
      λ some. cut.ends,
      λ none. absurd (omega (arith, none)),
    )
