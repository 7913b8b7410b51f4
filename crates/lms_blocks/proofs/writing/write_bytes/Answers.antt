use Rattle.std.proofs.Common.{◌++◌, take, drop, sym, ap, ◌∙◌, append_assoc}
use Rattle.std.proofs.lemmas.List.{take-append-drop, take_rest}
use Rattle.lms_blocks.proofs.Fronts.{Appends-both}
use Rattle.lms_blocks.proofs.writing.write_bytes.Goals as goal

pub loop-rest-preserved : goal.loop-rest-preserved
loop-rest-preserved g c =
    let was = c.loop-rest.invariant in
    let rest = c.loop-rest.rest.now in
    let n = c.in_ok-taken.taken in (
      was.0 ++ take n rest,
      was.1 ∙ ap (λ l. was.0 ++ l) (sym (take-append-drop n rest))
          ∙ sym (append_assoc was.0 (take n rest) (drop n rest))
          ∙ ap (λ l. (was.0 ++ take n rest) ++ l) (sym (take_rest rest n)),
      Appends-both _ _ _ was.0 (take n rest) was.2 c.in_ok-taken.ensures.ok,
    )
