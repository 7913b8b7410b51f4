use Rattle.std.proofs.Common.{◌<◌, ◌≤◌, ℕ, take, drop, sym, subst}
use Rattle.std.proofs.lemmas.List.{take-append-drop}
use Rattle.lms_lines.specs.Gathered.{HasNoEnd}
use Rattle.lms_lines.specs.Pieces.{EndsLine}
use Rattle.lms_batch_commands.proofs.serve.first_lines.Goals as goal

pub returns : goal.returns
returns c =
    let text = c.args.text.now in
    let end = c.end_of_lines-end.result.0 in
    let lines = c.end_of_lines-end.ensures in
    record {
      rest = drop end text;
      parts = sym (take-append-drop end text);
      few = subst (λ (n : ℕ). n ≤ c.args.most) lines.lines lines.most;
      ends = subst (λ (n : ℕ). 1 ≤ n → EndsLine (take end text)) lines.lines lines.ends;
      all = subst (λ (n : ℕ). n < c.args.most → HasNoEnd (drop end text)) lines.lines lines.all;
    }
