use Rattle.std.specs.Prelude.{codes, ◌++◌}
use Rattle.std.proofs.lemmas.Result.{on_err_weaker, on_ok_weaker}
use Rattle.lms_blocks.proofs.Fronts.{Appends-both, AppendsFront-after, AppendsFront-more, OnErr-always}
use Rattle.lms_texts.specs.Descriptions.{indices_text, number_line}
use Rattle.lms_texts.proofs.description.print_info.Goals as goal

pub returns-in_err-print_indices-clause-broken : goal.returns-in_err-print_indices-clause-broken
returns-in_err-print_indices-clause-broken g c =
    let indices = indices_text c.args.image.now.key c.args.image.now.counter in
    let openings = number_line (codes "openings") c.args.image.now.openings in
    OnErr-always _ (AppendsFront-more _ _ (indices ++ openings) _
    (AppendsFront-more _ _ indices _ c.in_err-print_indices.ensures.broken))

pub returns-in_err-print_line-clause-broken : goal.returns-in_err-print_line-clause-broken
returns-in_err-print_line-clause-broken g c =
    let indices = indices_text c.args.image.now.key c.args.image.now.counter in
    let openings = number_line (codes "openings") c.args.image.now.openings in
    OnErr-always _
    (AppendsFront-more _ _ (indices ++ openings) _ (AppendsFront-after _ _ _ indices openings
    c.in_ok-print_indices.ensures.printed c.in_err-print_line.ensures.broken))

pub returns-clause-printed : goal.returns-clause-printed
returns-clause-printed g c =
    let indices = indices_text c.args.image.now.key c.args.image.now.counter in
    let openings = number_line (codes "openings") c.args.image.now.openings in
    let two = Appends-both _ _ _ indices openings c.in_ok-print_indices.ensures.printed
    c.in_ok-print_line.ensures.printed in
    on_ok_weaker c.print_line-2.result
    (λ last. Appends-both _ _ _ (indices ++ openings) (number_line (codes "burnt") c.args.image.now.burnt) two last)
    c.print_line-2.ensures.printed

pub returns-clause-broken : goal.returns-clause-broken
returns-clause-broken g c =
    let indices = indices_text c.args.image.now.key c.args.image.now.counter in
    let openings = number_line (codes "openings") c.args.image.now.openings in
    let two = Appends-both _ _ _ indices openings c.in_ok-print_indices.ensures.printed
    c.in_ok-print_line.ensures.printed in
    on_err_weaker c.print_line-2.result (λ last. AppendsFront-after _ _ _ (indices ++ openings)
    (number_line (codes "burnt") c.args.image.now.burnt) two last) c.print_line-2.ensures.broken
