use Rattle.std.specs.Prelude.{codes, List, ℕ, OnErr, ◌≡◌, ◌++◌, ◌-◌}
use Rattle.std.proofs.Common.{ap, subst}
use Rattle.std.proofs.lemmas.Result.{on_err_weaker}
use Rattle.std.specs.Io.KnownBytes.{Appends}
use Rattle.lms_params.specs.declared.lms_type.LmsType.{LmsType}
use Rattle.lms_params.specs.declared.ots_type.OtsType.{OtsType}
use Rattle.lms_spec.specs.Hss.{capacity_of}
use Rattle.lms_hss.specs.Keys.{hss_key_of}
use Rattle.lms_hss.specs.Texts.{levels_text}
use Rattle.lms_blocks.specs.Writing.{AppendsFront}
use Rattle.lms_blocks.proofs.Fronts.{Appends-both, AppendsFront-after, AppendsFront-more, OnErr-always}
use Rattle.lms_texts.specs.Descriptions.{levels_line, number_line}
use Rattle.lms_texts.proofs.description.print_indices.Goals as goal

-- the line of levels that are a key's
line_of : {levels key : List (LmsType × OtsType)} → levels ≡ key
    → codes "levels " ++ levels_text levels ++ codes "\n" ≡ codes "levels " ++ levels_text key ++ codes "\n"
line_of is = ap (λ (levels : List (LmsType × OtsType)). codes "levels " ++ levels_text levels ++ codes "\n") is

pub returns-in_err-print_line-clause-broken : goal.returns-in_err-print_line-clause-broken
returns-in_err-print_line-clause-broken g c =
    let a = g.O.Write.contents c.args.output.now in
    let levels = levels_line c.args.key in
    let counter = number_line (codes "counter") c.args.counter in
    let capacity = number_line (codes "capacity") (capacity_of (hss_key_of c.args.key)) in
    let first = subst (λ (line : List ℕ). AppendsFront a (g.O.Write.contents c.print_line.new.writer) line)
    (line_of c.as_slice.ensures.levels) c.in_err-print_line.ensures.broken in
    OnErr-always _ (AppendsFront-more _ _ (levels ++ counter ++ capacity) _
    (AppendsFront-more _ _ (levels ++ counter) _ (AppendsFront-more _ _ levels _ first)))

pub returns-in_err-print_line-2-clause-broken : goal.returns-in_err-print_line-2-clause-broken
returns-in_err-print_line-2-clause-broken g c =
    let a = g.O.Write.contents c.args.output.now in
    let levels = levels_line c.args.key in
    let counter = number_line (codes "counter") c.args.counter in
    let capacity = number_line (codes "capacity") (capacity_of (hss_key_of c.args.key)) in
    let first = subst (λ (line : List ℕ). Appends a (g.O.Write.contents c.print_line.new.writer) line)
    (line_of c.as_slice.ensures.levels) c.in_ok-print_line.ensures.printed in
    OnErr-always _
    (AppendsFront-more _ _ (levels ++ counter ++ capacity) _ (AppendsFront-more _ _ (levels ++ counter) _
    (AppendsFront-after _ _ _ levels counter first c.in_err-print_line-2.ensures.broken)))

pub returns-in_err-print_capacity-clause-broken : goal.returns-in_err-print_capacity-clause-broken
returns-in_err-print_capacity-clause-broken g c =
    let a = g.O.Write.contents c.args.output.now in
    let levels = levels_line c.args.key in
    let counter = number_line (codes "counter") c.args.counter in
    let capacity = number_line (codes "capacity") (capacity_of (hss_key_of c.args.key)) in
    let first = subst (λ (line : List ℕ). Appends a (g.O.Write.contents c.print_line.new.writer) line)
    (line_of c.as_slice.ensures.levels) c.in_ok-print_line.ensures.printed in
    let two = Appends-both _ _ _ levels counter first c.in_ok-print_line-2.ensures.printed in
    let third = subst (λ (n : ℕ). AppendsFront (g.O.Write.contents c.print_line-2.new.writer)
    (g.O.Write.contents c.print_capacity.new.output) (number_line (codes "capacity") n))
    c.capacity-capacity.ensures.capacity c.in_err-print_capacity.ensures.broken in
    OnErr-always _ (AppendsFront-more _ _ (levels ++ counter ++ capacity) _
    (AppendsFront-after _ _ _ (levels ++ counter) capacity two third))

pub returns-clause-broken : goal.returns-clause-broken
returns-clause-broken g c =
    let a = g.O.Write.contents c.args.output.now in
    let levels = levels_line c.args.key in
    let counter = number_line (codes "counter") c.args.counter in
    let capacity = number_line (codes "capacity") (capacity_of (hss_key_of c.args.key)) in
    let first = subst (λ (line : List ℕ). Appends a (g.O.Write.contents c.print_line.new.writer) line)
    (line_of c.as_slice.ensures.levels) c.in_ok-print_line.ensures.printed in
    let two = Appends-both _ _ _ levels counter first c.in_ok-print_line-2.ensures.printed in
    let b = g.O.Write.contents c.print_capacity.new.output in
    let third = subst
    (λ (n : ℕ). Appends (g.O.Write.contents c.print_line-2.new.writer) b (number_line (codes "capacity") n))
    c.capacity-capacity.ensures.capacity c.in_ok-print_capacity.ensures.printed in
    let three = Appends-both _ _ _ (levels ++ counter) capacity two third in
    let last = subst (λ (n : ℕ). OnErr c.print_line-3.result
    (AppendsFront b (g.O.Write.contents c.print_line-3.new.writer) (number_line (codes "left") (n - c.args.counter))))
    c.capacity-capacity.ensures.capacity c.print_line-3.ensures.broken in
    on_err_weaker c.print_line-3.result
    (λ last. AppendsFront-after _ _ _ (levels ++ counter ++ capacity) _ three last) last
