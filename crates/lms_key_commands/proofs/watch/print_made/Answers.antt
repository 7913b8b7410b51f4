use Rattle.std.proofs.Common.{List, ℕ, ◌++◌, subst}
use Rattle.std.specs.Prelude.{codes}
use Rattle.std.proofs.lemmas.Result.{on_err_weaker}
use Rattle.std.specs.Io.KnownBytes.{Appends}
use Rattle.lms_blocks.specs.Writing.{AppendsFront}
use Rattle.lms_blocks.proofs.Fronts.{AppendsFront-after, AppendsFront-more, OnErr-always}
use Rattle.lms_key_commands.proofs.watch.print_made.Goals as goal

pub returns-in_err-write_bytes-clause-broken : goal.returns-in_err-write_bytes-clause-broken
returns-in_err-write_bytes-clause-broken g c =
    OnErr-always _
    (AppendsFront-more _ _ c.args.line.now (c.args.made.now ++ codes "\n") c.in_err-write_bytes.ensures.err)

pub returns-in_err-write_bytes-2-clause-broken : goal.returns-in_err-write_bytes-2-clause-broken
returns-in_err-write_bytes-2-clause-broken g c =
    let a = g.O.Write.contents c.write_bytes.new.writer in
    let b = g.O.Write.contents c.write_bytes-2.new.writer in
    let second = subst (λ (text : List ℕ). AppendsFront a b text) c.as_bytes.ensures.value
    c.in_err-write_bytes-2.ensures.err in
    OnErr-always _
    (AppendsFront-after _ _ _ c.args.line.now (c.args.made.now ++ codes "\n") c.in_ok-write_bytes.ensures.ok
    (AppendsFront-more _ _ c.args.made.now (codes "\n") second))

pub returns-clause-broken : goal.returns-clause-broken
returns-clause-broken g c =
    let a = g.O.Write.contents c.write_bytes.new.writer in
    let b = g.O.Write.contents c.write_bytes-2.new.writer in
    let second = subst (λ (text : List ℕ). Appends a b text) c.as_bytes.ensures.value
    c.in_ok-write_bytes-2.ensures.ok in
    on_err_weaker c.print_line.result
    (λ last. AppendsFront-after _ _ _ c.args.line.now (c.args.made.now ++ codes "\n") c.in_ok-write_bytes.ensures.ok
    (AppendsFront-after _ _ _ c.args.made.now (codes "\n") second last))
    c.print_line.ensures.broken
