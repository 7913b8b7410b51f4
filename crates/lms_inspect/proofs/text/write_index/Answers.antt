use Rattle.std.proofs.Common.{◌++◌, List, ℕ, Option, append_assoc, subst, sym}
use Rattle.std.specs.Prelude.{codes}
use Rattle.std.specs.Fmt.{decimal}
use Rattle.std.specs.Io.KnownBytes.{Appends}
use Rattle.std.proofs.lemmas.Result.{on_ok_weaker}
use Rattle.lms_inspect.specs.Texts.{index_line}
use Rattle.lms_inspect.proofs.text.write_index.Goals as goal

pub returns-in-Some : goal.returns-in-Some
returns-in-Some g c =
    let number = codes "index " ++ decimal c.in-Some.index in
    let says = codes " if all levels are one key's" in
    on_ok_weaker c.print_line.result
    (λ (written : Appends (g.O.Write.contents c.args.text.now) (g.O.Write.contents c.print_line.new.writer)
    (number ++ says ++ codes "\n")).
    subst (λ (index : Option ℕ). Appends (g.O.Write.contents c.args.text.now) (g.O.Write.contents c.print_line.new.writer)
    (index_line index)) (sym c.in-Some.is)
    (subst (λ (line : List ℕ). Appends (g.O.Write.contents c.args.text.now) (g.O.Write.contents c.print_line.new.writer)
    line) (append_assoc number says (codes "\n")) written))
    c.print_line.ensures.printed
