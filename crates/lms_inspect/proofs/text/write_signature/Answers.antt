use Rattle.std.proofs.Common.{◌≡◌, ◌++◌, ◌+◌, arith, length}
use Rattle.std.specs.Prelude.{codes}
use Rattle.std.specs.Io.KnownBytes.{Appends}
use Rattle.std.proofs.lemmas.Result.{on_ok_weaker}
use Rattle.lms_blocks.proofs.Fronts.{Appends-both}
use Rattle.lms_texts.specs.Descriptions.{number_line}
use Rattle.lms_inspect.specs.Indices.{indexed}
use Rattle.lms_inspect.specs.Texts.{index_line, keyed_lines, level_line}
use Rattle.lms_inspect.proofs.text.write_signature.Goals as goal

pub returns : goal.returns
returns g c =
    let parts = c.args.parts.now in
    let head = codes "signature\n" in
    let levels = number_line (codes "levels") (length parts.below.items + 1) in
    let size = number_line (codes "length") c.args.length in
    let top = level_line parts.top in
    let below = keyed_lines parts.below.items in
    let count : c.len.result ≡ length parts.below.items = omega (arith, c.len.ensures, parts.below.ok) in
    let one = Appends-both _ _ _ head levels c.in_ok-print_line.ensures.printed
    (rw count at c.in_ok-print_line-2.ensures.printed) in
    let two = Appends-both _ _ _ (head ++ levels) size one c.in_ok-print_line-3.ensures.printed in
    let three = Appends-both _ _ _ (head ++ levels ++ size) top two c.in_ok-write_level.ensures in
    let four = Appends-both _ _ _ (head ++ levels ++ size ++ top) below three
    (rw c.deref.ensures.value at c.in_ok-write_keyed.ensures) in
    on_ok_weaker c.write_index.result
    (λ (written : Appends (g.O.Write.contents c.write_keyed.new.text) (g.O.Write.contents c.write_index.new.text)
    (index_line c.index_of.result)).
    Appends-both _ _ _ (head ++ levels ++ size ++ top ++ below) (index_line (indexed parts.top parts.below.items)) four
    (rw c.index_of.ensures at written))
    c.write_index.ensures
