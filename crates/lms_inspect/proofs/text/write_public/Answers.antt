use Rattle.std.proofs.Common.{◌++◌}
use Rattle.std.specs.Prelude.{codes}
use Rattle.std.specs.Io.KnownBytes.{Appends}
use Rattle.std.proofs.lemmas.Result.{on_ok_weaker}
use Rattle.sha2.specs.Sha256.{sha256}
use Rattle.lms_blocks.proofs.Fronts.{Appends-both}
use Rattle.lms_texts.specs.Descriptions.{number_line}
use Rattle.lms_inspect.specs.Texts.{digest_line, id_line, sets_line}
use Rattle.lms_inspect.proofs.text.write_public.Goals as goal

pub returns : goal.returns
returns g c =
    let parts = c.args.parts.now in
    let head = codes "public key\n" in
    let levels = number_line (codes "levels") parts.levels in
    let sets = sets_line parts.top.lms parts.top.ots in
    let id = id_line parts.top.id in
    let one = Appends-both _ _ _ head levels c.in_ok-print_line.ensures.printed c.in_ok-print_line-2.ensures.printed in
    let two = Appends-both _ _ _ (head ++ levels) sets one c.in_ok-write_sets.ensures in
    let three = Appends-both _ _ _ (head ++ levels ++ sets) id two c.in_ok-write_id.ensures in
    on_ok_weaker c.write_digest.result
    (λ (written : Appends (g.O.Write.contents c.write_id.new.text) (g.O.Write.contents c.write_digest.new.text)
    (digest_line c.digest.result)).
    Appends-both _ _ _ (head ++ levels ++ sets ++ id) (digest_line (sha256 c.args.bytes.now)) three
    (rw c.digest.ensures at written))
    c.write_digest.ensures
