use Rattle.std.proofs.Common.{List, arith, subst}
use Rattle.std.specs.Io.KnownBytes.{Appends}
use Rattle.std.proofs.lemmas.List.{take_all}
use Rattle.lms_blocks.proofs.Fronts.{Appends-none}
use Rattle.lms_inspect.specs.Texts.{keyed_lines}
use Rattle.lms_inspect.specs.declared.signature.KeyedLevel.{KeyedLevel}
use Rattle.lms_inspect.proofs.Lines.{keyed-appends}
use Rattle.lms_inspect.proofs.text.write_keyed.Goals as goal

pub loop-keyed-init : goal.loop-keyed-init
loop-keyed-init g c = Appends-none (g.O.Write.contents c.args.text.now)

pub loop-keyed-preserved : goal.loop-keyed-preserved
loop-keyed-preserved g c =
    keyed-appends _ _ _ _ c.args.below.now c.loop-keyed.keyed-index _ c.loop-keyed-test.true c.loop-keyed.invariant
    c.in_ok-write_id.ensures c.in_ok-write_level.ensures

pub returns : goal.returns
returns g c =
    subst (λ (xs : List KeyedLevel).
    Appends (g.O.Write.contents c.args.text.now) (g.O.Write.contents c.loop-keyed.text) (keyed_lines xs))
    (take_all c.loop-keyed.keyed-index c.args.below.now (omega (arith, c.loop-keyed-test.false)))
    c.loop-keyed.invariant
