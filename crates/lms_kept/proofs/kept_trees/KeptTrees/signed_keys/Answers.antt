use Rattle.std.proofs.Common.{◌≡◌, length, ◌∙◌, ap, arith}
use Rattle.lms_kept.specs.Ways.{signed_keys, Way}
use Rattle.lms_kept.specs.declared.kept_level.KeptLevel.{KeptLevel}
use Rattle.lms_kept.proofs.SignatureLengths.{keys-within}
use Rattle.lms_kept.proofs.kept_trees.KeptTrees.signed_keys.Goals as goal

pub append-requires-in-loop-level : goal.append-requires-in-loop-level
append-requires-in-loop-level c =
    let items = c.deref-level-items.result.now in
    let level = c.level-item.result in
    let whole : length (signed_keys items) ≡ length (signed_keys c.args.self.now.levels)
    = ap (λ levels. length (signed_keys levels))
    (c.deref-level-items.ensures.value ∙ ap (λ (v : Way). v.levels) c.self.view_is) in
    let own = ap (λ (level : KeptLevel). length level.signed.items) c.level-item.is in
    omega (
      arith,
      ap length c.loop-level.invariant.text,
      whole,
      own,
      keys-within items c.loop-level.level-index level (omega (arith, c.loop-level-test.true)),
      ap length c.deref.ensures.value,
      c.requires.room,
      c.loop-level.invariant.room,
    )
