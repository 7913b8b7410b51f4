use Rattle.std.proofs.Common.{◌≡◌, ◌-◌, arith, length, take, drop, sum_by, sym, ◌∙◌, ap}
use Rattle.std.proofs.lemmas.List.{drop-map, length-drop, take_all}
use Rattle.lms_hss.specs.Levels.{level_of, levels_of}
use Rattle.lms_kept.specs.Ways.{leaves_of}
use Rattle.lms_kept.proofs.levels.leaves_from.Goals as goal

pub returns-clause-leaves : goal.returns-clause-leaves
returns-clause-leaves c =
    let k = c.args.k in
    let levels = c.args.key.now.levels in
    let slice = c.as_slice.result.now in
    let whole : take (length slice - k) (drop k slice) ≡ drop k slice =
    take_all (length slice - k) (drop k slice) (omega (arith, length-drop k slice)) in
    c.leaves_of_levels.ensures.leaves
    ∙ ap (sum_by leaves_of)
    (ap levels_of (whole ∙ ap (drop k) c.as_slice.ensures.levels) ∙ sym (drop-map level_of k levels))
