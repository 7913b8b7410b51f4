use Rattle.std.proofs.Common.{ℕ, ◌≡◌, ◌-◌, ◌≤◌, List, length, take, drop, ◌∙◌, sym, ap, arith, take-append-drop}
use Rattle.std.proofs.lemmas.List.{drop-map, length-drop, take_all}
use Rattle.std.proofs.lemmas.List.Sums.{sum_by-append}
use Rattle.lms_spec.specs.Hss.{Level, height_of}
use Rattle.lms_params.specs.declared.lms_type.LmsType.{LmsType}
use Rattle.lms_params.specs.declared.ots_type.OtsType.{OtsType}
use Rattle.lms_hss.specs.Levels.{level_of, levels_of}
use Rattle.lms_hss.proofs.levels.Levels.height_from.Goals as goal

-- the levels from k on, cut from a slice
from-slice : (k : ℕ) (sets levels : List (LmsType × OtsType)) → sets ≡ levels
    → height_of (levels_of (take (length sets - k) (drop k sets))) ≡ height_of (drop k (levels_of levels))
from-slice k sets levels same =
    let whole : take (length sets - k) (drop k sets) ≡ drop k sets =
    take_all (length sets - k) (drop k sets) (omega (arith, length-drop k sets)) in
    ap (λ xs. height_of (levels_of xs)) (whole ∙ ap (drop k) same) ∙ ap height_of (sym (drop-map level_of k levels))

-- the levels from k on are at most as tall as all
part-height : (k : ℕ) (levels : List Level) → height_of (drop k levels) ≤ height_of levels
part-height k levels =
    let f : Level → ℕ = λ l. l.lms.h in
    let whole = sum_by-append f (take k levels) (drop k levels) in
    let all = ap height_of (take-append-drop k levels) in
    omega (arith, whole, all)

pub returns-clause-height : goal.returns-clause-height
returns-clause-height c =
    c.height.ensures ∙ from-slice c.args.k c.as_slice.result.now c.args.self.now c.as_slice.ensures.levels

pub returns-clause-limit : goal.returns-clause-limit
returns-clause-limit c =
    omega (
      arith,
      returns-clause-height c,
      part-height c.args.k (levels_of c.args.self.now),
      c.as_slice.ensures.admitted.not_too_tall,
    )
