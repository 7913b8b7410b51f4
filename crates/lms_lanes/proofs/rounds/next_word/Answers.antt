use Rattle.std.proofs.Common.{◌+◌, ◌%◌, ◌≡◌, arith, refl}
use Rattle.lms_lanes.proofs.Lanes.{EachLane-zip2, EachLane-get_or, EachLane-equal, word_of_lane}
use Rattle.lms_lanes.proofs.rounds.next_word.Goals as goal

pub returns-clause-value : goal.returns-clause-value
returns-clause-value c =
    let w = c.args.w.now in
    let p = c.args.place in
    let vectors = c.requires.vectors in
    let same : p % 16 ≡ p = omega arith in
    EachLane-equal
    (EachLane-zip2 _ (EachLane-zip2 _ (EachLane-zip2 _ c.small_sigma1.ensures
    (EachLane-get_or 16 w ((p + 9) % 16) vectors (omega arith))) c.small_sigma0.ensures)
    (EachLane-get_or 16 w p vectors (omega arith)))
    (λ k lt.
    rw (
      same,
      word_of_lane 16 w k ((p + 14) % 16) vectors.long (omega arith),
      word_of_lane 16 w k ((p + 9) % 16) vectors.long (omega arith),
      word_of_lane 16 w k ((p + 1) % 16) vectors.long (omega arith),
      word_of_lane 16 w k p vectors.long (omega arith),
    )
    refl)
