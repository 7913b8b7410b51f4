use Rattle.std.proofs.Common.{◌+◌, ◌-◌, ◌<◌, length, arith}
use Rattle.std.proofs.lemmas.List.{length-map}
use Rattle.lms_hss.specs.Levels.{level_of}
use Rattle.lms_hss.specs.Keys.{hss_key_of}
use Rattle.lms_hss.proofs.Numbered.{levels-more, trees-of-level}
use Rattle.lms_hss.proofs.forest.Forest.moved_to_watched.Goals as goal

pub by_kept-requires-clause-kept : goal.by_kept-requires-clause-kept
by_kept-requires-clause-kept g c κs within =
    let self = c.self.inside in
    let key = hss_key_of self.key in
    let k = length self.key.levels - 1 in
    let held = c.self.invariant.0 in
    let there : k < length key.levels =
    omega (arith, length-map self.key.levels level_of, c.as_slice-levels.ensures.admitted.some_level) in
    levels-more key k self.upper.items c.push.new.self.items self.bottom c.in_ok-push.ensures.items c.self.invariant.3
    c.self.invariant.2
    (trees-of-level key k self.start (self.start + (self.len - 1)) self.bottom there (omega arith) held.level)
