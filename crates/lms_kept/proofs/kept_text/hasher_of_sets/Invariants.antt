use Rattle.std.proofs.Common.{◌++◌, length, take}
use Rattle.std.specs.List.{flat_map}
use Rattle.sha2.specs.Hashers.{Holds256}
use Rattle.lms_spec.specs.Bytes.{u32str}
use Rattle.lms_spec.specs.Hss.{Level}
use Rattle.lms_hss.specs.Levels.{levels_of}
use Rattle.lms_kept.proofs.kept_text.hasher_of_sets.Given as goal

abbrev pub invariant-loop-lms : goal.invariant-loop-lms
invariant-loop-lms l = Holds256 l.hasher
    (u32str (length l.levels)
    ++ flat_map (λ (l : Level). u32str l.lms.code ++ u32str l.ots.code) (levels_of (take l.lms-index l.levels)))
