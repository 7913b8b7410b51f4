-- The index that the leaves of a signature make: that of a key whose levels are the signature's.
use Rattle.std.specs.Prelude.{ℕ, ◌+◌, ◌*◌, ◌^◌, ◌<◌, List, [], ◌∷◌, map, Option, Some, None, if◌then◌else◌, nat_lt}
use Rattle.std.specs.List.{AllByRecursion}
use Rattle.lms_spec.specs.Hss.{Level as LevelSets}
use Rattle.lms_params.specs.LmsType.{lms_set_of}
use Rattle.lms_params.specs.OtsType.{ots_set_of}
use Rattle.lms_hss.specs.Levels.{most_height}
use Rattle.lms_inspect.specs.declared.level.Level.{Level}
use Rattle.lms_inspect.specs.declared.signature.KeyedLevel.{KeyedLevel}

-- a leaf is one of its tree
abbrev pub IsInTree : Level → Type 0
IsInTree level = level.leaf < 2 ^ (lms_set_of level.lms).h

-- so are all
abbrev pub AreInTrees : Level → List KeyedLevel → Type 0
AreInTrees top below = IsInTree top × AllByRecursion (λ keyed. IsInTree keyed.level) below

-- the index that leaves make, of a level and those below, after an index and with a sum of heights
-- above: none where the heights sum to more than a key's that signs
abbrev pub indexed_from : ℕ → ℕ → List KeyedLevel → Option ℕ
indexed_from height index [] = Some index
indexed_from height index (keyed ∷ more) =
    let own = (lms_set_of keyed.level.lms).h in
    if nat_lt most_height (height + own) then None
    else indexed_from (height + own) (index * 2 ^ own + keyed.level.leaf) more

abbrev pub indexed : Level → List KeyedLevel → Option ℕ
indexed top below = indexed_from (lms_set_of top.lms).h top.leaf below

-- the sets of a level
abbrev pub sets_of : Level → LevelSets
sets_of level = record { lms = lms_set_of level.lms; ots = ots_set_of level.ots }

-- the sets of all levels, from the top
abbrev pub all_sets : Level → List KeyedLevel → List LevelSets
all_sets top below = sets_of top ∷ map (λ keyed. sets_of keyed.level) below
