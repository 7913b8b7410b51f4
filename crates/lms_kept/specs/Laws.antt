-- Laws over the bytes of kept nodes.
use Rattle.std.specs.Prelude.{ℕ, ◌≡◌, ◌≤◌, List, length, map}
use Rattle.lms_tree.specs.Kept.{KeptNodes}
use Rattle.lms_kept.specs.declared.kept_level.KeptLevel.{KeptLevel}
use Rattle.lms_kept.specs.Ways.{AreGenuine, IsWay, most_text_length, nodes_text, Way}

-- what was given for a level: its tree's key, the bottom subtree and all nodes, and what is signed
-- of it
abbrev pub given_of : KeptLevel → KeptNodes × List ℕ
given_of level = (level.tree, level.signed.items)

-- trees of one key that have the same bytes are for the same index, and as many, with the same
-- given for each; so where the first are genuine, the second are
abbrev pub ATextTellsItsTrees : Type 0
ATextTellsItsTrees = (a b : Way) → IsWay a → IsWay b → a.key ≡ b.key → nodes_text a ≡ nodes_text b
    → (a.at ≡ b.at) × (map given_of a.levels ≡ map given_of b.levels)
    × (AreGenuine a → AreGenuine b)

-- no kept nodes have more bytes than this
abbrev pub TextsAreShort : Type 0
TextsAreShort = (way : Way) → IsWay way → length (nodes_text way) ≤ most_text_length
