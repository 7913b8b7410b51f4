-- What leaves the commands that join: at most one file, and nothing is printed.
use Rattle.std.specs.Prelude.{ℕ, ◌≡◌, ◌⊎◌, List, [], ◌∷◌, ◌++◌, Ok}
use Rattle.lms_join.specs.Joined.{joined_public}
use Rattle.lms_join.specs.Keys.{AreJoinable}
use Rattle.lms_world.specs.Names.{Bytes}
use Rattle.lms_world.specs.Events.{Read}
use Rattle.lms_commands.specs.Histories.{written_in}
use Rattle.lms_commands.specs.Logs.{WorldCalls}
use Rattle.lms_join_commands.specs.JoinLogs.{JoinParts, JoinsParts}

-- these bytes were read from the file of this name
abbrev pub WasRead : Bytes → List ℕ → WorldCalls → Type 0
WasRead name bytes calls =
    (later earlier : WorldCalls) × (calls ≡ later ++ Read name (Ok bytes) ∷ earlier)

-- a joined signature is written to a file, or nothing is: it repeats a signature that was read from
-- the file of this name
abbrev pub HandsJoined : Bytes → WorldCalls → List ℕ → List ℕ → Type 0
HandsJoined signature whole before printed =
    (printed ≡ before)
    × ((written_in whole ≡ [])
    ⊎ ((parts : JoinParts) × (joined : List ℕ) × JoinsParts parts joined
    × WasRead signature parts.signature whole × (written_in whole ≡ joined ∷ [])))

-- a joined public key is written to a file, or nothing is
abbrev pub HandsJoinedKey : WorldCalls → List ℕ → List ℕ → Type 0
HandsJoinedKey whole before printed =
    (printed ≡ before)
    × ((written_in whole ≡ [])
    ⊎ ((top_public signer_public : List ℕ) × AreJoinable top_public signer_public
    × (written_in whole ≡ joined_public top_public signer_public ∷ [])))
