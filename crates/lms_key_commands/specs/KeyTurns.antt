-- What `keygen`, `public`, `info` and `witness` hand out.
use Rattle.std.specs.Prelude.{◌≡◌, ◌⊎◌, ℕ, List, [], ◌∷◌, ◌++◌, codes}
use Rattle.lms_spec.specs.Profile.{hss_public_key}
use Rattle.lms_hss.specs.Keys.{hss_key_of}
use Rattle.lms_hss.specs.declared.key.HssKey.{HssKey as KeyOfCode}
use Rattle.lms_texts.specs.Witnesses.{witness_text}
use Rattle.lms_world.specs.Names.{Bytes}
use Rattle.lms_key_commands.specs.KeygenLogs.{capacity_line}
use Rattle.lms_key_commands.specs.InfoLogs.{info_of}
use Rattle.lms_commands.specs.Logs.{KeyState, WorldCalls}
use Rattle.lms_commands.specs.Histories.{Prints, written_in}

-- a public key is written to a file, and at most the key's capacity is printed
abbrev pub HandsKey : WorldCalls → List ℕ → List ℕ → Type 0
HandsKey whole before printed =
    (key : KeyOfCode) × (written_in whole ≡ hss_public_key (hss_key_of key) ∷ [])
    × Prints before printed (capacity_line key)

-- no file is written, and at most what a state says is printed
abbrev pub HandsState : WorldCalls → List ℕ → List ℕ → Type 0
HandsState whole before printed =
    (written_in whole ≡ [])
    × ((printed ≡ before) ⊎ ((read : KeyState) × Prints before printed (info_of read)))

-- no file is written, and at most the line of a witness is printed, and one that says where it is
abbrev pub HandsWitness : WorldCalls → List ℕ → List ℕ → Type 0
HandsWitness whole before printed =
    (written_in whole ≡ [])
    × ((printed ≡ before)
    ⊎ ((id : List ℕ) × (counter : ℕ) × (made : Bytes)
    × Prints before printed (witness_text id counter ++ (made ++ codes "\n"))))
