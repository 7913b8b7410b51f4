-- What is kept of a file that is read piece by piece.
use Rattle.std.specs.Prelude.{ℕ, ◌≡◌, ◌+◌, ◌-◌, ◌*◌, ◌<◌, List, [], ◌++◌, length, Option}
use Rattle.std.proofs.Common.{subst, sym, append_assoc, append-nil}
use Rattle.lms_spec.specs.Hss.{most_levels}
use Rattle.lms_inspect.specs.Found.{IsFound}
use Rattle.lms_inspect.specs.Texts.{found_text}
use Rattle.lms_inspect.specs.declared.found.Found.{Found}
use Rattle.lms_inspect.specs.declared.keeper.Keeper.{Keeper}
use Rattle.lms_inspect.specs.declared.keeper.Keeping.{Keeping}
use Rattle.lms_inspect.specs.declared.keeper.Keeping.TheVariants.{All, TooLong, Refused}

-- the most bytes of an LMS signature: a leaf, two typecodes, and the randomizer, 265 hashes and 25 of a path
abbrev pub longest_of_level : ℕ
longest_of_level = 12 + 32 * (1 + 265 + 25)

-- the most bytes of an HSS signature
abbrev pub longest : ℕ
longest = 4 + most_levels * longest_of_level + (most_levels - 1) * 56

-- this is kept of what was taken
abbrev pub IsKept : Keeping → List ℕ → List ℕ → Type 0
IsKept All kept taken = kept ≡ taken
IsKept TooLong kept taken = longest < length taken
IsKept Refused kept taken = Unit {0}

abbrev pub HasTaken : Keeper → List ℕ → Type 0
HasTaken keeper taken = IsKept keeper.keeping keeper.kept.items taken

-- a keeper that has taken some bytes has taken these, too
abbrev pub Goes : Keeper → List ℕ → Keeper → Type 0
Goes old bytes new = (taken : List ℕ) → HasTaken old taken → HasTaken new (taken ++ bytes)

pub goes-nowhere : (keeper : Keeper) → Goes keeper [] keeper
goes-nowhere keeper taken has = subst (HasTaken keeper) (sym (append-nil taken)) has

pub goes-on : (old between new : Keeper) (bytes others : List ℕ) → Goes old bytes between → Goes between others new
    → Goes old (bytes ++ others) new
goes-on old between new bytes others first second taken has =
    subst (HasTaken new) (append_assoc taken bytes others) (second (taken ++ bytes) (first taken has))

-- all bytes are this, and what is said of those that are kept is what is said of all
abbrev pub IsFoundIn : Found → List ℕ → List ℕ → Type 0
IsFoundIn found kept bytes =
    IsFound found bytes
    × ((witness : Option ℕ) → found_text found kept witness ≡ found_text found bytes witness)
