-- What signatures say of their levels (RFC 8554, 6.2).
use Rattle.std.specs.Prelude.{ℕ, ◌≡◌, ◌<◌, List, [], ◌∷◌, ◌++◌, length}
use Rattle.lms_spec.specs.Bytes.{u32str}
use Rattle.lms_spec.specs.Hss.{most_levels}
use Rattle.lms_params.specs.LmsType.{lms_set_of}
use Rattle.lms_params.specs.OtsType.{ots_set_of}
use Rattle.lms_verification.specs.Parts.{IsLmsPublicKey}
use Rattle.lms_inspect.specs.Levels.{BeginsSigned}
use Rattle.lms_inspect.specs.declared.level.Level.{Level}
use Rattle.lms_inspect.specs.declared.signature.KeyedLevel.{KeyedLevel}

-- bytes begin with an LMS public key of this identifier, and then with a signature of the same
-- typecodes that says so of its level; `rest` is what follows
pub record IsKeyed (keyed : KeyedLevel) (text rest : List ℕ) : Type 0 where
  pub key : List ℕ
  pub after_key : List ℕ
  pub root : List ℕ
  pub parts : text ≡ key ++ after_key
  pub is_key : IsLmsPublicKey (lms_set_of keyed.level.lms) (ots_set_of keyed.level.ots) keyed.id root key
  pub signed : BeginsSigned keyed.level after_key rest

-- from some bytes to what follows, through such keys and signatures
abbrev pub SaysThrough : List KeyedLevel → List ℕ → List ℕ → Type 0
SaysThrough [] text rest = text ≡ rest
SaysThrough (keyed ∷ more) text rest =
    (after : List ℕ) × IsKeyed keyed text after × SaysThrough more after rest

-- an HSS signature whose levels, at most eight, say so, with nothing left over
pub record SaysLevels (top : Level) (below : List KeyedLevel) (text : List ℕ) : Type 0 where
  pub levels : length below < most_levels
  pub signatures : List ℕ
  pub rest : List ℕ
  pub parts : text ≡ u32str (length below) ++ signatures
  pub signed : BeginsSigned top signatures rest
  pub through : SaysThrough below rest []
