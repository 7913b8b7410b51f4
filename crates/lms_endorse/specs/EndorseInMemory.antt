-- What `endorse` leaves in a world in memory, by its calls.
use Rattle.std.specs.Prelude.{ℕ, ◌≡◌, ◌≢◌, ◌⊎◌, List, ◌++◌, false, Option, Some, Ok, Err, IfSome}
use Rattle.lms_spec.specs.HashLength.{hash_length}
use Rattle.lms_spec.specs.Profile.{hss_public_key}
use Rattle.lms_hss.specs.Keys.{hss_key_of}
use Rattle.lms_join.specs.Endorsements.{IsEndorsed}
use Rattle.lms_join.specs.Joined.{after_count}
use Rattle.lms_texts.specs.Options.{IsHexOf}
use Rattle.lms_world.specs.Held.{Follows, Held, answer_in}
use Rattle.lms_world.specs.declared.fault.WorldFault.TheVariants.{Device}
use Rattle.lms_commands.specs.InMemory.{FailsToLock, FailsToWatch, FindsState, IsWatched, KeepsRight, SignsNone}
use Rattle.lms_commands.specs.InMemory.{WritesFile}
use Rattle.lms_commands.specs.Logs.{WorldCalls}
use Rattle.lms_commands.specs.declared.fault.Fault.{Fault}
use Rattle.lms_commands.specs.declared.fault.Fault.TheVariants.{BadLevels, BadPublicKey, BadRandom, OutOfMemory}
use Rattle.lms_commands.specs.declared.fault.Fault.TheVariants.{ReadInput, WriteOutput}
use Rattle.lms_signature_commands.specs.SignInMemory.{UsesIndex}
use Rattle.lms_signature_commands.specs.SignLogs.{IsRandomizer}
use Rattle.lms_endorse.specs.Endorsing.{IsJoinedText, IsSigner, MayEndorse, endorsed_text}
use Rattle.lms_endorse.specs.EndorseLogs.{Endorsing, LogsEndorse, LogsEndorseFailed}

-- a signer's key is endorsed by the next index of a key that may, by nodes that were kept or by none
pub record EndorsesKey (asked : Endorsing) (old new : Held) : Type 0 where
  pub c : List ℕ
  pub signer : List ℕ
  pub joined : ℕ
  pub nodes : Option (List ℕ)
  pub index : ℕ
  pub signature : List ℕ
  pub randomizer : IsRandomizer asked.randomizer c
  pub joined_is : IsJoinedText asked.joined joined
  pub given : answer_in old.files asked.signer ≡ Ok signer
  pub is_signer : IsSigner signer
  pub free : old.in_use ≡ false
  pub nodes_were : IfSome nodes (λ bytes. old.nodes ≡ Some bytes)
  pub uses : UsesIndex nodes c (after_count signer) index signature old new
  pub may : MayEndorse uses.state.key signer joined

-- of a world in memory, `endorse` at status 0 does so, writes the endorsement to its file, and prints the index and
-- what is said of the signer's key
abbrev pub EndorsesInMemory : Type 0
EndorsesInMemory = (asked : Endorsing) (before printed : List ℕ) (old new : Held) (earlier now : WorldCalls)
    → LogsEndorse asked before printed earlier now → Follows (Some old) earlier (Some new) now
    → (endorses : EndorsesKey asked old new)
    × WritesFile asked.out endorses.signature old.files new.files
    × (printed ≡ before ++ endorsed_text endorses.index endorses.signer)

-- why a key that was read is not endorsed once the state is locked: the state is not opened; its key may not endorse
-- it, and all stays; its index signs nothing; or the endorsement is not delivered
abbrev pub FailsLocked : Endorsing → List ℕ → ℕ → Fault → Held → Held → Type 0
FailsLocked asked signer joined fault old new =
    FailsToWatch fault old new
    ⊎ (((fault ≡ BadPublicKey) × ((found : FindsState old new) × IsWatched found.state old.witness
    × ¬ MayEndorse found.state.key signer joined))
    ⊎ (SignsNone 1 fault old new
    ⊎ ((fault ≡ WriteOutput) × ((endorses : EndorsesKey asked old new)
    × ((new.files ≡ old.files) ⊎ WritesFile asked.out endorses.signature old.files new.files)))))

-- why there is no endorsement where the options are spelt, in the order in which that is found
abbrev pub FailsSpelt : Endorsing → ℕ → Fault → Held → Held → Type 0
FailsSpelt asked joined fault old new =
    ((fault ≡ OutOfMemory) × (new ≡ old))
    ⊎ (((fault ≡ ReadInput) × (answer_in old.files asked.signer ≡ Err Device) × (new ≡ old))
    ⊎ ((signer : List ℕ) × (answer_in old.files asked.signer ≡ Ok signer)
    × (((fault ≡ BadPublicKey) × (¬ IsSigner signer) × (new ≡ old))
    ⊎ (IsSigner signer × (FailsToLock fault old new
    ⊎ ((old.in_use ≡ false) × FailsLocked asked signer joined fault old new))))))

-- why there is none
abbrev pub FailsToEndorse : Endorsing → Fault → Held → Held → Type 0
FailsToEndorse asked fault old new =
    ((fault ≡ BadRandom) × (¬ IsHexOf hash_length asked.randomizer) × (new ≡ old))
    ⊎ (IsHexOf hash_length asked.randomizer
    × (((fault ≡ BadLevels) × ((joined : ℕ) → ¬ IsJoinedText asked.joined joined) × (new ≡ old))
    ⊎ ((joined : ℕ) × IsJoinedText asked.joined joined × FailsSpelt asked joined fault old new)))

-- of a world in memory, this is why `endorse` fails; no file is changed but at `WriteOutput`
abbrev pub FailsToEndorseInMemory : Type 0
FailsToEndorseInMemory = (asked : Endorsing) (before printed : List ℕ) (fault : Fault)
    (old new : Held) (earlier now : WorldCalls)
    → LogsEndorseFailed asked before printed fault earlier now → Follows (Some old) earlier (Some new) now
    → FailsToEndorse asked fault old new
    × (fault ≢ WriteOutput → new.files ≡ old.files)

-- the signature is an endorsement of the signer's key by the state's, where what is kept of its trees was right
abbrev pub EndorsementsAreTaken : Type 0
EndorsementsAreTaken = (asked : Endorsing) (old new : Held) (endorses : EndorsesKey asked old new)
    → KeepsRight old.nodes endorses.uses.state.key
    → IsEndorsed (hss_public_key (hss_key_of endorses.uses.state.key)) endorses.signature endorses.signer

-- what is kept of the key's trees is right after a key was endorsed, where it was right before
abbrev pub NodesStayRight : Type 0
NodesStayRight = (asked : Endorsing) (old new : Held) (endorses : EndorsesKey asked old new)
    → KeepsRight old.nodes endorses.uses.state.key → KeepsRight new.nodes endorses.uses.state.key
