-- What a command that fails changes in a world in memory, by why it fails.
use Rattle.std.proofs.Common.{◌≡◌, ◌∙◌, ℕ, List, Option, ap, inl, inr, sym}
use Rattle.std.specs.Prelude.{◌≢◌}
use Rattle.clap.specs.Words.{Text}
use Rattle.lms_hss.specs.declared.key.HssKey.{HssKey as KeyOfCode}
use Rattle.lms_world.specs.Names.{Bytes}
use Rattle.lms_world.specs.Held.{Answers, Held, answer_in}
use Rattle.lms_batch_commands.specs.BatchInMemory.{FailsToSignJobs}
use Rattle.lms_commands.specs.InMemory.{FailsToWatch, OnlyFiles, SameFilesBut, SignsNone, Stays}
use Rattle.lms_key_commands.specs.KeygenInMemory.{FailsToMakeKey}
use Rattle.lms_key_commands.specs.PublicInMemory.{FailsToPublishKey}
use Rattle.lms_key_commands.specs.InfoInMemory.{FailsToDescribe}
use Rattle.lms_key_commands.specs.ResumeInMemory.{FailsOnceLocked, FailsToResume}
use Rattle.lms_key_commands.specs.WitnessInMemory.{FailsToMakeWitness}
use Rattle.lms_signature_commands.specs.SignInMemory.{FailsToSign}
use Rattle.lms_commands.specs.declared.fault.Fault.{Fault}
use Rattle.lms_commands.specs.declared.fault.Fault.TheVariants.{WriteOutput}
use Rattle.lms_endorse.specs.EndorseInMemory.{FailsLocked, FailsSpelt, FailsToEndorse}
use Rattle.lms_endorse.specs.EndorseLogs.{Endorsing}

pub at_name : (name : Text) (old new : Answers) → new ≡ old → answer_in new name ≡ answer_in old name
at_name name old new same = ap (λ (files : Answers). answer_in files name) same

pub files_of : {old new : Held} → new ≡ old → new.files ≡ old.files
files_of same = ap (λ (h : Held). h.files) same

pub state_of : {old new : Held} → new ≡ old → new.state ≡ old.state
state_of same = ap (λ (h : Held). h.state) same

pub nodes_of : {old new : Held} → new ≡ old → new.nodes ≡ old.nodes
nodes_of same = ap (λ (h : Held). h.nodes) same

pub witness_of : {old new : Held} → new ≡ old → new.witness ≡ old.witness
witness_of same = ap (λ (h : Held). h.witness) same

pub only_files : {old new : Held} → new ≡ old → OnlyFiles old new
only_files {old} {new} same = same ∙ ap (λ (h : Held). record old { files = h.files }) (sym same)

-- neither files nor nodes are changed
abbrev pub Unwritten : Held → Held → Type 0
Unwritten old new = (new.files ≡ old.files) × (new.nodes ≡ old.nodes)

-- neither files, state nor nodes are changed
abbrev pub OnlyWitness : Held → Held → Type 0
OnlyWitness old new = (new.files ≡ old.files) × (new.state ≡ old.state) × (new.nodes ≡ old.nodes)

-- neither files, nodes nor the witness are changed
abbrev pub OnlyState : Held → Held → Type 0
OnlyState old new = (new.files ≡ old.files) × (new.nodes ≡ old.nodes) × (new.witness ≡ old.witness)

-- only what a file of this name answers is changed
abbrev Others : Bytes → Held → Held → Type 0
Others written old new = SameFilesBut written old.files new.files

-- no file is changed, unless the output fails
abbrev pub SparesFiles : Fault → Held → Held → Type 0
SparesFiles fault old new = fault ≢ WriteOutput → new.files ≡ old.files

module _ (fault : Fault) (old new : Held) where
  others_of : (written : Bytes) → new.files ≡ old.files → Others written old new
  others_of written same = λ name other. at_name name _ _ same

  -- `keygen` changes no other file, and no witness
  abbrev KeygenLeaves : Bytes → Type 0
  KeygenLeaves public = Others public old new × (new.witness ≡ old.witness) × SparesFiles fault old new

  keygen_none : (public : Bytes) → new.files ≡ old.files → new.witness ≡ old.witness → KeygenLeaves public
  keygen_none public files witness = (others_of public files, witness, λ other. files)

  pub keygen_leaves : (key : KeyOfCode) (public : Bytes) → FailsToMakeKey key public fault old new → KeygenLeaves public
  keygen_leaves key public (inl (why, same)) = keygen_none public (files_of same) (witness_of same)
  keygen_leaves key public (inr (inl (at, free, there, same))) = keygen_none public (files_of same) (witness_of same)
  keygen_leaves key public (inr (inr (inl (at, free, none, stays)))) = keygen_none public stays.files stays.witness
  keygen_leaves key public (inr (inr (inr (inl (at, may))))) = keygen_none public may.files may.witness
  keygen_leaves key public (inr (inr (inr (inr (made, inl (refused, why, same)))))) =
      keygen_none public same made.witness
  keygen_leaves key public (inr (inr (inr (inr (made, inr (at, published)))))) =
      (published.others, made.witness, λ other. absurd (other at))

  unwatched : FailsToWatch fault old new → Unwritten old new
  unwatched (inl (why, stays)) = (stays.files, stays.nodes)
  unwatched (inr (inl (at, held, stays))) = (stays.files, stays.nodes)
  unwatched (inr (inr (inl (watch, held, (why, stays))))) = (stays.files, stays.nodes)
  unwatched (inr (inr (inr (finds, text, held, refused)))) = (finds.stays.files, finds.stays.nodes)

  none_signed : (n : ℕ) → SignsNone n fault old new → Unwritten old new
  none_signed n (inl (at, (finds, watched))) = (finds.stays.files, finds.stays.nodes)
  none_signed n (inr (inl (left, at, lacks))) = (lacks.finds.stays.files, lacks.finds.stays.nodes)
  none_signed n (inr (inr (inl (start, at, burns)))) = (burns.files, burns.nodes)
  none_signed n (inr (inr (inr (inl (at, uses))))) = (uses.files, uses.nodes)
  none_signed n (inr (inr (inr (inr (uses, there, at))))) = (uses.files, uses.nodes)

  pub sign_files : (random message out : Bytes) → FailsToSign random message out fault old new → Others out old new
  sign_files random message out (inl (at, bad, same)) = others_of out (files_of same)
  sign_files random message out (inr (hex, inl (at, same))) = others_of out (files_of same)
  sign_files random message out (inr (hex, inr (inl (at, refused, same)))) = others_of out (files_of same)
  sign_files random message out (inr (hex, inr (inr (text, given, inl (why, same))))) = others_of out (files_of same)
  sign_files random message out (inr (hex, inr (inr (text, given, inr (free, inl why))))) =
      others_of out (unwatched why).0
  sign_files random message out (inr (hex, inr (inr (text, given, inr (free, inr (inl none)))))) =
      others_of out (none_signed 1 none).0
  sign_files random message out (inr (hex, inr (inr (text, given, inr (free, inr (inr (at, (signs, inl same)))))))) =
      others_of out same
  sign_files random message out (inr (hex, inr (inr (text, given, inr (free, inr (inr (at, (signs, inr file)))))))) =
      file.others

  module _ (asked : Endorsing) where
    locked_files : (signer : List ℕ) (joined : ℕ) → FailsLocked asked signer joined fault old new
        → Others asked.out old new
    locked_files signer joined (inl why) = others_of asked.out (unwatched why).0
    locked_files signer joined (inr (inl (at, (finds, watched, differs)))) = others_of asked.out finds.stays.files
    locked_files signer joined (inr (inr (inl none))) = others_of asked.out (none_signed 1 none).0
    locked_files signer joined (inr (inr (inr (at, (made, inl same))))) = others_of asked.out same
    locked_files signer joined (inr (inr (inr (at, (made, inr file))))) = file.others

    spelt_files : (joined : ℕ) → FailsSpelt asked joined fault old new → Others asked.out old new
    spelt_files joined (inl (at, same)) = others_of asked.out (files_of same)
    spelt_files joined (inr (inl (at, refused, same))) = others_of asked.out (files_of same)
    spelt_files joined (inr (inr (signer, given, inl (at, none, same)))) = others_of asked.out (files_of same)
    spelt_files joined (inr (inr (signer, given, inr (is, inl (why, same))))) = others_of asked.out (files_of same)
    spelt_files joined (inr (inr (signer, given, inr (is, inr (free, why))))) = locked_files signer joined why

    pub endorse_files : FailsToEndorse asked fault old new → Others asked.out old new
    endorse_files (inl (at, bad, same)) = others_of asked.out (files_of same)
    endorse_files (inr (hex, inl (at, none, same))) = others_of asked.out (files_of same)
    endorse_files (inr (hex, inr (joined, is, why))) = spelt_files joined why

  pub batch_unwritten : (workers : Bytes) (input rest : Option (List ℕ)) (before printed : List ℕ)
      → FailsToSignJobs workers input rest before printed fault old new → Unwritten old new
  batch_unwritten workers input rest before printed (inl (at, bad, same)) = (files_of same, nodes_of same)
  batch_unwritten workers input rest before printed (inr (are, inl (why, same))) = (files_of same, nodes_of same)
  batch_unwritten workers input rest before printed (inr (are, inr (free, inl (why, unread)))) =
      unwatched why
  batch_unwritten workers input rest before printed (inr (are, inr (free, inr (inl (unread, (finds, watched)))))) =
      (finds.stays.files, finds.stays.nodes)
  batch_unwritten workers input rest before printed (inr (are, inr (free, inr (inr (inl (jobs, reads, none)))))) =
      none_signed _ none
  batch_unwritten workers input rest before printed (inr (are, inr (free, inr (inr (inr (batch, (signs, why))))))) =
      (signs.files, signs.nodes)

  stays_as : new ≡ old → Stays old new
  stays_as same = record {
    files = files_of same;
    state = ap (λ (h : Held). h.state) same;
    nodes = nodes_of same;
    in_use = ap (λ (h : Held). h.in_use) same;
    nodes_fault = ap (λ (h : Held). h.nodes_fault) same;
    witness = witness_of same;
  }

  pub info_stays : (before printed : List ℕ) → FailsToDescribe before printed fault old new → Stays old new
  info_stays before printed (inl (why, same)) = stays_as same
  info_stays before printed (inr (free, inl (why, stays))) = stays
  info_stays before printed (inr (free, inr (at, (finds, lines)))) = finds.stays

  -- `public` changes no other file, and nothing else
  abbrev PublicLeaves : Bytes → Type 0
  PublicLeaves public =
      (Others public old new × (new.state ≡ old.state) × (new.nodes ≡ old.nodes) × (new.witness ≡ old.witness))
      × SparesFiles fault old new

  public_none : (public : Bytes) → Stays old new → PublicLeaves public
  public_none public same = ((others_of public same.files, same.state, same.nodes, same.witness), λ other. same.files)

  pub public_leaves : (public : Bytes) (before printed : List ℕ) → FailsToPublishKey public before printed fault old new
      → PublicLeaves public
  public_leaves public before printed (inl (why, same)) = public_none public (stays_as same)
  public_leaves public before printed (inr (free, inl (why, stays))) = public_none public stays
  public_leaves public before printed (inr (free, inr (inl (refused, why, finds)))) = public_none public finds.stays
  public_leaves public before printed (inr (free, inr (inr (at, (published, line))))) = (
    (published.file.others, published.state_stays, published.nodes, published.witness),
    λ other. absurd (other at),
  )

  stays_but : Stays old new → OnlyWitness old new
  stays_but stays = (stays.files, stays.state, stays.nodes)

  pub witness_at_most : (counter : Bytes) (before printed : List ℕ)
      → FailsToMakeWitness counter before printed fault old new → OnlyWitness old new
  witness_at_most counter before printed (inl (at, none, same)) = stays_but (stays_as same)
  witness_at_most counter before printed (inr (number, is, inl (why, same))) = stays_but (stays_as same)
  witness_at_most counter before printed (inr (number, is, inr (free, inl (why, stays)))) = stays_but stays
  witness_at_most counter before printed (inr (number, is, inr (free, inr (none, inl (why, stays))))) =
      stays_but stays
  witness_at_most counter before printed (inr (number, is, inr (free, inr (none, inr (inl (finds, at, other)))))) =
      stays_but finds.stays
  witness_at_most counter before printed
      (inr (number, is, inr (free, inr (none, inr (inr (at, (makes, made, lines))))))) =
      (makes.files, makes.state_stays, makes.nodes)

  all_but : Stays old new → OnlyState old new
  all_but stays = (stays.files, stays.nodes, stays.witness)

  unresumed_alone : (end : ℕ) (before printed : List ℕ) → FailsOnceLocked end before printed fault old new
      → OnlyState old new
  unresumed_alone end before printed (inl (why, stays)) = all_but stays
  unresumed_alone end before printed (inr (inl (text, held, inl (why, stays)))) = all_but stays
  unresumed_alone end before printed (inr (inl (text, held, inr (finds, refused)))) = all_but finds.stays
  unresumed_alone end before printed (inr (inr (inl (older, at, mid, below, part, why)))) =
      (older.files, older.nodes, older.witness)
  unresumed_alone end before printed (inr (inr (inr (at, ((older, counts), line))))) =
      (older.files, older.nodes, older.witness)

  pub state_alone : (counter : Bytes) (before printed : List ℕ) → FailsToResume counter before printed fault old new
      → OnlyState old new
  state_alone counter before printed (inl (at, none, same)) = all_but (stays_as same)
  state_alone counter before printed (inr (end, is, inl (why, same))) = all_but (stays_as same)
  state_alone counter before printed (inr (end, is, inr (free, never))) = unresumed_alone end before printed never
