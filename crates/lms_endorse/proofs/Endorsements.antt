-- An endorsement is accepted, and what is kept of the key's trees stays right.
use Rattle.std.proofs.Common.{ℕ, zero, suc, ◌≡◌, ◌+◌, ◌-◌, ◌≤◌, ◌∙◌, ◌++◌, List, length, ap, arith, refl, sym, subst}
use Rattle.std.proofs.lemmas.List.{length-map}
use Rattle.lms_spec.specs.Bytes.{u32str}
use Rattle.lms_spec.specs.Hss.{AcceptsThrough, HssAccepts}
use Rattle.lms_spec.specs.Parameters.{lms_signature_length}
use Rattle.lms_spec.specs.Profile.{hss_public_key, tree_at}
use Rattle.lms_spec.specs.Tree.{LmsAccepts, public_key_of}
use Rattle.lms_hss.specs.Keys.{hss_key_of}
use Rattle.lms_hss.specs.Levels.{level_of}
use Rattle.lms_hss.specs.declared.key.HssKey.{HssKey as KeyOfCode}
use Rattle.lms_verification.specs.Parts.{HasSignaturesOf}
use Rattle.lms_verification.proofs.Acceptance.{key-of-accepted}
use Rattle.lms_join.specs.Endorsements.{IsEndorsed}
use Rattle.lms_join.specs.Joined.{after_count, count_of}
use Rattle.lms_join.specs.Keys.{AreJoinable, IsHssPublicKey}
use Rattle.lms_join.proofs.Joins.{count-is}
use Rattle.lms_signature_commands.proofs.NodesStaying.{are_right, stay}
use Rattle.lms_endorse.specs.Endorsing.{IsJoinedText, IsSigner, MayEndorse}
use Rattle.lms_endorse.specs.EndorseInMemory.{EndorsementsAreTaken, NodesStayRight}

known : (signer message text : List ℕ) (a : LmsAccepts signer message text)
    → HasSignaturesOf (lms_signature_length a.lms a.ots) signer
known signer message text a = record {
  lms = a.lms;
  ots = a.ots;
  id = a.id;
  root = a.root;
  parts = key-of-accepted signer message text a;
  length_is = refl;
}

-- a key under which something is accepted is one of known typecodes
known_through : (count : ℕ) (signer message text : List ℕ) → AcceptsThrough count signer message text
    → (n : ℕ) × HasSignaturesOf n signer
known_through zero signer message text a = (_, known signer message text a)
known_through (suc count) signer message text (first, next, rest, parts, a, others) = (_, known signer next first a)

public_key : (public message signature : List ℕ) (a : HssAccepts public message signature)
    → IsHssPublicKey a.levels a.top_key public
public_key public message signature a =
    let is = known_through (a.levels - 1) a.top_key message a.signatures a.accepted in
    record {
      some_level = a.some_level;
      eight_at_most = a.eight_at_most;
      parts = a.key_parts;
      signature_length = is.0;
      known = is.1;
    }

-- a key's public key counts its levels
levels_counted : (key : KeyOfCode) → length key.levels ≤ 8
    → count_of (hss_public_key (hss_key_of key)) ≡ length key.levels
unfolding hss_public_key
levels_counted key few =
    let counted : length (hss_key_of key).levels ≡ length key.levels = length-map key.levels level_of in
    count-is (length (hss_key_of key).levels) (hss_public_key (hss_key_of key))
    (public_key_of (tree_at (hss_key_of key) 0 0)) (omega (arith, counted)) refl ∙ counted

pub are_joinable : (key : KeyOfCode) (signer signature text : List ℕ) (joined : ℕ)
    → HssAccepts (hss_public_key (hss_key_of key)) (after_count signer) signature
    → IsSigner signer → IsJoinedText text joined → MayEndorse key signer joined
    → AreJoinable (hss_public_key (hss_key_of key)) signer
are_joinable key signer signature text joined a (levels, lms_key, is) spelt may =
    let public = hss_public_key (hss_key_of key) in
    let most = is.eight_at_most in
    let top_most = a.eight_at_most in
    let own : count_of signer ≡ levels = count-is levels signer lms_key (omega arith) is.parts in
    let top : count_of public ≡ a.levels = count-is a.levels public a.top_key (omega arith) a.key_parts in
    let few : length key.levels ≤ 8 = omega (arith, may.together, spelt.eight_at_most) in
    let counted = levels_counted key few in
    record {
      top_levels = a.levels;
      signer_levels = levels;
      top_key = a.top_key;
      signer_key = lms_key;
      top = public_key public (after_count signer) signature a;
      signer = is;
      eight_at_most = omega (arith, own, top, counted, may.together, spelt.eight_at_most);
    }

pub endorsements_are_taken : EndorsementsAreTaken
endorsements_are_taken asked old new endorses right =
    let key = endorses.uses.state.key in
    let signed = endorses.uses.signed in
    let from_right = are_right signed.nodes endorses.nodes old.nodes key signed.of_text endorses.nodes_were right in
    let accepted = signed.signed.accepted from_right in
    record {
      joinable = are_joinable key endorses.signer endorses.signature asked.joined endorses.joined accepted
          endorses.is_signer endorses.joined_is endorses.may;
      accepted = accepted;
    }

pub nodes_stay_right : NodesStayRight
nodes_stay_right asked old new endorses right =
    stay endorses.nodes endorses.c (after_count endorses.signer) endorses.index endorses.signature old new endorses.uses
    endorses.nodes_were right endorses.uses.kept
