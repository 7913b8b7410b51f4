-- What is accepted says what it is.
use Rattle.std.proofs.Common.{◌≡◌, ◌∙◌, ◌+◌, ◌-◌, ◌*◌, ◌^◌, ◌<◌, ℕ, zero, suc, List, [], ◌∷◌, ◌++◌, length, Some, ap, refl, sym}
use Rattle.std.proofs.Common.{subst, arith, append_assoc, append-nil, length-append}
use Rattle.std.specs.List.{concat}
use Rattle.lms_spec.specs.Bytes.{u32str}
use Rattle.lms_spec.specs.Parameters.{LmsSet, OtsSet, lms_set, ots_set}
use Rattle.lms_spec.specs.Tree.{LmsAccepts}
use Rattle.lms_spec.specs.Hss.{AcceptsThrough}
use Rattle.lms_spec.proofs.Pieces.{length-concat}
use Rattle.lms_spec.proofs.Sets.{by_lms_set, by_ots_set}
use Rattle.lms_params.specs.LmsType.{lms_set_of}
use Rattle.lms_params.specs.OtsType.{ots_set_of}
use Rattle.lms_params.specs.declared.lms_type.LmsType.{LmsType}
use Rattle.lms_params.specs.declared.lms_type.LmsType.TheVariants.{H5, H10, H15, H20, H25}
use Rattle.lms_params.specs.declared.ots_type.OtsType.{OtsType}
use Rattle.lms_params.specs.declared.ots_type.OtsType.TheVariants.{W1, W2, W4, W8}
use Rattle.lms_verification.specs.Parts.{IsLmsPublicKey}
use Rattle.lms_verification.proofs.Acceptance.{key-of-accepted}
use Rattle.lms_inspect.specs.Laws.{AcceptedSays}
use Rattle.lms_inspect.specs.Levels.{BeginsCoded, BeginsSigned}
use Rattle.lms_inspect.specs.Signatures.{IsKeyed, SaysThrough}
use Rattle.lms_inspect.specs.declared.level.Level.{Level}
use Rattle.lms_inspect.specs.declared.signature.KeyedLevel.{KeyedLevel}

-- a known set is a type's
lms_type_of : (m : LmsSet) → lms_set m.code ≡ Some m → (t : LmsType) × (lms_set_of t ≡ m)
lms_type_of m known =
    by_lms_set (λ (m : LmsSet). (t : LmsType) × (lms_set_of t ≡ m)) (H5, refl) (H10, refl) (H15, refl) (H20, refl)
    (H25, refl) m.code m known

ots_type_of : (t : OtsSet) → ots_set t.code ≡ Some t → (s : OtsType) × (ots_set_of s ≡ t)
ots_type_of t known =
    by_ots_set (λ (t : OtsSet). (s : OtsType) × (ots_set_of s ≡ t)) (W1, refl) (W2, refl) (W4, refl) (W8, refl)
    t.code t known

-- what an accepted signature says, and its key
pub record SaysAccepted (signer signature rest : List ℕ) : Type 0 where
  pub level : Level
  pub id : List ℕ
  pub root : List ℕ
  pub key : IsLmsPublicKey (lms_set_of level.lms) (ots_set_of level.ots) id root signer
  pub begins : BeginsSigned level signature rest

pub says_accepted : (signer message signature rest : List ℕ) → LmsAccepts signer message signature
    → SaysAccepted signer (signature ++ rest) rest
says_accepted signer message signature rest a =
    let lms = lms_type_of a.lms a.lms_known in
    let ots = ots_type_of a.ots a.ots_known in
    let one_time = a.leads_to.signature_parts in
    let body = a.leads_to.randomizer ++ concat a.leads_to.values in
    let path = concat a.path in
    let code = u32str a.lms.code in
    let last : List ℕ = code ++ (path ++ rest) in
    let whole : signature ++ rest ≡ u32str a.q ++ (a.ots_part ++ last) =
    ap (λ s. s ++ rest) a.signature_parts
    ∙ ap (λ s. u32str a.q ++ s)
    (append_assoc (a.ots_part ++ code) path rest ∙ append_assoc a.ots_part code (path ++ rest)) in
    let values = length-concat a.leads_to.values one_time.value_lengths in
    let body_size : length body ≡ 32 * (a.ots.p + 1) =
    length-append a.leads_to.randomizer (concat a.leads_to.values)
    ∙ omega (arith, values, one_time.values_count, one_time.randomizer_length) in
    let nodes = length-concat a.path a.path_lengths in
    let path_size : length path ≡ 32 * a.lms.h = omega (arith, nodes, a.path_count) in
    let first : BeginsCoded a.ots.code (32 * (a.ots.p + 1)) (a.ots_part ++ last) last = record {
      body = body;
      size = body_size;
      parts = ap (λ o. o ++ last) one_time.parts;
    } in
    let second : BeginsCoded a.lms.code (32 * a.lms.h) last rest =
    record { body = path; size = path_size; parts = refl } in
    record {
      level = record { lms = lms.0; ots = ots.0; leaf = a.q };
      id = a.id;
      root = a.root;
      key = subst (λ (m : LmsSet). IsLmsPublicKey m (ots_set_of ots.0) a.id a.root signer) (sym lms.1)
          (subst (λ (t : OtsSet). IsLmsPublicKey a.lms t a.id a.root signer) (sym ots.1)
          (key-of-accepted signer message signature a));
      begins = record {
        after_leaf = a.ots_part ++ last;
        after_one_time = last;
        parts = whole;
        one_time = subst (λ (t : OtsSet). BeginsCoded t.code (32 * (t.p + 1)) (a.ots_part ++ last) last) (sym ots.1) first;
        path = subst (λ (m : LmsSet). BeginsCoded m.code (32 * m.h) last rest) (sym lms.1) second;
        leaf_in_tree = subst (λ (m : LmsSet). a.q < 2 ^ m.h) (sym lms.1) a.q_in_tree;
      };
    }

-- so do all levels through which a message is accepted
record SaysAll (count : ℕ) (signer text : List ℕ) : Type 0 where
  below : List KeyedLevel
  count_is : length below ≡ count
  rest : List ℕ
  top : SaysAccepted signer text rest
  through : SaysThrough below rest []

says_all : (count : ℕ) (signer message text : List ℕ) → AcceptsThrough count signer message text
    → SaysAll count signer text
says_all zero signer message text a = record {
  below = [];
  count_is = refl;
  rest = [];
  top = subst (λ (t : List ℕ). SaysAccepted signer t []) (append-nil text) (says_accepted signer message text [] a);
  through = refl;
}
says_all (suc count) signer message text (first, next, rest, parts, a, others) =
    let upper = says_accepted signer next first (next ++ rest) a in
    let lower = says_all count next message rest others in
    let keyed : KeyedLevel = record { id = lower.top.id; level = lower.top.level } in
    let is : IsKeyed keyed (next ++ rest) lower.rest = record {
      key = next;
      after_key = rest;
      root = lower.top.root;
      parts = refl;
      is_key = lower.top.key;
      signed = lower.top.begins;
    } in
    record {
      below = keyed ∷ lower.below;
      count_is = ap suc lower.count_is;
      rest = next ++ rest;
      top = subst (λ (t : List ℕ). SaysAccepted signer t (next ++ rest))
          (sym (parts ∙ append_assoc first next rest)) upper;
      through = (lower.rest, is, lower.through);
    }

pub accepted_says : AcceptedSays
accepted_says public_key message signature a =
    let all = says_all (a.levels - 1) a.top_key message a.signatures a.accepted in
    let least = a.some_level in
    let most = a.eight_at_most in (
      record {
        levels = a.levels;
        top = record { lms = all.top.level.lms; ots = all.top.level.ots; id = all.top.id };
      },
      all.top.level,
      all.below,
      record {
        some_level = a.some_level;
        eight_at_most = a.eight_at_most;
        key = a.top_key;
        text_is = a.key_parts;
        is_key = (all.top.root, all.top.key);
      },
      record {
        levels = omega (arith, all.count_is, least, most);
        signatures = a.signatures;
        rest = all.rest;
        parts = a.signature_parts ∙ ap (λ n. u32str n ++ a.signatures) (sym all.count_is);
        signed = all.top.begins;
        through = all.through;
      },
      omega (arith, all.count_is, least),
      refl,
      refl,
    )
