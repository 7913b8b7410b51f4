use Rattle.std.proofs.Common.{ℕ, ◌≡◌, ◌+◌, ◌-◌, ◌<◌, ◌≤◌, List, ◌++◌, length, get_or, sym, ◌∙◌, ap, ap₂, arith, subst}
use Rattle.std.proofs.Common.{subst₂}
use Rattle.lms_spec.specs.Bytes.{u32str}
use Rattle.lms_spec.specs.Hss.{HssAccepts, hss_signature_length, level as level_at}
use Rattle.lms_spec.specs.Profile.{hss_public_key, hss_signature, leaf_at, tree_at}
use Rattle.lms_spec.specs.Tree.{lms_signature}
use Rattle.lms_params.specs.declared.lms_type.LmsType.{LmsType}
use Rattle.lms_params.specs.declared.ots_type.OtsType.{OtsType}
use Rattle.lms_tree.specs.Kept.{AreNodes, IsSignatureAlong, ServesLeaf}
use Rattle.lms_tree.specs.TreeKey.{signature_length_under, tree_of}
use Rattle.lms_hss.specs.declared.key.HssKey.{HssKey}
use Rattle.lms_kept.specs.declared.kept_level.KeptLevel.{KeptLevel}
use Rattle.lms_hss.specs.Keys.{hss_key_of, tree_number}
use Rattle.lms_hss.specs.Levels.{IsAdmitted, levels_of}
use Rattle.lms_kept.specs.Ways.{AreGenuine, bottom_of, EndsAlong, IsGenuine, IsOnWay, IsWay, Serves, signed_keys, Way}
use Rattle.lms_hss.proofs.Keys.{key-accepts}
use Rattle.lms_kept.proofs.SignatureLengths.{of-sets, own-signature, signature-length}
use Rattle.lms_hss.proofs.SharedWays.{tree-same}
use Rattle.lms_kept.proofs.Ways.{bottom-same, kept-signature, levels-count, served-subtree, served-same}
use Rattle.lms_kept.proofs.kept_trees.KeptTrees.unverified.Goals as goal
use Rattle.lms_kept.proofs.kept_trees.KeptTrees.unverified.Goals.{After-leaf_of}

-- the bottom level, on a way that serves an index, and the leaf there
record Bottom (way : Way) (levels : List (LmsType × OtsType)) (q g : ℕ) (level : KeptLevel) : Type 0 where
  serves : Serves way g
  sets : levels ≡ way.key.levels
  admitted : IsAdmitted way.key.levels
  on : IsOnWay (hss_key_of way.key) way.at (length levels - 1) level
  leaf : q ≡ leaf_at (hss_key_of way.key) g (length levels - 1)

-- its number by the levels of the key
bottom-is : (way : Way) (levels : List (LmsType × OtsType)) (q g : ℕ) (level : KeptLevel) → Bottom way levels q g level
    → length levels - 1 ≡ length (hss_key_of way.key).levels - 1
bottom-is way levels q g level b =
    ap (λ (levels : List (LmsType × OtsType)). length levels - 1) b.sets ∙ ap (λ n. n - 1) (sym (levels-count way.key))

-- there is a level
some-level : (way : Way) (levels : List (LmsType × OtsType)) (q g : ℕ) (level : KeptLevel) → Bottom way levels q g level
    → 1 ≤ length (hss_key_of way.key).levels
some-level way levels q g level b = omega (arith, levels-count way.key, b.admitted.some_level)

-- its nodes serve the leaf of the index
serves-leaf : (way : Way) (levels : List (LmsType × OtsType)) (q g : ℕ) (level : KeptLevel)
    → Bottom way levels q g level → ServesLeaf level.tree q
serves-leaf way levels q g level b =
    served-same (hss_key_of way.key) g way.at (length levels - 1) q level (bottom-is way levels q g level b)
    (some-level way levels q g level b) b.on
    (served-subtree way g b.serves) b.leaf

-- its tree and its leaf are those of the index
bottom-tree : (way : Way) (levels : List (LmsType × OtsType)) (q g : ℕ) (level : KeptLevel)
    → Bottom way levels q g level
    → tree_of level.tree.key ≡ tree_at (hss_key_of way.key) g (bottom_of way.key)
bottom-tree way levels q g level b =
    let key = hss_key_of way.key in
    let k = bottom_of way.key in
    let bottom : length levels - 1 ≡ k = ap (λ (levels : List (LmsType × OtsType)). length levels - 1) b.sets in
    let its : length key.levels - 1 ≡ k = ap (λ n. n - 1) (levels-count way.key) in
    let some = some-level way levels q g level b in
    let same = subst (λ k. tree_number key g k ≡ tree_number key way.at k) its
    (bottom-same key g way.at some (served-subtree way g b.serves)) in
    b.on.tree ∙ (ap (tree_at key way.at) bottom ∙ sym (tree-same key k g way.at (omega (arith, its, some)) same))

bottom-leaf : (way : Way) (levels : List (LmsType × OtsType)) (q g : ℕ) (level : KeptLevel)
    → Bottom way levels q g level
    → q ≡ leaf_at (hss_key_of way.key) g (bottom_of way.key)
bottom-leaf way levels q g level b =
    b.leaf ∙ ap (leaf_at (hss_key_of way.key) g) (ap (λ (levels : List (LmsType × OtsType)). length levels - 1) b.sets)

-- what it signs ends as the signature by the index
ends-along : (way : Way) (levels : List (LmsType × OtsType)) (q g : ℕ) (level : KeptLevel)
    (randomizer message text before last : List ℕ) → Bottom way levels q g level
    → before ≡ u32str (bottom_of way.key) ++ signed_keys way.levels → text ≡ before ++ last
    → IsSignatureAlong (tree_of level.tree.key) q randomizer message last → EndsAlong way g randomizer message text
ends-along way levels q g level randomizer message text before last b front parts along =
    let key = hss_key_of way.key in
    let k = bottom_of way.key in
    let tree = bottom-tree way levels q g level b in
    let leaf = bottom-leaf way levels q g level b in
    record {
      last = last;
      parts = parts ∙ ap (λ before. before ++ last) front;
      along = subst₂ (λ t q. IsSignatureAlong t q randomizer message last) tree leaf along;
    }

-- and is the signature by the index where all is genuine
is-signature : (way : Way) (levels : List (LmsType × OtsType)) (q g : ℕ) (level : KeptLevel)
    (randomizer message text before last : List ℕ) → Bottom way levels q g level
    → level ≡ get_or way.levels (length levels - 1) level
    → before ≡ u32str (bottom_of way.key) ++ signed_keys way.levels → text ≡ before ++ last
    → (AreNodes level.tree → last ≡ lms_signature (tree_of level.tree.key) q randomizer message)
    → AreGenuine way → text ≡ hss_signature (hss_key_of way.key) g randomizer message
is-signature way levels q g level randomizer message text before last b found front parts signed genuine =
    let key = hss_key_of way.key in
    let low : length levels - 1 < length way.levels = omega (
      arith,
      bottom-is way levels q g level b,
      some-level way levels q g level b,
      b.serves.all_levels,
      levels-count way.key,
    ) in
    let here = subst (IsGenuine key way.at (length levels - 1)) (sym found) (genuine (length levels - 1) level low) in
    let last_is = signed here.nodes ∙ ap₂ (λ t q. lms_signature t q randomizer message)
    (bottom-tree way levels q g level b) (bottom-leaf way levels q g level b) in
    parts ∙ (ap (λ before. before ++ last) front
    ∙ kept-signature way g randomizer message last (omega (arith, b.admitted.some_level)) b.serves genuine last_is)

-- the one that signs is that
bottom-of : (c : After-leaf_of)
    → Bottom c.args.self.now c.as_slice.result.now c.leaf_of.result c.args.g c.level.result.now
bottom-of c =
    let key = ap (λ (v : Way). v.key) c.self.view_is in
    record {
      serves = c.requires.served;
      sets = c.as_slice.ensures.levels ∙ ap (λ (key : HssKey). key.levels) key;
      admitted = subst (λ (key : HssKey). IsAdmitted key.levels) key c.as_slice.ensures.admitted;
      on = c.level.ensures.way;
      leaf = c.leaf_of.ensures ∙ ap (λ key. leaf_at (hss_key_of key) c.args.g (length c.as_slice.result.now - 1)) key;
    }

-- there is room for its signature after what is signed of the levels
has-room : (way : Way) (levels : List (LmsType × OtsType)) (q g : ℕ) (level : KeptLevel) (before : List ℕ) (room : ℕ)
    → Bottom way levels q g level → IsWay way → before ≡ u32str (bottom_of way.key) ++ signed_keys way.levels
    → hss_signature_length (levels_of way.key.levels) ≤ room
    → length before + signature_length_under level.tree.key ≤ room
has-room way levels q g level before room b is front enough =
    let key = hss_key_of way.key in
    let own : signature_length_under level.tree.key ≡ of-sets (level_at key (length key.levels - 1))
    = own-signature key way.at (length levels - 1) level b.on
    ∙ ap (λ k. of-sets (level_at key k)) (bottom-is way levels q g level b) in
    omega (arith, own, signature-length way is b.serves.all_levels, ap length front, enough)

pub signed_keys-text-requires-clause-room : goal.signed_keys-text-requires-clause-room
signed_keys-text-requires-clause-room c =
    let is = subst IsWay c.self.view_is c.self.invariant in
    omega (arith, signature-length c.args.self.now is c.requires.served.all_levels, c.requires.room)

pub append_signature-requires-clause-served : goal.append_signature-requires-clause-served
append_signature-requires-clause-served c =
    serves-leaf _ _ _ _ _ (bottom-of (goal.at.append_signature-requires-clause-served c).After-leaf_of)

pub append_signature-requires-clause-room : goal.append_signature-requires-clause-room
append_signature-requires-clause-room c =
    let b = bottom-of (goal.at.append_signature-requires-clause-room c).After-leaf_of in
    let is = subst IsWay c.self.view_is c.self.invariant in
    has-room _ _ _ _ _ _ _ b is c.signed_keys-text.ensures.text
    (omega (arith, c.requires.room, c.signed_keys-text.ensures.room))

pub returns : goal.returns
returns c =
    let b = bottom-of (goal.at.returns c).After-leaf_of in
    let way = c.args.self.now in
    let is_way = subst IsWay c.self.view_is c.self.invariant in
    let made = c.append_signature.ensures in
    let same = is-signature way c.as_slice.result.now c.leaf_of.result c.args.g c.level.result.now c.args.c.now
    c.args.msg.now _ _ made.0 b c.level.ensures.level c.signed_keys-text.ensures.text made.1 made.3 in
    record {
      along = ends-along way c.as_slice.result.now c.leaf_of.result c.args.g c.level.result.now c.args.c.now
          c.args.msg.now _ _ made.0 b c.signed_keys-text.ensures.text made.1 made.2;
      signature_is = same;
      accepted = λ genuine. subst (HssAccepts (hss_public_key (hss_key_of way.key)) c.args.msg.now) (sym (same genuine))
          (key-accepts way.key c.args.g c.args.c.now c.args.msg.now b.admitted is_way.id_length c.told-c);
    }
