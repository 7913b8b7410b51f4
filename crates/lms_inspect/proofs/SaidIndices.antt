-- The index that a key's signature says.
use Rattle.std.proofs.Common.{ℕ, zero, suc, ◌≡◌, ◌∙◌, ◌+◌, ◌-◌, ◌*◌, ◌/◌, ◌^◌, ◌<◌, ◌≤◌, List, [], ◌∷◌, ◌++◌, length, drop}
use Rattle.std.proofs.Common.{All, Some, false, map, nat_lt, ap, ap₂, refl, sym, subst, arith, append_assoc, append-nil}
use Rattle.std.proofs.Common.{div-one, get_or, pow_pos, shr-shr}
use Rattle.std.proofs.lemmas.Bool.Decides.{nat_tests}
use Rattle.std.proofs.lemmas.List.{drop_all, drop_more}
use Rattle.std.proofs.lemmas.Nat.{mod_below, shr_split}
use Rattle.std.proofs.Math.Nat.{div-eq_of_lt}
use Rattle.std.specs.List.{concat, range_with_len}
use Rattle.sha2.proofs.Facts256.{length-sha256}
use Rattle.lms_spec.specs.Parameters.{OtsSet, LmsSet, ots_set, lms_set}
use Rattle.lms_spec.specs.Tree.{lms_signature, public_key_of}
use Rattle.lms_spec.specs.Hss.{HasKnownSets, HssKey, height_of, level, no_level}
use Rattle.lms_spec.specs.Profile.{derived, for_randomizer, leaf_at, signed_key, tree_at}
use Rattle.lms_spec.proofs.FirstNumber.{first-number-same, rest-same}
use Rattle.lms_spec.proofs.Hierarchies.{hss-accepts, length-id, level-lms, level-ots, signature-parts, signatures_from}
use Rattle.lms_spec.proofs.Lengths.{length-public_key}
use Rattle.lms_spec.proofs.Parts.{key-parts-same}
use Rattle.lms_spec.proofs.Places.{height-more}
use Rattle.lms_spec.proofs.Sets.{small-leaf}
use Rattle.lms_spec.proofs.TreeSignatures.{tree-accepts}
use Rattle.lms_params.specs.LmsType.{lms_set_of}
use Rattle.lms_params.specs.OtsType.{ots_set_of}
use Rattle.lms_params.proofs.KnownSets.{known_lms_set}
use Rattle.lms_inspect.specs.Indices.{all_sets, indexed_from, sets_of}
use Rattle.lms_inspect.specs.Laws.{IndexIsSaid}
use Rattle.lms_inspect.specs.Levels.{BeginsSigned}
use Rattle.lms_inspect.specs.Signatures.{SaysThrough}
use Rattle.lms_inspect.specs.declared.level.Level.{Level}
use Rattle.lms_inspect.specs.declared.signature.KeyedLevel.{KeyedLevel}
use Rattle.lms_inspect.proofs.Accepted.{accepted_says, says_accepted}
use Rattle.lms_inspect.proofs.Cuts.{after-key, level-once}

-- what a front of a tree's signature says: the tree's sets, the leaf, and what follows the signature
one-level : (key : HssKey) (g k : ℕ) (randomizer message more : List ℕ) (said : Level) (rest : List ℕ)
    → All HasKnownSets key.levels → length key.id ≡ 16 → k < length key.levels → length randomizer ≡ 32
    → BeginsSigned said (lms_signature (tree_at key g k) (leaf_at key g k) randomizer message ++ more) rest
    → (sets_of said ≡ level key k) × (said.leaf ≡ leaf_at key g k) × (rest ≡ more)
unfolding lms_signature public_key_of
one-level key g k randomizer message more said rest known sixteen h long is =
    let tree = tree_at key g k in
    let q = leaf_at key g k in
    let own = level key k in
    let sets : HasKnownSets own = known k no_level h in
    let lms : lms_set tree.lms.code ≡ Some tree.lms =
    subst (λ (m : LmsSet). lms_set m.code ≡ Some m) (sym (level-lms key g k)) sets.0 in
    let ots : ots_set tree.ots.code ≡ Some tree.ots =
    subst (λ (t : OtsSet). ots_set t.code ≡ Some t) (sym (level-ots key g k)) sets.1 in
    let in_own : q < 2 ^ own.lms.h = mod_below _ (2 ^ own.lms.h) (pow_pos own.lms.h) in
    let in_tree : q < 2 ^ tree.lms.h = subst (λ (m : LmsSet). q < 2 ^ m.h) (sym (level-lms key g k)) in_own in
    let id = length-id key g k sixteen in
    let accepted = tree-accepts tree q randomizer message lms ots id in_tree long in
    let signature = lms_signature tree q randomizer message in
    let says = says_accepted (public_key_of tree) message signature more accepted in
    let once = level-once said says.level (signature ++ more) rest more is says.begins in
    let is_key = says.key in
    let parts = key-parts-same (lms_set_of says.level.lms) tree.lms (ots_set_of says.level.ots) tree.ots says.id tree.id
    says.root _ is_key.lms_known lms is_key.ots_known ots is_key.id_length id (sym is_key.parts) in
    let leaf = first-number-same said.leaf q is.after_leaf _
    (small-leaf (lms_set_of said.lms) said.leaf (known_lms_set said.lms) is.leaf_in_tree)
    (small-leaf own.lms q sets.0 in_own) (sym is.parts) in (
      ap₂ (λ (m : LmsSet) (t : OtsSet). record { lms = m; ots = t })
          (once.0 ∙ parts.0 ∙ level-lms key g k) (once.1 ∙ parts.1 ∙ level-ots key g k),
      leaf,
      once.2,
    )

-- the part of an index above a level, and the level's leaf, make the part above the next
part-step : (key : HssKey) (g k : ℕ) → k < length key.levels
    → g / 2 ^ height_of (drop (k + 1) key.levels)
    ≡ g / 2 ^ height_of (drop k key.levels) * 2 ^ (level key k).lms.h + leaf_at key g k
part-step key g k h =
    let low = height_of (drop (k + 1) key.levels) in
    let top = (level key k).lms.h in
    let whole : low + top ≡ height_of (drop k key.levels) = omega (arith, height-more key k h) in
    sym (shr_split (g / 2 ^ low) top)
    ∙ ap (λ n. n * 2 ^ top + leaf_at key g k) (shr-shr g low top ∙ ap (λ n. g / 2 ^ n) whole)

module _ (key : HssKey) (g : ℕ) (randomizer message : List ℕ) (bottom : ℕ) (known : All HasKnownSets key.levels)
    (sixteen : length key.id ≡ 16) (long : length randomizer ≡ 32) (count_is : bottom + 1 ≡ length key.levels) where
  abbrev last : List ℕ
  last = lms_signature (tree_at key g bottom) (leaf_at key g bottom) randomizer message

  -- the part of the index above the level after this one
  abbrev part : ℕ → ℕ
  part k = g / 2 ^ height_of (drop (k + 1) key.levels)

  -- what the levels from one on say, the height of those before and its own being this
  all_levels : (count k height : ℕ) (top : Level) (below : List KeyedLevel) (rest : List ℕ)
      → k + count ≡ bottom → length below ≡ count → height + height_of (drop (k + 1) key.levels) ≤ 60
      → BeginsSigned top (signatures_from key g last k count) rest → SaysThrough below rest []
      → (all_sets top below ≡ drop k key.levels) × (top.leaf ≡ leaf_at key g k)
      × (indexed_from height (part k) below ≡ Some g)
  unfolding signed_key derived
  all_levels zero k height top [] rest at none short is through =
      let here : bottom ≡ k = omega arith in
      let lt : k < length key.levels = omega arith in
      let own = lms_signature (tree_at key g k) (leaf_at key g k) randomizer message in
      let same : last ≡ own ++ [] =
      ap (λ b. lms_signature (tree_at key g b) (leaf_at key g b) randomizer message) here ∙ sym (append-nil own) in
      let one = one-level key g k randomizer message [] top rest known sixteen lt long
      (subst (λ (t : List ℕ). BeginsSigned top t rest) same is) in
      let end : drop (k + 1) key.levels ≡ [] = drop_all (k + 1) key.levels (omega arith) in (
        ap₂ (λ x xs. x ∷ xs) one.0 (sym end) ∙ sym (drop_more key.levels k no_level lt),
        one.1,
        ap (λ xs. Some (g / 2 ^ height_of xs)) end ∙ ap Some (div-one g),
      )
  all_levels zero k height top (y ∷ more) rest at none short is through = absurd (omega (arith, none))
  all_levels (suc count) k height top [] rest at some short is through = absurd (omega (arith, some))
  all_levels (suc count) k height top (y ∷ more) rest at some short is (after, keyed, through) =
      let lt : k < length key.levels = omega arith in
      let lt' : k + 1 < length key.levels = omega arith in
      let tree = tree_at key g k in
      let q = leaf_at key g k in
      let next = public_key_of (tree_at key g (k + 1)) in
      let following = signatures_from key g last (k + 1) count in
      let first = lms_signature tree q (derived tree q for_randomizer) next in
      let whole : signatures_from key g last k (suc count) ≡ first ++ (next ++ following) =
      append_assoc (signed_key key g k) (concat (map (signed_key key g) (range_with_len (k + 1) count))) last
      ∙ append_assoc first next following in
      let one = one-level key g k (derived tree q for_randomizer) next (next ++ following) top rest known sixteen lt
      (length-sha256 _) (subst (λ (t : List ℕ). BeginsSigned top t rest) whole is) in
      let cut = after-key y rest next following after (length-public_key (tree_at key g (k + 1)) (length-id key g (k + 1) sixteen))
      one.2 keyed in
      let own = (level key (k + 1)).lms.h in
      let high = height-more key (k + 1) lt' in
      let lower = all_levels count (k + 1) (height + own) y.level more after (omega (arith, at)) (omega (arith, some))
      (omega (arith, high, short)) cut.1 through in
      let its : sets_of y.level ≡ level key (k + 1) =
      ap (λ xs. get_or xs 0 no_level) (lower.0 ∙ drop_more key.levels (k + 1) no_level lt') in
      let height_is : (lms_set_of y.level.lms).h ≡ own = ap (λ l. l.lms.h) its in
      let low : height + (lms_set_of y.level.lms).h ≤ 60 = omega (arith, height_is, high, short) in
      let here : nat_lt 60 (height + (lms_set_of y.level.lms).h) ≡ false = grind (arith, nat_tests) in
      let more_is : indexed_from height (part k) (y ∷ more)
      ≡ indexed_from (height + own) (part k * 2 ^ own + leaf_at key g (k + 1)) more = rw (here, height_is, lower.1) refl in (
        ap₂ (λ x xs. x ∷ xs) one.0 lower.0 ∙ sym (drop_more key.levels k no_level lt),
        one.1,
        more_is ∙ ap (λ i. indexed_from (height + own) i more) (sym (part-step key g (k + 1) lt')) ∙ lower.2,
      )

pub index_is_said : IndexIsSaid
index_is_said key g randomizer message some most tall known sixteen small long =
    let bottom = length key.levels - 1 in
    let said = accepted_says _ message _ (hss-accepts key g randomizer message some most known sixteen long) in (
      (said.1, said.2, said.4),
      λ top below is.
          let both = sym is.parts ∙ signature-parts key g randomizer message in
          let count = first-number-same (length below) bottom is.signatures _ (omega (arith, is.levels)) (omega (arith, most))
          both in
          let begins = subst (λ (t : List ℕ). BeginsSigned top t is.rest)
          (rest-same (length below) bottom is.signatures _ both) is.signed in
          let high = height-more key 0 (omega arith) in
          let own = (level key 0).lms.h in
          let all = all_levels key g randomizer message bottom known sixteen long (omega arith) bottom 0 own top below is.rest
          (omega arith) count (omega (arith, high, tall)) begins is.through in
          let its : sets_of top ≡ level key 0 =
          ap (λ xs. get_or xs 0 no_level) (all.0 ∙ drop_more key.levels 0 no_level (omega arith)) in
          let none : leaf_at key g 0 ≡ 0 * 2 ^ own + leaf_at key g 0 = omega arith in
          let above = ap (λ n. n * 2 ^ own + leaf_at key g 0) (sym (div-eq_of_lt small)) in
          let leaf : top.leaf ≡ g / 2 ^ height_of (drop 1 key.levels) =
          all.1 ∙ none ∙ above ∙ sym (part-step key g 0 (omega arith)) in (
            all.0,
            ap₂ (λ height index. indexed_from height index below) (ap (λ l. l.lms.h) its) leaf ∙ all.2,
          ),
    )
