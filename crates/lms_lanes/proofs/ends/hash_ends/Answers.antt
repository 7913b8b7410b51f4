use Rattle.std.proofs.Common.{◌≡◌, ◌∙◌, ◌+◌, ◌-◌, ◌*◌, ◌++◌, ℕ, List, [], drop, get_or, length, ap, arith, subst}
use Rattle.std.proofs.Common.{sym, length-append}
use Rattle.std.proofs.lemmas.List.{append-nil}
use Rattle.std.proofs.lemmas.Simd.{get_or-replicate}
use Rattle.std.specs.Int.{to_be_bytes, w16}
use Rattle.sha2.specs.Sha256.{digest_bytes, sha256}
use Rattle.lms_lanes.specs.Lanes.{lane_of}
use Rattle.lms_lanes.specs.Ends.{ends_text}
use Rattle.lms_lanes.proofs.Absorbed.{IsAbsorbed, IsAbsorbed-head, IsAbsorbed-pair, IsAbsorbed-end, IsAbsorbed-end_with}
use Rattle.lms_lanes.proofs.Absorbed.{ends_text-more}
use Rattle.lms_lanes.proofs.OneBlock.{length-digest_bytes}
use Rattle.lms_lanes.proofs.ends.hash_ends.Goals as goal

pub pairs-init : goal.pairs-init
pairs-init c = record {
  hash = c.initial-hash.ensures.vectors;
  rest = c.head_of-rest.ensures.vectors;
  lanes = λ k lt.
      let front : List ℕ = get_or c.args.fronts.now k [] in
      let before : List ℕ = front ++ to_be_bytes w16 c.args.mark in
      subst (λ (text : List ℕ). IsAbsorbed (lane_of c.initial-hash.result k) (lane_of c.head_of-rest.result k) text 0)
      (sym (append-nil before))
      (IsAbsorbed-head _ _ before (c.initial-hash.ensures.lanes k lt)
      (c.head_of-rest.ensures.lanes k lt front (c.front_words-front.ensures.lanes k lt)));
}

pub pairs-preserved : goal.pairs-preserved
pairs-preserved c = record {
  hash = c.compress-next.ensures.vectors;
  rest = c.rest_of-rest.ensures.vectors;
  lanes = λ k lt.
      let front : List ℕ = get_or c.args.fronts.now k [] in
      let start : List ℕ = c.args.start.now in
      let texts : ℕ → List ℕ = λ n. ends_text front c.args.mark n c.args.first c.args.steps start in
      let pair : ℕ = c.pairs.pair in
      let n : ℕ = 2 * pair in
      let has = c.front_words-front.ensures.lanes k lt in
      let begins = c.value_words-begin.ensures.lanes k lt ∙ get_or-replicate 8 k start [] lt in
      let more = ends_text-more front c.args.mark c.args.first c.args.steps start in
      let so_far = c.pairs.invariant.lanes k lt in
      let two : n + 1 + 1 ≡ 2 * (pair + 1) = omega arith in
      let grown = ap (λ (t : List ℕ). t ++ digest_bytes (lane_of c.ends_of-odd.result k) 8)
      (more n _ _ begins (c.ends_of-even.ensures.lanes k lt front has))
      ∙ (more (n + 1) _ _ begins (c.ends_of-odd.ensures.lanes k lt front has) ∙ ap texts two) in
      subst (λ (text : List ℕ).
      IsAbsorbed (lane_of c.compress-next.result k) (lane_of c.rest_of-rest.result k) text (pair + 1)) grown
      (IsAbsorbed-pair _ _ (texts n) _ _ _ _ pair so_far (length-digest_bytes _) (length-digest_bytes _)
      (c.compress-next.ensures.lanes k lt _ (c.pair_block.ensures.lanes k lt (drop (pair * 64) (texts n)) so_far.left))
      (c.rest_of-rest.ensures.lanes k lt));
}

pub returns-then-chains-eq1-clause-hashes : goal.returns-then-chains-eq1-clause-hashes
returns-then-chains-eq1-clause-hashes c = λ k lt.
    let front : List ℕ = get_or c.args.fronts.now k [] in
    let start : List ℕ = c.args.start.now in
    let texts : ℕ → List ℕ = λ n. ends_text front c.args.mark n c.args.first c.args.steps start in
    let pair : ℕ = c.pairs.pair in
    let number : ℕ = c.args.chains - 1 in
    let n : ℕ = 2 * pair in
    let whole : n ≡ number = omega arith in
    let all : number + 1 ≡ c.args.chains = omega arith in
    let begins = c.value_words-begin.ensures.lanes k lt ∙ get_or-replicate 8 k start [] lt in
    let end : List ℕ = digest_bytes (lane_of c.ends_of-last.result k) 8 in
    let so_far = c.pairs.invariant.lanes k lt in
    let grown : texts n ++ end ≡ texts c.args.chains
    = ap (λ (m : ℕ). texts m ++ end) whole
    ∙ (ends_text-more front c.args.mark c.args.first c.args.steps start number _ _ begins
    (c.ends_of-last.ensures.lanes k lt front (c.front_words-front.ensures.lanes k lt)) ∙ ap texts all) in
    let long : length (texts n ++ end) ≡ 64 * pair + 54 =
    omega (arith, length-append (texts n) end, length-digest_bytes (lane_of c.ends_of-last.result k), so_far.long) in
    c.digests_of.ensures.digests k lt
    ∙ (IsAbsorbed-end_with _ _ (texts n) end _ pair _ so_far (length-digest_bytes _)
    (omega (arith, long, whole, all, c.from.ensures)) (omega (arith, c.from.ensures, c.ranges.chains.fits))
    (c.compress.ensures.lanes k lt _ (c.last_block_with.ensures.lanes k lt (drop (pair * 64) (texts n)) so_far.left))
    ∙ ap sha256 grown)

pub returns-else-chains-eq1-clause-hashes : goal.returns-else-chains-eq1-clause-hashes
returns-else-chains-eq1-clause-hashes c = λ k lt.
    let front : List ℕ = get_or c.args.fronts.now k [] in
    let start : List ℕ = c.args.start.now in
    let texts : ℕ → List ℕ = λ n. ends_text front c.args.mark n c.args.first c.args.steps start in
    let pair : ℕ = c.pairs.pair in
    let n : ℕ = 2 * pair in
    let all : n ≡ c.args.chains = omega arith in
    let so_far = c.pairs.invariant.lanes k lt in
    c.digests_of-else-chains-eq1.ensures.digests k lt
    ∙ (IsAbsorbed-end _ _ (texts n) _ pair _ so_far (omega (arith, so_far.long, all, c.from.ensures))
    (omega (arith, c.from.ensures, c.ranges.chains.fits))
    (c.compress-else-chains-eq1.ensures.lanes k lt _
    (c.last_block.ensures.lanes k lt (drop (pair * 64) (texts n)) so_far.left))
    ∙ ap (λ (m : ℕ). sha256 (texts m)) all)
