use Rattle.std.proofs.Common.{ℕ, ◌≡◌, ◌+◌, ◌-◌, ◌*◌, ◌<◌, ◌≤◌, List, [], ◌∷◌, ◌++◌, map, take, replicate, get_or}
use Rattle.std.proofs.Common.{slice_index, refl, sym, ◌∙◌, ap, ap₂, arith, append_assoc, subst}
use Rattle.std.specs.List.{concat}
use Rattle.std.proofs.Math.Nat.{min-zero}
use Rattle.std.proofs.lemmas.List.{take_all}
use Rattle.std.proofs.lemmas.Simd.{get_or-replicate}
use Rattle.std.proofs.lemmas.Slice.{take-put_mid}
use Rattle.lms_spec.specs.Bytes.{below, u32str}
use Rattle.lms_spec.specs.Digits.{digits_of}
use Rattle.lms_spec.specs.Hashing.{chain_secret}
use Rattle.lms_spec.specs.Ots.{chain, message_hash, message_digits, ots_signature, public_hash, LeadsTo}
use Rattle.lms_spec.proofs.Below.{concat-below-suc}
use Rattle.lms_spec.proofs.OneTime.{signed_value, signature-leads_to}
use Rattle.lms_params.specs.OtsType.{ots_set_of}
use Rattle.lms_params.proofs.Widths.{chains_limited}
use Rattle.lms_ots.proofs.Candidates.{digit-in-chain, digit-in-front}
use Rattle.lms_ots.proofs.LaneChains.{lane-from_seed, last_digit-byte}
use Rattle.lms_ots.proofs.signing.sign_into.Goals as goal

pub loop-i-preserved : goal.loop-i-preserved
unfolding message_digits
loop-i-preserved c =
    let t = ots_set_of c.args.t in
    let id = c.args.id in
    let i = c.loop-i.i in
    let out = c.loop-i.out in
    let at = 36 + 32 * i in
    let value = c.copy_from_slice.new.self in
    let f = signed_value t id.i c.args.seed.now id.q c.args.c.now c.args.msg.now in
    let head = u32str t.code ++ c.args.c.now in
    let zeros : List ℕ = replicate (265 - t.p) 0 in
    let digits : c.digits-digits.result ≡ message_digits t id.i id.q c.args.c.now c.args.msg.now ++ zeros
    = c.digits-digits.ensures ∙ ap (λ hash. digits_of t hash ++ zeros) c.message_hash.ensures in
    let hash = message_hash id.i id.q c.args.c.now c.args.msg.now in
    let hash = message_hash id.i id.q c.args.c.now c.args.msg.now in
    let a : ℕ = slice_index c.digits-digits.result i in
    let digit : a ≡ slice_index (message_digits t id.i id.q c.args.c.now c.args.msg.now) i
    = ap (λ ds. slice_index ds i) digits ∙ digit-in-front t hash zeros i (omega arith) in
    let seed : List ℕ = c.args.seed.now in
    let most : i < 265 = omega (arith, chains_limited c.args.t) in
    let small : a ≤ 255 = omega (
      arith,
      ap (λ ds. slice_index ds i) digits,
      digit-in-chain t hash zeros i (omega arith),
      last_digit-byte c.args.t,
    ) in
    let signed : get_or c.walk_all.new.ends i [] ≡ chain id.i id.q i 0 a (chain_secret id.i seed id.q i)
    = c.walk_all.ensures i (omega arith)
    ∙ lane-from_seed id.i seed id.q i a _ _ _ _ refl (get_or-replicate 265 i 255 0 most) (c.hashes_to.ensures i most)
    (ap (λ k. get_or (seed ∷ []) k []) (min-zero i)) small in
    let next : value ≡ f i
    = c.copy_from_slice.ensures.after
    ∙ (signed ∙ ap (λ digit. chain id.i id.q i 0 digit (chain_secret id.i seed id.q i)) digit) in
    let written : take (36 + 32 * (i + 1)) _ ≡ take at out ++ value
    = take-put_mid at (at + 32 - at) out value (36 + 32 * (i + 1)) (omega arith) (omega arith) in
    written ∙ (ap₂ (λ x y. x ++ y) c.loop-i.invariant next
    ∙ (append_assoc head (concat (map f (below i))) (f i) ∙ ap (λ text. head ++ text) (sym (concat-below-suc f i))))

pub returns-clause-signature : goal.returns-clause-signature
unfolding ots_signature
returns-clause-signature c =
    let t = ots_set_of c.args.t in
    let id = c.args.id in
    let f = signed_value t id.i c.args.seed.now id.q c.args.c.now c.args.msg.now in
    let count : c.loop-i.i ≡ t.p = omega arith in
    sym (take_all (36 + 32 * c.loop-i.i) c.loop-i.out (omega arith))
    ∙ (c.loop-i.invariant ∙ ap (λ n. u32str t.code ++ c.args.c.now ++ concat (map f (below n))) count)

pub returns-clause-candidate : goal.returns-clause-candidate
returns-clause-candidate c =
    let t = ots_set_of c.args.t in
    let id = c.args.id in
    subst (λ s. LeadsTo t id.i id.q s c.args.msg.now (public_hash t id.i c.args.seed.now id.q))
    (sym (returns-clause-signature c))
    (signature-leads_to t id.i c.args.seed.now id.q c.args.c.now c.args.msg.now c.told-c)
