use Rattle.std.proofs.Common.{rules, ◌≡◌, ◌∙◌, ℕ, ◌<◌, ◌^◌, List, [], ◌∷◌, ◌++◌, length, ap, sym, subst, refl, arith}
use Rattle.std.proofs.Common.{decimal, codes}
use Rattle.std.specs.Prelude.{Bool, true, false, not, Option, None, Some, IfNone, ◌≢◌}
use Rattle.std.specs.Str.{bytes_eq}
use Rattle.std.proofs.lemmas.Slice.Eq.{bytes_eq-Decides}
use Rattle.std.proofs.lemmas.List.{length-append}
use Rattle.lms_texts.specs.Witnesses.{witness_head, witness_text}
use Rattle.lms_texts.proofs.Witnesses.{head_length, parts_same, witness_same}
use Rattle.lms_texts.proofs.witness.witness_counter.Goals as goal

pub returns-then-text-lt-HEAD-clause-none : goal.returns-then-text-lt-HEAD-clause-none
returns-then-text-lt-HEAD-clause-none c = λ counter fits is.
    let all = ap length is ∙ length-append (witness_head c.args.id.now) (decimal counter ++ codes "\n") in
    omega (arith, all, head_length c.args.id.now, c.fits-id, c.if-text-lt-HEAD.true)

-- a text is cut behind its head
cut : (id front rest text : List ℕ) (counter : ℕ) → length front ≡ length (witness_head id) → text ≡ front ++ rest
    → text ≡ witness_text id counter → (front ≡ witness_head id) × (rest ≡ decimal counter ++ codes "\n")
cut id front rest text counter long parts is =
    parts_same front rest (witness_head id) (decimal counter ++ codes "\n") long (sym parts ∙ is)

differs : (test : Bool) (front head : List ℕ) → test ≡ not (bytes_eq front head) → test ≡ true → front ≡ head → ⊥
differs test front head is so same =
    let other = sym so ∙ (is ∙ ap not ((bytes_eq-Decides front head).1 same)) in cc

pub returns-then-ne-clause-none : goal.returns-then-ne-clause-none
returns-then-ne-clause-none c = λ counter fits is.
    let long : length c.split_at.result.0.now ≡ length (witness_head c.args.id.now) =
    omega (arith, head_length c.args.id.now, c.fits-id, c.split_at.ensures.front_len) in
    differs c.ne.result _ _ c.ne.ensures c.if-ne.true
    ((cut c.args.id.now _ _ c.args.text.now counter long c.split_at.ensures.by_index.0 is).0
    ∙ sym (c.as_slice.ensures ∙ c.head_of.ensures))

none_of : (id front rest text : List ℕ) → length front ≡ length (witness_head id) → text ≡ front ++ rest
    → (o : Option ℕ) → IfNone o ((n : ℕ) → n < 2 ^ 64 → rest ≢ decimal n ++ codes "\n")
    → IfNone o ((counter : ℕ) → counter < 2 ^ 64 → text ≢ witness_text id counter)
none_of id front rest text long parts None none =
    λ counter fits is. none counter fits (cut id front rest text counter long parts is).1
none_of id front rest text long parts (Some n) none = tt

pub returns-clause-none : goal.returns-clause-none
returns-clause-none c =
    let long : length c.split_at.result.0.now ≡ length (witness_head c.args.id.now) =
    omega (arith, head_length c.args.id.now, c.fits-id, c.split_at.ensures.front_len) in
    none_of c.args.id.now _ _ c.args.text.now long c.split_at.ensures.by_index.0 c.line_number.result
    c.line_number.ensures.none
