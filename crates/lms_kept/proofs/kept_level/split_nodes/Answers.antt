use Rattle.std.proofs.Common.{ℕ, ◌≡◌, ◌*◌, ◌/◌, List, ◌++◌, length, sym, ◌∙◌, ap₂, arith, take-append-drop}
use Rattle.std.specs.List.{flat_map, IsSplitAt}
use Rattle.std.specs.Simd.{first_chunks}
use Rattle.std.proofs.lemmas.List.Concat.{concat_is}
use Rattle.lms_spec.proofs.Chunks.{concat-chunks}
use Rattle.lms_kept.proofs.kept_level.split_nodes.Goals as goal

nodes-cut : (text nodes rest : List ℕ) (count n : ℕ) (chunks : List (List ℕ)) → IsSplitAt text n nodes rest
    → n ≡ count * 32
    → chunks ≡ first_chunks 32 (length nodes / 32) nodes → text ≡ flat_map (λ x. x) chunks ++ rest
nodes-cut text nodes rest count n chunks is e cut =
    let pieces = first_chunks 32 (length nodes / 32) nodes in
    let long : length nodes ≡ 32 * (length nodes / 32) = omega (arith, is.3, e) in
    let whole : flat_map (λ x. x) pieces ≡ nodes =
    sym (concat_is pieces) ∙ concat-chunks (length nodes / 32) nodes long in
    rw cut (sym (take-append-drop n text) ∙ ap₂ (λ x y. x ++ y) (sym is.1 ∙ sym whole) (sym is.2))

pub returns-clause-some : goal.returns-clause-some
returns-clause-some c =
    nodes-cut c.args.text.now c.in_ok-nodes.nodes.now c.in_ok-nodes.rest.now c.args.count c.in_ok-length.length
    c.as_chunks.result.0.now
    c.in_ok-nodes.ensures.cases (c.in_ok-length.ensures.1) c.as_chunks.ensures.front
