-- A climb by a tree's own path goes over its nodes, to the root.
use Rattle.std.proofs.Common.{ℕ, zero, suc, ◌≡◌, ◌+◌, ◌-◌, ◌*◌, ◌/◌, ◌%◌, ◌^◌, ◌<◌, ◌≤◌, ◌==◌, List, [], ◌∷◌, ◌++◌}
use Rattle.std.proofs.Common.{cond, map, length, sym, ◌∙◌, ap, ap₂, arith, ⊎_elim, div-one, div-le_self, eqb-true}
use Rattle.std.proofs.Common.{pow-suc, pow_pos, pow_mono, one-mul, add-one}
use Rattle.std.proofs.Math.Nat.{div-div-eq-div-mul, pow-succ'}
use Rattle.std.proofs.lemmas.Bool.{cases_Bool, eqb-false}
use Rattle.std.proofs.lemmas.Nat.{le-div, shr_high}
use Rattle.lms_spec.specs.Bytes.{below}
use Rattle.lms_spec.specs.Tree.{Tree, inner_hash, node, sibling, path_of, climb}
use Rattle.lms_spec.proofs.Below.{length-map-below, map-below-push}
use Rattle.lms_spec.proofs.Nodes.{node-inner}

-- one step of a climb
abbrev climb_step : List ℕ → ℕ → List ℕ → List ℕ → List ℕ
climb_step id r value other = cond (r % 2 == 0) (inner_hash id (r / 2) value other) (inner_hash id (r / 2) other value)

climb-push : (id : List ℕ) (r : ℕ) (value : List ℕ) (path : List (List ℕ)) (last : List ℕ)
    → climb id r value (path ++ last ∷ []) ≡ climb_step id (r / 2 ^ length path) (climb id r value path) last
climb-push id r value [] last = ap (λ s. climb_step id s value last) (sym (div-one r))
climb-push id r value (other ∷ path) last =
    let same : r / 2 / 2 ^ length path ≡ r / 2 ^ suc (length path)
    = div-div-eq-div-mul r 2 (2 ^ length path) ∙ ap (λ n. r / n) (sym (pow-succ' 2 (length path))) in
    climb-push id (r / 2) (climb_step id r value other) path last
    ∙ ap (λ s. climb_step id s (climb id (r / 2) (climb_step id r value other) path) last) same

climb_step-node : (key : Tree) (r : ℕ) → 2 ≤ r → r / 2 < 2 ^ key.lms.h
    → climb_step key.id r (node key r) (node key (sibling r)) ≡ node key (r / 2)
climb_step-node key r some above =
    let up = node-inner key (r / 2) (omega arith) above in
    ⊎_elim
    (λ e. let even : 2 * (r / 2) ≡ r = omega (arith, eqb-true (r % 2) 0 e) in
    rw e (sym (rw even at up)))
    (λ e. let odd : 2 * (r / 2) + 1 ≡ r = omega (arith, eqb-false (r % 2) 0 e) in
    let left : 2 * (r / 2) ≡ r - 1 = omega arith in
    rw e (sym (rw (odd, left) at up)))
    (cases_Bool (r % 2 == 0))

climb-nodes : (key : Tree) (q n : ℕ) → q < 2 ^ key.lms.h → n ≤ key.lms.h
    → climb key.id (2 ^ key.lms.h + q) (node key (2 ^ key.lms.h + q))
    (map (λ level. node key (sibling ((2 ^ key.lms.h + q) / 2 ^ level))) (below n))
    ≡ node key ((2 ^ key.lms.h + q) / 2 ^ n)
climb-nodes key q zero leaf short = ap (node key) (sym (div-one (2 ^ key.lms.h + q)))
climb-nodes key q (suc n) leaf short =
    let start = 2 ^ key.lms.h + q in
    let f : ℕ → List ℕ = λ level. node key (sibling (start / 2 ^ level)) in
    let r = start / 2 ^ n in
    let fits : 2 ^ suc n ≤ 2 ^ key.lms.h = pow_mono short in
    let two : 2 ≤ r = le-div 2 start (2 ^ n) (pow_pos n) (omega (arith, pow-suc 2 n)) in
    let low : r / 2 < 2 ^ key.lms.h = omega (arith, div-le_self start (2 ^ n)) in
    let up : r / 2 ≡ start / 2 ^ suc n = div-div-eq-div-mul start (2 ^ n) 2 ∙ ap (λ n. start / n) (sym (pow-suc 2 n)) in
    ap (climb key.id start (node key start)) (ap (λ k. map f (below k)) (sym (add-one n)) ∙ map-below-push f n)
    ∙ (climb-push key.id start (node key start) (map f (below n)) (f n)
    ∙ (ap₂ (λ level value. climb_step key.id (start / 2 ^ level) value (f n)) (length-map-below f n)
    (climb-nodes key q n leaf (omega arith))
    ∙ (climb_step-node key r two low ∙ ap (node key) up)))

pub climb-root : (key : Tree) (q : ℕ) → q < 2 ^ key.lms.h
    → climb key.id (2 ^ key.lms.h + q) (node key (2 ^ key.lms.h + q)) (path_of key q) ≡ node key 1
climb-root key q leaf =
    let top : (2 ^ key.lms.h + q) / 2 ^ key.lms.h ≡ 1 =
    ap (λ n. (n + q) / 2 ^ key.lms.h) (sym (one-mul (2 ^ key.lms.h))) ∙ shr_high 1 key.lms.h q leaf in
    climb-nodes key q key.lms.h leaf (omega arith) ∙ ap (node key) top
