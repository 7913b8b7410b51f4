-- The nodes that a source has to know are nodes of its tree.
use Rattle.std.proofs.Common.{ℕ, suc, ◌≡◌, ◌+◌, ◌*◌, ◌/◌, ◌%◌, ◌^◌, ◌<◌, ◌≤◌, ◌==◌, inl, inr, arith, ⊎_elim}
use Rattle.std.proofs.Common.{div-le_self, eqb-true, pow-suc, pow_pos, pow_mono}
use Rattle.std.proofs.lemmas.Bool.{cases_Bool}
use Rattle.std.proofs.lemmas.Nat.{le-div}
use Rattle.lms_spec.specs.Tree.{sibling}
use Rattle.lms_tree.specs.Served.{IsNeeded}

sibling-in-tree : (h q level : ℕ) → q < 2 ^ h → level < h
    → (1 ≤ sibling ((2 ^ h + q) / 2 ^ level)) × (sibling ((2 ^ h + q) / 2 ^ level) < 2 * 2 ^ h)
sibling-in-tree h q level leaf low =
    let start = 2 ^ h + q in
    let r = start / 2 ^ level in
    let fits : 2 ^ suc level ≤ 2 ^ h = pow_mono low in
    let two : 2 ≤ r = le-div 2 start (2 ^ level) (pow_pos level) (omega (arith, pow-suc 2 level)) in
    let most : r ≤ start = div-le_self start (2 ^ level) in
    ⊎_elim
    (λ e. let even : r % 2 ≡ 0 = eqb-true (r % 2) 0 e in rw e (omega arith, omega arith))
    (λ e. rw e (omega arith, omega arith))
    (cases_Bool (r % 2 == 0))

pub needed-in-tree : (h first last r : ℕ) → last < 2 ^ h → IsNeeded h first last r → (1 ≤ r) × (r < 2 * 2 ^ h)
needed-in-tree h first last r small (inl e) = (omega (arith, e), omega (arith, e, pow_pos h))
needed-in-tree h first last r small (inr p) =
    let leaf : p.leaf < 2 ^ h = omega (arith, p.to_last) in
    let in_tree = sibling-in-tree h p.leaf p.level leaf p.below_root in
    rw p.is_sibling in_tree
