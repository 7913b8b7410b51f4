use Rattle.std.proofs.Common.{ℕ, ◌-◌, ◌^◌, ◌<◌, ◌≤◌, ◌∙◌, ap, arith}
use Rattle.lms_params.specs.LmsType.{lms_set_of}
use Rattle.lms_params.specs.declared.lms_type.LmsType.{LmsType}
use Rattle.lms_params.specs.declared.lms_type.LmsType.TheVariants.{H5, H10, H15, H20, H25}
use Rattle.lms_tree.specs.Held.{nodes_in}
use Rattle.lms_tree.specs.TreeKey.{tree_of}
use Rattle.lms_tree.specs.Bands.{ServedLeaves, kept_nodes, most_kept, most_kept_of_20, most_served}
use Rattle.lms_tree.proofs.band_tree.BandTree.kept.Goals as goal

kept-limit : (t : LmsType) (first last : ℕ) → first ≤ last → last < 2 ^ (lms_set_of t).h → last - first < most_served
    → (kept_nodes (lms_set_of t).h first last ≤ most_kept)
    × ((lms_set_of t).h ≤ 20 → kept_nodes (lms_set_of t).h first last ≤ most_kept_of_20)
kept-limit H5 first last order in_tree narrow = (omega arith, λ low. omega arith)
kept-limit H10 first last order in_tree narrow = (omega arith, λ low. omega arith)
kept-limit H15 first last order in_tree narrow = (omega arith, λ low. omega arith)
kept-limit H20 first last order in_tree narrow = (omega arith, λ low. omega arith)
kept-limit H25 first last order in_tree narrow = (omega arith, λ low. absurd (omega (arith, low)))

pub returns-clause-limit : goal.returns-clause-limit
returns-clause-limit c =
    let self = c.self.inside in
    let is = c.self.invariant in
    let upper = c.len.ensures ∙ ap nodes_in is.upper_rows in
    let lower = c.len-2.ensures ∙ ap nodes_in is.lower_rows_are in
    let kept = (kept-limit self.upper.key.lms self.first self.last is.order is.in_tree is.at_most).0 in
    omega (arith, upper, lower, kept)

pub returns-clause-shorter : goal.returns-clause-shorter
returns-clause-shorter c low =
    let self = c.self.inside in
    let is = c.self.invariant in
    let height = ap (λ (v : ServedLeaves). (tree_of v.key).lms.h) c.self.view_is in
    let upper = c.len.ensures ∙ ap nodes_in is.upper_rows in
    let lower = c.len-2.ensures ∙ ap nodes_in is.lower_rows_are in
    let kept = (kept-limit self.upper.key.lms self.first self.last is.order is.in_tree is.at_most).1
    (omega (arith, height, low)) in
    omega (arith, upper, lower, kept)
