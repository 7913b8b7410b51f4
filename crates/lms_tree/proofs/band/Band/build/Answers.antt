use Rattle.std.proofs.Common.{ℕ, ◌≡◌, ◌+◌, ◌-◌, ◌<◌, List, [], ◌++◌, length, get_or, sym, ◌∙◌, ap, arith, subst}
use Rattle.std.proofs.lemmas.List.{length-take-le, get_or-append-add, get_or_append_left}
use Rattle.std.proofs.lemmas.Grind.{common_steps}
use Rattle.lms_spec.specs.Tree.{node}
use Rattle.lms_tree.specs.declared.tree_key.TreeKey.{TreeKey}
use Rattle.lms_tree.specs.declared.band.Row.{Row}
use Rattle.lms_tree.specs.TreeKey.{tree_of}
use Rattle.lms_tree.specs.Held.{row_of, HoldsRow}
use Rattle.lms_tree.proofs.Rows.{lowest-ends, row-fits}
use Rattle.lms_tree.proofs.band.Band.build.Goals as goal

-- a row in its place
in-place : (key : TreeKey) (row is : Row) (before values after : List (List ℕ)) → row ≡ is → length before ≡ row.place
    → length values ≡ row.count
    → ((i : ℕ) → i < length values → get_or values i [] ≡ node (tree_of key) (row.first + i))
    → HoldsRow key is (before ++ (values ++ after))
in-place key row is before values after same start count held =
    subst (λ (row : Row). HoldsRow key row (before ++ (values ++ after))) same
    (λ i low. ap (λ n. get_or (before ++ (values ++ after)) (n + i) []) (sym start)
    ∙ (get_or-append-add before (values ++ after) i []
    ∙ (get_or_append_left values after [] i (omega (arith, count)) ∙ held i (omega (arith, count)))))

pub fill_lowest_row-requires-clause-in_tree : goal.fill_lowest_row-requires-clause-in_tree
fill_lowest_row-requires-clause-in_tree g c κs within =
    let rows = c.args.rows in
    let fits = row-fits (tree_of c.args.key).lms.h rows rows.depth c.requires.in_tree (omega arith) in
    let first = ap (λ (row : Row). row.first) c.row-lowest.ensures.row in
    let all = ap (λ (row : Row). row.place + row.count) c.row-lowest.ensures.row in
    let count = ap (λ (row : Row). row.count) c.row-lowest.ensures.row in
    omega (arith, fits, first, all, count, lowest-ends rows, c.requires.count)

pub fill_upper_rows-requires-clause-lowest : goal.fill_upper_rows-requires-clause-lowest
fill_upper_rows-requires-clause-lowest g c =
    let rows = c.args.rows in
    let row = c.row-lowest.result in
    let all = ap (λ (row : Row). row.place + row.count) c.row-lowest.ensures.row in
    let ends = lowest-ends rows in
    let same : length c.fill_lowest_row.new.row ≡ length c.args.memory.items - row.place =
    grind (arith, common_steps) in
    in-place c.args.key row (row_of rows rows.depth) _ c.fill_lowest_row.new.row _ c.row-lowest.ensures.row
    (length-take-le row.place c.as_mut_slice-all.result.now (omega (arith, all, ends, c.requires.count)))
    (omega (arith, same, all, ends, c.requires.count)) c.fill_lowest_row.ensures
