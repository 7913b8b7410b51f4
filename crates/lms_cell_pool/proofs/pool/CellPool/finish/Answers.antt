use Rattle.std.proofs.Common.{rules, ◌≡◌, ◌-◌, ◌≤◌, ◌<◌, List, [], ◌∷◌, ◌++◌, length, All, sym, ap, ◌∙◌, subst, arith}
use Rattle.std.proofs.Common.{append_assoc}
use Rattle.crossbeam_utils.specs.Seq.{cell_view}
use Rattle.lms_pool.specs.declared.finish.Tally.{Tally}
use Rattle.lms_pool.specs.States.{PoolState, SeatState}
use Rattle.lms_pool.proofs.Wholes.{Sums, Whole, came, ended, hands_length, sums}
use Rattle.lms_cell_pool.specs.Rule.{View, hand_in, hands_in}
use Rattle.lms_cell_pool.proofs.Steps.{finds}
use Rattle.lms_cell_pool.proofs.Views.{hands_over, merges}
use Rattle.lms_cell_pool.proofs.Ends.{ending, own_view}
use Rattle.lms_cell_pool.proofs.pool.CellPool.finish.Given.{Over}
use Rattle.lms_cell_pool.proofs.pool.CellPool.finish.Goals as goal
use Rattle.lms_cell_pool.proofs.pool.CellPool.finish.Goals.{After-load_as-found}

pub loop-next-init : goal.loop-next-init
loop-next-init g c =
    let last = c.last.inside in
    let is = came own_view c.args.self last.pool.value last.number last.stopped last.token.table_id
    (hand_in (cell_view last.token)).log
    (cell_view last.token) c.in-Some.last c.args.seats.items c.pop.new.self.items []
    c.last.invariant.of_pool c.last.invariant.alone c.last.view_is c.requires c.in-Some.ensures.items in (
      c.in-Some.last ∷ [],
      c.in-Some.ensures.items,
      is.table_is ∙ sym (ap (λ (p : PoolState). p.table) c.self.view_is),
      is.alone,
      omega (arith, is.stops, is.few, ap (λ (p : PoolState). p.len) c.self.view_is, c.self.invariant.lease.at_most),
      omega arith,
    )

pub split_pass-whole-requires : goal.split_pass-whole-requires
split_pass-whole-requires g c =
    let i = c.loop-next.invariant in
    let next = c.next.inside in
    let front = c.pop-in-loop-next.new.self.items in
    let placed = i.1 ∙ ap (λ (seats : List SeatState). seats ++ i.0) c.in-Some-pop.ensures.items
    ∙ append_assoc front (c.in-Some-pop.next ∷ []) i.0 in
    let is = came own_view c.args.self next.pool.value next.number next.stopped next.token.table_id
    (hand_in (cell_view next.token)).log (cell_view next.token) c.in-Some-pop.next c.args.seats.items front i.0
    c.next.invariant.of_pool c.next.invariant.alone c.next.view_is c.requires placed in (
      search rules,
      (
        search rules,
        (
          is.table_is ∙ sym (ap (λ (p : PoolState). p.table) c.self.view_is),
          hands_over next.token.id (cell_view next.token) _ is.alone,
        ),
      ),
    )

pub join_pass-requires : goal.join_pass-requires
join_pass-requires g c =
    let i = c.loop-next.invariant in
    let all = c.loop-next.all in
    let next = c.next.inside in
    let front = c.pop-in-loop-next.new.self.items in
    let placed = i.1 ∙ ap (λ (seats : List SeatState). seats ++ i.0) c.in-Some-pop.ensures.items
    ∙ append_assoc front (c.in-Some-pop.next ∷ []) i.0 in
    let is = came own_view c.args.self next.pool.value next.number next.stopped next.token.table_id
    (hand_in (cell_view next.token)).log (cell_view next.token) c.in-Some-pop.next c.args.seats.items front i.0
    c.next.invariant.of_pool c.next.invariant.alone c.next.view_is c.requires placed in
    let whole = c.split_pass-whole.ensures.given in
    let some_hand : 0 < length (hands_in (cell_view all)) =
    omega (arith, ap (λ (v : View). length (hands_in v)) i.3, hands_length i.0, i.5) in (
      search rules,
      (
        search rules,
        (
          (i.2, whole.0 ∙ (is.table_is ∙ sym (ap (λ (p : PoolState). p.table) c.self.view_is)) ∙ sym i.2, whole.2),
          merges all.id (cell_view all) c.split_pass-whole.result.id
              (cell_view c.split_pass-whole.result) _ i.3 some_hand,
        ),
      ),
    )

pub load_as-found-requires : goal.load_as-found-requires
load_as-found-requires g c =
    let all = c.loop-next.all in
    (search rules, (search rules, (c.loop-next.invariant.2, finds all.id (cell_view all))))

-- what is known after the last load: the call log of all seats, and the numbers that it makes
tallied : (g : Over) (c : After-load_as-found g)
    → (w : Whole c.args.self.len c.load_as-found.result.taken c.loop-next.invariant.0)
    × Sums c.args.self.len c.load_as-found.result.taken c.loop-next.stopped w.log
tallied g c =
    let pool = c.args.self in
    let i = c.loop-next.invariant in
    let here = c.loop-next.seats in
    let none : length here.items ≡ 0 = omega (arith, c.in_default-pop.ensures.cases, here.ok.0) in
    let many : pool.seats ≤ length (here.items ++ i.0) = omega (
      arith,
      c.if-present-self.false,
      c.len-present.ensures,
      c.args.seats.ok.0,
      ap length i.1,
      ap (λ (p : PoolState). p.seats) c.self.view_is,
    ) in
    let some : 1 ≤ pool.seats = omega (arith, c.self.invariant.some, ap (λ (p : PoolState). p.seats) c.self.view_is) in
    let w = ending pool c.load_as-found.result (cell_view c.loop-next.all)
    (cell_view c.load_as-found.new.pass) here.items i.0 c.load_as-found.ensures.rule i.3 many none some
    (subst (All (λ (s : SeatState). s.pool ≡ pool)) i.1 c.requires) in
    let short : pool.len ≤ 1024 =
    omega (arith, c.self.invariant.lease.at_most, ap (λ (p : PoolState). p.len) c.self.view_is) in
    (w, sums pool.len c.load_as-found.result.taken c.loop-next.stopped i.0 w short i.4)

pub overflow_sub-result-2 : goal.overflow_sub-result-2
overflow_sub-result-2 g c =
    let n = (tallied g (goal.at.overflow_sub-result-2 g c).After-load_as-found).1 in
    omega (arith, n.fits, c.saturating_sub-left.ensures, ap (λ (p : PoolState). p.len) c.self.view_is)

pub returns : goal.returns
returns g c =
    let w = tallied g (goal.at.returns g c).After-load_as-found in
    let here = c.loop-next.seats in
    let left = c.saturating_sub-left.result in
    let tally : Tally = record {
      claimed = c.self.inside.len - left - c.loop-next.stopped;
      stopped = c.loop-next.stopped;
      left = left;
    } in
    let len = ap (λ (p : PoolState). p.len) c.self.view_is in
    ended c.args.self c.args.seats here.items c.loop-next.invariant.0 c.load_as-found.result.taken tally
    c.loop-next.invariant.1 (omega (arith, c.in_default-pop.ensures.cases, here.ok.0)) (omega (
      arith,
      c.if-present-self.false,
      c.len-present.ensures,
      ap (λ (p : PoolState). p.seats) c.self.view_is,
    )) w.0 w.1 (omega (arith, c.saturating_sub-left.ensures, len)) (omega (arith, len))
