use Rattle.std.proofs.Common.{rules, arith, ◌≡◌, length, map, sym, ◌∙◌, ap, refl, All, IsSome}
use Rattle.std.specs.Vec.Iter.{into_iter_items}
use Rattle.std.specs.List.{filter_map}
use Rattle.lms_batch.specs.Jobs.{texts_of}
use Rattle.lms_batch.specs.Batches.{batch_of}
use Rattle.lms_batch.proofs.Slots.{HoldsOnly-whole, filter_map-end}
use Rattle.lms_batch.proofs.collector.Collector.finish.Goals as goal

pub returns : goal.returns
returns c =
    let slots = c.self.inside.slots.items in
    let all : All IsSome slots = rw (← c.as_slice.ensures.value) (search rules) in
    let none : length (into_iter_items c.loop-slot.slot-iterator) ≡ 0 =
    let steps = c.in-None.ensures.steps in omega (arith, c.loop-slot.invariant) in
    let done : filter_map (λ s. s) slots ≡ c.loop-slot.signatures.items =
    ap (filter_map (λ s. s)) (sym c.into_iter-slot-iterator.ensures.into_iter_gives.0)
    ∙ filter_map-end _ _ (into_iter_items c.loop-slot.slot-iterator) c.loop-slot.invariant.0 none in
    let whole = HoldsOnly-whole (batch_of c.self.inside.key c.self.inside.start (texts_of c.self.inside.jobs.now)) slots
    c.self.invariant.holds all in
    rw (← c.self.view_is) (refl, ap (map (λ v. v.items)) (sym done) ∙ whole.0, whole.1, c.self.invariant.accepted)
