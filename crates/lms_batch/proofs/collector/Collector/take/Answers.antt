use Rattle.std.proofs.Common.{rules, arith, ◌≡◌, ◌+◌, length, Some, sym, ◌∙◌, refl, subst}
use Rattle.std.specs.Option.{option_map}
use Rattle.std.specs.List.{slice_get}
use Rattle.std.proofs.lemmas.List.{map-set}
use Rattle.std.proofs.lemmas.Option.{slice_get_read}
use Rattle.lms_spec.specs.Profile.{hss_public_key}
use Rattle.lms_hss.specs.Keys.{hss_key_of}
use Rattle.lms_batch.specs.Jobs.{texts_of, signature_of}
use Rattle.lms_batch.specs.Takes.{Belongs}
use Rattle.lms_batch.specs.Batches.{Collected}
use Rattle.lms_batch.proofs.Slots.{AreAccepted-put, HoldsOnly-put, place-within, slice_get-contents}
use Rattle.lms_batch.proofs.Slots.{slice_get-contents-some}
use Rattle.lms_batch.proofs.collector.Collector.take.Goals as goal

pub index_mut-requires : goal.index_mut-requires
index_mut-requires c =
    let b = subst (λ (batch : Collected). Belongs batch c.args.receipt) (sym c.self.view_is) (search rules) in
    omega (arith, place-within _ c.args.receipt _ b c.self.invariant.one_each)

pub returns-then-is_some-clause-refused : goal.returns-then-is_some-clause-refused
returns-then-is_some-clause-refused c =
    let b = subst (λ (batch : Collected). Belongs batch c.args.receipt) (sym c.self.view_is) (search rules) in
    let slots = c.self.inside.slots.items in
    let k = c.place-place.result in
    let within = place-within _ c.args.receipt _ b c.self.invariant.one_each in
    let slot = slice_get_read slots (length slots) k c.index.result.now refl (omega (arith, within)) c.index.ensures in
    let filled = slice_get-contents-some slots k c.index.result.now slot (sym c.is_some.ensures ∙ c.if-is_some.true) in
    ((search rules, rw (← c.self.view_is, ← c.place-place.ensures) filled), refl, refl)

pub invariant_of-self : goal.invariant_of-self
invariant_of-self c =
    let b = subst (λ (batch : Collected). Belongs batch c.args.receipt) (sym c.self.view_is) (search rules) in
    let k = c.place-place.result in
    let job : slice_get (texts_of c.self.inside.jobs.now) k ≡ Some c.args.receipt.job =
    rw c.place-place.ensures b.job in
    let signed : c.into_signature.result.items
    ≡ signature_of c.self.inside.key (c.self.inside.start + k) c.args.receipt.job =
    c.into_signature.ensures.value ∙ c.into_signature.ensures.signed.text
    ∙ rw (b.key, b.index, c.place-place.ensures) refl in
    record {
      holds = HoldsOnly-put c.self.inside.key c.self.inside.start
          (texts_of c.self.inside.jobs.now) c.self.inside.slots.items k
          c.args.receipt.job c.into_signature.result c.self.invariant.holds job signed;
      accepted = AreAccepted-put (hss_public_key (hss_key_of c.self.inside.key))
          (texts_of c.self.inside.jobs.now) c.self.inside.slots.items k
          c.args.receipt.job c.into_signature.result c.self.invariant.accepted job
          (rw (c.into_signature.ensures.value, ← b.key) c.into_signature.ensures.signed.accepted);
      one_each = search rules;
      none_listed = search rules;
      fits = search rules;
    }

pub returns-clause-taken : goal.returns-clause-taken
returns-clause-taken c =
    let b = subst (λ (batch : Collected). Belongs batch c.args.receipt) (sym c.self.view_is) (search rules) in
    let slots = c.self.inside.slots.items in
    let k = c.place-place.result in
    let within = place-within _ c.args.receipt _ b c.self.invariant.one_each in
    let slot = slice_get_read slots (length slots) k c.index.result.now refl
    (omega (arith, within)) c.index.ensures in (
      search rules,
      rw (← c.self.view_is, ← c.place-place.ensures)
          (slice_get-contents slots k c.index.result.now slot (sym c.is_some.ensures ∙ c.if-is_some.false)),
      rw (
        ← c.self.view_is,
        map-set (option_map (λ v. v.items)) slots k (Some c.into_signature.result),
        c.into_signature.ensures.value,
        c.place-place.ensures,
      ) refl,
    )
