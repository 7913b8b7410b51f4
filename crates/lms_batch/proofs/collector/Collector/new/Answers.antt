use Rattle.std.proofs.Common.{arith, rules, ◌≡◌, None, length, replicate, ◌∙◌, ap, refl}
use Rattle.std.proofs.lemmas.List.{length-map}
use Rattle.lms_batch.specs.Jobs.{text_of, texts_of}
use Rattle.lms_batch.specs.Batches.{contents}
use Rattle.lms_spec.specs.Profile.{hss_public_key}
use Rattle.lms_hss.specs.Keys.{hss_key_of}
use Rattle.lms_batch.proofs.Slots.{AreAccepted-none, length-batch_of, HoldsOnly-none, map-replicate}
use Rattle.lms_batch.proofs.collector.Collector.new.Goals as goal

empty : (c : goal.After-loop) → contents c.loop.slots.items ≡ replicate (length (texts_of c.args.jobs.now)) None
empty c =
    let n : c.loop.index ≡ length (texts_of c.args.jobs.now) = omega (arith, length-map c.args.jobs.now text_of) in
    ap contents c.loop.invariant.0 ∙ map-replicate _ c.loop.index None ∙ ap (λ k. replicate k None) n

pub invariant_of-result : goal.invariant_of-result
invariant_of-result c = record {
  holds = rw (empty c) (HoldsOnly-none _ _ (length-batch_of c.args.key c.args.start (texts_of c.args.jobs.now)));
  accepted = rw (empty c) (AreAccepted-none (hss_public_key (hss_key_of c.args.key)) (texts_of c.args.jobs.now)
      (length (texts_of c.args.jobs.now)));
  one_each = omega (arith, length-map c.args.jobs.now text_of);
  none_listed = search rules;
  fits = search rules;
}

pub returns : goal.returns
returns c = rw (empty c) refl
