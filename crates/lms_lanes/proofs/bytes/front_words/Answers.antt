use Rattle.lms_lanes.proofs.Lanes.{◌beside◌, no_more}
use Rattle.lms_lanes.proofs.bytes.front_words.Goals as goal

pub returns-clause-lanes : goal.returns-clause-lanes
returns-clause-lanes c = λ k lt. record {
  long = c.words_at.ensures.long k lt;
  same = (c.words_at.ensures.words beside c.words_at-2.ensures.words beside c.words_at-3.ensures.words
      beside c.words_at-4.ensures.words beside c.words_at-5.ensures.words beside no_more).lane k lt;
}
