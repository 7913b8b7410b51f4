use Rattle.std.proofs.Common.{[], get_or}
use Rattle.lms_lanes.proofs.ChainText.{digest_of_words}
use Rattle.lms_lanes.proofs.Lanes.{◌beside◌, no_more}
use Rattle.lms_lanes.proofs.bytes.value_words.Goals as goal

pub returns-clause-lanes : goal.returns-clause-lanes
returns-clause-lanes c = λ k lt.
    let w0 = c.words_at.ensures in
    let w1 = c.words_at-2.ensures in
    let w2 = c.words_at-3.ensures in
    let w3 = c.words_at-4.ensures in
    let w4 = c.words_at-5.ensures in
    let w5 = c.words_at-6.ensures in
    let w6 = c.words_at-7.ensures in
    let w7 = c.words_at-8.ensures in
    let words = w0.words beside w1.words beside w2.words beside w3.words beside w4.words beside w5.words
    beside w6.words beside w7.words beside no_more in
    digest_of_words (get_or c.args.values.now k []) _ (words.lane k lt) (w0.long k lt) (w0.bytes k lt) (w1.bytes k lt)
    (w2.bytes k lt) (w3.bytes k lt) (w4.bytes k lt) (w5.bytes k lt) (w6.bytes k lt) (w7.bytes k lt)
