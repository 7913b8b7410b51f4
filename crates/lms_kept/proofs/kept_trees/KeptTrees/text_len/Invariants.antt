use Rattle.std.proofs.Common.{◌≡◌, ◌+◌, ◌*◌, ◌^◌, ◌≤◌}
use Rattle.lms_hss.specs.Keys.{hss_key_of}
use Rattle.lms_kept.proofs.KeptTexts.{sum-from}
use Rattle.lms_kept.proofs.kept_trees.KeptTrees.text_len.Given as goal

abbrev pub invariant-loop-k : goal.invariant-loop-k
invariant-loop-k l = (l.length ≡ 48 + sum-from (hss_key_of l.self.key) 0 l.k) × (l.length ≤ 48 + 2 ^ 22 * l.k)
