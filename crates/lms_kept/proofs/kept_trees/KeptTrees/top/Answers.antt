use Rattle.std.proofs.Common.{◌≡◌, ◌∙◌, length, pow_pos, rules, sym}
use Rattle.lms_spec.specs.Hss.{height_of}
use Rattle.lms_hss.specs.Keys.{hss_key_of}
use Rattle.lms_kept.specs.Ways.{IsGenuine, IsWay}
use Rattle.lms_kept.proofs.Plans.{only-one, top-genuine, top-on, top-way}
use Rattle.lms_kept.proofs.kept_trees.KeptTrees.top.Given.{Over}
use Rattle.lms_kept.proofs.kept_trees.KeptTrees.top.Goals as goal
use Rattle.lms_kept.proofs.kept_trees.KeptTrees.top.Goals.{After-push_reserved}

pub top-requires-clause-one_leaf : goal.top-requires-clause-one_leaf
top-requires-clause-one_leaf g c κs within = c.in_ok-planned.ensures.first ∙ sym c.in_ok-planned.ensures.last

is-way : (g : Over) (c : After-push_reserved g)
    → IsWay (record { key = c.args.key; at = 0; levels = c.push_reserved.new.self.items })
is-way g c =
    let long : length c.args.key.i ≡ 16 = search rules in
    let made = c.top.ensures in
    top-way c.args.key 0 c.in_ok-levels.levels.items c.push_reserved.new.self.items c.top.result long
    c.as_slice.ensures.admitted
    (pow_pos (height_of (hss_key_of c.args.key).levels)) c.in_ok-levels.ensures.items c.push_reserved.ensures.items
    (top-on (hss_key_of c.args.key) 0 c.in_ok-planned.planned c.top.result c.in_ok-planned.ensures made.key made.served
    made.shape made.signed)

pub invariant_of-result : goal.invariant_of-result
invariant_of-result g c = is-way g (goal.at.invariant_of-result g c).After-push_reserved

pub returns-clause-way : goal.returns-clause-way
returns-clause-way g c = is-way g (goal.at.returns-clause-way g c).After-push_reserved

pub returns-clause-genuine : goal.returns-clause-genuine
returns-clause-genuine g c =
    let made = c.top.ensures in
    only-one (IsGenuine (hss_key_of c.args.key) 0) c.in_ok-levels.levels.items
    c.push_reserved.new.self.items c.top.result
    c.in_ok-levels.ensures.items c.push_reserved.ensures.items
    (top-genuine (hss_key_of c.args.key) 0 c.in_ok-planned.planned c.top.result c.in_ok-planned.ensures
    made.nodes made.signed)
