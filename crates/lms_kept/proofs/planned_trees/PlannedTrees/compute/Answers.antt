use Rattle.std.proofs.Common.{◌≡◌, ◌∙◌, length, rules, sym}
use Rattle.lms_hss.specs.Keys.{hss_key_of}
use Rattle.lms_kept.specs.Ways.{IsGenuine}
use Rattle.lms_kept.proofs.Plans.{only-one, top-genuine, top-on, top-way}
use Rattle.lms_kept.proofs.planned_trees.PlannedTrees.compute.Goals as goal

pub top-requires-clause-one_leaf : goal.top-requires-clause-one_leaf
top-requires-clause-one_leaf g c κs within = c.requires.top.first ∙ sym c.requires.top.last

pub completed-requires-clause-way : goal.completed-requires-clause-way
completed-requires-clause-way g c κs within =
    let planned = c.args.self in
    let long : length planned.key.i ≡ 16 = search rules in
    let made = c.top.ensures in
    top-way planned.key planned.at planned.levels.items c.push_reserved.new.self.items c.top.result long
    c.requires.admitted c.requires.within c.requires.none c.push_reserved.ensures.items
    (top-on (hss_key_of planned.key) planned.at planned.top c.top.result c.requires.top made.key made.served
    made.shape made.signed)

pub returns-clause-genuine : goal.returns-clause-genuine
returns-clause-genuine g c =
    let planned = c.args.self in
    let made = c.top.ensures in
    c.completed.ensures.genuine
    (only-one (IsGenuine (hss_key_of planned.key) planned.at) planned.levels.items
    c.push_reserved.new.self.items c.top.result
    c.requires.none c.push_reserved.ensures.items
    (top-genuine (hss_key_of planned.key) planned.at planned.top c.top.result c.requires.top
    made.nodes made.signed))
