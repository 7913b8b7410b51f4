use Rattle.std.proofs.Common.{◌≡◌, ◌≢◌, ◌^◌, ◌≤◌, ◌<◌, ◌++◌, length, rules, sym, ◌∙◌, ap, arith}
use Rattle.std.specs.List.{flat_map}
use Rattle.std.proofs.lemmas.Bool.{eqb-true}
use Rattle.std.proofs.lemmas.List.{append-nil, nil_from_length}
use Rattle.lms_spec.specs.Hss.{capacity_of}
use Rattle.lms_hss.specs.declared.key.HssKey.{HssKey}
use Rattle.lms_hss.specs.Keys.{hss_key_of}
use Rattle.lms_kept.specs.Ways.{body_text, check_of, level_text, nodes_header}
use Rattle.lms_kept.proofs.KeptTexts.{none-left, read_back}
use Rattle.lms_kept.proofs.kept_trees.KeptTrees.read.Goals as goal

pub returns-clause-text : goal.returns-clause-text
returns-clause-text c =
    let key = hss_key_of c.args.key in
    let at = c.in-Some.at in
    let all = flat_map level_text c.in_ok-levels.levels.items in
    let none = nil_from_length c.in_ok-levels.rest.now
    (eqb-true (length c.in_ok-levels.rest.now) 0 (sym c.if-not-is_empty.ensures)) in
    let whole : c.in-Some.rest.now ≡ all =
    c.in_ok-levels.ensures.text ∙ (ap (λ rest. all ++ rest) none ∙ append-nil all) in
    c.in-Some.ensures.some ∙ ap (λ rest. (nodes_header at ++ rest) ++ check_of key (nodes_header at ++ rest)) whole

pub returns-in_default-clause-none : goal.returns-in_default-clause-none
returns-in_default-clause-none c way is same e =
    let low : way.at < capacity_of (hss_key_of c.args.key) = rw (sym same) is.within in
    c.in_default.ensures.none way.at (flat_map level_text way.levels)
    (omega (arith, low, c.capacity-capacity.ensures.capacity, c.capacity-capacity.ensures.limit))
    (e ∙ ap (λ (key : HssKey). body_text way ++ check_of (hss_key_of key) (body_text way)) same)

pub returns-then-is_empty-clause-none : goal.returns-then-is_empty-clause-none
returns-then-is_empty-clause-none c way is same e =
    let limit : capacity_of (hss_key_of c.args.key) ≤ 2 ^ 60 =
    omega (arith, c.capacity-capacity.ensures.capacity, c.capacity-capacity.ensures.limit) in
    let says = read_back c.args.key way c.args.text.now c.in-Some.rest.now c.in-Some.at limit is same
    c.in-Some.ensures.some c.in-Some.ensures.fits e in
    let count = none-left c.args.key way c.in-Some.at c.in_ok-levels.levels.items c.in-Some.rest.now
    c.in_ok-levels.rest.now is same says.0 says.1 c.in_ok-levels.ensures.text
    c.in_ok-levels.ensures.each c.in_ok-levels.ensures.ends in
    let empty : length c.in_ok-levels.levels.items ≡ 0 = search rules in
    omega (arith, count.0, empty, is.some)

pub returns-then-not-is_empty-clause-none : goal.returns-then-not-is_empty-clause-none
returns-then-not-is_empty-clause-none c way is same e =
    let limit : capacity_of (hss_key_of c.args.key) ≤ 2 ^ 60 =
    omega (arith, c.capacity-capacity.ensures.capacity, c.capacity-capacity.ensures.limit) in
    let says = read_back c.args.key way c.args.text.now c.in-Some.rest.now c.in-Some.at limit is same
    c.in-Some.ensures.some c.in-Some.ensures.fits e in
    let count = none-left c.args.key way c.in-Some.at c.in_ok-levels.levels.items c.in-Some.rest.now
    c.in_ok-levels.rest.now is same says.0 says.1 c.in_ok-levels.ensures.text
    c.in_ok-levels.ensures.each c.in_ok-levels.ensures.ends in
    let left : length c.in_ok-levels.rest.now ≢ 0 = search rules in
    left count.1
