use Rattle.std.proofs.Common.{rules, ◌≡◌, ◌+◌, ◌-◌, ◌<◌, [], ◌∷◌, length, length-append, ap, arith, subst}
use Rattle.std.proofs.lemmas.List.{length-map}
use Rattle.lms_hss.specs.Levels.{level_of}
use Rattle.lms_hss.specs.Keys.{hss_key_of}
use Rattle.lms_hss.specs.Forests.{HoldsLevel}
use Rattle.lms_hss.proofs.Forests.{top-is}
use Rattle.lms_hss.proofs.Numbered.{levels-more, trees-of-level}
use Rattle.lms_hss.proofs.forest.Forest.by_kept.Goals as goal

pub public_key-public-requires : goal.public_key-public-requires
public_key-public-requires g c =
    top-is (hss_key_of c.args.key) c.args.start
    (c.args.start + (c.args.len - 1)) c.in_ok-trees.trees c.tree.result.now c.in_ok-trees.ensures
    (omega arith) (omega (arith, c.requires.can.some, c.requires.can.within)) c.tree.ensures

pub loop-k-preserved : goal.loop-k-preserved
loop-k-preserved g c =
    let key = hss_key_of c.args.key in
    let k = c.loop-k.k in
    let more = c.push_reserved.ensures.items in
    let before = c.loop-k.invariant in
    let there : k < length key.levels =
    omega (arith, length-map c.args.key.levels level_of, ap length c.as_slice.ensures.levels, c.loop-k-test.true) in
    let trees = trees-of-level key k c.args.start (c.args.start + (c.args.len - 1)) c.loop-k.trees there
    (omega arith) before.level in
    record {
      level = c.in_ok-below.ensures;
      kept = c.take_tree-first.ensures.levels key (k + 1) before.kept;
      upper = levels-more key k c.loop-k.upper.items c.push_reserved.new.self.items c.loop-k.trees more before.count
          before.upper trees;
      count = omega (arith, before.count, ap length more, length-append c.loop-k.upper.items (c.loop-k.trees ∷ []));
      room = omega (arith, before.room, c.push_reserved.ensures.capacity);
    }

pub invariant_of-result : goal.invariant_of-result
invariant_of-result g c =
    let last = c.args.start + (c.args.len - 1) in
    let bottom : c.loop-k.k ≡ length c.args.key.levels - 1
    = omega (arith, ap length c.as_slice.ensures.levels, c.loop-k-test.false, c.loop-k.auto.k-end) in (
      record {
        id_length = search rules;
        some_index = c.requires.can.some;
        level = subst (λ k. HoldsLevel (hss_key_of c.args.key) k c.args.start last c.loop-k.trees) bottom
            c.loop-k.invariant.level;
      },
      c.public_key-public.ensures,
      c.loop-k.invariant.upper,
      omega (arith, bottom, c.loop-k.invariant.count),
    )
