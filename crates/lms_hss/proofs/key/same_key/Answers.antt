use Rattle.std.proofs.Common.{rules, ◌≡◌, subst, sym}
use Rattle.std.specs.Prelude.{Bool}
use Rattle.std.specs.Bool.{Decides}
use Rattle.lms_hss.proofs.SameKeys.{key-Decides}
use Rattle.lms_params.specs.contracts.lms_type.LmsTypePartialEq.TheImpl.{ghosts}
use Rattle.lms_params.specs.contracts.ots_type.OtsTypePartialEq.TheImpl.{ghosts as ots_ghosts}
use Rattle.lms_hss.proofs.key.same_key.Goals as goal

pub returns : goal.returns
returns c = subst (λ (r : Bool). Decides r (c.args.a.now ≡ c.args.b.now)) (sym c.eq.ensures)
    (key-Decides {E = ghosts.eq} {F = ots_ghosts.eq} (λ x y. search rules)
    (λ x y. search rules) c.args.a.now c.args.b.now)
