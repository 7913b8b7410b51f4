use Rattle.std.proofs.Common.{◌<◌, length, refl, subst}
use Rattle.lms_inspect.specs.Keeping.{IsKept, longest}
use Rattle.lms_inspect.specs.declared.keeper.Keeping.{Keeping}
use Rattle.lms_inspect.proofs.Long.{long_is_nothing}
use Rattle.lms_inspect.proofs.keeper.Keeper.found.Goals as goal

pub returns-in-TooLong : goal.returns-in-TooLong
returns-in-TooLong c bytes has =
    let long : longest < length bytes =
    subst (λ (keeping : Keeping). IsKept keeping c.args.self.now.kept.items bytes) c.in-TooLong.is has in
    (long_is_nothing bytes long, λ witness. refl)
