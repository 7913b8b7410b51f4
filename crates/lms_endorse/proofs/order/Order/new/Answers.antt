use Rattle.std.proofs.Common.{inl, refl}
use Rattle.lms_endorse.proofs.order.Order.new.Goals as goal

pub returns-in_default-clause-none : goal.returns-in_default-clause-none
returns-in_default-clause-none c = inl (refl, λ (levels, lms_key, is). c.in_default.ensures.none levels lms_key is)
