use Rattle.std.proofs.Common.{ap, subst, sym, ◌∙◌, length, ◌≡◌}
use Rattle.lms_hss.specs.Levels.{IsAdmitted}
use Rattle.lms_key_commands.proofs.keygen.key_of.Goals as goal

pub returns-clause-taken : goal.returns-clause-taken
returns-clause-taken c =
    let seed_length : length c.args.seed ≡ 32 = search in
    let id_length : length c.args.id ≡ 16 = search in
    record {
      admitted = subst IsAdmitted (sym c.new.ensures.levels) c.as_slice-sets.ensures.admitted;
      seed_length = ap length c.new.ensures.seed ∙ seed_length;
      id_length = ap length c.new.ensures.id ∙ id_length;
    }
