use Rattle.std.proofs.Common.{sym, ◌∙◌}
use Rattle.std.proofs.lemmas.Bool.{false≢true}
use Rattle.lms_signature_commands.proofs.verify.verdict_of.Goals as goal

-- src/verify.rt:87:1
pub returns-else-finish : goal.returns-else-finish
returns-else-finish c public signature message taken accepted =
    false≢true
    (sym c.if-finish.false ∙ (c.finish.ensures public signature message taken).1 accepted)
