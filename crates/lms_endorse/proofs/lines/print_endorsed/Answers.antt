use Rattle.std.proofs.Common.{codes}
use Rattle.std.proofs.lemmas.Result.{on_err_weaker}
use Rattle.lms_blocks.proofs.Fronts.{AppendsFront-after, AppendsFront-more, OnErr-always}
use Rattle.lms_texts.specs.Descriptions.{number_line}
use Rattle.lms_endorse.specs.Endorsing.{signer_line}
use Rattle.lms_endorse.proofs.lines.print_endorsed.Goals as goal

pub returns-in_err-print_index-clause-broken : goal.returns-in_err-print_index-clause-broken
returns-in_err-print_index-clause-broken g c =
    OnErr-always _ (AppendsFront-more _ _ (number_line (codes "index") c.args.index) (signer_line c.args.signer.now)
    c.in_err-print_index.ensures.broken)

pub returns-clause-broken : goal.returns-clause-broken
returns-clause-broken g c =
    on_err_weaker c.print_signer.result
    (λ last. AppendsFront-after _ _ _ (number_line (codes "index") c.args.index) (signer_line c.args.signer.now)
    c.in_ok-print_index.ensures.printed last) c.print_signer.ensures.broken
