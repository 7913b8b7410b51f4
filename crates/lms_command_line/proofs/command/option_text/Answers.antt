use Rattle.std.proofs.Common.{◌∙◌, Some, ap, sym}
use Rattle.std.specs.Option.{option_map}
use Rattle.std.proofs.lemmas.Result.{IfOk-weaker}
use Rattle.clap.specs.Words.{found_of}
use Rattle.clap.proofs.WalkLemmas.{first_value-rows}
use Rattle.lms_command_line.proofs.command.option_text.Goals as goal

pub returns : goal.returns
returns c =
    IfOk-weaker c.from_str.result _ _
    (λ text is. sym (first_value-rows (found_of c.args.options.now) c.args.name.now) ∙ sym c.get_str.ensures
    ∙ ap (option_map (λ s. s.now)) c.unwrap.ensures ∙ ap (λ t. Some t) (sym is))
    c.from_str.ensures.ok
