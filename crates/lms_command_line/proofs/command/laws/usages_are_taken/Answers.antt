use Rattle.std.proofs.Common.{refl}
use Rattle.clap.proofs.OnLiterals.{clap_on_literals}
use Rattle.lms_command_line.proofs.command.laws.usages_are_taken.Goals as goal

also : {A B : Type 0} → A → B → A × B
also a b = (a, b)

-- a row for each subcommand
pub returns : goal.returns
unfolding clap_on_literals
returns c =
    also (λ levels seed id state public program. (refl, (_, refl, refl)))
    (also (λ state program. (refl, (_, refl, refl)))
    (also (λ file program. (refl, (_, refl, refl)))
    (also (λ state public program. (refl, (_, refl, refl)))
    (also (λ state random message out program. (refl, (_, refl, refl)))
    (also (λ state random signer joined out program. (refl, (_, refl, refl)))
    (also (λ state workers program. (refl, (_, refl, refl)))
    (also (λ state workers program. (refl, (_, refl, refl)))
    (also (λ state on counter program. (refl, (_, refl, refl)))
    (also (λ state counter program. (refl, (_, refl, refl)))
    (also (λ public message signature program. (refl, (_, refl, refl)))
    (also (λ public endorsement signer signature out program. (refl, (_, refl, refl)))
    (also (λ public signer out program. (refl, (_, refl, refl))) tt))))))))))))
