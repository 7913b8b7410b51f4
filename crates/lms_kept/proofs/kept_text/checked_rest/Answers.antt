use Rattle.std.proofs.Common.{ℕ, ◌≡◌, ◌^◌, ◌<◌, List, ◌++◌, sym, ◌∙◌}
use Rattle.std.specs.Prelude.{Option, IfNone}
use Rattle.std.specs.Prelude.Option.{Some, None}
use Rattle.lms_spec.specs.Hss.{HssKey}
use Rattle.lms_hss.specs.Keys.{hss_key_of}
use Rattle.lms_kept.specs.Ways.{check_of, nodes_header}
use Rattle.lms_kept.proofs.KeptTexts.{body-same}
use Rattle.lms_kept.proofs.kept_text.checked_rest.Goals as goal

-- what is before the check value begins with no header
no-header : {A : Type 0} (r : Option A) (key : HssKey) (text body : List ℕ) → text ≡ body ++ check_of key body
    → IfNone r ((at : ℕ) (rest : List ℕ) → at < 2 ^ 64 → ¬ (body ≡ nodes_header at ++ rest))
    → IfNone r ((at : ℕ) (rest : List ℕ) → at < 2 ^ 64
    → ¬ (text ≡ (nodes_header at ++ rest) ++ check_of key (nodes_header at ++ rest)))
no-header None key text body whole none =
    λ at rest fits e. none at rest fits (body-same key body (nodes_header at ++ rest) (sym whole ∙ e))
no-header (Some a) key text body whole none = tt

pub returns-clause-none : goal.returns-clause-none
returns-clause-none c =
    no-header c.split_header.result (hss_key_of c.args.key.now) c.args.text.now c.in_ok-body.body.now
    c.in_ok-body.ensures.some c.split_header.ensures.none
