use Rattle.std.proofs.Common.{◌++◌, length, sym, ◌∙◌, ap, ap₂}
use Rattle.std.proofs.lemmas.List.{length-map}
use Rattle.lms_spec.specs.Bytes.{u32str}
use Rattle.lms_spec.specs.Tree.{public_key_of}
use Rattle.lms_spec.specs.Profile.{hss_public_key}
use Rattle.lms_hss.specs.Levels.{level_of}
use Rattle.lms_hss.proofs.key.HssKey.public_key_over.Goals as goal

pub returns : goal.returns
unfolding hss_public_key
returns c =
    let levels = ap length c.as_slice-levels.ensures.levels ∙ sym (length-map c.args.self.now.levels level_of) in
    c.public_key_bytes.ensures
    ∙ ap₂ (λ n text. u32str n ++ text) levels (c.public_bytes.ensures tt ∙ ap public_key_of c.requires)
