use Rattle.std.proofs.Common.{◌≡◌, ◌++◌, map, ◌∙◌, ap, ap₂, append_assoc}
use Rattle.sha2.specs.Sha256.{sha256}
use Rattle.lms_image.specs.declared.version.Version.TheVariants.{Second}
use Rattle.lms_spec.specs.Bytes.{u64str}
use Rattle.lms_image.specs.Image.{head_text, level_text, body_text, sealed, fields_of, image_of}
use Rattle.lms_image.proofs.image.encode_image.Goals as goal

pub returns : goal.returns
unfolding image_of sealed body_text
returns c =
    let image = c.args.image.now in
    let key = image.key in
    let body = body_text (fields_of Second key image.counter image.openings image.burnt) in
    let front = head_text Second (map level_text key.levels) ++ key.seed ++ key.i ++ u64str image.counter in
    let counted : c.append_u64.new.self ≡ front
    = c.append_u64.ensures
    ∙ ap (λ x. x ++ u64str image.counter)
    (c.append-2.ensures
    ∙ ap (λ x. x ++ key.i) (c.append.ensures ∙ ap (λ x. x ++ key.seed) c.encode_head-text.ensures.text)) in
    let before : c.append_u64-3.new.self ≡ body
    = c.append_u64-3.ensures
    ∙ (ap (λ x. x ++ u64str image.burnt) (c.append_u64-2.ensures ∙ ap (λ x. x ++ u64str image.openings) counted)
    ∙ append_assoc front (u64str image.openings) (u64str image.burnt)) in
    c.append-3.ensures
    ∙ ap₂ (λ x y. x ++ y) before (c.digest-digest.ensures ∙ ap sha256 (c.as_slice.ensures.bytes ∙ before))
