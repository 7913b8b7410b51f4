use Rattle.std.proofs.Common.{ℕ, zero, suc, ◌≡◌, ◌+◌, ◌-◌, refl, sym, ◌∙◌, ap, arith}
use Rattle.lms_params.specs.declared.lms_type.LmsType.TheVariants.{H5}
use Rattle.lms_params.specs.declared.ots_type.OtsType.TheVariants.{W1}
use Rattle.lms_spec.specs.Parameters.{lms_signature_length, lms_public_key_length}
use Rattle.lms_spec.specs.Hss.{HssKey, Level, level}
use Rattle.lms_hss.specs.Keys.{hss_key_of}
use Rattle.lms_hss.proofs.Sets.{sets-of}
use Rattle.lms_kept.specs.Ways.{signed_length}
use Rattle.lms_kept.proofs.levels.signed_len.Goals as goal

-- what is signed of a level below the top
below-top : (key : HssKey) (k : ℕ) → ¬ (k ≡ 0)
    → signed_length key k ≡ lms_signature_length (level key (k - 1)).lms (level key (k - 1)).ots + lms_public_key_length
below-top key zero low = absurd (low refl)
below-top key (suc k) low =
    let above : k ≡ suc k - 1 = omega arith in
    ap (λ n. lms_signature_length (level key n).lms (level key n).ots + lms_public_key_length) above

pub returns : goal.returns
returns c =
    let whole = c.args.key.now in
    let k = c.args.k in
    let sets = sets-of whole c.as_slice.result.now (k - 1) (H5, W1) c.as_slice.ensures.levels
    (omega (arith, c.requires, c.if-k-eq0.false)) in
    ap (λ n. n + lms_public_key_length)
    (c.lms_sig_len.ensures ∙ ap (λ (l : Level). lms_signature_length l.lms l.ots) sets)
    ∙ sym (below-top (hss_key_of whole) k c.if-k-eq0.false)
