-- What follows from a key's levels being admitted.
use Rattle.std.proofs.Common.{ℕ, ◌≡◌, ◌^◌, ◌≤◌, List, length, All, get_or, arith}
use Rattle.std.proofs.Math.Pow.{pow_mono}
use Rattle.std.proofs.lemmas.List.{length-map}
use Rattle.std.proofs.lemmas.List.Elements.{All-map}
use Rattle.lms_spec.specs.Hss.{HasKnownSets, height_of, capacity_of, HssAccepts}
use Rattle.lms_spec.specs.Profile.{hss_public_key, hss_signature}
use Rattle.lms_spec.proofs.Hierarchies.{hss-accepts}
use Rattle.lms_params.proofs.KnownSets.{known_lms_set, known_ots_set}
use Rattle.lms_hss.specs.declared.key.HssKey.{HssKey}
use Rattle.lms_hss.specs.Levels.{level_of, levels_of, most_height, IsAdmitted}
use Rattle.lms_hss.specs.Keys.{hss_key_of}

-- how many indices it has at most
pub capacity-limit : (key : HssKey) → IsAdmitted key.levels → capacity_of (hss_key_of key) ≤ 2 ^ most_height
capacity-limit key admitted = pow_mono {i = height_of (levels_of key.levels)} {j = most_height} admitted.not_too_tall

-- its signatures are accepted
pub key-accepts : (key : HssKey) (g : ℕ) (randomizer message : List ℕ) → IsAdmitted key.levels → length key.i ≡ 16
    → length randomizer ≡ 32
    → HssAccepts (hss_public_key (hss_key_of key)) message (hss_signature (hss_key_of key) g randomizer message)
key-accepts key g randomizer message admitted sixteen long =
    let count = length-map key.levels level_of in
    let known : All HasKnownSets (levels_of key.levels)
    = All-map HasKnownSets level_of key.levels
    (λ i other h. let sets = get_or key.levels i other in (known_lms_set sets.0, known_ots_set sets.1)) in
    hss-accepts (hss_key_of key) g randomizer message (omega (arith, count, admitted.some_level))
    (omega (arith, count, admitted.eight_at_most)) known sixteen long
