-- What makes a signature one by the nodes in some bytes.
use Rattle.std.proofs.Common.{ℕ, ◌≡◌, ◌∙◌, ap, List, Option, subst}
use Rattle.std.specs.Prelude.{IfNone, IfSome}
use Rattle.lms_spec.specs.Hss.{HssAccepts}
use Rattle.lms_spec.specs.Profile.{hss_public_key, hss_signature}
use Rattle.lms_hss.specs.Keys.{hss_key_of}
use Rattle.lms_hss.specs.declared.key.HssKey.{HssKey}
use Rattle.lms_kept.specs.Signed.{AlreadyServe, AreNodesOf, AreTreesFor, IsNotRight, IsSignedAlong, IsSignedByText}
use Rattle.lms_kept.specs.Ways.{public_of, Way}
use Rattle.lms_kept.specs.declared.kept_level.KeptLevel.{KeptLevel}

-- a signature that is accepted, by trees that are made from these nodes
pub signed_by_text : (text : Option (List ℕ)) (key : HssKey) (index : ℕ) (random message signature : List ℕ)
    (kept nodes : Option Way) (trees : Way)
    → AreNodesOf text key nodes → IfNone nodes (IsNotRight text key) → AreTreesFor nodes key index trees
    → IsSignedAlong trees index random message signature
    → ((other : KeptLevel) → HssAccepts (public_of trees other) message signature)
    → IfSome kept (λ it. it ≡ trees) → IfSome kept (λ _. ¬ AlreadyServe nodes index)
    → IfNone kept (AlreadyServe nodes index)
    → IsSignedByText text key index random message signature kept
signed_by_text text key index random message signature kept nodes trees of_text anew are is checked kept_are changed
    unchanged = record {
      nodes = nodes;
      of_text = of_text;
      anew = anew;
      signed = record {
        trees = trees;
        are = are;
        along = is.along;
        checked = checked;
        signature_is = λ right. is.signature_is (are.right right)
            ∙ ap (λ (key : HssKey). hss_signature (hss_key_of key) index random message) are.of_key;
        accepted = λ right. subst (λ (key : HssKey). HssAccepts (hss_public_key (hss_key_of key)) message signature)
            are.of_key (is.accepted (are.right right));
      };
      kept_are = kept_are;
      changed = changed;
      unchanged = unchanged;
    }
