-- What is accepted under an HSS public key, by the number of levels at its front.
use Rattle.std.proofs.Common.{ℕ, ◌≡◌, ◌-◌, ◌^◌, ◌<◌, ◌≤◌, ◌↔◌, List, ◌++◌, sym, ◌∙◌, ap, arith, subst}
use Rattle.lms_spec.specs.Bytes.{u32str}
use Rattle.lms_spec.specs.Hss.{AcceptsThrough, HssAccepts}
use Rattle.lms_spec.proofs.FirstNumber.{first-number-same, rest-same}

-- the numbers at the front of a key and of a signature leave what is accepted through the levels
pub accepts-by-numbers : (levels signed_keys : ℕ) (public_key top_key message signature signatures : List ℕ)
    → levels < 2 ^ 32 → 1 ≤ levels → levels ≤ 8 → signed_keys ≡ levels - 1
    → public_key ≡ u32str levels ++ top_key → signature ≡ u32str signed_keys ++ signatures
    → (HssAccepts public_key message signature ↔ AcceptsThrough signed_keys top_key message signatures)
accepts-by-numbers levels signed_keys public_key top_key message signature signatures fits some most one_less ek es = (
  λ a.
      let front : u32str a.levels ++ a.top_key ≡ u32str levels ++ top_key = sym a.key_parts ∙ ek in
      let most_of_a = a.eight_at_most in
      let number : a.levels ≡ levels = first-number-same a.levels levels a.top_key top_key (omega arith) fits front in
      let top : a.top_key ≡ top_key = rest-same a.levels levels a.top_key top_key front in
      let others : a.signatures ≡ signatures =
      rest-same (a.levels - 1) signed_keys a.signatures signatures (sym a.signature_parts ∙ es) in
      let count : a.levels - 1 ≡ signed_keys = ap (λ n. n - 1) number ∙ sym one_less in
      rw (count, top, others) at a.accepted,
  λ accepted. record {
    levels = levels;
    top_key = top_key;
    signatures = signatures;
    some_level = some;
    eight_at_most = most;
    key_parts = ek;
    signature_parts = es ∙ ap (λ n. u32str n ++ signatures) one_less;
    accepted = subst (λ n. AcceptsThrough n top_key message signatures) one_less accepted;
  },
)
