-- The numbers in bytes.
use Rattle.std.proofs.Common.{ℕ, ◌≡◌, ◌^◌, ◌<◌, List, ◌++◌, length, take, drop, refl, ◌∙◌, ap, arith}
use Rattle.std.proofs.lemmas.List.{take_at, drop_at}
use Rattle.lms_spec.specs.Bytes.{u32str, u64str, number_of}
use Rattle.lms_spec.proofs.Numbers.{number_of-u32}
use Rattle.lms_image.specs.Image.{number_at}

pub number_of-u64 : (n : ℕ) → n < 2 ^ 64 → number_of (u64str n) ≡ n
unfolding number_of
number_of-u64 n small = omega arith

-- the bytes after a front
pub part-at : (k n : ℕ) (text front part rest : List ℕ) → length front ≡ k → length part ≡ n
    → text ≡ front ++ (part ++ rest)
    → take n (drop k text) ≡ part
part-at k n text front part rest before long e =
    ap (λ t. take n (drop k t)) e ∙ (ap (take n) (drop_at front (part ++ rest) k before) ∙ take_at part rest n long)

pub u32-at : (k n : ℕ) (text front rest : List ℕ) → length front ≡ k → n < 2 ^ 32 → text ≡ front ++ (u32str n ++ rest)
    → number_at k 4 text ≡ n
u32-at k n text front rest before small e =
    ap number_of (part-at k 4 text front (u32str n) rest before refl e) ∙ number_of-u32 n small

pub u64-at : (k n : ℕ) (text front rest : List ℕ) → length front ≡ k → n < 2 ^ 64 → text ≡ front ++ (u64str n ++ rest)
    → number_at k 8 text ≡ n
u64-at k n text front rest before small e =
    ap number_of (part-at k 8 text front (u64str n) rest before refl e) ∙ number_of-u64 n small
