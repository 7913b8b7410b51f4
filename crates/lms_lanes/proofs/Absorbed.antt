-- A hash over a head of 22 bytes and values of 32, block by block: two values a block.
use Rattle.std.proofs.Common.{◌≡◌, ℕ, ◌+◌, ◌*◌, ◌/◌, ◌%◌, ◌-◌, ◌<◌, ◌≤◌, ◌^◌, List, [], ◌∷◌, ◌++◌, length, map, take}
use Rattle.std.proofs.Common.{drop, replicate, refl, sym, ap, ap₂, ◌∙◌, arith, subst, length-append, length-drop}
use Rattle.std.proofs.Common.{zero-add}
use Rattle.std.proofs.lemmas.List.{drop-append-le, take_all, take_at, append_assoc, append-nil, length-take-le, drop_at}
use Rattle.std.proofs.lemmas.List.{take-append-drop}
use Rattle.std.proofs.lemmas.List.Folds.{concat-append}
use Rattle.std.proofs.lemmas.List.FromFn.{map-range_with_len_more}
use Rattle.std.specs.List.{concat, range_with_len}
use Rattle.std.specs.Int.{to_be_bytes, w16, w32, w64}
use Rattle.sha2.specs.Sha256.{compress, digest_bytes, hash_after, initial_hash_256, padding, sha256}
use Rattle.sha2.proofs.Absorbing256.{hash_after-append, hash_after_next}
use Rattle.lms_lanes.specs.Chains.{HasHead}
use Rattle.lms_lanes.specs.Ends.{end_of, ends_text, padding_after_22, padding_after_54}

-- the hash value is that after so many blocks, and these words are the bytes after them
pub record IsAbsorbed (hash rest text : List ℕ) (blocks : ℕ) : Type 0 where
  pub long : length text ≡ 64 * blocks + 22
  pub taken : hash ≡ hash_after initial_hash_256 text blocks
  pub left : HasHead rest (drop (blocks * 64) text)

pub IsAbsorbed-head : (hash rest text : List ℕ) → hash ≡ initial_hash_256 → HasHead rest text
    → IsAbsorbed hash rest text 0
unfolding hash_after
IsAbsorbed-head hash rest text is begins = record { long = begins.long; taken = is; left = begins }

-- one block more
next-block : (hash text d block : List ℕ) (blocks : ℕ) → blocks * 64 ≤ length text
    → hash ≡ hash_after initial_hash_256 text blocks
    → block ≡ take 64 (drop (blocks * 64) text ++ d)
    → compress hash block ≡ hash_after initial_hash_256 (text ++ d) (blocks + 1)
next-block hash text d block blocks long is same =
    let before : hash_after initial_hash_256 (text ++ d) blocks ≡ hash =
    hash_after-append initial_hash_256 text d blocks long ∙ sym is in
    let cut : take 64 (drop (blocks * 64) (text ++ d)) ≡ block =
    ap (take 64) (drop-append-le (blocks * 64) text d long) ∙ sym same in
    sym (hash_after_next initial_hash_256 (text ++ d) blocks ∙ ap₂ compress before cut)

-- two values more
pub IsAbsorbed-pair : (hash rest text a b next left : List ℕ) (blocks : ℕ) → IsAbsorbed hash rest text blocks
    → length a ≡ 32 → length b ≡ 32
    → next ≡ compress hash ((drop (blocks * 64) text ++ a) ++ take 10 b) → HasHead left (drop 10 b)
    → IsAbsorbed next left ((text ++ a) ++ b) (blocks + 1)
IsAbsorbed-pair hash rest text a b next left blocks so_far la lb made begins =
    let t : List ℕ = drop (blocks * 64) text in
    let lt : length t ≡ 22 = so_far.left.long in
    let lab : length (a ++ b) ≡ 64 = omega (arith, length-append a b) in
    let within : blocks * 64 ≤ length text = omega (arith, so_far.long) in
    let lten : length (take 10 b) ≡ 10 = length-take-le 10 b (omega arith) in
    let parts : (x : List ℕ) → x ++ (a ++ b) ≡ ((x ++ a) ++ take 10 b) ++ drop 10 b
    = λ x. sym (append_assoc x a b) ∙ ap (λ (y : List ℕ). (x ++ a) ++ y) (sym (take-append-drop 10 b))
    ∙ sym (append_assoc (x ++ a) (take 10 b) (drop 10 b)) in
    let front : length ((t ++ a) ++ take 10 b) ≡ 64 =
    omega (arith, length-append (t ++ a) (take 10 b), length-append t a) in
    let all : length ((text ++ a) ++ take 10 b) ≡ (blocks + 1) * 64 =
    omega (arith, length-append (text ++ a) (take 10 b), length-append text a, so_far.long) in
    let block : (t ++ a) ++ take 10 b ≡ take 64 (t ++ (a ++ b)) =
    sym (ap (take 64) (parts t) ∙ take_at ((t ++ a) ++ take 10 b) (drop 10 b) 64 front) in
    let over : drop ((blocks + 1) * 64) (text ++ (a ++ b)) ≡ drop 10 b
    = ap (drop ((blocks + 1) * 64)) (parts text)
    ∙ drop_at ((text ++ a) ++ take 10 b) (drop 10 b) ((blocks + 1) * 64) all in
    subst (λ (m : List ℕ). IsAbsorbed next left m (blocks + 1)) (sym (append_assoc text a b)) (record {
      long = omega (arith, length-append text (a ++ b), so_far.long);
      taken = made ∙ next-block hash text (a ++ b) ((t ++ a) ++ take 10 b) blocks within so_far.taken block;
      left = subst (HasHead left) (sym over) begins;
    })

-- a number below 2^32 as eight bytes
long_number : (n : ℕ) → n < 2 ^ 32 → to_be_bytes w64 n ≡ 0 ∷ 0 ∷ 0 ∷ 0 ∷ to_be_bytes w32 n
long_number n fits =
    let a : n / 72057594037927936 % 256 ≡ 0 = omega (arith, fits) in
    let b : n / 281474976710656 % 256 ≡ 0 = omega (arith, fits) in
    let c : n / 1099511627776 % 256 ≡ 0 = omega (arith, fits) in
    let d : n / 4294967296 % 256 ≡ 0 = omega (arith, fits) in
    λ i. a i ∷ b i ∷ c i ∷ d i ∷ to_be_bytes w32 n

-- the padding, by its count of zeros
padding-is : (n bits zeros : ℕ) → (119 - n % 64) % 64 ≡ zeros → bits ≡ n * 8 → bits < 2 ^ 32
    → padding n ≡ 0x80 ∷ (replicate zeros 0 ++ 0 ∷ 0 ∷ 0 ∷ 0 ∷ to_be_bytes w32 bits)
padding-is n bits zeros is count fits =
    let whole : n * 8 % 2 ^ 64 ≡ bits = omega (arith, count, fits) in
    (λ i. 0x80 ∷ (replicate (is i) 0 ++ to_be_bytes w64 (whole i)))
    ∙ ap (λ (u : List ℕ). 0x80 ∷ (replicate zeros 0 ++ u)) (long_number bits fits)

-- the digest, if the padding fits into the last block
digest-end : (hash text pad last : List ℕ) (blocks : ℕ) → blocks * 64 ≤ length text
    → hash ≡ hash_after initial_hash_256 text blocks
    → length (drop (blocks * 64) text ++ pad) ≡ 64 → padding (length text) ≡ pad
    → last ≡ compress hash (drop (blocks * 64) text ++ pad)
    → digest_bytes last 8 ≡ sha256 text
unfolding sha256
digest-end hash text pad last blocks within is full same made =
    let block : drop (blocks * 64) text ++ pad ≡ take 64 (drop (blocks * 64) text ++ pad) =
    sym (take_all 64 _ (omega (arith, full))) in
    let long : length (text ++ pad) / 64 ≡ blocks + 1
    = omega (
      arith,
      length-append text pad,
      length-append (drop (blocks * 64) text) pad,
      length-drop (blocks * 64) text,
      full,
      within,
    ) in
    let whole : hash_after initial_hash_256 (text ++ padding (length text))
    (length (text ++ padding (length text)) / 64) ≡ hash_after initial_hash_256 (text ++ pad) (blocks + 1)
    = (λ i. hash_after initial_hash_256 (text ++ same i) (length (text ++ same i) / 64))
    ∙ ap (hash_after initial_hash_256 (text ++ pad)) long in
    ap (λ (h : List ℕ). digest_bytes h 8)
    (made ∙ next-block hash text pad (drop (blocks * 64) text ++ pad) blocks within is block ∙ sym whole)

-- the digest, if the last block has 22 bytes
pub IsAbsorbed-end : (hash rest text last : List ℕ) (blocks bits : ℕ) → IsAbsorbed hash rest text blocks
    → bits ≡ length text * 8 → bits < 2 ^ 32
    → last ≡ compress hash (drop (blocks * 64) text ++ padding_after_22 bits) → digest_bytes last 8 ≡ sha256 text
IsAbsorbed-end hash rest text last blocks bits so_far count fits made =
    let pad : length (padding_after_22 bits) ≡ 42 = refl in
    digest-end hash text (padding_after_22 bits) last blocks (omega (arith, so_far.long)) so_far.taken
    (omega (arith, length-append (drop (blocks * 64) text) (padding_after_22 bits), so_far.left.long, pad))
    (padding-is (length text) bits 33 (omega (arith, so_far.long)) count fits) made

-- or 22 and a value
pub IsAbsorbed-end_with : (hash rest text a last : List ℕ) (blocks bits : ℕ)
    → IsAbsorbed hash rest text blocks → length a ≡ 32
    → bits ≡ length (text ++ a) * 8 → bits < 2 ^ 32
    → last ≡ compress hash ((drop (blocks * 64) text ++ a) ++ padding_after_54 bits)
    → digest_bytes last 8 ≡ sha256 (text ++ a)
IsAbsorbed-end_with hash rest text a last blocks bits so_far la count fits made =
    let pad : length (padding_after_54 bits) ≡ 10 = refl in
    let within : blocks * 64 ≤ length text = omega (arith, so_far.long) in
    let t : List ℕ = drop (blocks * 64) text in
    let cut : drop (blocks * 64) (text ++ a) ≡ t ++ a = drop-append-le (blocks * 64) text a within in
    let all : length (text ++ a) ≡ 64 * blocks + 54 = omega (arith, length-append text a, so_far.long) in
    let full : length ((t ++ a) ++ padding_after_54 bits) ≡ 64 =
    omega (arith, length-append (t ++ a) (padding_after_54 bits), length-append t a, so_far.left.long, pad) in
    digest-end hash (text ++ a) (padding_after_54 bits) last blocks (omega (arith, all))
    (so_far.taken ∙ sym (hash_after-append initial_hash_256 text a blocks within))
    (rw cut full)
    (padding-is (length (text ++ a)) bits 1 (omega (arith, all)) count fits)
    (made ∙ ap (λ (x : List ℕ). compress hash (x ++ padding_after_54 bits)) (sym cut))

-- one end more
pub ends_text-more : (front : List ℕ) (mark first steps : ℕ) (start : List ℕ) (n : ℕ) (value end : List ℕ)
    → value ≡ start → end ≡ end_of front first steps value n
    → ends_text front mark n first steps start ++ end ≡ ends_text front mark (n + 1) first steps start
ends_text-more front mark first steps start n value end from is =
    let f = end_of front first steps start in
    let before = front ++ to_be_bytes w16 mark in
    let so_far = concat (map f (range_with_len 0 n)) in
    let next : concat (map f (range_with_len 0 (n + 1))) ≡ so_far ++ f n
    = ap concat (map-range_with_len_more f 0 n n (zero-add n))
    ∙ (concat-append (map f (range_with_len 0 n)) (f n ∷ [])
    ∙ ap (λ (rest : List ℕ). so_far ++ rest) (append-nil (f n))) in
    let same : end ≡ f n = is ∙ ap (λ (v : List ℕ). end_of front first steps v n) from in
    append_assoc before so_far end ∙ ap (λ (t : List ℕ). before ++ t) (ap (λ (t : List ℕ). so_far ++ t) same ∙ sym next)
