-- The bytes of a file of nodes, and what they determine.
use Rattle.std.proofs.Common.{ℕ, zero, suc, ◌-◌, ◌≤◌, ◌≡◌, ◌+◌, ◌*◌, ◌^◌, ◌<◌, List, [], ◌∷◌, ◌++◌, length}
use Rattle.std.proofs.Common.{get_or, refl, sym, ◌∙◌, ap, ap₂, arith, length-append, take-append-drop, append_assoc}
use Rattle.std.proofs.Common.{pow_mono, subst}
use Rattle.std.specs.Int.{w64, from_be_bytes}
use Rattle.std.specs.Prelude.{Option, IfNone}
use Rattle.std.specs.Prelude.Option.{Some, None}
use Rattle.std.specs.List.{flat_map, IsSplitAt}
use Rattle.std.proofs.lemmas.List.{flat_map_more}
use Rattle.std.proofs.lemmas.Nat.{from_be_bytes-to_be_bytes_8}
use Rattle.sha2.proofs.Facts256.{length-sha256}
use Rattle.lms_spec.specs.Bytes.{u32str, u64str}
use Rattle.lms_spec.specs.Parameters.{LmsSet}
use Rattle.lms_spec.specs.Hss.{HssKey, capacity_of, level as level_at}
use Rattle.lms_spec.specs.Tree.{Tree}
use Rattle.lms_spec.proofs.Hierarchies.{level-lms}
use Rattle.lms_spec.proofs.FirstNumber.{first-number-same, rest-same}
use Rattle.lms_spec.proofs.Pieces.{same-front, same-rest}
use Rattle.lms_tree.specs.Held.{nodes_in}
use Rattle.lms_tree.specs.Kept.{AreHashes, subtree_rows, upper_height, upper_rows}
use Rattle.lms_tree.specs.TreeKey.{tree_of}
use Rattle.lms_kept.specs.declared.kept_level.KeptLevel.{KeptLevel}
use Rattle.lms_hss.specs.declared.key.HssKey.{HssKey as KeyOfCode}
use Rattle.lms_hss.specs.Keys.{hss_key_of}
use Rattle.lms_kept.specs.Ways.{body_text, check_of, IsOnWay, IsWay, level_length, level_text, nodes_header, nodes_text}
use Rattle.lms_kept.specs.Ways.{nodes_version, nodes_word, Way}

-- what holds in any case
pub in-any-case : {A P : Type 0} (r : Option A) → P → IfNone r P
in-any-case None p = p
in-any-case (Some a) p = tt

-- two equal byte strings that end with as many bytes are equal before these, too
pub before-same : (a b x y : List ℕ) → length x ≡ length y → a ++ x ≡ b ++ y → a ≡ b
before-same a b x y long e =
    let whole = ap length e in
    same-front (length a) a b x y refl (omega (arith, length-append a x, length-append b y, whole, long)) e

pub after-same : (a b x y : List ℕ) → length x ≡ length y → a ++ x ≡ b ++ y → x ≡ y
after-same a b x y long e =
    let whole = ap length e in
    same-rest (length a) a b x y refl (omega (arith, length-append a x, length-append b y, whole, long)) e

pub check-length : (key : HssKey) (body : List ℕ) → length (check_of key body) ≡ 32
check-length key body = length-sha256 _

-- bytes of a check value and what is before it
pub too-short : (key : HssKey) (text : List ℕ) → length text < 32 → (body : List ℕ)
    → ¬ (text ≡ body ++ check_of key body)
too-short key text short body e =
    omega (arith, short, ap length e, length-append body (check_of key body), check-length key body)

pub cut-there : (key : HssKey) (text body check : List ℕ) (n : ℕ) → IsSplitAt text n body check → n + 32 ≡ length text
    → (other : List ℕ) → text ≡ other ++ check_of key other → check ≡ check_of key body
cut-there key text body check n is end other e =
    let whole : body ++ check ≡ other ++ check_of key other =
    ap₂ (λ x y. x ++ y) is.1 is.2 ∙ (take-append-drop n text ∙ e) in
    let long : length check ≡ length (check_of key other) = omega (arith, is.4, end, check-length key other) in
    after-same body other check (check_of key other) long whole
    ∙ ap (check_of key) (sym (before-same body other check (check_of key other) long whole))

-- the same bytes have the same body
pub body-same : (key : HssKey) (a b : List ℕ) → a ++ check_of key a ≡ b ++ check_of key b → a ≡ b
body-same key a b e =
    before-same a b (check_of key a) (check_of key b) (check-length key a ∙ sym (check-length key b)) e

-- what a file of nodes begins with
pub header-whole : (body rest : List ℕ) (word version at : ℕ)
    → body ≡ u32str word ++ (u32str version ++ (u64str at ++ rest)) → word ≡ nodes_word → version ≡ nodes_version
    → body ≡ nodes_header at ++ rest
header-whole body rest word version at parts ew ev =
    parts ∙ ap₂ (λ w v. u32str w ++ (u32str v ++ (u64str at ++ rest))) ew ev

pub header-parts : (at : ℕ) (rest : List ℕ)
    → nodes_header at ++ rest ≡ u32str nodes_word ++ (u32str nodes_version ++ (u64str at ++ rest))
header-parts at rest = refl

pub header-length : (at : ℕ) (rest : List ℕ) → length (nodes_header at ++ rest) ≡ 16 + length rest
header-length at rest = omega arith

-- two byte strings that are the same begin with the same number of eight bytes
first-eight-same : (m n : ℕ) (a b : List ℕ) → m < 2 ^ 64 → n < 2 ^ 64 → u64str m ++ a ≡ u64str n ++ b → m ≡ n
first-eight-same m n a b hm hn e =
    sym (from_be_bytes-to_be_bytes_8 m hm)
    ∙ (ap (from_be_bytes w64) (same-front 8 (u64str m) (u64str n) a b refl refl e) ∙ from_be_bytes-to_be_bytes_8 n hn)

-- after the word and the version
same-from-index : (at at' : ℕ) (rest rest' : List ℕ)
    → nodes_header at ++ rest ≡ nodes_header at' ++ rest' → u64str at ++ rest ≡ u64str at' ++ rest'
same-from-index at at' rest rest' e =
    rest-same nodes_version nodes_version _ _
    (rest-same nodes_word nodes_word _ _ (sym (header-parts at rest) ∙ (e ∙ header-parts at' rest')))

pub same-index : (at at' : ℕ) (rest rest' : List ℕ) → at < 2 ^ 64 → at' < 2 ^ 64
    → nodes_header at ++ rest ≡ nodes_header at' ++ rest' → at ≡ at'
same-index at at' rest rest' fits fits' e =
    first-eight-same at at' rest rest' fits fits' (same-from-index at at' rest rest' e)

pub same-levels : (at at' : ℕ) (rest rest' : List ℕ)
    → nodes_header at ++ rest ≡ nodes_header at' ++ rest' → rest ≡ rest'
same-levels at at' rest rest' e =
    same-rest 8 (u64str at) (u64str at') rest rest' refl refl (same-from-index at at' rest rest' e)

-- other numbers at the front are those of no such bytes
pub other-word : (body rest : List ℕ) (word : ℕ) → word < 2 ^ 32 → body ≡ u32str word ++ rest → ¬ (word ≡ nodes_word)
    → (at : ℕ) (after : List ℕ) → ¬ (body ≡ nodes_header at ++ after)
other-word body rest word fits parts differs at after e =
    differs (first-number-same word nodes_word rest _ fits (omega arith) (sym parts ∙ (e ∙ header-parts at after)))

pub other-version : (body rest : List ℕ) (word version : ℕ) → version < 2 ^ 32
    → body ≡ u32str word ++ (u32str version ++ rest) → ¬ (version ≡ nodes_version)
    → (at : ℕ) (after : List ℕ) → ¬ (body ≡ nodes_header at ++ after)
other-version body rest word version fits parts differs at after e =
    differs (first-number-same version nodes_version rest _ fits (omega arith)
    (rest-same word nodes_word _ _ (sym parts ∙ (e ∙ header-parts at after))))

-- the bytes of one more level
pub one-more-text : (levels : List KeptLevel) (level : KeptLevel) (text rest after : List ℕ)
    → text ≡ flat_map level_text levels ++ rest → rest ≡ level_text level ++ after
    → text ≡ flat_map level_text (levels ++ level ∷ []) ++ after
one-more-text levels level text rest after e e' =
    e ∙ (ap (λ x. flat_map level_text levels ++ x) e'
    ∙ (sym (append_assoc (flat_map level_text levels) (level_text level) after)
    ∙ ap (λ x. x ++ after) (flat_map_more level_text [] levels level)))

-- nodes side by side
pub length-nodes : (nodes : List (List ℕ)) → AreHashes nodes
    → length (flat_map (λ node. node) nodes) ≡ 32 * length nodes
length-nodes [] sizes = refl
length-nodes (x ∷ xs) sizes =
    let first : length x ≡ 32 = sizes 0 (omega arith) in
    let rest = length-nodes xs (λ i low. sizes (suc i) (omega (arith, low))) in
    length-append x (flat_map (λ node. node) xs) ∙ omega (arith, first, rest)

-- how many bytes a level on the way has
pub length-level : (key : HssKey) (g k : ℕ) (level : KeptLevel) → IsOnWay key g k level
    → length (level_text level) ≡ level_length key k
length-level key g k level on =
    let h : (tree_of level.tree.key).lms.h ≡ (level_at key k).lms.h =
    ap (λ (t : Tree). t.lms.h) on.tree ∙ ap (λ (l : LmsSet). l.h) (level-lms key g k) in
    let upper = length-nodes level.tree.upper on.shape.upper.sizes in
    let lower = length-nodes level.tree.lower on.shape.lower.sizes in
    let in_upper : length level.tree.upper ≡ nodes_in (upper_rows (level_at key k).lms.h) =
    on.shape.upper.count ∙ ap (λ h. nodes_in (upper_rows h)) h in
    let in_lower : length level.tree.lower ≡ nodes_in (subtree_rows (level_at key k).lms.h 0) =
    on.shape.lower.count ∙ ap (λ h. nodes_in (subtree_rows h 0)) h in
    let U = flat_map (λ node. node) level.tree.upper in
    let L = flat_map (λ node. node) level.tree.lower in
    length-append (level.signed.items ++ U) L
    ∙ omega (arith, length-append level.signed.items U, on.signed, upper, lower, in_upper, in_lower)

-- which has some bytes
pub some-bytes : (key : HssKey) (k : ℕ) → 1 ≤ level_length key k
some-bytes key k =
    let two : 2 ^ 1 ≤ 2 ^ (upper_height (level_at key k).lms.h + 1) =
    pow_mono {i = 1} {j = upper_height (level_at key k).lms.h + 1} (omega arith) in
    omega (arith, two)

-- how many bytes so many levels have, from level i on
unfoldable pub sum-from : HssKey → ℕ → ℕ → ℕ
sum-from key i zero = 0
sum-from key i (suc n) = level_length key i + sum-from key (suc i) n

-- and of one more
pub sum-more : (key : HssKey) (i n : ℕ) → sum-from key i (suc n) ≡ sum-from key i n + level_length key (i + n)
unfolding sum-from
sum-more key i zero =
    let here : i + 0 ≡ i = omega arith in
    omega (arith, ap (level_length key) here)
sum-more key i (suc n) =
    let next : suc i + n ≡ i + suc n = omega arith in
    omega (arith, sum-more key (suc i) n, ap (level_length key) next)

-- levels from level i on, on the way of an index
abbrev pub AreFrom : HssKey → ℕ → ℕ → List KeptLevel → Type 0
AreFrom key g i levels = (k : ℕ) (other : KeptLevel) → k < length levels → IsOnWay key g (i + k) (get_or levels k other)

pub first-on : (key : HssKey) (g i : ℕ) (level : KeptLevel) (levels : List KeptLevel) → AreFrom key g i (level ∷ levels)
    → IsOnWay key g i level
first-on key g i level levels each = subst (λ n. IsOnWay key g n level) (omega arith) (each 0 level (omega arith))

pub rest-on : (key : HssKey) (g i : ℕ) (level : KeptLevel) (levels : List KeptLevel) → AreFrom key g i (level ∷ levels)
    → AreFrom key g (suc i) levels
rest-on key g i level levels each k other low =
    subst (λ n. IsOnWay key g n (get_or levels k other)) (omega arith) (each (suc k) other (omega (arith, low)))

pub from-top : (key : HssKey) (g : ℕ) (levels : List KeptLevel)
    → ((k : ℕ) (other : KeptLevel) → k < length levels → IsOnWay key g k (get_or levels k other))
    → AreFrom key g 0 levels
from-top key g levels each k other low =
    subst (λ n. IsOnWay key g n (get_or levels k other)) (omega arith) (each k other low)

pub length-levels : (key : HssKey) (g i : ℕ) (levels : List KeptLevel) → AreFrom key g i levels
    → length (flat_map level_text levels) ≡ sum-from key i (length levels)
unfolding sum-from
length-levels key g i [] each = refl
length-levels key g i (level ∷ levels) each =
    let rest = length-levels key g (suc i) levels (rest-on key g i level levels each) in
    length-append (level_text level) (flat_map level_text levels)
    ∙ omega (arith, length-level key g i level (first-on key g i level levels each), rest)

-- as many levels as there are bytes for are all that they have
same-count : (key : HssKey) (i m n r most : ℕ) → sum-from key i m + r ≡ sum-from key i n
    → (m < most → r < level_length key (i + m)) → n ≤ most
    → (m ≡ n) × (r ≡ 0)
unfolding sum-from
same-count key i zero zero r most e ends within = (refl, omega (arith, e))
same-count key i zero (suc n) r most e ends within =
    let here : i + 0 ≡ i = omega arith in
    let few : r < level_length key i = omega (arith, ends (omega (arith, within)), ap (level_length key) here) in
    absurd (omega (arith, few, e))
same-count key i (suc m) zero r most e ends within = absurd (omega (arith, e, some-bytes key i))
same-count key i (suc m) (suc n) r most e ends within =
    let next : i + suc m ≡ suc i + m = omega arith in
    let below = same-count key (suc i) m n r (most - 1) (omega (arith, e))
    (λ low. subst (λ k. r < level_length key k) next (ends (omega (arith, low)))) (omega (arith, within)) in
    (ap suc below.0, below.1)

-- what bytes with the right check value say, where they are those of a way
pub read_back : (key : KeyOfCode) (way : Way) (text rest : List ℕ) (at : ℕ) → capacity_of (hss_key_of key) ≤ 2 ^ 60
    → IsWay way → way.key ≡ key
    → text ≡ (nodes_header at ++ rest) ++ check_of (hss_key_of key) (nodes_header at ++ rest) → at < 2 ^ 64
    → text ≡ nodes_text way
    → (at ≡ way.at) × (rest ≡ flat_map level_text way.levels)
read_back key way text rest at limit is same whole fits e =
    let other = flat_map level_text way.levels in
    let ends : text ≡ (nodes_header way.at ++ other) ++ check_of (hss_key_of key) (nodes_header way.at ++ other)
    = e ∙ ap (λ (key : KeyOfCode). body_text way ++ check_of (hss_key_of key) (body_text way)) same in
    let bodies = body-same (hss_key_of key) (nodes_header at ++ rest) (nodes_header way.at ++ other)
    (sym whole ∙ ends) in
    let low : way.at < capacity_of (hss_key_of key) =
    subst (λ (key : KeyOfCode). way.at < capacity_of (hss_key_of key)) same is.within in
    (same-index at way.at rest other fits (omega (arith, low, limit)) bodies, same-levels at way.at rest other bodies)

-- of a way no level is missing, and nothing is left over
pub none-left : (key : KeyOfCode) (way : Way) (at : ℕ) (levels : List KeptLevel) (text rest : List ℕ) → IsWay way
    → way.key ≡ key → at ≡ way.at
    → text ≡ flat_map level_text way.levels → text ≡ flat_map level_text levels ++ rest
    → ((k : ℕ) (other : KeptLevel) → k < length levels → IsOnWay (hss_key_of key) at k (get_or levels k other))
    → (length levels < length key.levels → length rest < level_length (hss_key_of key) (length levels))
    → (length levels ≡ length way.levels) × (length rest ≡ 0)
none-left key way at levels text rest is same here whole cut each ends =
    let mine = length-levels (hss_key_of key) at 0 levels (from-top (hss_key_of key) at levels each) in
    let its = length-levels (hss_key_of way.key) way.at 0 way.levels
    (from-top (hss_key_of way.key) way.at way.levels is.each) in
    let its_key : sum-from (hss_key_of way.key) 0 (length way.levels) ≡ sum-from (hss_key_of key) 0 (length way.levels)
    = ap (λ (key : KeyOfCode). sum-from (hss_key_of key) 0 (length way.levels)) same in
    let long = ap length (sym cut ∙ whole) in
    let within : length way.levels ≤ length key.levels =
    subst (λ (key : KeyOfCode). length way.levels ≤ length key.levels) same is.at_most in
    same-count (hss_key_of key) 0 (length levels) (length way.levels) (length rest) (length key.levels)
    (omega (arith, mine, its, its_key, long, length-append (flat_map level_text levels) rest))
    (λ low. subst (λ n. length rest < level_length (hss_key_of key) n) (omega arith) (ends low)) within
