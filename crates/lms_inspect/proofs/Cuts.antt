-- Bytes are cut in one way.
use Rattle.std.proofs.Common.{◌≡◌, ◌∙◌, ◌+◌, ◌*◌, ◌^◌, ◌<◌, ℕ, List, [], ◌∷◌, ◌++◌, length, ap, refl, sym, subst}
use Rattle.std.proofs.Common.{arith, length-append, ap₂, take, drop, take-append-drop, ◌≤◌}
use Rattle.std.proofs.lemmas.List.{length-take-le}
use Rattle.std.proofs.lemmas.Option.{same_Some}
use Rattle.lms_spec.specs.Bytes.{u32str}
use Rattle.lms_spec.specs.Parameters.{LmsSet, OtsSet, lms_set, ots_set}
use Rattle.lms_spec.proofs.FirstNumber.{first-number-same, rest-same}
use Rattle.lms_spec.proofs.Pieces.{same-front, same-rest}
use Rattle.lms_spec.proofs.Parts.{key-parts-same}
use Rattle.lms_spec.proofs.Sets.{small-lms_code, small-ots_code}
use Rattle.lms_params.specs.LmsType.{lms_set_of}
use Rattle.lms_params.specs.OtsType.{ots_set_of}
use Rattle.lms_params.specs.declared.lms_type.LmsType.{LmsType}
use Rattle.lms_params.specs.declared.ots_type.OtsType.{OtsType}
use Rattle.lms_params.proofs.KnownSets.{known_lms_set, known_ots_set}
use Rattle.lms_verification.specs.Parts.{IsLmsPublicKey}
use Rattle.lms_verification.proofs.LmsParts.{length-lms_key}
use Rattle.lms_inspect.specs.Levels.{BeginsCoded, BeginsSigned}
use Rattle.lms_inspect.specs.PublicKeys.{IsKey}
use Rattle.lms_inspect.specs.Signatures.{IsKeyed, SaysThrough}
use Rattle.lms_inspect.specs.declared.level.Level.{Level}
use Rattle.lms_inspect.specs.declared.public_key.KeyParts.{KeyParts}
use Rattle.lms_inspect.specs.declared.signature.KeyedLevel.{KeyedLevel}

-- ---- a typecode and so many bytes

pub code-same : (c d m n : ℕ) (text r s : List ℕ) → c < 2 ^ 32 → d < 2 ^ 32 → BeginsCoded c m text r
    → BeginsCoded d n text s → c ≡ d
code-same c d m n text r s hc hd a b =
    first-number-same c d (a.body ++ r) (b.body ++ s) hc hd (sym a.parts ∙ b.parts)

pub coded-once : (c d m n : ℕ) (text r s : List ℕ) → m ≡ n → BeginsCoded c m text r → BeginsCoded d n text s → r ≡ s
coded-once c d m n text r s same a b =
    same-rest n a.body b.body r s (a.size ∙ same) b.size
    (rest-same c d (a.body ++ r) (b.body ++ s) (sym a.parts ∙ b.parts))

-- what a number at the front and what follows it say of such bytes
pub coded-front : (c d n : ℕ) (text front rest : List ℕ) → c < 2 ^ 32 → d < 2 ^ 32 → text ≡ u32str d ++ front
    → (is : BeginsCoded c n text rest) → (d ≡ c) × (front ≡ is.body ++ rest) × (n ≤ length front)
coded-front c d n text front rest hc hd e is =
    let both : u32str d ++ front ≡ u32str c ++ (is.body ++ rest) = sym e ∙ is.parts in
    let later : front ≡ is.body ++ rest = rest-same d c front (is.body ++ rest) both in (
      first-number-same d c front (is.body ++ rest) hd hc both,
      later,
      omega (arith, ap length later, length-append is.body rest, is.size),
    )

-- a front that is cut after so many bytes
pub coded-cut : (c d n : ℕ) (text front body rest : List ℕ) → c ≡ d → text ≡ u32str d ++ front → n ≤ length front
    → body ≡ take n front → rest ≡ drop n front → BeginsCoded c n text rest
coded-cut c d n text front body rest same e long eb er = record {
  body = body;
  size = ap length eb ∙ length-take-le n front long;
  parts = e ∙ ap₂ (λ k f. u32str k ++ f) (sym same) (sym (take-append-drop n front) ∙ ap₂ (λ x y. x ++ y) (sym eb) (sym er));
}

pub small-ots : (t : OtsType) → (ots_set_of t).code < 2 ^ 32
small-ots t = small-ots_code (ots_set_of t) (known_ots_set t)

pub small-lms : (m : LmsType) → (lms_set_of m).code < 2 ^ 32
small-lms m = small-lms_code (lms_set_of m) (known_lms_set m)

-- a typecode has one set
pub ots-by-code : (s t : OtsType) → (ots_set_of s).code ≡ (ots_set_of t).code → ots_set_of s ≡ ots_set_of t
ots-by-code s t e = same_Some (ots_set_of s) (ots_set_of t) (sym (known_ots_set s) ∙ ap ots_set e ∙ known_ots_set t)

pub lms-by-code : (s t : LmsType) → (lms_set_of s).code ≡ (lms_set_of t).code → lms_set_of s ≡ lms_set_of t
lms-by-code s t e = same_Some (lms_set_of s) (lms_set_of t) (sym (known_lms_set s) ∙ ap lms_set e ∙ known_lms_set t)

abbrev pub BeginsOneTime : OtsType → List ℕ → List ℕ → Type 0
BeginsOneTime t text rest = BeginsCoded (ots_set_of t).code (32 * ((ots_set_of t).p + 1)) text rest

abbrev pub BeginsPath : LmsType → List ℕ → List ℕ → Type 0
BeginsPath m text rest = BeginsCoded (lms_set_of m).code (32 * (lms_set_of m).h) text rest

pub one-time-once : (s t : OtsType) (text q r : List ℕ) → BeginsOneTime s text q → BeginsOneTime t text r
    → (ots_set_of s ≡ ots_set_of t) × (q ≡ r)
one-time-once s t text q r a b =
    let same = ots-by-code s t (code-same _ _ _ _ text q r (small-ots s) (small-ots t) a b) in
    (same, coded-once _ _ _ _ text q r (ap (λ (x : OtsSet). 32 * (x.p + 1)) same) a b)

pub path-once : (m n : LmsType) (text q r : List ℕ) → BeginsPath m text q → BeginsPath n text r
    → (lms_set_of m ≡ lms_set_of n) × (q ≡ r)
path-once m n text q r a b =
    let same = lms-by-code m n (code-same _ _ _ _ text q r (small-lms m) (small-lms n) a b) in
    (same, coded-once _ _ _ _ text q r (ap (λ (x : LmsSet). 32 * x.h) same) a b)

-- ---- a signature

-- what follows the leaf, and what follows the one-time signature, of one that a front begins
pub after-leaf : (leaf : ℕ) (level : Level) (text front rest : List ℕ) → text ≡ u32str leaf ++ front
    → (is : BeginsSigned level text rest) → BeginsOneTime level.ots front is.after_one_time
after-leaf leaf level text front rest e is =
    subst (λ (t : List ℕ). BeginsOneTime level.ots t is.after_one_time)
    (rest-same level.leaf leaf is.after_leaf front (sym is.parts ∙ e)) is.one_time

pub after-one-time : (leaf : ℕ) (ots : OtsType) (level : Level) (text front later rest : List ℕ)
    → text ≡ u32str leaf ++ front → BeginsOneTime ots front later → BeginsSigned level text rest
    → (ots_set_of ots ≡ ots_set_of level.ots) × BeginsPath level.lms later rest
after-one-time leaf ots level text front later rest e cut is =
    let same = one-time-once ots level.ots front later is.after_one_time cut (after-leaf leaf level text front rest e is)
    in (same.0, subst (λ (t : List ℕ). BeginsPath level.lms t rest) (sym same.1) is.path)

pub level-once : (a b : Level) (text q r : List ℕ) → BeginsSigned a text q → BeginsSigned b text r
    → (lms_set_of a.lms ≡ lms_set_of b.lms) × (ots_set_of a.ots ≡ ots_set_of b.ots) × (q ≡ r)
level-once a b text q r first second =
    let later = after-one-time a.leaf a.ots b text first.after_leaf first.after_one_time r first.parts first.one_time
    second in
    let paths = path-once a.lms b.lms first.after_one_time q r first.path later.1 in
    (paths.0, later.0, paths.1)

-- ---- a key and its signature

-- what follows the key, and that the key is one
pub after-key : (keyed : KeyedLevel) (text key front rest : List ℕ) → length key ≡ 56 → text ≡ key ++ front
    → (is : IsKeyed keyed text rest)
    → IsLmsPublicKey (lms_set_of keyed.level.lms) (ots_set_of keyed.level.ots) keyed.id is.root key
    × BeginsSigned keyed.level front rest
after-key keyed text key front rest long e is =
    let long' = length-lms_key _ _ _ _ is.key is.is_key in
    let both = sym is.parts ∙ e in
    let same = same-front 56 is.key key is.after_key front long' long both in
    let later = same-rest 56 is.key key is.after_key front long' long both in (
      subst (λ (k : List ℕ).
          IsLmsPublicKey (lms_set_of keyed.level.lms) (ots_set_of keyed.level.ots) keyed.id is.root k) same is.is_key,
      subst (λ (t : List ℕ). BeginsSigned keyed.level t rest) later is.signed,
    )

-- a key's sets, and those of the signature after it, are those of the level that both say
pub keyed-codes : (parts : KeyParts) (level : Level) (keyed : KeyedLevel) (text key front after rest : List ℕ)
    → IsKey parts key → BeginsSigned level front after → text ≡ key ++ front → IsKeyed keyed text rest
    → ((lms_set_of level.lms).code ≡ (lms_set_of parts.lms).code)
    × ((ots_set_of level.ots).code ≡ (ots_set_of parts.ots).code)
keyed-codes parts level keyed text key front after rest is_key signed e is =
    let long = length-lms_key _ _ _ _ key is_key.1 in
    let cut = after-key keyed text key front rest long e is in
    let below = level-once level keyed.level front after rest signed cut.1 in
    let a = cut.0 in
    let b = is_key.1 in
    let above = key-parts-same (lms_set_of keyed.level.lms) (lms_set_of parts.lms) (ots_set_of keyed.level.ots)
    (ots_set_of parts.ots) keyed.id parts.id is.root is_key.0 a.lms_known b.lms_known a.ots_known b.ots_known
    a.id_length b.id_length (sym a.parts ∙ b.parts) in (
      ap (λ (m : LmsSet). m.code) (below.0 ∙ above.0),
      ap (λ (t : OtsSet). t.code) (below.1 ∙ above.1),
    )

-- a key and the signature after it, which has the key's typecodes
pub keyed-of : (parts : KeyParts) (level : Level) (text key front rest : List ℕ) → IsKey parts key
    → BeginsSigned level front rest → text ≡ key ++ front
    → (lms_set_of level.lms).code ≡ (lms_set_of parts.lms).code
    → (ots_set_of level.ots).code ≡ (ots_set_of parts.ots).code
    → IsKeyed (record { id = parts.id; level = level }) text rest
keyed-of parts level text key front rest is_key signed e lms ots =
    let m = lms-by-code level.lms parts.lms lms in
    let t = ots-by-code level.ots parts.ots ots in
    record {
      key = key;
      after_key = front;
      root = is_key.0;
      parts = e;
      is_key = subst (λ (s : LmsSet). IsLmsPublicKey s (ots_set_of level.ots) parts.id is_key.0 key) (sym m)
          (subst (λ (s : OtsSet). IsLmsPublicKey (lms_set_of parts.lms) s parts.id is_key.0 key) (sym t) is_key.1);
      signed = signed;
    }

-- it is longer than the key
pub keyed-long : (keyed : KeyedLevel) (text rest : List ℕ) → IsKeyed keyed text rest → 56 ≤ length text
keyed-long keyed text rest is =
    let long = length-lms_key _ _ _ _ is.key is.is_key in
    omega (arith, long, ap length is.parts, length-append is.key is.after_key)

pub keyed-once : (a b : KeyedLevel) (text q r : List ℕ) → IsKeyed a text q → IsKeyed b text r → q ≡ r
keyed-once a b text q r first second =
    let long = length-lms_key _ _ _ _ first.key first.is_key in
    let later = after-key b text first.key first.after_key r long first.parts second in
    (level-once a.level b.level first.after_key q r first.signed later.1).2

-- ---- several

-- one more
pub through-push : (xs : List KeyedLevel) (y : KeyedLevel) (text mid rest : List ℕ) → SaysThrough xs text mid
    → IsKeyed y mid rest → SaysThrough (xs ++ y ∷ []) text rest
through-push [] y text mid rest same is = (rest, subst (λ (t : List ℕ). IsKeyed y t rest) (sym same) is, refl)
through-push (x ∷ xs) y text mid rest (after, first, more) is = (after, first, through-push xs y after mid rest more is)

-- of more than were gone through, the next one
pub through-next : (xs ys : List KeyedLevel) (text mid rest : List ℕ) → SaysThrough xs text mid
    → SaysThrough ys text rest → length xs < length ys
    → (y : KeyedLevel) × (after : List ℕ) × IsKeyed y mid after
through-next [] [] text mid rest a b lt = absurd (omega (arith, lt))
through-next [] (y ∷ ys) text mid rest same (after, is, more) lt =
    (y, after, subst (λ (t : List ℕ). IsKeyed y t after) same is)
through-next (x ∷ xs) [] text mid rest a b lt = absurd (omega (arith, lt))
through-next (x ∷ xs) (y ∷ ys) text mid rest (after, is, more) (after', is', more') lt =
    through-next xs ys after mid rest more
    (subst (λ (t : List ℕ). SaysThrough ys t rest) (sym (keyed-once x y text after after' is is')) more')
    (omega (arith, lt))

-- of as many, the end
pub through-end : (xs ys : List KeyedLevel) (text mid rest : List ℕ) → SaysThrough xs text mid
    → SaysThrough ys text rest → length xs ≡ length ys → mid ≡ rest
through-end [] [] text mid rest a b same = sym a ∙ b
through-end [] (y ∷ ys) text mid rest a b same = absurd (omega (arith, same))
through-end (x ∷ xs) [] text mid rest a b same = absurd (omega (arith, same))
through-end (x ∷ xs) (y ∷ ys) text mid rest (after, is, more) (after', is', more') same =
    through-end xs ys after mid rest more
    (subst (λ (t : List ℕ). SaysThrough ys t rest) (sym (keyed-once x y text after after' is is')) more')
    (omega (arith, same))
