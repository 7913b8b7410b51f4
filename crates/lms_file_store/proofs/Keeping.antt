-- Bytes that a store knows are ones that a crash could leave.
use Rattle.std.proofs.Common.{◌≡◌, ◌∙◌, ℕ, ◌<◌, ◌-◌, List, [], ◌∷◌, ◌++◌, length, reverse, take, All, Contains, Bool}
use Rattle.std.proofs.Common.{true, false, Option, Some, None, ◌⊎◌, inl, inr, if◌then◌else◌, refl, sym, ap, subst}
use Rattle.std.proofs.Common.{arith}
use Rattle.std.proofs.lemmas.List.{length-reverse, get_or-reverse}
use Rattle.std.proofs.lemmas.List.Elements.{All-cons, All-take, All-get_or, All-from_get_or, All-weaker, All-contains}
use Rattle.std.proofs.lemmas.List.Elements.{All-contains_itself, Contains-append_left, Contains-push}
use Rattle.lms_book.specs.Stops.{Texts, IsAmong, or_else}
use Rattle.lms_file_store.specs.declared.record.FileWrite.{FileWrite}
use Rattle.lms_file_store.specs.FileStores.{Knows, Leaves, kept_of, last_certain, left_after, most_tried, texts_now}
use Rattle.lms_file_store.specs.FileStores.{tried_since}

-- the byte strings tried since the certain one, and then that one; any where none is certain
abbrev pub left_of : Option (List ℕ) → List (List ℕ) → Texts
left_of None tried = None
left_of (Some certain) tried = Some (tried ++ certain ∷ [])

left_tried : (certain : Option (List ℕ)) (tried : List (List ℕ)) (text : List ℕ)
    → or_else text (left_of certain tried) ≡ left_of certain (text ∷ tried)
left_tried None tried text = refl
left_tried (Some certain) tried text = refl

left_once_more : (stored : Bool) (text : List ℕ) (certain : Option (List ℕ)) (tried : List (List ℕ)) (before : Texts)
    → before ≡ left_of certain tried
    → left_after stored text before
    ≡ left_of (if stored then Some text else certain) (if stored then [] else text ∷ tried)
left_once_more true text certain tried before is = refl
left_once_more false text certain tried before is = ap (or_else text) is ∙ left_tried certain tried text

-- a crash leaves the last certain bytes, or ones that were tried since
pub texts_left : (writes : List FileWrite) → texts_now writes ≡ left_of (last_certain writes) (tried_since writes)
texts_left [] = refl
texts_left (newest ∷ older) = left_once_more newest.stored newest.text (last_certain older) (tried_since older)
    (texts_now older) (texts_left older)

all_reversed : {X : Type 0} (P : X → Type 0) (d : X) (xs : List X) → All P xs → All P (reverse xs)
all_reversed P d xs all = All-from_get_or P (reverse xs) d (λ i lt.
    let within : i < length xs = omega (arith, lt, length-reverse xs) in
    let there : length xs - 1 - i < length xs = omega (arith, within) in
    subst P (sym (get_or-reverse xs i d within)) (All-get_or P xs (length xs - 1 - i) d there all))

all_left : (certain : List ℕ) (tried : List (List ℕ))
    → All (Contains (tried ++ certain ∷ [])) (kept_of (Some certain) tried)
all_left certain tried =
    let Left : List ℕ → Type 0 = Contains (tried ++ certain ∷ []) in
    let all : All Left tried = All-weaker (Contains tried) Left
    (λ text. Contains-append_left tried (certain ∷ []) text) tried (All-contains_itself tried) in
    All-cons Left certain (reverse (take most_tried tried)) (Contains-push tried certain)
    (all_reversed Left [] (take most_tried tried) (All-take Left most_tried tried all))

known_left : (certain : Option (List ℕ)) (tried : List (List ℕ)) (text : List ℕ) → (kept_of certain tried ≡ [])
    ⊎ Contains (kept_of certain tried) text
    → IsAmong (left_of certain tried) text
known_left None tried text known = tt
known_left (Some certain) tried text (inl none) = absurd (cc none)
known_left (Some certain) tried text (inr kept) =
    All-contains (Contains (tried ++ certain ∷ [])) (kept_of (Some certain) tried) text (all_left certain tried) kept

pub knows_leaves : (writes : List FileWrite) (text : List ℕ) → Knows writes text → Leaves writes text
knows_leaves writes text known =
    subst (λ (texts : Texts). IsAmong texts text) (sym (texts_left writes))
    (known_left (last_certain writes) (tried_since writes) text known)
