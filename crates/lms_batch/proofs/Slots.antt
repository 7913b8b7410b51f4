-- Slots, and the signatures in them.
use Rattle.std.proofs.Common.{◌≡◌, ℕ, zero, suc, ◌+◌, ◌<◌, List, [], ◌∷◌, length, map, ◌++◌, append-nil}
use Rattle.std.proofs.Common.{Option, None, Some, true, replicate, refl, ap, sym, ◌∙◌, arith, subst, ◌⊎◌, inl, inr}
use Rattle.std.proofs.Common.{⊎_elim, Vec, Global}
use Rattle.std.proofs.Math.ListN.{set}
use Rattle.std.specs.List.{slice_get, filter_map}
use Rattle.std.specs.Option.{option_map}
use Rattle.std.specs.Prelude.{All, IsSome, is_some, false}
use Rattle.std.proofs.lemmas.Option.{slice_get-map, slice_get_within}
use Rattle.std.proofs.lemmas.List.{map-set}
use Rattle.std.proofs.lemmas.List.Elements.{All-head, All-tail}
use Rattle.std.proofs.lemmas.Bool.{false≢true, true≢false}
use Rattle.std.proofs.lemmas.Grind.{common_steps}
use Rattle.lms_hss.specs.declared.key.HssKey.{HssKey as KeyOfCode}
use Rattle.lms_batch.specs.Jobs.{JobText, SignedJob, signature_of}
use Rattle.lms_spec.specs.Hss.{HssAccepts}
use Rattle.lms_batch.specs.Batches.{AreAccepted, Collected, batch_of, HoldsOnly, contents}
use Rattle.lms_batch.specs.Takes.{Belongs}

pub length-batch_of : (key : KeyOfCode) (start : ℕ) (jobs : List JobText)
    → length (batch_of key start jobs) ≡ length jobs
length-batch_of key start [] = refl
length-batch_of key start (j ∷ js) = ap suc (length-batch_of key (start + 1) js)

-- the item at a place is the signature of its job
pub slice_get-batch_of : (key : KeyOfCode) (start : ℕ) (jobs : List JobText) (k : ℕ) (j : JobText)
    → slice_get jobs k ≡ Some j
    → slice_get (batch_of key start jobs) k ≡ Some (signature_of key (start + k) j)
slice_get-batch_of key start [] k j is = grind (arith, common_steps)
slice_get-batch_of key start (i ∷ js) zero j is = grind (arith, common_steps)
slice_get-batch_of key start (i ∷ js) (suc k) j is =
    let e : (start + 1) + k ≡ start + suc k = omega arith in
    subst (λ (n : ℕ). slice_get (batch_of key (start + 1) js) k ≡ Some (signature_of key n j)) e
    (slice_get-batch_of key (start + 1) js k j is)

-- empty slots hold nothing else
pub HoldsOnly-none : (xs : List (List ℕ)) (n : ℕ) → length xs ≡ n → HoldsOnly xs (replicate n None)
HoldsOnly-none [] n is = subst (λ (m : ℕ). HoldsOnly [] (replicate m None)) is tt
HoldsOnly-none (x ∷ xs) n is =
    subst (λ (m : ℕ). HoldsOnly (x ∷ xs) (replicate m None)) is (HoldsOnly-none xs (length xs) refl)

-- a slot is filled with the item of its place
pub HoldsOnly-set : (xs : List (List ℕ)) (slots : List (Option (List ℕ))) (k : ℕ) (y : List ℕ) → HoldsOnly xs slots
    → slice_get xs k ≡ Some y
    → HoldsOnly xs (set slots k (Some y))
HoldsOnly-set [] [] k y holds is = tt
HoldsOnly-set [] (slot ∷ slots) k y holds is = absurd holds
HoldsOnly-set (x ∷ xs) [] k y holds is = absurd holds
HoldsOnly-set (x ∷ xs) (None ∷ slots) zero y holds is = ((grind (arith, common_steps)), holds)
HoldsOnly-set (x ∷ xs) (Some z ∷ slots) zero y holds is = ((grind (arith, common_steps)), holds.1)
HoldsOnly-set (x ∷ xs) (None ∷ slots) (suc k) y holds is = HoldsOnly-set xs slots k y holds is
HoldsOnly-set (x ∷ xs) (Some z ∷ slots) (suc k) y holds is = (holds.0, HoldsOnly-set xs slots k y holds.1 is)

all-empty : (n k : ℕ) (y : List ℕ) → slice_get (replicate n None) k ≡ Some (Some y) → ⊥
all-empty zero k y e = grind (arith, common_steps)
all-empty (suc n) zero y e = grind (arith, common_steps)
all-empty (suc n) (suc k) y e = all-empty n k y e

-- empty slots hold nothing that is refused
pub AreAccepted-none : (public : List ℕ) (jobs : List JobText) (n : ℕ) → AreAccepted public jobs (replicate n None)
AreAccepted-none public jobs n = record { each = λ k j y at slot. absurd (all-empty n k y slot) }

-- a signature in a slot was put there, or was there before
put-or-before : (slots : List (Option (List ℕ))) (k i : ℕ) (y s : List ℕ)
    → slice_get (set slots k (Some y)) i ≡ Some (Some s)
    → ((k ≡ i) × (y ≡ s)) ⊎ (slice_get slots i ≡ Some (Some s))
put-or-before [] k i y s e = inr e
put-or-before (slot ∷ slots) zero zero y s e = inl (refl, grind (arith, common_steps))
put-or-before (slot ∷ slots) zero (suc i) y s e = inr e
put-or-before (slot ∷ slots) (suc k) zero y s e = inr e
put-or-before (slot ∷ slots) (suc k) (suc i) y s e = ⊎_elim
    (λ (t : (k ≡ i) × (y ≡ s)). inl (ap suc t.0, t.1))
    (λ (was : slice_get slots i ≡ Some (Some s)). inr was)
    (put-or-before slots k i y s e)

-- a slot is filled with a signature that is accepted
pub AreAccepted-set : (public : List ℕ) (jobs : List JobText) (slots : List (Option (List ℕ))) (k : ℕ)
    (j : JobText) (y : List ℕ)
    → AreAccepted public jobs slots → slice_get jobs k ≡ Some j → HssAccepts public j.message y
    → AreAccepted public jobs (set slots k (Some y))
AreAccepted-set public jobs slots k j y all is accepts = record { each = each }
  where
    each : (i : ℕ) (job : JobText) (s : List ℕ) → slice_get jobs i ≡ Some job
        → slice_get (set slots k (Some y)) i ≡ Some (Some s)
        → HssAccepts public job.message s
    each i job s at slot = ⊎_elim
        (λ (t : (k ≡ i) × (y ≡ s)).
        let there : slice_get jobs i ≡ Some j = subst (λ (n : ℕ). slice_get jobs n ≡ Some j) t.0 is in
        let e : j ≡ job = grind (arith, common_steps) in
        subst (λ (x : List ℕ). HssAccepts public job.message x) t.1
        (subst (λ (x : JobText). HssAccepts public x.message y) e accepts))
        (λ (was : slice_get slots i ≡ Some (Some s)). all.each i job s at was)
        (put-or-before slots k i y s slot)

pub map-replicate : {A : Type 0} {B : Type 0} (f : A → B) (n : ℕ) (a : A) → map f (replicate n a) ≡ replicate n (f a)
map-replicate f zero a = refl
map-replicate f (suc n) a = ap (λ r. f a ∷ r) (map-replicate f n a)

-- slots in which the signature of a job was put
pub HoldsOnly-put : (key : KeyOfCode) (start : ℕ) (jobs : List JobText) (slots : List (Option (Vec ℕ Global))) (k : ℕ)
    (j : JobText) (v : Vec ℕ Global)
    → HoldsOnly (batch_of key start jobs) (contents slots) → slice_get jobs k ≡ Some j
    → v.items ≡ signature_of key (start + k) j
    → HoldsOnly (batch_of key start jobs) (contents (set slots k (Some v)))
HoldsOnly-put key start jobs slots k j v holds job signed =
    rw (map-set (option_map (λ v. v.items)) slots k (Some v), signed)
    (HoldsOnly-set _ _ k _ holds (slice_get-batch_of key start jobs k j job))

pub AreAccepted-put : (public : List ℕ) (jobs : List JobText) (slots : List (Option (Vec ℕ Global))) (k : ℕ)
    (j : JobText) (v : Vec ℕ Global)
    → AreAccepted public jobs (contents slots) → slice_get jobs k ≡ Some j → HssAccepts public j.message v.items
    → AreAccepted public jobs (contents (set slots k (Some v)))
AreAccepted-put public jobs slots k j v all job accepts =
    rw (map-set (option_map (λ v. v.items)) slots k (Some v))
    (AreAccepted-set public jobs (contents slots) k j v.items all job accepts)

-- an empty slot shows as one
pub slice_get-contents : (slots : List (Option (Vec ℕ Global))) (k : ℕ) (s : Option (Vec ℕ Global))
    → slice_get slots k ≡ Some s → is_some s ≡ false
    → slice_get (contents slots) k ≡ Some None
slice_get-contents slots k None at none = rw (slice_get-map (option_map (λ v. v.items)) slots k, at) refl
slice_get-contents slots k (Some v) at none = absurd (true≢false none)

-- slots that are all filled hold the whole list
pub HoldsOnly-whole : (xs : List (List ℕ)) (slots : List (Option (Vec ℕ Global))) → HoldsOnly xs (contents slots)
    → All IsSome slots
    → (map (λ v. v.items) (filter_map (λ s. s) slots) ≡ xs) × (map Some xs ≡ contents slots)
HoldsOnly-whole [] [] holds all = (refl, refl)
HoldsOnly-whole [] (s ∷ slots) holds all = absurd holds
HoldsOnly-whole (x ∷ xs) [] holds all = absurd holds
HoldsOnly-whole (x ∷ xs) (None ∷ slots) holds all = absurd (false≢true (All-head IsSome None slots all))
HoldsOnly-whole (x ∷ xs) (Some v ∷ slots) holds all =
    let rest = HoldsOnly-whole xs slots holds.1 (All-tail IsSome (Some v) slots all) in (
      ap (λ (ys : List (List ℕ)). v.items ∷ ys) rest.0 ∙ ap (λ (y : List ℕ). y ∷ xs) holds.0,
      ap (λ (ys : List (Option (List ℕ))). Some x ∷ ys) rest.1
          ∙ ap (λ (y : List ℕ). Some y ∷ contents slots) (sym holds.0),
    )

-- at the end of the walk nothing is left
pub filter_map-end : {V : Type 0} (whole done : List V) (rest : List (Option V))
    → whole ≡ done ++ filter_map (λ s. s) rest → length rest ≡ 0 → whole ≡ done
filter_map-end whole done [] h none = h ∙ append-nil done
filter_map-end whole done (s ∷ rest) h none = absurd (omega arith)

-- a filled slot shows as one
pub slice_get-contents-some : (slots : List (Option (Vec ℕ Global))) (k : ℕ) (s : Option (Vec ℕ Global))
    → slice_get slots k ≡ Some s → is_some s ≡ true
    → (x : List ℕ) × (slice_get (contents slots) k ≡ Some (Some x))
slice_get-contents-some slots k None at some = absurd (false≢true some)
slice_get-contents-some slots k (Some v) at some =
    (v.items, rw (slice_get-map (option_map (λ v. v.items)) slots k, at) refl)

-- a place of the batch is that of a slot
pub place-within : (batch : Collected) (signed : SignedJob) (slots : ℕ) → Belongs batch signed
    → slots ≡ length batch.jobs → signed.place < slots
place-within batch signed slots belongs one_each =
    omega (arith, one_each, slice_get_within batch.jobs signed.place signed.job belongs.job)
