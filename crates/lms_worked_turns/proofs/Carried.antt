-- What the worked cases of runs have in common.
use Rattle.std.proofs.Common.{ℕ, zero, suc, ◌+◌, ◌≤◌, ◌≡◌, ◌∙◌, ◌∷◌, ◌++◌, [], List, Option, Some, None, Ok, ap, inl}
use Rattle.std.proofs.Common.{inr}
use Rattle.std.proofs.Common.{refl, sym, arith}
use Rattle.std.specs.Prelude.{◌≢◌, Contains}
use Rattle.lms_spec.specs.Hss.{capacity_of}
use Rattle.lms_hss.specs.Keys.{hss_key_of}
use Rattle.lms_hss.specs.declared.key.HssKey.{HssKey as KeyOfCode}
use Rattle.lms_image.specs.Image.{HasImage}
use Rattle.lms_image.proofs.Images.{image-same}
use Rattle.lms_book.specs.Stops.{IsAmong, StoreView, Texts, after_write, only}
use Rattle.lms_world.specs.Events.{Event, PutBack, Taken, Taking, WitnessWritten}
use Rattle.lms_world.specs.Names.{Bytes}
use Rattle.lms_commands.specs.Expectations.{Expected, FindsExpected, IsCarried, IsOnly, IsOnlyNote, ended}
use Rattle.lms_commands.specs.Histories.{IsStored, Signature, Uses, store_calls, witness_calls}
use Rattle.lms_commands.specs.Logs.{ReadsState, WorldCalls}
use Rattle.lms_worked_turns.specs.Worked.{delivery, given_by, holding, image_after, run_at, state_at, unwatched}
use Rattle.lms_worked_turns.specs.Worked.{unwatched_calls, watched_run, witness_after}

pub among_one : {X : Type 0} (a it : X) → Contains (a ∷ []) it → it ≡ a
among_one a it (zero, lt, same) = sym same
among_one a it (suc k, lt, same) = absurd (omega (arith, lt))

pub among_none : {X : Type 0} (it : X) → Contains [] it → ⊥
among_none it there = omega (arith, there.1)

-- what the store may hold that was put back last
abbrev pub held_last : List Event → Texts
held_last (PutBack store ∷ earlier) = store.now
held_last other = None

-- its bytes, where only one byte string may be there
abbrev pub sole : Texts → List ℕ
sole (Some (text ∷ [])) = text
sole other = []

-- the image that was stored last is what the state should be
pub only_stored : (image other : List ℕ) (given : StoreView) (calls earlier : WorldCalls)
    → store_calls calls ≡ PutBack (after_write image given) ∷ earlier → IsStored other calls
    → IsOnly other (Some image ∷ [])
only_stored image other given calls earlier is last = λ found there.
    among_one (Some image) found there
    ∙ ap (λ (list : List Event). Some (sole (held_last list))) (sym is ∙ last.2)

-- a key with an image has one after so many signatures, too
module _ (key : KeyOfCode) (has : HasImage key 0 0 0) where
  pub counted : (n : ℕ) → n ≤ capacity_of (hss_key_of key) → HasImage key n n 0
  counted n within = record {
    admitted = has.admitted;
    seed_length = has.seed_length;
    seed_bytes = has.seed_bytes;
    id_length = has.id_length;
    id_bytes = has.id_bytes;
    within = within;
    openings_within = omega arith;
    burnt_within = omega arith;
  }

  -- it is read where a store may hold it
  abbrev pub reads : (n : ℕ) (held : Texts) → n ≤ capacity_of (hss_key_of key) → IsAmong held (image_after key n)
      → ReadsState (state_at key n) (holding held).view (given_by key n held)
  reads n held within among = record {
    text = image_after key n;
    left = among;
    counted = counted n within;
    image = inl refl;
    given = refl;
  }

-- writing signatures does nothing with the state or the witness
no_store : (name : Bytes) (signatures : List Signature) (calls : WorldCalls)
    → store_calls (delivery name signatures ++ calls) ≡ store_calls calls
no_store name [] calls = refl
no_store name (one ∷ later) calls = no_store name later calls

no_note : (name : Bytes) (signatures : List Signature) (calls : WorldCalls)
    → witness_calls (delivery name signatures ++ calls) ≡ witness_calls calls
no_note name [] calls = refl
no_note name (one ∷ later) calls = no_note name later calls

-- nor does a run that finds no witness write one
unnoted : (taken : Taking) (left : StoreView) (name : Bytes) (signatures : List Signature)
    → witness_calls (ended (delivery name signatures ++ unwatched_calls taken left)) ≡ []
unnoted taken left name [] = refl
unnoted taken left name (one ∷ later) = no_note name later (unwatched_calls taken left)

-- a run that finds no witness, and stores its image for certain
module _ (key : KeyOfCode) (n : ℕ) (taken : Taking) (given : StoreView) (name : Bytes)
    (signatures : List Signature) where
  pub carried : (due : Option (List ℕ)) (held : Expected)
      → FindsExpected (Uses 1 (state_at key n) (image_after key n) None) due held
      → IsCarried
      (record (run_at key n taken (after_write (image_after key (n + 1)) given) name signatures) { due = due })
      held (unwatched (Some (image_after key (n + 1)) ∷ []))
  carried due held found =
      let left = after_write (image_after key (n + 1)) given in
      let calls = unwatched_calls taken left in
      let stores = no_store name signatures calls in
      inr (
        λ neither.
            let never : PutBack left ∷ Taken (Some taken) ∷ [] ≡ [] = sym stores ∙ neither.0 in cc never,
        inl (record {
          found = found;
          states = λ text there. inr
              (image_after key (n + 1), among_one (Some (image_after key (n + 1))) text there, inr refl);
          stored = λ other last.
              only_stored (image_after key (n + 1)) other given (delivery name signatures ++ calls) _ stores last;
          witnesses = λ text there. absurd (among_none text there);
          noted = λ text noted.
              let never : [] ≡ WitnessWritten text (Ok tt) ∷ noted.0 =
              sym (unnoted taken left name signatures) ∙ noted.1 in
              absurd (cc never);
          unwatched = λ none other last. refl;
        }),
      )

-- what both should be after the first run: the image and the witness after one signature, nothing else
pub after_first : (key : KeyOfCode) (name : Bytes) (first : Signature) (held left : Expected)
    → IsCarried (watched_run key 0 name first) held left
    → IsOnly (image_after key 1) left.states × IsOnlyNote (witness_after key 1) left.witnesses
after_first key name first held left (inl (neither, same)) = absurd (cc neither.0)
after_first key name first held left (inr (came, inr (other, makes, same))) = absurd (cc makes)
after_first key name first held left (inr (came, inl moves)) = (
  moves.stored (image_after key 1) (given_by key 0 (only (image_after key 0)), _, refl),
  moves.noted (witness_after key 1) ([], refl),
)

-- the older image is another
pub another : (key : KeyOfCode) → HasImage key 0 0 0 → 1 ≤ capacity_of (hss_key_of key)
    → Some (image_after key 0) ≢ Some (image_after key 1)
another key has enough same =
    let apart = image-same (image_after key 0) key key 0 1 0 1 0 0 has (counted key has 1 enough) (inl refl)
    (inl (cc same)) in
    absurd (omega (arith, apart.1))
