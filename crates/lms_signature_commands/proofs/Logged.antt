-- What `sign` logged, by what its steps did.
use Rattle.std.proofs.Common.{◌≡◌, ◌∙◌, inl, inr, ℕ, ◌-◌, List, ◌∷◌, ◌++◌, Option, Ok, refl, ap}
use Rattle.std.proofs.Common.{ap₂, arith, subst, sym}
use Rattle.lms_book.specs.declared.fault.BookFault.TheVariants as book
use Rattle.lms_book.specs.Books.{capacity, counter}
use Rattle.lms_book.specs.States.{BookState}
use Rattle.lms_book.specs.Stops.{StoreView}
use Rattle.lms_kept.specs.Signed.{IsSignedByText}
use Rattle.lms_kept.specs.Ways.{Way}
use Rattle.lms_world.specs.Events.{PutBack}
use Rattle.lms_commands.specs.declared.fault.Fault.TheVariants.{Exhausted, WriteStateBurnt}
use Rattle.lms_signature_commands.specs.Signing.{of_signing}
use Rattle.lms_commands.specs.Logs.{LogsKeeping, LogsUnsigned, StoresUse, WorldCalls, state_of}
use Rattle.lms_commands.specs.Watching.{Admits, FailsToNote, OpensWatched, UnsignedWatched, Watch, notes}
use Rattle.lms_commands.specs.Watching.{watched}
use Rattle.lms_commands.specs.declared.fault.Fault.{Fault}
use Rattle.lms_signature_commands.specs.SignLogs.{LogsSigned}
use Rattle.lms_signature_commands.specs.Signing.{GivesOne, SignsNothing}
use Rattle.lms_signature_commands.specs.declared.sign.NextFault.{NextFault}
use Rattle.lms_signature_commands.specs.declared.sign.NextFault.TheVariants as unsigned
use Rattle.lms_commands.proofs.Signings.{IsJustOpened}
use Rattle.lms_commands.proofs.Logged.{left_so, stored, tried}

-- a book was opened with its witness, and its store put back
module _ (watch : Watch) (before after_it : BookState) (view : StoreView) (old opened back : WorldCalls)
    (opens : OpensWatched watch before old opened)
    (is_fresh : IsJustOpened before) (view_is : view ≡ after_it.store) (back_is : back ≡ PutBack view ∷ opened) where
  abbrev by : Admits (state_of before)
  by = record { watch = watch; admitted = opens.0 }

  uses_one : GivesOne before after_it → StoresUse 1 (state_of before) (watched by old) back
  uses_one gives =
      stored before after_it view (watched by old) opened back opens.1 is_fresh view_is back_is 1 gives.within
      gives.stored

  -- and the witness was written
  pub log_signed : (nodes : Option (List ℕ)) (random message : List ℕ) (index : ℕ) (signature : List ℕ)
      (trees : Option Way) (noted new : WorldCalls)
      → GivesOne before after_it → index ≡ counter before
      → noted ≡ notes 1 watch before.key.i before.base (Ok tt) ++ back → LogsKeeping trees noted new
      → IsSignedByText nodes before.key index random message signature trees
      → (signs : LogsSigned nodes random message index signature old new) × (signs.state ≡ state_of before)
  log_signed nodes random message index signature trees noted new gives at noted_is keeps signed = (
    record {
      state = state_of before;
      to_keep = trees;
      until_stored = noted;
      next = at ∙ is_fresh.used;
      stores = (by, back, uses_one gives, noted_is);
      keeps = keeps;
      signed = signed;
    },
    refl,
  )

  -- it was not
  pub log_unnoted : (fault : Fault) (new : WorldCalls) → GivesOne before after_it
      → FailsToNote 1 watch before.key.i before.base fault back new → UnsignedWatched 1 fault (state_of before) old new
  log_unnoted fault new gives fails = inr (by, inr (back, uses_one gives, fails))

  unsigned_so : (fault : NextFault) → SignsNothing before fault after_it
      → LogsUnsigned 1 (of_signing fault) (state_of before) (watched by old) back
  unsigned_so (unsigned.Book (book.Exhausted left)) (full, is, same) =
      let left_is : left ≡ capacity before - before.base = omega (arith, is, is_fresh.used) in
      inl (inl (
        ap (λ (n : ℕ). Exhausted n) left_is,
        omega (arith, full, is_fresh.used),
        left_so before after_it view (watched by old) opened back opens.1 is_fresh view_is back_is same,
      ))
  unsigned_so (unsigned.Book book.OutOfMemory) (enough, same) =
      inl (inr (refl, left_so before after_it view (watched by old) opened back opens.1 is_fresh view_is back_is same))
  unsigned_so (unsigned.Book (book.Store start len)) (enough, s, l, history, failed) =
      inr (inl (
        ap₂ (λ (a b : ℕ). WriteStateBurnt a b) (s ∙ is_fresh.used) l,
        tried before after_it view (watched by old) opened back opens.1 is_fresh view_is back_is 1 enough failed,
      ))
  unsigned_so unsigned.OutOfMemory gives = inr (inr (refl, uses_one gives))

  -- nothing was signed, and the witness stays
  pub log_unsigned : (fault : NextFault) (new : WorldCalls) → SignsNothing before fault after_it → new ≡ back
      → UnsignedWatched 1 (of_signing fault) (state_of before) old new
  log_unsigned fault new nothing same =
      subst (λ (log : WorldCalls). UnsignedWatched 1 (of_signing fault) (state_of before) old log) (sym same)
      (with_witness (unsigned_so fault nothing))
    where
      with_witness : LogsUnsigned 1 (of_signing fault) (state_of before) (watched by old) back
          → UnsignedWatched 1 (of_signing fault) (state_of before) old back
      with_witness (inl leaves) = inl (by, leaves)
      with_witness (inr burns) = inr (by, inl burns)
