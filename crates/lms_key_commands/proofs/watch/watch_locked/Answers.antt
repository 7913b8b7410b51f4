use Rattle.std.proofs.Common.{◌≡◌, ◌≢◌, ◌∙◌, ◌∷◌, ◌++◌, List, ℕ, Some, None, Ok, ap, inl, inr, refl, subst, arith}
use Rattle.std.specs.Prelude.{codes, string_bytes}
use Rattle.lms_blocks.specs.Writing.{AppendsFront}
use Rattle.lms_world.specs.Events.{Printing, WitnessMade, WitnessRead}
use Rattle.lms_world.specs.Names.{Bytes}
use Rattle.lms_world.proofs.Following.{both_follow, one_more}
use Rattle.lms_commands.specs.Logs.{KeyState, LeavesState, WorldCalls, state_in}
use Rattle.lms_commands.specs.declared.fault.Fault.TheVariants.{WriteOutput}
use Rattle.lms_commands.proofs.Failing.{handed_on}
use Rattle.lms_key_commands.specs.WitnessLogs.{LeavesUnwatched, MakesToPrint, witness_line}
use Rattle.lms_key_commands.proofs.watch.watch_locked.Goals as goal

-- a state is read once no witness is found
unwatched : (read : KeyState) (old between last : WorldCalls) → between ≡ WitnessRead (Ok None) ∷ old
    → LeavesState read between last → LeavesUnwatched read old last
unwatched read old between last none reads = subst (λ (log : WorldCalls). LeavesState read log last) none reads

-- then its witness is made, and begins to be printed
made_to_print : (read : KeyState) (place made : Bytes) (before : List ℕ) (old last between now : WorldCalls)
    → LeavesUnwatched read old last → between ≡ WitnessMade place (witness_line read) (Ok made) ∷ last
    → now ≡ Printing before ∷ between → MakesToPrint read place made before old now
made_to_print read place made before old last between now reads makes prints = record {
  until_read = last;
  reads = reads;
  prints = prints ∙ ap (λ (log : WorldCalls). Printing before ∷ log) makes;
}

pub returns-in_err-image-clause-follows : goal.returns-in_err-image-clause-follows
returns-in_err-image-clause-follows g c = both_follow c.see_none.ensures.follows c.read_state.ensures.follows

pub returns-then-image-counter-clause-follows : goal.returns-then-image-counter-clause-follows
returns-then-image-counter-clause-follows g c = both_follow c.see_none.ensures.follows c.read_state.ensures.follows

pub returns-in_err-line-clause-follows : goal.returns-in_err-line-clause-follows
returns-in_err-line-clause-follows g c =
    both_follow (both_follow c.see_none.ensures.follows c.read_state.ensures.follows) c.make.ensures.follows

pub returns-in_err-print_made-clause-follows : goal.returns-in_err-print_made-clause-follows
returns-in_err-print_made-clause-follows g c =
    one_more
    (both_follow (both_follow c.see_none.ensures.follows c.read_state.ensures.follows) c.make.ensures.follows)
    c.begin_printing.ensures.logged c.begin_printing.ensures.acts

pub returns-clause-follows : goal.returns-clause-follows
returns-clause-follows g c =
    one_more
    (both_follow (both_follow c.see_none.ensures.follows c.read_state.ensures.follows) c.make.ensures.follows)
    c.begin_printing.ensures.logged c.begin_printing.ensures.acts

pub returns-then-image-counter-clause-log_failed : goal.returns-then-image-counter-clause-log_failed
returns-then-image-counter-clause-log_failed g c =
    let read = state_in c.in_ok-image.image in
    let reads = unwatched read _ _ _ c.in_ok-see_none.ensures.none c.in_ok-image.ensures.logged in
    let other : c.in_ok-image.image.counter ≢ c.args.counter =
    λ same. omega (arith, c.if-image-counter.true, same) in
    inl (refl, inr (inr (read, _, reads, inl (refl, other, refl))))

pub returns-in_err-line-clause-log_failed : goal.returns-in_err-line-clause-log_failed
returns-in_err-line-clause-log_failed g c =
    let read = state_in c.in_ok-image.image in
    let reads = unwatched read _ _ _ c.in_ok-see_none.ensures.none c.in_ok-image.ensures.logged in
    let counted : c.in_ok-image.image.counter ≡ c.args.counter = omega (arith, c.if-image-counter.false) in
    handed_on _ _ _ c.from_residual-in_err-line.ensures.1
    (inl (refl, inr (inr (read, _, reads, inr (counted, c.in_err-line.ensures.unmade)))))

pub returns-in_err-print_made-clause-log_failed : goal.returns-in_err-print_made-clause-log_failed
returns-in_err-print_made-clause-log_failed g c =
    let read = state_in c.in_ok-image.image in
    let made = string_bytes c.in_ok-line.made in
    let reads = unwatched read _ _ _ c.in_ok-see_none.ensures.none c.in_ok-image.ensures.logged in
    let prints = made_to_print read _ made _ _ _ _ _ reads c.in_ok-line.ensures.made c.begin_printing.ensures.logged in
    let counted : c.in_ok-image.image.counter ≡ c.args.counter = omega (arith, c.if-image-counter.false) in
    let before = c.args.output.now in
    let front =
    subst (λ (line : List ℕ). AppendsFront (Some before) (Some c.print_made.new.output) (line ++ (made ++ codes "\n")))
    (c.deref.ensures.value ∙ c.in_ok-line.ensures.line)
    (subst (λ (place : List ℕ).
    AppendsFront (Some before) (Some c.print_made.new.output) (c.deref.result.now ++ (place ++ codes "\n")))
    c.deref-2.ensures c.in_err-print_made.ensures.broken) in
    handed_on _ WriteOutput _ c.from_residual-in_err-print_made.ensures.1
    (inr (refl, (read, made, counted, prints, front)))

pub returns-clause-logged : goal.returns-clause-logged
returns-clause-logged g c =
    let read = state_in c.in_ok-image.image in
    let made = string_bytes c.in_ok-line.made in
    let reads = unwatched read _ _ _ c.in_ok-see_none.ensures.none c.in_ok-image.ensures.logged in
    let prints = made_to_print read _ made _ _ _ _ _ reads c.in_ok-line.ensures.made c.begin_printing.ensures.logged in
    let counted : c.in_ok-image.image.counter ≡ c.args.counter = omega (arith, c.if-image-counter.false) in
    let line = c.deref.ensures.value ∙ c.in_ok-line.ensures.line in (
      read,
      made,
      counted,
      prints,
      c.in_ok-print_made.ensures.printed
          ∙ (ap (λ (line : List ℕ). c.args.output.now ++ (line ++ (c.deref-2.result.now ++ codes "\n"))) line
          ∙ ap (λ (place : List ℕ). c.args.output.now ++ (witness_line read ++ (place ++ codes "\n")))
          c.deref-2.ensures),
    )
