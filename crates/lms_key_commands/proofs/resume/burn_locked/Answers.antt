use Rattle.std.proofs.Common.{◌∙◌, ◌∷◌, ℕ, Option, Ok, ap, inl, inr, subst, arith}
use Rattle.std.specs.Prelude.{option_map}
use Rattle.std.specs.Global.{Vec}
use Rattle.lms_world.specs.Events.{WitnessRead}
use Rattle.lms_world.proofs.Following.{both_follow, one_more}
use Rattle.lms_commands.specs.Logs.{KeyState, LogsUnopened, WorldCalls, state_of}
use Rattle.lms_commands.proofs.Failing.{handed_on}
use Rattle.lms_key_commands.proofs.ResumeLogged.{burnt, unburnt}
use Rattle.lms_key_commands.proofs.resume.burn_locked.Goals as goal

pub returns-in_err-book-clause-unburnt : goal.returns-in_err-book-clause-unburnt
returns-in_err-book-clause-unburnt g c =
    let old = g.W.World.events c.args.world.now in
    let seen = c.in_ok-text.ensures.seen
    ∙ ap (λ (found : Option (Vec ℕ)). WitnessRead (Ok (option_map (λ text. text.items) found)) ∷ old) c.in-Some.is in
    let never = subst (λ (log : WorldCalls).
    LogsUnopened c.in_err-book.field-0.0 log (g.W.World.events c.open_state.new.world)) seen
    c.in_err-book.ensures.unopened in
    handed_on _ _ _ c.from_residual-in_err-book.ensures.1 (inl (inr (inr (c.in-Some.text.items, inl never))))

pub returns-in_err-book-clause-follows : goal.returns-in_err-book-clause-follows
returns-in_err-book-clause-follows g c = both_follow c.in_ok-text.ensures.follows c.in_err-book.ensures.follows

pub returns-in-Ok-clause-burnt : goal.returns-in-Ok-clause-burnt
returns-in-Ok-clause-burnt g c =
    let old = g.W.World.events c.args.world.now in
    let seen = c.in_ok-text.ensures.seen
    ∙ ap (λ (found : Option (Vec ℕ)). WitnessRead (Ok (option_map (λ text. text.items) found)) ∷ old) c.in-Some.is in
    let start = ap (λ (state : KeyState). state.index) c.image_read-read.ensures in (
      state_of c.in_ok-book.book,
      start,
      omega (arith, start, c.in-Ok.ensures.older.more),
      burnt c.args.end c.in_ok-book.book c.burn_by-burnt.new.book c.in-Some.text.items c.deref.result.now _ old _ _ _
          seen c.deref.ensures.value c.in_ok-book.ensures.logged c.close.ensures.store c.put_back.ensures.logged
          c.in-Ok.ensures.older c.in-Ok.ensures.burnt,
    )

pub returns-in-Ok-clause-follows : goal.returns-in-Ok-clause-follows
returns-in-Ok-clause-follows g c =
    one_more (both_follow c.in_ok-text.ensures.follows c.in_ok-book.ensures.follows)
    c.put_back.ensures.logged c.put_back.ensures.acts

pub returns-clause-unburnt : goal.returns-clause-unburnt
returns-clause-unburnt g c =
    let old = g.W.World.events c.args.world.now in
    let seen = c.in_ok-text.ensures.seen
    ∙ ap (λ (found : Option (Vec ℕ)). WitnessRead (Ok (option_map (λ text. text.items) found)) ∷ old) c.in-Some.is in
    unburnt c.args.end c.in_ok-book.book c.burn_by-burnt.new.book c.in-Some.text.items c.deref.result.now _ old _ _ _
    seen c.deref.ensures.value c.in_ok-book.ensures.logged c.close.ensures.store c.put_back.ensures.logged
    c.in-Err.fault c.in-Err.ensures.unburnt

pub returns-clause-follows : goal.returns-clause-follows
returns-clause-follows g c =
    one_more (both_follow c.in_ok-text.ensures.follows c.in_ok-book.ensures.follows)
    c.put_back.ensures.logged c.put_back.ensures.acts
