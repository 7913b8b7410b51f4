use Rattle.std.proofs.Common.{◌≡◌, ◌∙◌, ap, inl, inr, refl, subst, sym, ℕ, List, Option}
use Rattle.std.proofs.lemmas.Result.{IfErr-weaker, IfOk-weaker}
use Rattle.lms_hss.specs.declared.key.HssKey.{HssKey as KeyOfCode}
use Rattle.lms_book.specs.States.{ReservationsState}
use Rattle.lms_join.specs.Joined.{after_count}
use Rattle.lms_commands.specs.Logs.{KeyState, WorldCalls, state_of}
use Rattle.lms_commands.specs.Watching.{Admits, LeavesWatched}
use Rattle.lms_commands.proofs.Failing.{handed_on}
use Rattle.lms_commands.proofs.Logged.{left_so}
use Rattle.lms_commands.proofs.Signings.{just_opened}
use Rattle.lms_world.proofs.Following.{both_follow, one_more, then_nothing}
use Rattle.lms_signature_commands.specs.SignLogs.{LogsSigned}
use Rattle.lms_endorse.specs.Endorsing.{MayEndorse}
use Rattle.lms_endorse.proofs.Orders.{key_is}
use Rattle.lms_endorse.proofs.endorse.endorse_stored.Goals as goal

-- a message that was signed, by another name of its bytes
signed_as : {nodes : Option (List ℕ)} {random signature m n : List ℕ} {index : ℕ} {old new : WorldCalls}
    {state : KeyState} → m ≡ n
    → (signs : LogsSigned nodes random m index signature old new) × (signs.state ≡ state)
    → (signs : LogsSigned nodes random n index signature old new) × (signs.state ≡ state)
signed_as {nodes} {random} {signature} {m} {n} {index} {old} {new} {state} same is =
    subst (λ (message : List ℕ). (signs : LogsSigned nodes random message index signature old new)
    × (signs.state ≡ state)) same is

pub returns-in_err-book-clause-log_failed : goal.returns-in_err-book-clause-log_failed
returns-in_err-book-clause-log_failed g c =
    handed_on _ _ _ c.from_residual.ensures.1 (inl c.in_err-book.ensures.unopened)

pub returns-then-not-is_for-clause-log_failed : goal.returns-then-not-is_for-clause-log_failed
returns-then-not-is_for-clause-log_failed g c =
    let order = c.args.order.now in
    let book = c.in_ok-book.book in
    let its_key : c.key-top.result ≡ book.key =
    c.key-top.ensures ∙ ap (λ (reserved : ReservationsState). reserved.key) c.deref.ensures in
    let opens = c.in_ok-book.ensures.logged in
    let never = subst (λ (key : KeyOfCode). ¬ MayEndorse key order.signer.now order.joined) its_key
    (c.is_for.ensures.never c.if-not-is_for.true) in
    let leaves = left_so book book _ _ _ _ opens.1 (just_opened book c.in_ok-book.ensures.fresh) c.close.ensures.store
    c.put_back.ensures.logged refl in
    let by : Admits (state_of book) = record { watch = _; admitted = opens.0 } in
    inr (
      state_of book,
      inl (
        refl,
        never,
        subst (λ (log : WorldCalls). LeavesWatched (state_of book)
            (g.W.World.events c.args.world.now) log)
            (sym (c.explain_pair.ensures.unlogged ∙ c.discard.ensures.unlogged)) (by, leaves),
      ),
    )

pub returns-clause-logged : goal.returns-clause-logged
returns-clause-logged g c =
    let order = c.args.order.now in
    let book = c.in_ok-book.book in
    let its_key : c.key-top.result ≡ book.key =
    c.key-top.ensures ∙ ap (λ (reserved : ReservationsState). reserved.key) c.deref.ensures in
    let may = subst (λ (key : KeyOfCode). MayEndorse key order.signer.now order.joined) its_key
    (c.is_for.ensures.may c.if-not-is_for.false) in
    let message = c.requires.message ∙ sym (key_is order.key.levels order.key.lms_key.now order.signer.now
    c.requires.parts) in
    IfOk-weaker c.sign_opened.result _ _
    (λ signed is.
    let same = signed_as message is in
    (same.0, subst (λ (s : KeyState). MayEndorse s.key order.signer.now order.joined) (sym same.1) may))
    (c.sign_opened.ensures.logged _ c.in_ok-book.ensures.logged)

pub returns-clause-log_failed : goal.returns-clause-log_failed
returns-clause-log_failed g c =
    let order = c.args.order.now in
    let book = c.in_ok-book.book in
    let its_key : c.key-top.result ≡ book.key =
    c.key-top.ensures ∙ ap (λ (reserved : ReservationsState). reserved.key) c.deref.ensures in
    let may = subst (λ (key : KeyOfCode). MayEndorse key order.signer.now order.joined) its_key
    (c.is_for.ensures.may c.if-not-is_for.false) in
    IfErr-weaker c.sign_opened.result _ _ (λ fault is. inr (state_of book, inr (may, is)))
    (c.sign_opened.ensures.log_failed _ c.in_ok-book.ensures.logged)

pub returns-then-not-is_for-clause-follows : goal.returns-then-not-is_for-clause-follows
returns-then-not-is_for-clause-follows g c =
    then_nothing (then_nothing (one_more c.in_ok-book.ensures.follows c.put_back.ensures.logged
    c.put_back.ensures.acts) c.discard.ensures.unlogged c.discard.ensures.same)
    c.explain_pair.ensures.unlogged c.explain_pair.ensures.same

pub returns-clause-follows : goal.returns-clause-follows
returns-clause-follows g c = both_follow c.in_ok-book.ensures.follows c.sign_opened.ensures.follows
