-- What follows from calls one after another.
use Rattle.std.proofs.Common.{◌≡◌, ◌∙◌, ◌∷◌, ◌++◌, [], List, refl, sym, ap, subst, append_assoc}
use Rattle.std.specs.Prelude.{Some, None}
use Rattle.lms_world.specs.Events.{Event}
use Rattle.lms_world.specs.Held.{AreAdded, Does, Follows, Held, Memory, Replays}

none_added : (at : Memory) (log : List Event) → AreAdded at log at log
none_added None log = tt
none_added (Some held) log = ([], refl, refl)

-- no call
pub nothing_done : (at : Memory) (log : List Event) → Follows at log at log
nothing_done at log = record { calls = none_added at log }

one_added : (old mid new : Memory) (log then now : List Event) (event : Event)
    → AreAdded old log mid then → now ≡ event ∷ then
    → Does event mid new → AreAdded old log new now
one_added None None None log then now event follows logged acts = tt
one_added None None (Some new) log then now event follows logged never = absurd never
one_added None (Some mid) new log then now event never logged acts = absurd never
one_added (Some old) None new log then now event never logged acts = absurd never
one_added (Some old) (Some mid) None log then now event follows logged never = absurd never
one_added (Some old) (Some mid) (Some new) log then now event follows logged acts = (
  event ∷ follows.0,
  logged ∙ ap (λ (calls : List Event). event ∷ calls) follows.1,
  (mid, follows.2, acts),
)

-- one call more
pub one_more : {old mid new : Memory} {log then now : List Event} {event : Event}
    → Follows old log mid then → now ≡ event ∷ then
    → Does event mid new → Follows old log new now
one_more follows logged acts = record { calls = one_added _ _ _ _ _ _ _ follows.calls logged acts }

-- one call
pub one_call : {old new : Memory} {log now : List Event} {event : Event} → now ≡ event ∷ log → Does event old new
    → Follows old log new now
one_call logged acts = one_more (nothing_done _ _) logged acts

replays_both : (old mid new : Held) (earlier later : List Event) → Replays old earlier mid → Replays mid later new
    → Replays old (later ++ earlier) new
replays_both old mid new earlier [] first then = subst (λ (held : Held). Replays old earlier held) (sym then) first
replays_both old mid new earlier (event ∷ later) first then =
    (then.0, replays_both old mid then.0 earlier later first then.1, then.2)

both_added : (old mid new : Memory) (log then now : List Event) → AreAdded old log mid then → AreAdded mid then new now
    → AreAdded old log new now
both_added None None None log then now first last = tt
both_added None None (Some new) log then now first never = absurd never
both_added None (Some mid) new log then now never last = absurd never
both_added (Some old) None new log then now never last = absurd never
both_added (Some old) (Some mid) None log then now first never = absurd never
both_added (Some old) (Some mid) (Some new) log then now first last = (
  last.0 ++ first.0,
  last.1 ∙ ap (λ (calls : List Event). last.0 ++ calls) first.1 ∙ sym (append_assoc last.0 first.0 log),
  replays_both old mid new first.0 last.0 first.2 last.2,
)

-- calls and then others
pub both_follow : {old mid new : Memory} {log then now : List Event}
    → Follows old log mid then → Follows mid then new now → Follows old log new now
both_follow first last = record { calls = both_added _ _ _ _ _ _ first.calls last.calls }

-- calls, and then nothing
pub then_nothing : {old mid new : Memory} {log then now : List Event} → Follows old log mid then → now ≡ then
    → new ≡ mid → Follows old log new now
then_nothing {old} {mid} {new} {log} {then} {now} follows calls same =
    subst (λ (memory : Memory). Follows old log memory now) (sym same)
    (subst (λ (calls : List Event). Follows old log mid calls) (sym calls) follows)
