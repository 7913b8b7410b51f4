-- Turns one after another, of which a crash cuts one off.
use Rattle.std.proofs.Common.{◌≡◌, ◌≢◌, ◌⊎◌, ◌∙◌, ℕ, List, [], ◌∷◌, ◌++◌, suc, length, Option, None, ap, refl}
use Rattle.std.proofs.Common.{sym, subst, inl, inr, append-nil}
use Rattle.std.proofs.lemmas.List.Elements.{filter-append}
use Rattle.lms_world.specs.Events.{Event}
use Rattle.lms_commands.specs.Expectations.{Expected, IsCarriedAlong}
use Rattle.lms_commands.specs.Histories.{AreCutTurns, AreLinked, AreWholeTurns, Continues}
use Rattle.lms_commands.specs.Histories.{IsDoneBy, IsTurn, Signature, TakenTurn}
use Rattle.lms_commands.specs.Histories.{Turn, StoresNothing, Makes, Uses, Watches, Resumes}
use Rattle.lms_commands.specs.Histories.{begun_calls, is_of_store, store_calls, stored_last, turn_signatures}
use Rattle.lms_commands.specs.Histories.{whole_calls, witness_calls}
use Rattle.lms_commands.specs.Logs.{KeyState, WorldCalls}
use Rattle.lms_commands.specs.Watching.{Watch}
use Rattle.lms_commands.proofs.Histories.{IsHistory, Links, known_after, known_by}

-- where a list is two lists in two ways, one of the ends is an end of the other
record EndsLater (a b c d : WorldCalls) : Type 0 where
  between : WorldCalls
  end : b ≡ between ++ d
  front : c ≡ a ++ between

front_of : Event → WorldCalls → Event
front_of other [] = other
front_of other (event ∷ log) = event

rest_of : WorldCalls → WorldCalls
rest_of [] = []
rest_of (event ∷ log) = log

two_ends : (a b c d : WorldCalls) → a ++ b ≡ c ++ d → EndsLater a b c d ⊎ EndsLater c d a b
unfolding front_of rest_of
two_ends [] b c d same = inl (record { between = c; end = same; front = refl })
two_ends (x ∷ a) b [] d same = inr (record { between = x ∷ a; end = sym same; front = refl })
two_ends (x ∷ a) b (y ∷ c) d same = go (two_ends a b c d (ap rest_of same))
  where
    head : x ≡ y
    head = ap (front_of x) same

    go : EndsLater a b c d ⊎ EndsLater c d a b
        → EndsLater (x ∷ a) b (y ∷ c) d ⊎ EndsLater (y ∷ c) d (x ∷ a) b
    go (inl is) = inl (record {
      between = is.between;
      end = is.end;
      front = ap (λ (l : WorldCalls). y ∷ l) is.front
          ∙ ap (λ (e : Event). e ∷ a ++ is.between) (sym head);
    })
    go (inr is) = inr (record {
      between = is.between;
      end = is.end;
      front = ap (λ (l : WorldCalls). x ∷ l) is.front
          ∙ ap (λ (e : Event). e ∷ c ++ is.between) head;
    })

-- the same turns, of which these calls were begun
pub record Cut (turns : List TakenTurn) (begun : WorldCalls) : Type 0 where
  pub cut : List TakenTurn
  pub whole : whole_calls cut ≡ whole_calls turns
  pub begun_is : begun_calls cut ≡ begun
  pub are : AreCutTurns cut
  pub signatures : turn_signatures cut ≡ turn_signatures turns
  pub count : length cut ≡ length turns
  pub linked : (due : Option (List ℕ)) → AreLinked due turns → AreLinked due cut

-- one of them
abbrev with_begun : WorldCalls → TakenTurn → TakenTurn
with_begun begun turn = record turn { begun = begun }

pub cut_turns : (turns : List TakenTurn) (later begun : WorldCalls) → AreWholeTurns turns
    → whole_calls turns ≡ later ++ begun → Cut turns begun
cut_turns [] later begun are is = record {
  cut = [];
  whole = refl;
  begun_is = nothing later begun is;
  are = tt;
  signatures = refl;
  count = refl;
  linked = λ due is. tt;
}
  where
    nothing : (later begun : WorldCalls) → [] ≡ later ++ begun → [] ≡ begun
    nothing [] begun is = is
    nothing (event ∷ later) begun is = cc is
cut_turns (turn ∷ turns) later begun (one, are) is =
    by_end (two_ends (whole_calls turns) turn.whole later begun is)
    (λ more rest same. cut_turns turns more rest are same)
  where
    by_end : EndsLater (whole_calls turns) turn.whole later begun ⊎ EndsLater later begun (whole_calls turns) turn.whole
        → ((more rest : WorldCalls) → whole_calls turns ≡ more ++ rest → Cut turns rest)
        → Cut (turn ∷ turns) begun
    by_end (inl here) cut_at =
        let rest = cut_at (whole_calls turns) [] (sym (append-nil (whole_calls turns))) in
        record {
          cut = with_begun begun turn ∷ rest.cut;
          whole = ap (λ (l : WorldCalls). l ++ turn.whole) rest.whole;
          begun_is = ap (λ (l : WorldCalls). l ++ begun) rest.begun_is;
          are = (one, (here.between, here.end), inr rest.begun_is, rest.are);
          signatures = ap (λ (ones : List Signature). turn.signatures ++ ones) rest.signatures;
          count = ap suc rest.count;
          linked = λ due is. (is.0, is.1, rest.linked (stored_last turn.turn due) is.2);
        }
    by_end (inr there) cut_at =
        let rest = cut_at later there.between there.front in
        record {
          cut = with_begun turn.whole turn ∷ rest.cut;
          whole = ap (λ (l : WorldCalls). l ++ turn.whole) rest.whole;
          begun_is = ap (λ (l : WorldCalls). l ++ turn.whole) rest.begun_is ∙ sym there.end;
          are = (one, ([], refl), inl refl, rest.are);
          signatures = ap (λ (ones : List Signature). turn.signatures ++ ones) rest.signatures;
          count = ap suc rest.count;
          linked = λ due is. (is.0, is.1, rest.linked (stored_last turn.turn due) is.2);
        }

-- ---- turns of a run, and then others

-- what is done with a state is done in a turn's first calls
uses_state : (run : TakenTurn) (count : ℕ) (state : KeyState) (text : List ℕ) (watch : Watch)
    → IsTurn run.turn run.signatures run.whole → run.turn ≡ Uses count state text watch → store_calls run.whole ≢ []
uses_state run count state text watch turn same none =
    let does = subst (λ (t : Turn). IsDoneBy t turn.first) same turn.does in
    let all = ap store_calls turn.calls
    ∙ (filter-append is_of_store turn.later turn.first
    ∙ ap (λ (calls : WorldCalls). calls ++ store_calls turn.first) turn.nothing_stored) in
    cc (sym none ∙ (all ∙ does.one_use))

-- what is known to be stored last is what the run stored last
known_so : (known due : Option (List ℕ)) (run : TakenTurn) → IsTurn run.turn run.signatures run.whole
    → run.begun ≡ run.whole → (known ≡ due) ⊎ (due ≡ None)
    → (known_after known run ≡ stored_last run.turn due) ⊎ (stored_last run.turn due ≡ None)
known_so known due run turn whole alive = by_turn run.turn refl (store_calls run.begun) refl
  where
    by_turn : (is : Turn) → run.turn ≡ is → (calls : WorldCalls) → store_calls run.begun ≡ calls
        → (known_by is calls known ≡ stored_last is due) ⊎ (stored_last is due ≡ None)
    by_turn StoresNothing same calls at = alive
    by_turn (Makes key) same calls at = inr refl
    by_turn (Uses count state text watch) same [] at =
        absurd (uses_state run count state text watch turn same (ap store_calls (sym whole) ∙ at))
    by_turn (Uses count state text watch) same (call ∷ calls) at = inl refl
    by_turn (Watches state text) same calls at = inr refl
    by_turn (Resumes count state watch) same calls at = inr refl

none_begun : (later begun : WorldCalls) → later ++ begun ≡ [] → (later ≡ []) × (begun ≡ [])
none_begun [] begun none = (refl, none)
none_begun (call ∷ later) begun none = cc none

pub history_then : (turns rest : List TakenTurn) (due known : Option (List ℕ)) (held : Expected)
    → AreCutTurns turns → AreLinked due turns → ((known ≡ due) ⊎ (due ≡ None)) ⊎ (begun_calls turns ≡ [])
    → IsCarriedAlong held (turns ++ rest)
    → ((known : Option (List ℕ)) (held : Expected) → IsCarriedAlong held rest → IsHistory known held rest)
    → IsHistory known held (turns ++ rest)
history_then [] rest due known held cut linked alive carried others = others known held carried
history_then (turn ∷ turns) rest due known held (is, begins, ends, cut) (due_is, goes, linked) alive
    (left, carried, later) others = (
      is,
      begins,
      links alive,
      subst (λ (d : Option (List ℕ)). Continues turn.turn d) (sym due_is) goes,
      (
        left,
        carried,
        history_then turns rest (stored_last turn.turn due) (known_after known turn) left cut linked
            (alive_then ends alive)
            later others,
      ),
    )
  where
    links : ((known ≡ due) ⊎ (due ≡ None)) ⊎ (begun_calls turns ++ turn.begun ≡ []) → Links known turn
    links (inl (inl same)) = inr (inl (due_is ∙ sym same))
    links (inl (inr none)) = inl (due_is ∙ none)
    links (inr nothing) =
        let none = (none_begun (begun_calls turns) turn.begun nothing).1 in
        inr (inr (ap store_calls none, ap witness_calls none))

    alive_then : (turn.begun ≡ turn.whole) ⊎ (begun_calls turns ≡ [])
        → ((known ≡ due) ⊎ (due ≡ None)) ⊎ (begun_calls turns ++ turn.begun ≡ [])
        → ((known_after known turn ≡ stored_last turn.turn due) ⊎ (stored_last turn.turn due ≡ None))
        ⊎ (begun_calls turns ≡ [])
    alive_then (inr nothing) alive = inr nothing
    alive_then (inl whole) (inl so) = inl (known_so known due turn is whole so)
    alive_then (inl whole) (inr nothing) = inr (none_begun (begun_calls turns) turn.begun nothing).0
