-- What a world in memory holds after calls.
use Rattle.std.proofs.Common.{◌≡◌, ◌∙◌, ◌∷◌, [], List, None, Some, Ok, Err, ap, subst, sym}
use Rattle.lms_world.specs.Events.{Event, Read, Opened, Written, Locked, Unlocked, Asked}
use Rattle.lms_world.specs.Events.{Acquired, NotAvailable, NoMemory}
use Rattle.lms_world.specs.Events.{Taken, PutBack, NodesRead, NodesWritten, Printing, Printed}
use Rattle.lms_world.specs.Events.{WitnessDrafted, WitnessMade, WitnessRead, WitnessWritten}
use Rattle.lms_world.specs.Held.{Acts, Answers, Held, Replays}
use Rattle.lms_world.specs.Outcomes.{HoldsAfter, HoldsWhatIsLogged}

-- nothing is changed
still : (calls : List Event) (old between new : Held) → HoldsAfter calls old between → new ≡ between
    → HoldsAfter calls old new
still calls old between new is same = subst (λ (h : Held). HoldsAfter calls old h) (sym same) is

one_more : (earlier : List Event) (old between new : Held) → HoldsAfter earlier old between → (event : Event)
    → Acts event between new
    → HoldsAfter (event ∷ earlier) old new
one_more earlier old between new is (Read name (Ok bytes)) acts = still earlier old between new is acts.0
one_more earlier old between new is (Read name (Err fault)) acts = still earlier old between new is acts.0
one_more earlier old between new is (Opened name (Ok (Some bytes))) acts = still earlier old between new is acts.0
one_more earlier old between new is (Opened name (Ok None)) never = absurd never
one_more earlier old between new is (Opened name (Err fault)) acts = still earlier old between new is acts.0
one_more earlier old between new is (Written name bytes (Ok done)) acts = (
  ap (λ (h : Held). h.files) acts ∙ ap (λ (files : Answers). (name, Ok bytes) ∷ files) is.0,
  ap (λ (h : Held). h.state) acts ∙ is.1,
  ap (λ (h : Held). h.nodes) acts ∙ is.2,
  ap (λ (h : Held). h.in_use) acts ∙ is.3,
  ap (λ (h : Held). h.nodes_fault) acts ∙ is.4,
  ap (λ (h : Held). h.witness) acts ∙ is.5,
)
one_more earlier old between new is (Written name bytes (Err fault)) acts = still earlier old between new is acts.0
one_more earlier old between new is (Locked name Acquired) acts = still earlier old between new is acts.0
one_more earlier old between new is (Locked name NotAvailable) acts = still earlier old between new is acts.0
one_more earlier old between new is (Locked name NoMemory) acts = still earlier old between new is acts
one_more earlier old between new is Unlocked acts = still earlier old between new is acts
one_more earlier old between new is (Asked there) acts = still earlier old between new is acts.0
one_more earlier old between new is (Taken (Some store)) acts = (
  ap (λ (h : Held). h.files) acts.2 ∙ is.0,
  ap (λ (h : Held). h.state) acts.2,
  ap (λ (h : Held). h.nodes) acts.2 ∙ is.2,
  ap (λ (h : Held). h.in_use) acts.2 ∙ is.3,
  ap (λ (h : Held). h.nodes_fault) acts.2 ∙ is.4,
  ap (λ (h : Held). h.witness) acts.2 ∙ is.5,
)
one_more earlier old between new is (Taken None) acts = still earlier old between new is acts
one_more earlier old between new is (PutBack store) acts = (
  ap (λ (h : Held). h.files) acts.1 ∙ is.0,
  ap (λ (h : Held). h.state) acts.1,
  ap (λ (h : Held). h.nodes) acts.1 ∙ is.2,
  ap (λ (h : Held). h.in_use) acts.1 ∙ is.3,
  ap (λ (h : Held). h.nodes_fault) acts.1 ∙ is.4,
  ap (λ (h : Held). h.witness) acts.1 ∙ is.5,
)
one_more earlier old between new is (NodesRead (Some text)) acts = still earlier old between new is acts.0
one_more earlier old between new is (NodesRead None) acts = still earlier old between new is acts
one_more earlier old between new is (NodesWritten text (Ok done)) acts = (
  ap (λ (h : Held). h.files) acts ∙ is.0,
  ap (λ (h : Held). h.state) acts ∙ is.1,
  ap (λ (h : Held). h.nodes) acts,
  ap (λ (h : Held). h.in_use) acts ∙ is.3,
  ap (λ (h : Held). h.nodes_fault) acts ∙ is.4,
  ap (λ (h : Held). h.witness) acts ∙ is.5,
)
one_more earlier old between new is (NodesWritten text (Err fault)) acts = still earlier old between new is acts.0
one_more earlier old between new is (WitnessRead (Ok found)) acts = still earlier old between new is acts.0
one_more earlier old between new is (WitnessRead (Err fault)) acts = still earlier old between new is acts.0
one_more earlier old between new is (WitnessDrafted (Ok done)) acts = still earlier old between new is acts
one_more earlier old between new is (WitnessDrafted (Err fault)) acts = still earlier old between new is acts.0
one_more earlier old between new is (WitnessWritten text (Ok done)) acts = (
  ap (λ (h : Held). h.files) acts ∙ is.0,
  ap (λ (h : Held). h.state) acts ∙ is.1,
  ap (λ (h : Held). h.nodes) acts ∙ is.2,
  ap (λ (h : Held). h.in_use) acts ∙ is.3,
  ap (λ (h : Held). h.nodes_fault) acts ∙ is.4,
  ap (λ (h : Held). h.witness) acts,
)
one_more earlier old between new is (WitnessWritten text (Err fault)) acts = still earlier old between new is acts.0
one_more earlier old between new is (WitnessMade name text (Ok place)) acts = (
  ap (λ (h : Held). h.files) acts.0 ∙ is.0,
  ap (λ (h : Held). h.state) acts.0 ∙ is.1,
  ap (λ (h : Held). h.nodes) acts.0 ∙ is.2,
  ap (λ (h : Held). h.in_use) acts.0 ∙ is.3,
  ap (λ (h : Held). h.nodes_fault) acts.0 ∙ is.4,
  ap (λ (h : Held). h.witness) acts.0,
)
one_more earlier old between new is (WitnessMade name text (Err fault)) acts = still earlier old between new is acts.0
one_more earlier old between new is (Printing before) acts = still earlier old between new is acts
one_more earlier old between new is (Printed bytes) acts = still earlier old between new is acts

pub holds_after : (old new : Held) (calls : List Event) → Replays old calls new → HoldsAfter calls old new
holds_after old new [] same = (
  ap (λ (h : Held). h.files) same,
  ap (λ (h : Held). h.state) same,
  ap (λ (h : Held). h.nodes) same,
  ap (λ (h : Held). h.in_use) same,
  ap (λ (h : Held). h.nodes_fault) same,
  ap (λ (h : Held). h.witness) same,
)
holds_after old new (event ∷ earlier) is = one_more earlier old is.0 new (holds_after old is.0 earlier is.1) event is.2

pub holds_what_is_logged : HoldsWhatIsLogged
holds_what_is_logged old new before now follows =
    (follows.calls.0, follows.calls.1, holds_after old new follows.calls.0 follows.calls.2)
