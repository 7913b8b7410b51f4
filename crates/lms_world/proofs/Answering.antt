-- What reads of a name answer.
use Rattle.std.proofs.Common.{◌≡◌, ◌∙◌, ◌∷◌, [], List, ℕ, Bool, true, false, Option, refl, sym, ap, inl, inr, ⊎_elim}
use Rattle.std.specs.Prelude.{◌≢◌, Some, None, IfSome, cond, map, option_map, Result, string_bytes}
use Rattle.std.specs.List.{find}
use Rattle.std.specs.Str.{bytes_eq}
use Rattle.std.proofs.lemmas.Slice.Eq.{bytes_eq-Decides}
use Rattle.lms_world.specs.Names.{Bytes}
use Rattle.std.specs.Prelude.{◌⊎◌, IfErr, IfOk, Ok, Err, if◌then◌else◌, is_ok}
use Rattle.std.specs.Global.{Vec}
use Rattle.lms_world.specs.Files.{Entry, answer_at, answer_of, entry_answer, held_in, nodes_in, witness_in}
use Rattle.lms_world.specs.Events.{Read, Written, NodesRead, NodesWritten, WitnessRead, Writing, read_of, witness_of}
use Rattle.lms_world.specs.declared.fault.WorldFault.TheVariants.{OutOfMemory}
use Rattle.lms_world.specs.declared.memory.MemoryWorld.{MemoryWorld}
use Rattle.lms_world.specs.Held.{Acts, Answers, MayRefuseNodes, answer_in, with_file, with_nodes_kept}
use Rattle.lms_world.specs.declared.fault.WorldFault.{WorldFault}

answer_of_first : (is : Bool) (entry : Entry) (rest : Option Entry)
    → entry_answer (cond is (Some entry) rest) ≡ cond is (read_of entry.1) (entry_answer rest)
answer_of_first true entry rest = refl
answer_of_first false entry rest = refl

-- the first entry of the name counts
pub answer_found : (entries : List Entry) (name : Bytes)
    → entry_answer (find (λ entry. bytes_eq (string_bytes entry.0) name) entries)
    ≡ answer_in (map answer_at entries) name
answer_found [] name = refl
answer_found (entry ∷ older) name =
    answer_of_first (bytes_eq (string_bytes entry.0) name) entry
    (find (λ other. bytes_eq (string_bytes other.0) name) older)
    ∙ ap (λ (answer : Result (List ℕ) WorldFault). cond (bytes_eq (string_bytes entry.0) name) (read_of entry.1) answer)
    (answer_found older name)

-- the newest entry counts
pub answer_first : (name : Bytes) (answer : Result (List ℕ) WorldFault) (files : Answers)
    → answer_in ((name, answer) ∷ files) name ≡ answer
answer_first name answer files =
    ap (λ (is : Bool). cond is answer (answer_in files name)) ((bytes_eq-Decides name name).1 refl)

is_other : (is : Bool) (written name : Bytes) → (is ≡ true → written ≡ name) → name ≢ written → is ≡ false
is_other true written name decides other = absurd (other (sym (decides refl)))
is_other false written name decides other = refl

-- that of another name doesn't
pub answer_other : (written name : Bytes) (answer : Result (List ℕ) WorldFault) (files : Answers) → name ≢ written
    → answer_in ((written, answer) ∷ files) name ≡ answer_in files name
answer_other written name answer files other =
    ap (λ (is : Bool). cond is answer (answer_in files name))
    (is_other (bytes_eq written name) written name (bytes_eq-Decides written name).0 other)

-- a read of a world in memory
pub reads_as : (world : MemoryWorld) (name : Bytes) (result : Result (Vec ℕ) WorldFault)
    → IfOk result (λ bytes. answer_of world name ≡ Ok bytes.items)
    → IfErr result (λ fault. (answer_of world name ≡ Err fault) ⊎ (fault ≡ OutOfMemory))
    → Acts (Read name (read_of result)) (held_in world) (held_in world)
reads_as world name (Ok bytes) gives refused = (refl, sym (answer_found world.entries.items name) ∙ gives)
reads_as world name (Err fault) gives refused =
    (refl, ⊎_elim (λ is. inl (sym (answer_found world.entries.items name) ∙ is)) inr refused)

-- a write to a world in memory
pub writes_as : (old new : MemoryWorld) (name bytes : Bytes) (answer : Writing)
    → held_in new ≡ (if is_ok answer then with_file name bytes (held_in old) else held_in old)
    → IfErr answer (λ fault. (answer_of old name ≡ Err fault) ⊎ (fault ≡ OutOfMemory))
    → Acts (Written name bytes answer) (held_in old) (held_in new)
writes_as old new name bytes (Ok done) held refused = held
writes_as old new name bytes (Err fault) held refused =
    (held, ⊎_elim (λ is. inl (sym (answer_found old.entries.items name) ∙ is)) inr refused)

-- a read of nodes
pub nodes_as : (world : MemoryWorld) (found : Option (Vec ℕ))
    → IfSome found (λ text. nodes_in world ≡ Some text.items)
    → Acts (NodesRead (option_map (λ text. text.items) found)) (held_in world) (held_in world)
nodes_as world (Some text) gives = (refl, gives)
nodes_as world None gives = refl

-- a read of the witness
pub witness_as : (world : MemoryWorld) (answer : Result (Option (Vec ℕ)) WorldFault)
    → IfOk answer (λ found. witness_in world ≡ Ok (option_map (λ text. text.items) found))
    → IfErr answer (λ fault. (witness_in world ≡ Err fault) ⊎ (fault ≡ OutOfMemory))
    → Acts (WitnessRead (witness_of answer)) (held_in world) (held_in world)
witness_as world (Ok (Some text)) gives refused = (refl, gives)
witness_as world (Ok None) gives refused = (refl, gives)
witness_as world (Err fault) gives refused = (refl, refused)

-- a write of nodes
pub keeps_as : (old new : MemoryWorld) (text : List ℕ) (answer : Writing)
    → held_in new ≡ (if is_ok answer then with_nodes_kept text (held_in old) else held_in old)
    → IfErr answer (MayRefuseNodes (held_in old)) → Acts (NodesWritten text answer) (held_in old) (held_in new)
keeps_as old new text (Ok done) held refused = held
keeps_as old new text (Err fault) held refused = (held, refused)
