-- Where clap's walk over the arguments has no fault and each option takes a value, each row that it
-- leaves has a value.
use Rattle.std.proofs.Common.{◌≡◌, ◌&&◌, ℕ, Bool, cond, true, false, zero, suc, List, [], ◌∷◌, ◌++◌, length, drop, refl}
use Rattle.std.proofs.Common.{Option, Some, None, is_some}
use Rattle.std.specs.Prelude.{encode_utf8, nat_lt, option_and_then, slice_get}
use Rattle.std.specs.List.{find, fold, list_all}
use Rattle.std.specs.Option.{option_map_or}
use Rattle.std.specs.Str.{bytes_eq, chars}
use Rattle.clap.specs.Lexer.{long_of, short_of}
use Rattle.clap.specs.Facts.{explicit_source, unwrap_or_range}
use Rattle.clap.specs.Walk.{Held, Names, Outcome, Row, Rule, Step, Text, Waiting, Walk, idle, option, positional, done}
use Rattle.clap.specs.Walk.{waits, plain, refused, next, trailing, subcommand, value}
use Rattle.clap.specs.Walk.{action_of, after_flag, after_step, arg_by_id, arg_by_index, arg_by_long, arg_by_short}
use Rattle.clap.specs.Walk.{attached_value, bundle_met, bundle_step, default_rows, first_of, flag_met, has_row}
use Rattle.clap.specs.Walk.{is_pending, long_met, long_or_other, more_values, most_values, nothing_held, option_met}
use Rattle.clap.specs.Walk.{option_word, plain_word, positional_held, reacted, reading_by, rows_after, settled}
use Rattle.clap.specs.Walk.{settled_rows, short_met, short_or_plain, subcommand_met, subcommand_or_other, takes_several}
use Rattle.clap.specs.Walk.{takes_values, to_positional, used, used_as, used_by_id, values_or_missing, walk, walk_from}
use Rattle.clap.specs.Walk.{walked, walked_from, with_default, with_values, without, word_met}
use Rattle.clap.specs.Simple.{Shape}
use Rattle.clap.specs.Takes.{is_given}
use Rattle.clap.specs.Kinds.{Kinds, or_else, range_kinds}
use Rattle.clap.specs.Faults.{bundle_fault, bundle_step_fault, check_fault, defaults_fault, flag_word_fault}
use Rattle.clap.specs.Faults.{flags_fault, level_fault, long_fault, option_fault, other_fault, positional_fault}
use Rattle.clap.specs.Faults.{react_fault, settle_fault, short_fault, step_fault, stray_fault, turn_fault, use_fault}
use Rattle.clap.specs.Faults.{walk_fault, word_fault}
use Rattle.clap.specs.declared.builder.action.ArgAction.{ArgAction}
use Rattle.clap.specs.declared.builder.action.ArgAction.TheVariants.{Set, Append, SetTrue, SetFalse, Count, Help}
use Rattle.clap.specs.declared.builder.action.ArgAction.TheVariants.{HelpShort, HelpLong, Version}
use Rattle.clap.specs.declared.builder.value_parser.Reading.{Reading}
use Rattle.clap.specs.declared.error.kind.ErrorKind.TheVariants.{InvalidValue, TooManyValues}
use Rattle.clap.specs.declared.parser.matches.ValueSource.{ValueSource}
use Rattle.clap.proofs.WalkLemmas.{both}

-- no kind comes of two steps, so none comes of either
pub both_none : (a b : Kinds) → or_else a b ≡ [] → (a ≡ []) × (b ≡ [])
both_none [] b e = (refl, e)
both_none (k ∷ ks) b e = cc

-- ---- rows with values

abbrev pub HasValue : List Text → Type 0
HasValue [] = ⊥
HasValue (v ∷ vs) = Unit {0}

abbrev pub AllFull : List Row → Type 0
AllFull [] = Unit {0}
AllFull (r ∷ rows) = HasValue r.values × AllFull rows

HasValue-append : (xs ys : List Text) → HasValue ys → HasValue (xs ++ ys)
HasValue-append [] ys h = h
HasValue-append (x ∷ xs) ys h = tt

with_values_full : (id : Text) (how : Reading) (s : ValueSource) (values : List Text) (rows : List Row)
    → HasValue values → AllFull rows → AllFull (with_values id how s values rows)
with_values_full id how s values [] h all = (h, tt)
with_values_full id how s values (r ∷ rows) h all =
    go (bytes_eq r.id id) (with_values_full id how s values rows h all.1)
  where
    go : (t : Bool) → AllFull (with_values id how s values rows)
        → AllFull (cond t (more_values s values r ++ rows) (r ∷ with_values id how s values rows))
    go true rest = (HasValue-append r.values values h, all.1)
    go false rest = (all.0, rest)

without_full : (id : Text) (rows : List Row) → AllFull rows → AllFull (without id rows)
without_full id [] all = tt
without_full id (r ∷ rows) all = go (bytes_eq r.id id) (without_full id rows all.1)
  where
    go : (t : Bool) → AllFull (without id rows) → AllFull (cond t ([] ++ rows) (r ∷ without id rows))
    go true rest = all.1
    go false rest = (all.0, rest)

-- ---- options that take a value

-- a use of the argument gives it a value, or ends the parse
abbrev pub fills : ArgAction → ℕ → Bool
fills Set least = nat_lt 0 least
fills Help least = true
fills HelpShort least = true
fills HelpLong least = true
fills Version least = true
fills _ least = false

abbrev pub is_filling : Rule → Bool
is_filling a = fills (action_of a) (unwrap_or_range a.range).start_inclusive

abbrev Filling : Option Rule → Type 0
Filling None = Unit {0}
Filling (Some a) = is_filling a ≡ true

found_filling : (p : Rule → Bool) (c : List Rule) → list_all is_filling c ≡ true → Filling (find p c)
found_filling p [] h = tt
found_filling p (a ∷ c) h = go (p a) (both (is_filling a) (list_all is_filling c) h).0
    (found_filling p c (both (is_filling a) (list_all is_filling c) h).1)
  where
    go : (t : Bool) → is_filling a ≡ true → Filling (find p c) → Filling (cond t (Some a) (find p c))
    go true here rest = here
    go false here rest = rest

given_value : (least most : ℕ) (values : List Text) → nat_lt 0 least ≡ true
    → range_kinds least most (length values) ≡ [] → HasValue values
given_value least most [] takes e =
    let bad : InvalidValue ∷ [] ≡ [] = rw takes at e in
    cc
given_value least most (v ∷ vs) takes e = tt

given_or_missing : (a : Rule) (values : List Text) → HasValue values → HasValue (values_or_missing a values)
given_or_missing a [] h = absurd h
given_or_missing a (v ∷ vs) h = tt

use_full : (again : Bool) (a : Rule) (values : List Text) (rows : List Row) → is_filling a ≡ true
    → use_fault again a values rows ≡ [] → AllFull rows → AllFull (used a values rows)
use_full again a values rows filling e all =
    go (unwrap_or_range a.range).start_inclusive (action_of a) filling
    (both_none (range_kinds (unwrap_or_range a.range).start_inclusive (most_values a) (length values)) _ e).0
  where
    go : (least : ℕ) (x : ArgAction) → fills x least ≡ true → range_kinds least (most_values a) (length values) ≡ []
        → AllFull (used_as x a.id (reading_by a) (values_or_missing a values) rows)
    go least Set takes count =
        with_values_full a.id _ _ _ _ (given_or_missing a values (given_value least (most_values a) values takes count))
        (without_full a.id rows all)
    go least Append takes count = cc
    go least SetTrue takes count = cc
    go least SetFalse takes count = cc
    go least Count takes count = cc
    go least Help takes count = all
    go least HelpShort takes count = all
    go least HelpLong takes count = all
    go least Version takes count = all

-- ---- one word

module _ (c : List Rule) (again : Bool) (filling : list_all is_filling c ≡ true) where
  used_by_id_full : (o : Option Rule) (values : List Text) (rows : List Row) → Filling o
      → option_map_or (λ a. use_fault again a values rows) o [] ≡ []
      → AllFull rows → AllFull (used_by_id o values rows)
  used_by_id_full None values rows fill e all = all
  used_by_id_full (Some a) values rows fill e all = use_full again a values rows fill e all

  settle_full : (h : Held) → settle_fault c again h ≡ [] → AllFull h.rows → AllFull (settled c h).rows
  settle_full h e all = go h.pending e
    where
      go : (p : Option (Text × List Text))
          → option_map_or (λ q. option_map_or (λ a. use_fault again a q.1 h.rows) (arg_by_id c q.0) []) p [] ≡ []
          → AllFull (settled_rows c p h.rows)
      go None none = all
      go (Some q) none = used_by_id_full (arg_by_id c q.0) q.1 h.rows (found_filling _ c filling) none all

  react_full : (a : Rule) (values : List Text) (h : Held) → is_filling a ≡ true → react_fault c again a values h ≡ []
      → AllFull h.rows → AllFull (reacted c a values h).rows
  react_full a values h fill e all =
      let parts = both_none (settle_fault c again h) (use_fault again a values (settled c h).rows) e in
      use_full again a values (settled c h).rows fill parts.1 (settle_full h parts.0 all)

  option_full : (a : Rule) (v : Option Text) (h : Held) → is_filling a ≡ true → option_fault c again a v h ≡ []
      → AllFull h.rows → AllFull (option_met c a v h).0.rows
  option_full a (Some v) h fill e all = react_full a (v ∷ []) h fill e all
  option_full a None h fill e all = settle_full h e all

  flag_full : (a : Rule) (v : Option Text) (h : Held) → is_filling a ≡ true
      → cond (is_some v) (TooManyValues ∷ []) (react_fault c again a [] h) ≡ []
      → AllFull h.rows → AllFull (flag_met c a v h).0.rows
  flag_full a (Some v) h fill e all = all
  flag_full a None h fill e all = react_full a [] h fill e all

  long_full : (o : Option Rule) (v : Option Text) (h : Held) → Filling o → long_fault c again o v h ≡ []
      → AllFull h.rows → AllFull (long_met c o v h).0.rows
  long_full None v h fill e all = all
  long_full (Some a) v h fill e all = go (takes_values a) e
    where
      go : (t : Bool) → cond t (option_fault c again a v h)
          (cond (is_some v) (TooManyValues ∷ []) (react_fault c again a [] h)) ≡ []
          → AllFull (cond t (option_met c a v h) (flag_met c a v h)).0.rows
      go true none = option_full a v h fill none all
      go false none = flag_full a v h fill none all

  short_full : (o : Option Rule) (rest : Text) (h : Held) (go_on : Held → Held × Outcome)
      (fault_on : Held → Kinds) → Filling o
      → ((k : Held) → fault_on k ≡ [] → AllFull k.rows → AllFull (go_on k).0.rows)
      → short_fault c again o rest h fault_on ≡ [] → AllFull h.rows → AllFull (short_met c o rest h go_on).0.rows
  short_full None rest h go_on fault_on fill on e all = all
  short_full (Some a) rest h go_on fault_on fill on e all = go (takes_values a) e
    where
      go : (t : Bool) → cond t (option_fault c again a (attached_value rest) h)
          (or_else (react_fault c again a [] h) (fault_on (reacted c a [] h))) ≡ []
          → AllFull (cond t (option_met c a (attached_value rest) h) (go_on (reacted c a [] h))).0.rows
      go true none = option_full a (attached_value rest) h fill none all
      go false none =
          let parts = both_none (react_fault c again a [] h) (fault_on (reacted c a [] h)) none in
          on (reacted c a [] h) parts.1 (react_full a [] h fill parts.0 all)

  flag_of_bundle_full : (o : Option ℕ) (flags : Text) (skip : ℕ) (so_far : Outcome) (h : Held)
      (go_on : Text → ℕ → Outcome → Held → Held × Outcome) (fault_on : Text → ℕ → Held → Kinds)
      → ((rest : Text) (n : ℕ) (met : Outcome) (k : Held) → fault_on rest n k ≡ [] → AllFull k.rows
      → AllFull (go_on rest n met k).0.rows)
      → bundle_step_fault c again o flags skip h fault_on ≡ [] → AllFull h.rows
      → AllFull (bundle_step c o flags skip so_far h go_on).0.rows
  flag_of_bundle_full None flags skip so_far h go_on fault_on on e all = all
  flag_of_bundle_full (Some x) flags zero so_far h go_on fault_on on e all =
      let rest = drop (length (encode_utf8 x)) flags in
      short_full (arg_by_short c x) rest h (go_on rest 0 done) (fault_on rest 0) (found_filling _ c filling)
      (on rest 0 done) e all
  flag_of_bundle_full (Some x) flags (suc skip) so_far h go_on fault_on on e all =
      on (drop (length (encode_utf8 x)) flags) skip so_far h e all

  bundle_full : (k : ℕ) (flags : Text) (skip : ℕ) (so_far : Outcome) (h : Held)
      → flags_fault c again k flags skip h ≡ [] → AllFull h.rows → AllFull (bundle_met c k flags skip so_far h).0.rows
  unfolding bundle_met flags_fault
  bundle_full zero flags skip so_far h e all = all
  bundle_full (suc k) flags skip so_far h e all =
      flag_of_bundle_full (slice_get (chars flags) 0) flags skip so_far h (bundle_met c k) (flags_fault c again k)
      (bundle_full k) e all

  plain_full : (waiting : Waiting) (word : Text) (h : Held) → AllFull h.rows
      → AllFull (plain_word c waiting word h).0.rows
  plain_full idle word h all = all
  plain_full positional word h all = all
  plain_full (option id) word h all = go (arg_by_id c id)
    where
      go : (o : Option Rule) → AllFull (option_word o id word h).0.rows
      go None = all
      go (Some a) = all

  after_flag_full : (waiting : Waiting) (word : Text) (h : Held) (met : Outcome) → AllFull h.rows
      → AllFull (after_flag c waiting word h met).0.rows
  after_flag_full waiting word h done all = all
  after_flag_full waiting word h (waits id) all = all
  after_flag_full waiting word h plain all = plain_full waiting word h all
  after_flag_full waiting word h refused all = plain_full waiting word h all

  flag_word_full : (waiting : Waiting) (o : Option (Text × Option Text)) (word : Text) (h : Held)
      → flag_word_fault c again o word h ≡ [] → AllFull h.rows
      → AllFull (long_or_other c waiting word o h).0.rows
  flag_word_full waiting (Some p) word h e all =
      after_flag_full waiting word _ _ (long_full (arg_by_long c p.0) p.1 h (found_filling _ c filling) e all)
  flag_word_full waiting None word h e all = go (short_of word) e
    where
      go : (o : Option Text) → option_map_or (λ flags. bundle_fault c again flags h) o [] ≡ []
          → AllFull (short_or_plain c waiting word o h).0.rows
      go None none = plain_full waiting word h all
      go (Some flags) none = after_flag_full waiting word _ _
          (bundle_full (length flags) flags h.skip plain (record h { skip = 0 }) none all)

  positional_full : (a : Rule) (word : Text) (h : Held) → positional_fault c again a h ≡ [] → AllFull h.rows
      → AllFull (positional_held c a word h).rows
  positional_full a word h e all = go (is_pending a h.pending && takes_several a) e
    where
      go : (t : Bool) → cond t [] (settle_fault c again h) ≡ [] → AllFull (cond t h (settled c h)).rows
      go true none = all
      go false none = settle_full h none all

-- ---- all words

module _ (s : Shape) (names : Names) (filling : list_all is_filling s.rules ≡ true) where
  word_full : (is_trailing : Bool) (waiting : Waiting) (position : ℕ) (word : Text) (h : Held)
      → word_fault s names is_trailing waiting word h ≡ [] → AllFull h.rows
      → AllFull (word_met s.rules names is_trailing waiting position word h).0.rows
  word_full true waiting position word h e all = all
  word_full false waiting position word h e all = go (subcommand_met names waiting word) e
    where
      dashes : (t : Bool) → cond t [] (flag_word_fault s.rules s.args_override_self (long_of word) word h) ≡ []
          → AllFull (cond t (h, trailing position) (long_or_other s.rules waiting word (long_of word) h)).0.rows
      dashes true none = all
      dashes false none = flag_word_full s.rules s.args_override_self filling waiting (long_of word) word h none all

      go : (o : Option Text) → other_fault s o word h ≡ []
          → AllFull (subcommand_or_other s.rules o waiting position word h).0.rows
      go (Some name) none = all
      go None none = dashes (bytes_eq word (45 ∷ 45 ∷ [])) none

  step_full : (word : Text) (w : Walk) (h : Held) (step : Step) → step_fault s w.position h step ≡ [] → AllFull h.rows
      → AllFull (after_step s.rules word w h step).held.rows
  step_full word w h (next waiting) e all = all
  step_full word w h (trailing position) e all = all
  step_full word w h (subcommand name) e all = all
  step_full word w h value e all = go (arg_by_index s.rules w.position) e
    where
      go : (o : Option Rule)
          → option_map_or (λ a. positional_fault s.rules s.args_override_self a h) o (stray_fault s) ≡ []
          → AllFull (to_positional s.rules o word w h).held.rows
      go None none = all
      go (Some a) none = positional_full s.rules s.args_override_self filling a word h none all

  turn_full : (w : Walk) (word : Text) → turn_fault s names w word ≡ [] → AllFull w.held.rows
      → AllFull (walked s.rules names w word).held.rows
  unfolding walked
  turn_full w word e all = go w.stopped e
    where
      met : Held × Step
      met = word_met s.rules names w.is_trailing w.waiting w.position word w.held

      go : (o : Option (Text × List Text))
          → cond (is_some o) [] (or_else (word_fault s names w.is_trailing w.waiting word w.held)
          (let m = word_met s.rules names w.is_trailing w.waiting w.position word w.held in
          step_fault s w.position m.0 m.1)) ≡ []
          → AllFull (walked_from s.rules names o w word).held.rows
      go (Some p) none = all
      go None none =
          let parts = both_none (word_fault s names w.is_trailing w.waiting word w.held) _ none in
          step_full word w _ _ parts.1 (word_full w.is_trailing w.waiting w.position word w.held parts.0 all)

  walk_full : (w : Walk) (words : List Text) → walk_fault s names w words ≡ [] → AllFull w.held.rows
      → AllFull (fold (walked s.rules names) w words).held.rows
  unfolding walk_fault
  walk_full w [] e all = all
  walk_full w (word ∷ rest) e all =
      let parts = both_none (turn_fault s names w word) (walk_fault s names (walked s.rules names w word) rest) e in
      walk_full (walked s.rules names w word) rest parts.1 (turn_full w word parts.0 all)

-- ---- after the walk

with_default_full : (a : Rule) (rows : List Row) → AllFull rows → AllFull (with_default rows a)
with_default_full a rows all = go (has_row a.id rows)
  where
    given : (values : List Text) → AllFull (default_rows a.id (reading_by a) values rows)
    given [] = all
    given (v ∷ vs) = with_values_full a.id _ _ (v ∷ vs) rows tt all

    go : (t : Bool) → AllFull (cond t rows (default_rows a.id (reading_by a) a.defaults rows))
    go true = all
    go false = given a.defaults

defaults_full : (c : List Rule) (rows : List Row) → AllFull rows → AllFull (fold with_default rows c)
defaults_full [] rows all = all
defaults_full (a ∷ c) rows all = defaults_full c (with_default rows a) (with_default_full a rows all)

-- where a level of the parse has no fault, each row has a value
pub level_full : (s : Shape) (names : Names) (words : List Text) (has_subcommand : Bool) (below : Kinds)
    → list_all is_filling s.rules ≡ true
    → level_fault s names nothing_held words has_subcommand below ≡ [] → AllFull (rows_after s.rules names words)
level_full s names words has_subcommand below filling e =
    let walked_parts = both_none (walk_fault s names (walk_from nothing_held) words) _ e in
    let below_parts = both_none below _ walked_parts.1 in
    let settled_parts = both_none
    (settle_fault s.rules s.args_override_self (walk s.rules names nothing_held words).held) _ below_parts.1 in
    defaults_full s.rules _
    (settle_full s.rules s.args_override_self filling (walk s.rules names nothing_held words).held settled_parts.0
    (walk_full s names filling (walk_from nothing_held) words walked_parts.0 tt))

-- and the last checks find nothing
pub level_checked : (s : Shape) (names : Names) (words : List Text) (has_subcommand : Bool) (below : Kinds)
    → level_fault s names nothing_held words has_subcommand below ≡ []
    → check_fault s (rows_after s.rules names words) has_subcommand ≡ []
level_checked s names words has_subcommand below e =
    let walked_parts = both_none (walk_fault s names (walk_from nothing_held) words) _ e in
    let below_parts = both_none below _ walked_parts.1 in
    let settled_parts = both_none
    (settle_fault s.rules s.args_override_self (walk s.rules names nothing_held words).held) _ below_parts.1 in
    (both_none (defaults_fault (settled s.rules (walk s.rules names nothing_held words).held).rows s.rules) _
    settled_parts.1).1

-- an argument that was given has a first value
pub given_first : (id : Text) (rows : List Row) → AllFull rows → is_given id rows ≡ true
    → is_some (first_of id rows) ≡ true
given_first id [] all e = cc
given_first id (r ∷ rows) all e = go (bytes_eq r.id id) e (given_first id rows all.1)
  where
    here : (values : List Text) → HasValue values → is_some (slice_get values 0) ≡ true
    here [] h = absurd h
    here (v ∷ vs) h = refl

    go : (t : Bool) → option_map_or (λ x. explicit_source x.source)
        (cond t (Some r) (find (λ x. bytes_eq x.id id) rows)) false ≡ true
        → (is_given id rows ≡ true → is_some (first_of id rows) ≡ true)
        → is_some (option_and_then (λ x. slice_get x.values 0) (cond t (Some r) (find (λ x. bytes_eq x.id id) rows)))
        ≡ true
    go true given rest = here r.values all.0
    go false given rest = rest given
