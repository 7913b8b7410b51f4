-- Where clap's walk over the arguments has no fault, it does not stop at the subcommand `help`.
use Rattle.std.proofs.Common.{◌≡◌, ◌&&◌, refl, Bool, cond, true, false, codes, ℕ, List, [], ◌∷◌, Option, Some, None}
use Rattle.std.proofs.Common.{is_some}
use Rattle.std.specs.List.{fold}
use Rattle.std.specs.Str.{bytes_eq}
use Rattle.clap.specs.Lexer.{long_of, short_of}
use Rattle.clap.specs.Walk.{Held, Names, Outcome, Rule, Step, Text, Waiting, Walk, idle, option, positional, done}
use Rattle.clap.specs.Walk.{waits, plain, refused, next, trailing, subcommand, value}
use Rattle.clap.specs.Walk.{after_flag, after_step, arg_by_index, long_or_other, plain_word, short_or_plain}
use Rattle.clap.specs.Walk.{subcommand_met, subcommand_or_other, to_positional, walked, walked_from, word_met}
use Rattle.clap.specs.Simple.{Shape}
use Rattle.clap.specs.Kinds.{or_else}
use Rattle.clap.specs.Faults.{other_fault, step_fault, turn_fault, walk_fault, word_fault}
use Rattle.clap.specs.declared.error.kind.ErrorKind.TheVariants.{DisplayHelp, InvalidSubcommand}
use Rattle.lms_command_line.proofs.FullRows.{both_none}

-- no stop, or one at another subcommand
abbrev pub IsPastHelp : Option (Text × List Text) → Type 0
IsPastHelp None = Unit {0}
IsPastHelp (Some p) = bytes_eq p.0 (codes "help") ≡ false

abbrev IsOtherStep : Step → Type 0
IsOtherStep (subcommand name) = bytes_eq name (codes "help") ≡ false
IsOtherStep _ = Unit {0}

plain_step : (c : List Rule) (waiting : Waiting) (word : Text) (h : Held) → IsOtherStep (plain_word c waiting word h).1
plain_step c idle word h = tt
plain_step c positional word h = tt
plain_step c (option id) word h = tt

flag_step : (c : List Rule) (waiting : Waiting) (word : Text) (h : Held) (met : Outcome)
    → IsOtherStep (after_flag c waiting word h met).1
flag_step c waiting word h done = tt
flag_step c waiting word h (waits id) = tt
flag_step c waiting word h plain = plain_step c waiting word h
flag_step c waiting word h refused = plain_step c waiting word h

flag_word_step : (c : List Rule) (waiting : Waiting) (o : Option (Text × Option Text)) (word : Text) (h : Held)
    → IsOtherStep (long_or_other c waiting word o h).1
flag_word_step c waiting (Some p) word h = flag_step c waiting word _ _
flag_word_step c waiting None word h = go (short_of word)
  where
    go : (o : Option Text) → IsOtherStep (short_or_plain c waiting word o h).1
    go None = plain_step c waiting word h
    go (Some flags) = flag_step c waiting word _ _

module _ (s : Shape) (names : Names) (has_help : s.disable_help_subcommand ≡ false) where
  other_name : (name : Text) (word : Text) (h : Held) → other_fault s (Some name) word h ≡ []
      → bytes_eq name (codes "help") ≡ false
  other_name name word h e = go (bytes_eq name (codes "help")) (rw has_help at e)
    where
      go : (t : Bool) → cond (t && true) (DisplayHelp ∷ InvalidSubcommand ∷ []) [] ≡ [] → t ≡ false
      go true none = cc
      go false none = refl

  word_step : (is_trailing : Bool) (waiting : Waiting) (position : ℕ) (word : Text) (h : Held)
      → word_fault s names is_trailing waiting word h ≡ []
      → IsOtherStep (word_met s.rules names is_trailing waiting position word h).1
  word_step true waiting position word h e = tt
  word_step false waiting position word h e = go (subcommand_met names waiting word) e
    where
      dashes : (t : Bool)
          → IsOtherStep (cond t (h, trailing position) (long_or_other s.rules waiting word (long_of word) h)).1
      dashes true = tt
      dashes false = flag_word_step s.rules waiting (long_of word) word h

      go : (o : Option Text) → other_fault s o word h ≡ []
          → IsOtherStep (subcommand_or_other s.rules o waiting position word h).1
      go (Some name) none = other_name name word h none
      go None none = dashes (bytes_eq word (45 ∷ 45 ∷ []))

  stop_of_step : (word : Text) (w : Walk) (h : Held) (step : Step) → IsOtherStep step → IsPastHelp w.stopped
      → IsPastHelp (after_step s.rules word w h step).stopped
  stop_of_step word w h (next waiting) other past = past
  stop_of_step word w h (trailing position) other past = past
  stop_of_step word w h (subcommand name) other past = other
  stop_of_step word w h value other past = go (arg_by_index s.rules w.position)
    where
      go : (o : Option Rule) → IsPastHelp (to_positional s.rules o word w h).stopped
      go None = past
      go (Some a) = tt

  turn_stop : (w : Walk) (word : Text) → turn_fault s names w word ≡ [] → IsPastHelp w.stopped
      → IsPastHelp (walked s.rules names w word).stopped
  unfolding walked
  turn_stop w word e past = go w.stopped e past
    where
      go : (o : Option (Text × List Text))
          → cond (is_some o) [] (or_else (word_fault s names w.is_trailing w.waiting word w.held)
          (let m = word_met s.rules names w.is_trailing w.waiting w.position word w.held in
          step_fault s w.position m.0 m.1)) ≡ []
          → IsPastHelp o → IsPastHelp (walked_from s.rules names o w word).stopped
      go (Some p) none here = here
      go None none here =
          let parts = both_none (word_fault s names w.is_trailing w.waiting word w.held) _ none in
          stop_of_step word w _ _ (word_step w.is_trailing w.waiting w.position word w.held parts.0) past

  -- where the arguments have no fault, the walk goes past no `help`
  pub walk_past_help : (w : Walk) (words : List Text) → walk_fault s names w words ≡ [] → IsPastHelp w.stopped
      → IsPastHelp (fold (walked s.rules names) w words).stopped
  unfolding walk_fault
  walk_past_help w [] e past = past
  walk_past_help w (word ∷ rest) e past =
      let parts = both_none (turn_fault s names w word) (walk_fault s names (walked s.rules names w word) rest) e in
      walk_past_help (walked s.rules names w word) rest parts.1 (turn_stop w word parts.0 past)
