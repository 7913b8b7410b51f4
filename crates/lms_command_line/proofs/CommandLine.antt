-- What clap's definition of the program makes of words that it takes.
use Rattle.std.proofs.Common.{◌≡◌, ◌∙◌, ◌||◌, ◌&&◌, ◌++◌, refl, sym, ap, Bool, cond, true, false, not, codes, find, map}
use Rattle.std.proofs.Common.{List, [], ◌∷◌, Option, Some, None, is_some, true≢false}
use Rattle.std.specs.List.{AllByRecursion, list_all, list_any}
use Rattle.std.specs.Option.{option_map, option_map_or}
use Rattle.std.specs.Str.{bytes_eq}
use Rattle.std.proofs.lemmas.Slice.Eq.{bytes_eq-Decides}
use Rattle.clap.specs.Walk.{Row, Rule, Text, answers_to, first_of, nothing_held, rows_after, walk, walk_from}
use Rattle.clap.specs.Simple.{App, Shape, argument_words, built, built_leaf, entered, filled_from, help_rule, inherited}
use Rattle.clap.specs.Simple.{is_simple, help_shape, label_of, marked_built, names_of, rows_at, subcommand_of}
use Rattle.clap.specs.Simple.{with_leaf_noted}
use Rattle.clap.specs.Takes.{is_given}
use Rattle.clap.specs.Faults.{check_fault, entered_fault, fault_of, is_simple_and_free, level_fault, walk_fault}
use Rattle.clap.specs.declared.error.kind.ErrorKind.TheVariants.{MissingRequiredArgument}
use Rattle.lms_command_line.specs.Application.{Subcommand, subcommand_called, subcommand_called_in, lms_app, required_option}
use Rattle.lms_command_line.specs.Application.{shape_for, subcommands}
use Rattle.lms_command_line.proofs.FullRows.{AllFull, both_none, given_first, is_filling, level_checked, level_full}
use Rattle.lms_command_line.proofs.Stops.{IsPastHelp, walk_past_help}

-- clap's definitions give the program's matches and faults
pub lms_app_is_simple : is_simple lms_app ≡ true
lms_app_is_simple = refl

pub lms_app_is_free : is_simple_and_free lms_app ≡ true
lms_app_is_free = refl

-- the program and its subcommands as they are built
abbrev whole : App
whole = built lms_app

abbrev shape_built : Subcommand → Shape
shape_built s = built_leaf (inherited (with_leaf_noted (marked_built lms_app.top)) (shape_for s))

abbrev help_built : Shape
help_built = built_leaf help_shape

abbrev shapes_built : List Subcommand → List Shape
shapes_built among = map shape_built among ++ help_built ∷ []

has_subcommands : whole.subs ≡ shapes_built subcommands
has_subcommands = refl

-- ---- a subcommand's options

-- its rules as they are built
abbrev rules_built : List Text → List Rule
rules_built options = filled_from 1 (map required_option options ++ help_rule ∷ [])

has_rules : (s : Subcommand) → (shape_built s).rules ≡ rules_built s.options
has_rules s = refl

fills_rules : (options : List Text) → list_all is_filling (rules_built options) ≡ true
fills_rules [] = refl
fills_rules (option ∷ options) = fills_rules options

-- each option has a value
abbrev pub HasValues : List Text → List Row → Type 0
HasValues options rows = AllByRecursion (λ option. is_some (first_of option rows) ≡ true) options

none_missing : (missing : Bool) → cond missing (MissingRequiredArgument ∷ []) [] ≡ [] → missing ≡ false
none_missing true e = cc
none_missing false e = refl

has_values : (options : List Text) (rows : List Row) → AllFull rows
    → list_any (λ a. a.required && not (is_given a.id rows)) (rules_built options) ≡ false
    → HasValues options rows
has_values [] rows full e = tt
has_values (option ∷ options) rows full e = go (is_given option rows) refl e (has_values options rows full)
  where
    is_missing : Bool
    is_missing = list_any (λ a. a.required && not (is_given a.id rows)) (rules_built options)

    go : (t : Bool) → is_given option rows ≡ t → (not t || is_missing) ≡ false
        → (is_missing ≡ false → HasValues options rows) → HasValues (option ∷ options) rows
    go true given none others = (given_first option rows full given, others none)
    go false given none others = cc

-- where a subcommand finds no fault in the arguments after it, each of its options has a value
values_of : (s : Subcommand) (rest : List Text) → level_fault (shape_built s) [] nothing_held rest false [] ≡ []
    → HasValues s.options (rows_after (shape_built s).rules [] rest)
values_of s rest none =
    let rows = rows_after (shape_built s).rules [] rest in
    has_values s.options rows (level_full (shape_built s) [] rest false [] (fills_rules s.options) none)
    (none_missing _ (level_checked (shape_built s) [] rest false [] none))

-- ---- the subcommand

wants_subcommand : (rows : List Row) (has : Bool) → check_fault whole.top rows has ≡ [] → has ≡ true
wants_subcommand rows true e = refl
wants_subcommand rows false e = cc

is_not_help : (name : Text) → bytes_eq name (codes "help") ≡ false → answers_to name (label_of help_built) ≡ false
is_not_help name other = go (bytes_eq (codes "help") name) (bytes_eq-Decides (codes "help") name).0
  where
    go : (t : Bool) → (t ≡ true → codes "help" ≡ name) → (t || false) ≡ false
    go true is = absurd (true≢false (sym ((bytes_eq-Decides name (codes "help")).1 (sym (is refl))) ∙ other))
    go false is = refl

-- the shape that was found for a name is that of a subcommand of this name, which finds no fault in
-- the arguments after it
abbrev Finds : List Subcommand → Option Shape → Text → List Text → Type 0
Finds among found name rest =
    (s : Subcommand) × (s.name ≡ name) × (subcommand_called_in among name ≡ Some s)
    × (option_map (λ x. rows_at x rest) found ≡ Some (rows_at (shape_built s) rest))
    × (level_fault (shape_built s) [] nothing_held rest false [] ≡ [])

finds_help : (is_help : Bool) (name : Text) (rest : List Text) → is_help ≡ false
    → is_some (option_map (λ x. rows_at x rest) (cond is_help (Some help_built) None)) ≡ true
    → Finds [] (cond is_help (Some help_built) None) name rest
finds_help true name rest other some = cc
finds_help false name rest other some = cc

finds : (among : List Subcommand) (name : Text) (rest : List Text) → bytes_eq name (codes "help") ≡ false
    → is_some (option_map (λ x. rows_at x rest) (find (λ x. answers_to name (label_of x)) (shapes_built among))) ≡ true
    → option_map_or (λ x. level_fault x [] nothing_held rest false [])
    (find (λ x. answers_to name (label_of x)) (shapes_built among)) [] ≡ []
    → Finds among (find (λ x. answers_to name (label_of x)) (shapes_built among)) name rest
finds [] name rest other some none =
    finds_help (answers_to name (label_of help_built)) name rest (is_not_help name other) some
finds (s ∷ among) name rest other some none =
    go (bytes_eq s.name name) (bytes_eq-Decides s.name name).0 some none (finds among name rest other)
  where
    later : Option Shape
    later = find (λ x. answers_to name (label_of x)) (shapes_built among)

    go : (t : Bool) → (t ≡ true → s.name ≡ name)
        → is_some (option_map (λ x. rows_at x rest) (cond (t || false) (Some (shape_built s)) later)) ≡ true
        → option_map_or (λ x. level_fault x [] nothing_held rest false [])
        (cond (t || false) (Some (shape_built s)) later) [] ≡ []
        → (is_some (option_map (λ x. rows_at x rest) later) ≡ true
        → option_map_or (λ x. level_fault x [] nothing_held rest false []) later [] ≡ []
        → Finds among later name rest)
        → (r : Subcommand) × (r.name ≡ name) × (cond t (Some s) (subcommand_called_in among name) ≡ Some r)
        × (option_map (λ x. rows_at x rest) (cond (t || false) (Some (shape_built s)) later)
        ≡ Some (rows_at (shape_built r) rest))
        × (level_fault (shape_built r) [] nothing_held rest false [] ≡ [])
    go true is found fault others = (s, is refl, refl, refl, fault)
    go false is found fault others = others found fault

-- a subcommand of the program was entered, and finds no fault in the arguments after it
abbrev Enters : Option (Text × List Text) → Type 0
Enters stop =
    (s : Subcommand) × (rest : List Text) × (subcommand_called s.name ≡ Some s)
    × (entered whole stop ≡ Some (rows_at (shape_built s) rest))
    × (level_fault (shape_built s) [] nothing_held rest false [] ≡ [])

enters : (stop : Option (Text × List Text)) → IsPastHelp stop → is_some (entered whole stop) ≡ true
    → entered_fault whole stop ≡ [] → Enters stop
enters None past some none = cc
enters (Some p) past some none =
    let found = finds subcommands p.0 p.1 past some none in
    (found.0, p.1, ap subcommand_called found.1 ∙ found.2, found.3, found.4)

-- ---- the whole

-- clap's definition reads the arguments as a subcommand of the program, and each of its options has
-- a value
abbrev pub IsWellRead : List Text → Type 0
IsWellRead words =
    (s : Subcommand) × (rows : List Row) × (subcommand_called s.name ≡ Some s)
    × (subcommand_of lms_app words ≡ Some (s.name, rows)) × HasValues s.options rows

-- so it is where that definition finds no fault in the arguments
pub well_read : (words : List Text) → fault_of lms_app words ≡ [] → IsWellRead words
well_read words none =
    let rest = argument_words lms_app words in
    let stop = (walk whole.top.rules (names_of whole) nothing_held rest).stopped in
    let parts = both_none (walk_fault whole.top (names_of whole) (walk_from nothing_held) rest) _ none in
    let past = walk_past_help whole.top (names_of whole) refl (walk_from nothing_held) rest parts.0 tt in
    let below = both_none (entered_fault whole stop) _ parts.1 in
    let some = wants_subcommand (rows_after whole.top.rules (names_of whole) rest) (is_some (entered whole stop))
    (level_checked whole.top (names_of whole) rest (is_some (entered whole stop)) (entered_fault whole stop) none) in
    let found = enters stop past some below.0 in
    (found.0, rows_after (shape_built found.0).rules [] found.1, found.2, found.3, values_of found.0 found.1 found.4)
