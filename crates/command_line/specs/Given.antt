-- What the words after the name of a command give: the values of its options, and its positional words.
use Rattle.std.specs.Prelude.{ℕ, List, [], ◌∷◌, Option, Some, None, option_map, option_and_then, Bool, true, false, bytes_eq, codes, if◌then◌else◌}
use Rattle.std.specs.Option.{option_map_or}
use Rattle.number_text.specs.Numbers.{given, number_of}
use Rattle.command_line.specs.Numbers.{parted}
use Rattle.command_line.specs.Line.{Words, Options, is_end, is_filled, is_plain, extent_of, period_of}
use Rattle.command_line.specs.declared.place.OptionName.{OptionName}
use Rattle.command_line.specs.declared.place.OptionName.TheVariants.{Vl, Steps, Map, Dump, Suppress}
use Rattle.command_line.specs.declared.place.Allowed.{Allowed}
use Rattle.command_line.specs.declared.place.Place.{Place}
use Rattle.command_line.specs.declared.place.Place.TheVariants as place

-- ---- options by their names

-- the option that a word names
abbrev pub name_of : List ℕ → Option OptionName
name_of word =
    if bytes_eq word (codes "--vl") then Some Vl else
    if bytes_eq word (codes "--steps") then Some Steps else
    if bytes_eq word (codes "--map") then Some Map else
    if bytes_eq word (codes "--dump") then Some Dump else
    if bytes_eq word (codes "--suppress") then Some Suppress else None

-- the same of what stands before the equals sign of a word; what stands after it is not empty
abbrev pub name_before : List ℕ × List ℕ → Option (OptionName × List ℕ)
name_before p = if is_filled p.1 then option_map (λ name. (name, p.1)) (name_of p.0) else None

-- the option that a word names before its equals sign, and its value
unfoldable pub joined_of : List ℕ → Option (OptionName × List ℕ)
joined_of word = option_and_then name_before (parted 61 word)

abbrev pub allows : Allowed → OptionName → Bool
allows a Vl = a.vl
allows a Steps = a.steps
allows a Map = a.map
allows a Dump = a.dump
allows a Suppress = a.suppress

abbrev pub without : Allowed → OptionName → Allowed
without a Vl = record a { vl = false }
without a Steps = record a { steps = false }
without a Map = record a { map = false }
without a Dump = record a { dump = false }
without a Suppress = record a { suppress = false }

-- ---- where a word may stand

abbrev pub value_after : Allowed → OptionName → Option Place
value_after a name = if allows a name then Some (place.Value name a) else None

abbrev pub options_after : Allowed → OptionName × List ℕ → Option Place
options_after a p = if allows a p.0 then Some (place.Options (without a p.0)) else None

-- what may come after an option
abbrev pub after_option : Allowed → List ℕ → Option Place
after_option a word = given (name_of word) (value_after a) (option_and_then (options_after a) (joined_of word))

-- what may come after a word
unfoldable pub next : Place → List ℕ → Option Place
next (place.Options a) word =
    if is_end word then Some place.Literal else
    if is_plain word then Some place.Positional else after_option a word
next (place.Value name a) word = if is_plain word then Some (place.Options (without a name)) else None
next place.Positional word =
    if is_end word then Some place.Literal else
    if is_plain word then Some place.Positional else None
next place.Literal word =
    if is_end word then None else
    if is_filled word then Some place.Literal else None

-- the value of an option has to come
abbrev pub may_end : Place → Bool
may_end (place.Value name a) = false
may_end _ = true

-- whether these words may stand from a place on
unfoldable pub stands : Place → Words → Bool
stands p [] = may_end p
stands p (word ∷ words) = option_map_or (λ q. stands q words) (next p word) false

-- ---- what the words give

pub record Given : Type 0 where
  pub vl : Option (List ℕ)
  pub steps : Option (List ℕ)
  pub map : Option (List ℕ)
  pub dump : Option (List ℕ)
  pub suppress : Option (List ℕ)
  pub words : Words

abbrev pub nothing : Given
nothing = record { vl = None; steps = None; map = None; dump = None; suppress = None; words = [] }

abbrev pub with_value : OptionName → List ℕ → Given → Given
with_value Vl v g = record g { vl = Some v }
with_value Steps v g = record g { steps = Some v }
with_value Map v g = record g { map = Some v }
with_value Dump v g = record g { dump = Some v }
with_value Suppress v g = record g { suppress = Some v }

abbrev pub with_word : List ℕ → Given → Given
with_word word g = record g { words = word ∷ g.words }

abbrev pub with_joined : List ℕ → Given → Given
with_joined word g = given (joined_of word) (λ p. with_value p.0 p.1 g) g

-- what a word that stands at a place gives, with what those after it give
unfoldable pub gives : Place → List ℕ → Given → Given
gives (place.Options a) word g =
    if is_end word then g else
    if is_plain word then with_word word g else
    given (name_of word) (λ _. g) (with_joined word g)
gives (place.Value name a) word g = with_value name word g
gives place.Positional word g = if is_end word then g else with_word word g
gives place.Literal word g = with_word word g

-- what the words from a place on give, where they may stand there
unfoldable pub given_from : Place → Words → Option Given
given_from p [] = if may_end p then Some nothing else None
given_from p (word ∷ words) = option_and_then (λ q. option_map (gives p word) (given_from q words)) (next p word)

-- what the words of a command with these options give
abbrev pub given_of : Allowed → Words → Option Given
given_of a words = given_from (place.Options a) words

-- ---- the values that the options spell

-- the value of an option, where it is left out or spells one
abbrev pub spelt_value : {A : Type 0} → (List ℕ → Option A) → Option (List ℕ) → Option (Option A)
spelt_value spelt None = Some None
spelt_value spelt (Some v) = option_map (λ x. Some x) (spelt v)

unfoldable pub options_in : Given → Option Options
options_in g =
    option_and_then (λ vl.
    option_and_then (λ steps.
    option_and_then (λ dump.
    option_map (λ suppress. record { vl = vl; steps = steps; map = g.map; dump = dump; suppress = suppress })
    (spelt_value period_of g.suppress))
    (spelt_value extent_of g.dump))
    (spelt_value number_of g.steps))
    (spelt_value number_of g.vl)

-- the options that the words of a command give, and its positional words
abbrev pub options_and_words : Option Given → Option (Options × Words)
options_and_words given = option_and_then (λ g. option_map (λ o. (o, g.words)) (options_in g)) given
