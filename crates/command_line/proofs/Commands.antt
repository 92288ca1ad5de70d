-- What `clap` makes of the commands of `specs/Taken`.
use Rattle.std.proofs.Common.{refl, ◌≡◌, List, [], ◌∷◌, Bool, true, false, codes, Option, Some, None, if◌then◌else◌}
use Rattle.std.specs.List.{list_all}
use Rattle.clap.specs.Words.{App, Rule, Text, Shape, is_simple, built}
use Rattle.clap.specs.Simple.{new_shape, filled, with_index, argument_words}
use Rattle.clap.specs.Walk.{arg_by_id, arg_by_index, arg_by_long, Row, is_empty}
use Rattle.clap.specs.Takes.{default_passes, is_valid}
use Rattle.command_line.specs.Taken.{option_rule, words_rule, with_option, command_taking}
use Rattle.command_line.specs.Given.{allows}
use Rattle.command_line.specs.declared.place.Allowed.{Allowed}
use Rattle.command_line.specs.declared.place.OptionName.{OptionName}
use Rattle.command_line.specs.declared.place.OptionName.TheVariants.{Vl, Steps, Map, Dump, Suppress}

-- the name without its minuses
abbrev pub option_text : OptionName → Text
option_text Vl = codes "vl"
option_text Steps = codes "steps"
option_text Map = codes "map"
option_text Dump = codes "dump"
option_text Suppress = codes "suppress"

abbrev pub option_built : OptionName → Rule
option_built name = filled (option_rule (option_text name))

abbrev pub words_built : Rule
words_built = with_index 1 (filled words_rule)

abbrev opt : Bool → Rule → List Rule → List Rule
opt true r rest = r ∷ rest
opt false r rest = rest

abbrev pub rules : Allowed → List Rule
rules a = opt a.vl (option_built Vl) (opt a.steps (option_built Steps) (opt a.map (option_built Map) (opt a.dump (option_built Dump) (opt a.suppress (option_built Suppress) (words_built ∷ [])))))

abbrev pub shape : Text → Allowed → Shape
shape name a = record (new_shape name) { rules = rules a; no_binary_name = true; disable_help_flag = true; disable_help_subcommand = true; is_built = true }

abbrev pub app : Text → Allowed → App
app name a = record { top = shape name a; subs = [] }

abbrev allowed : Bool → Bool → Bool → Bool → Bool → Allowed
allowed v s m d u = record { vl = v; steps = s; map = m; dump = d; suppress = u }

-- a fact of both truths
record Both (P : Bool → Type 0) : Type 0 where
  pub yes : P true
  pub no : P false

both : {P : Bool → Type 0} → P true → P false → Both P
both y n = record { yes = y; no = n }

either : {P : Bool → Type 0} → Both P → (b : Bool) → P b
either p true = p.yes
either p false = p.no

-- of each choice of options
each : (P : Allowed → Type 0) → Both (λ v. Both (λ s. Both (λ m. Both (λ d. Both (λ u. P (allowed v s m d u)))))) → (a : Allowed) → P a
each P p a = either (either (either (either (either p a.vl) a.steps) a.map) a.dump) a.suppress

pub built_is : (name : Text) (a : Allowed) → built (command_taking name a) ≡ app name a
unfolding with_option
built_is name = each (λ a. built (command_taking name a) ≡ app name a) (both (both (both (both (both refl refl) (both refl refl)) (both (both refl refl) (both refl refl))) (both (both (both refl refl) (both refl refl)) (both (both refl refl) (both refl refl)))) (both (both (both (both refl refl) (both refl refl)) (both (both refl refl) (both refl refl))) (both (both (both refl refl) (both refl refl)) (both (both refl refl) (both refl refl)))))

pub simple : (name : Text) (a : Allowed) → is_simple (command_taking name a) ≡ true
unfolding with_option
simple name = each (λ a. is_simple (command_taking name a) ≡ true) (both (both (both (both (both refl refl) (both refl refl)) (both (both refl refl) (both refl refl))) (both (both (both refl refl) (both refl refl)) (both (both refl refl) (both refl refl)))) (both (both (both (both refl refl) (both refl refl)) (both (both refl refl) (both refl refl))) (both (both (both refl refl) (both refl refl)) (both (both refl refl) (both refl refl)))))

-- ---- which argument a walk finds

abbrev option_at : Allowed → OptionName → Option Rule
option_at a n = if allows a n then Some (option_built n) else None

pub by_long : (n : OptionName) (a : Allowed) → arg_by_long (rules a) (option_text n) ≡ option_at a n
by_long Vl = each (λ a. arg_by_long (rules a) (option_text Vl) ≡ option_at a Vl) (both (both (both (both (both refl refl) (both refl refl)) (both (both refl refl) (both refl refl))) (both (both (both refl refl) (both refl refl)) (both (both refl refl) (both refl refl)))) (both (both (both (both refl refl) (both refl refl)) (both (both refl refl) (both refl refl))) (both (both (both refl refl) (both refl refl)) (both (both refl refl) (both refl refl)))))
by_long Steps = each (λ a. arg_by_long (rules a) (option_text Steps) ≡ option_at a Steps) (both (both (both (both (both refl refl) (both refl refl)) (both (both refl refl) (both refl refl))) (both (both (both refl refl) (both refl refl)) (both (both refl refl) (both refl refl)))) (both (both (both (both refl refl) (both refl refl)) (both (both refl refl) (both refl refl))) (both (both (both refl refl) (both refl refl)) (both (both refl refl) (both refl refl)))))
by_long Map = each (λ a. arg_by_long (rules a) (option_text Map) ≡ option_at a Map) (both (both (both (both (both refl refl) (both refl refl)) (both (both refl refl) (both refl refl))) (both (both (both refl refl) (both refl refl)) (both (both refl refl) (both refl refl)))) (both (both (both (both refl refl) (both refl refl)) (both (both refl refl) (both refl refl))) (both (both (both refl refl) (both refl refl)) (both (both refl refl) (both refl refl)))))
by_long Dump = each (λ a. arg_by_long (rules a) (option_text Dump) ≡ option_at a Dump) (both (both (both (both (both refl refl) (both refl refl)) (both (both refl refl) (both refl refl))) (both (both (both refl refl) (both refl refl)) (both (both refl refl) (both refl refl)))) (both (both (both (both refl refl) (both refl refl)) (both (both refl refl) (both refl refl))) (both (both (both refl refl) (both refl refl)) (both (both refl refl) (both refl refl)))))
by_long Suppress = each (λ a. arg_by_long (rules a) (option_text Suppress) ≡ option_at a Suppress) (both (both (both (both (both refl refl) (both refl refl)) (both (both refl refl) (both refl refl))) (both (both (both refl refl) (both refl refl)) (both (both refl refl) (both refl refl)))) (both (both (both (both refl refl) (both refl refl)) (both (both refl refl) (both refl refl))) (both (both (both refl refl) (both refl refl)) (both (both refl refl) (both refl refl)))))

pub by_id : (n : OptionName) (a : Allowed) → arg_by_id (rules a) (option_text n) ≡ option_at a n
by_id Vl = each (λ a. arg_by_id (rules a) (option_text Vl) ≡ option_at a Vl) (both (both (both (both (both refl refl) (both refl refl)) (both (both refl refl) (both refl refl))) (both (both (both refl refl) (both refl refl)) (both (both refl refl) (both refl refl)))) (both (both (both (both refl refl) (both refl refl)) (both (both refl refl) (both refl refl))) (both (both (both refl refl) (both refl refl)) (both (both refl refl) (both refl refl)))))
by_id Steps = each (λ a. arg_by_id (rules a) (option_text Steps) ≡ option_at a Steps) (both (both (both (both (both refl refl) (both refl refl)) (both (both refl refl) (both refl refl))) (both (both (both refl refl) (both refl refl)) (both (both refl refl) (both refl refl)))) (both (both (both (both refl refl) (both refl refl)) (both (both refl refl) (both refl refl))) (both (both (both refl refl) (both refl refl)) (both (both refl refl) (both refl refl)))))
by_id Map = each (λ a. arg_by_id (rules a) (option_text Map) ≡ option_at a Map) (both (both (both (both (both refl refl) (both refl refl)) (both (both refl refl) (both refl refl))) (both (both (both refl refl) (both refl refl)) (both (both refl refl) (both refl refl)))) (both (both (both (both refl refl) (both refl refl)) (both (both refl refl) (both refl refl))) (both (both (both refl refl) (both refl refl)) (both (both refl refl) (both refl refl)))))
by_id Dump = each (λ a. arg_by_id (rules a) (option_text Dump) ≡ option_at a Dump) (both (both (both (both (both refl refl) (both refl refl)) (both (both refl refl) (both refl refl))) (both (both (both refl refl) (both refl refl)) (both (both refl refl) (both refl refl)))) (both (both (both (both refl refl) (both refl refl)) (both (both refl refl) (both refl refl))) (both (both (both refl refl) (both refl refl)) (both (both refl refl) (both refl refl)))))
by_id Suppress = each (λ a. arg_by_id (rules a) (option_text Suppress) ≡ option_at a Suppress) (both (both (both (both (both refl refl) (both refl refl)) (both (both refl refl) (both refl refl))) (both (both (both refl refl) (both refl refl)) (both (both refl refl) (both refl refl)))) (both (both (both (both refl refl) (both refl refl)) (both (both refl refl) (both refl refl))) (both (both (both refl refl) (both refl refl)) (both (both refl refl) (both refl refl)))))

pub words_by_id : (a : Allowed) → arg_by_id (rules a) (codes "words") ≡ Some words_built
words_by_id = each (λ a. arg_by_id (rules a) (codes "words") ≡ Some words_built) (both (both (both (both (both refl refl) (both refl refl)) (both (both refl refl) (both refl refl))) (both (both (both refl refl) (both refl refl)) (both (both refl refl) (both refl refl)))) (both (both (both (both refl refl) (both refl refl)) (both (both refl refl) (both refl refl))) (both (both (both refl refl) (both refl refl)) (both (both refl refl) (both refl refl)))))

pub words_by_index : (a : Allowed) → arg_by_index (rules a) 1 ≡ Some words_built
words_by_index = each (λ a. arg_by_index (rules a) 1 ≡ Some words_built) (both (both (both (both (both refl refl) (both refl refl)) (both (both refl refl) (both refl refl))) (both (both (both refl refl) (both refl refl)) (both (both refl refl) (both refl refl)))) (both (both (both (both refl refl) (both refl refl)) (both (both refl refl) (both refl refl))) (both (both (both refl refl) (both refl refl)) (both (both refl refl) (both refl refl)))))

-- no argument has a value where the words give it none
pub no_defaults : (a : Allowed) → list_all (λ r. is_empty r.defaults) (rules a) ≡ true
no_defaults = each (λ a. list_all (λ r. is_empty r.defaults) (rules a) ≡ true) (both (both (both (both (both refl refl) (both refl refl)) (both (both refl refl) (both refl refl))) (both (both (both refl refl) (both refl refl)) (both (both refl refl) (both refl refl)))) (both (both (both (both refl refl) (both refl refl)) (both (both refl refl) (both refl refl))) (both (both (both refl refl) (both refl refl)) (both (both refl refl) (both refl refl)))))

pub defaults_pass : (a : Allowed) → list_all default_passes (rules a) ≡ true
defaults_pass = each (λ a. list_all default_passes (rules a) ≡ true) (both (both (both (both (both refl refl) (both refl refl)) (both (both refl refl) (both refl refl))) (both (both (both refl refl) (both refl refl)) (both (both refl refl) (both refl refl)))) (both (both (both (both refl refl) (both refl refl)) (both (both refl refl) (both refl refl))) (both (both (both refl refl) (both refl refl)) (both (both refl refl) (both refl refl)))))

pub valid : (name : Text) (a : Allowed) (rows : List Row) → is_valid (shape name a) rows false ≡ true
valid name a rows = each (λ a. is_valid (shape name a) rows false ≡ true) (both (both (both (both (both refl refl) (both refl refl)) (both (both refl refl) (both refl refl))) (both (both (both refl refl) (both refl refl)) (both (both refl refl) (both refl refl)))) (both (both (both (both refl refl) (both refl refl)) (both (both refl refl) (both refl refl))) (both (both (both refl refl) (both refl refl)) (both (both refl refl) (both refl refl))))) a

pub words_are : (name : Text) (a : Allowed) (words : List Text) → argument_words (command_taking name a) words ≡ words
unfolding with_option
words_are name a words = each (λ a. argument_words (command_taking name a) words ≡ words) (both (both (both (both (both refl refl) (both refl refl)) (both (both refl refl) (both refl refl))) (both (both (both refl refl) (both refl refl)) (both (both refl refl) (both refl refl)))) (both (both (both (both refl refl) (both refl refl)) (both (both refl refl) (both refl refl))) (both (both (both refl refl) (both refl refl)) (both (both refl refl) (both refl refl))))) a
