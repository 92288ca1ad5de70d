-- What a parse of `clap` finds in the words of a command.
use Rattle.std.proofs.Common.{refl, sym, ap, ap₂, subst, true≢false, arith, ◌∙◌, ◌≡◌, ℕ, ◌≤◌, List, [], ◌∷◌, length, Bool, true, false, codes, Option, Some, None, if◌then◌else◌}
use Rattle.std.specs.Prelude.{option_map, option_and_then, unwrap_or, slice_get, is_some, String, string_bytes}
use Rattle.std.specs.List.{fold, list_all}
use Rattle.std.specs.Option.{option_map_or}
use Rattle.std.proofs.lemmas.Bool.{eqb-true, and_from, and_parts}
use Rattle.std.proofs.lemmas.List.{length-map}
use Rattle.clap.specs.Lexer.{usize_max}
use Rattle.clap.specs.Words.{Row, Rule, Text, App, matches_of, takes, found_of, first_of, all_of, rows_of}
use Rattle.clap.specs.Simple.{names_of}
use Rattle.clap.specs.Walk.{nothing_held, settled, finished, with_default, rows_after, walk, walk_from, is_empty, default_rows, reading_by, has_row}
use Rattle.clap.specs.Takes.{level_passes, built_takes}
use Rattle.clap.proofs.TakesLemmas.{leaf_takes}
use Rattle.clap.proofs.WalkLemmas.{first_value-rows, raw_values-rows}
use Rattle.clap.specs.declared.parser.matches.ArgMatches.{ArgMatches}
use Rattle.command_line.specs.Line.{Words}
use Rattle.command_line.specs.Given.{Given, given_of, given_from, stands, next, may_end, nothing, gives}
use Rattle.command_line.specs.View.{texts}
use Rattle.command_line.specs.Taken.{command_taking, given_view}
use Rattle.command_line.specs.declared.place.Allowed.{Allowed}
use Rattle.command_line.specs.declared.place.OptionName.{OptionName}
use Rattle.command_line.specs.declared.place.OptionName.TheVariants.{Vl, Steps, Map, Dump, Suppress}
use Rattle.command_line.specs.declared.place.Place.{Place}
use Rattle.command_line.proofs.Commands.{option_text, rules, app, built_is, simple, words_are, no_defaults, defaults_pass, valid}
use Rattle.command_line.proofs.PositionalWords.{text_given, option_found, words_found}
use Rattle.command_line.proofs.Opens.{Open, Ends, opened}

-- ---- the words that stand are those that give something

given_if : (b : Bool) → is_some (if b then Some nothing else None) ≡ b
given_if true = refl
given_if false = refl

pub stands_given : (words : Words) (p : Place) → is_some (given_from p words) ≡ stands p words
unfolding given_from stands
stands_given [] p = given_if (may_end p)
stands_given (word ∷ words) p = go (next p word) (stands_given words)
  where
    some_gives : (o : Option Given) → is_some (option_map (gives p word) o) ≡ is_some o
    some_gives None = refl
    some_gives (Some x) = refl

    go : (o : Option Place) → ((q : Place) → is_some (given_from q words) ≡ stands q words)
        → is_some (option_and_then (λ q. option_map (gives p word) (given_from q words)) o) ≡ option_map_or (λ q. stands q words) o false
    go None ih = refl
    go (Some q) ih = some_gives (given_from q words) ∙ ih q

pub is_none : {A : Type 0} (o : Option A) → is_some o ≡ false → None ≡ o
is_none None e = refl
is_none (Some x) e = absurd (true≢false e)

pub given_there : {A : Type 0} (o : Option A) → is_some o ≡ true → (x : A) × (o ≡ Some x)
given_there None e = absurd (true≢false (sym e))
given_there (Some x) e = (x, refl)

-- as many words as a place counts
pub few_texts : {A : Type 0} (words : List (String A)) → length words ≤ usize_max → length (texts words) ≤ usize_max
few_texts words e = subst (λ (n : ℕ). n ≤ usize_max) (sym (length-map words string_bytes)) e

-- ---- the rows

no_default : (rows : List Row) (r : Rule) → is_empty r.defaults ≡ true → with_default rows r ≡ rows
no_default rows r e = go (has_row r.id rows) r.defaults e
  where
    go : (b : Bool) (defaults : List Text) → is_empty defaults ≡ true → (if b then rows else default_rows r.id (reading_by r) defaults rows) ≡ rows
    go true defaults e = refl
    go false [] e = refl
    go false (d ∷ ds) e = absurd (omega (arith, eqb-true _ _ e))

pub kept : (c : List Rule) (rows : List Row) → list_all (λ r. is_empty r.defaults) c ≡ true → fold with_default rows c ≡ rows
kept [] rows e = refl
kept (r ∷ c) rows e = let p = and_parts _ _ e in ap (λ (x : List Row). fold with_default x c) (no_default rows r p.0) ∙ kept c rows p.1

first_found : (n : OptionName) (o : Option Text) → option_and_then (λ (r : Row). slice_get r.values 0) (option_found n o) ≡ o
first_found n None = refl
first_found n (Some v) = refl

all_found : (ws : Words) → unwrap_or (option_map (λ (r : Row). r.values) (words_found ws)) [] ≡ ws
all_found [] = refl
all_found (x ∷ xs) = refl

module _ (name : Text) (a : Allowed) (words : Words) (g : Given) (few : length words ≤ usize_max) (is : given_of a words ≡ Some g) where
  start : Open a a nothing_held
  start = record { pending = refl; free = λ n e. (e, refl); no_words = refl; passes = refl }

  walk_ends : Ends a name [] (walk_from nothing_held) words g
  walk_ends = (opened a name words).0 a nothing_held g start few is

  rows_are : matches_of (command_taking name a) words ≡ (settled (rules a) (walk (rules a) [] nothing_held words).held).rows
  rows_are =
      ap₂ (λ (x : App) (ws : Words). rows_after x.top.rules (names_of x) ws) (built_is name a) (words_are name a words)
      ∙ kept (rules a) (settled (rules a) (walk (rules a) [] nothing_held words).held).rows (no_defaults a)

  first_is : (n : OptionName) → first_of (option_text n) (matches_of (command_taking name a) words) ≡ text_given n g
  first_is n = ap (first_of (option_text n)) rows_are ∙ ap (option_and_then (λ (r : Row). slice_get r.values 0)) (walk_ends.options n) ∙ first_found n (text_given n g)

  all_is : unwrap_or (all_of (codes "words") (matches_of (command_taking name a) words)) [] ≡ g.words
  all_is = ap (λ rows. unwrap_or (all_of (codes "words") rows) []) rows_are ∙ ap (λ o. unwrap_or (option_map (λ (r : Row). r.values) o) []) walk_ends.words_are ∙ all_found g.words

  -- the matches have what the words give
  pub given_found : (m : ArgMatches) → rows_of (found_of m) ≡ matches_of (command_taking name a) words → given_view m ≡ g
  given_found m e =
      let vl = first_value-rows (found_of m) (codes "vl") ∙ ap (first_of (codes "vl")) e ∙ first_is Vl in
      let steps = first_value-rows (found_of m) (codes "steps") ∙ ap (first_of (codes "steps")) e ∙ first_is Steps in
      let map = first_value-rows (found_of m) (codes "map") ∙ ap (first_of (codes "map")) e ∙ first_is Map in
      let dump = first_value-rows (found_of m) (codes "dump") ∙ ap (first_of (codes "dump")) e ∙ first_is Dump in
      let suppress = first_value-rows (found_of m) (codes "suppress") ∙ ap (first_of (codes "suppress")) e ∙ first_is Suppress in
      let all = ap (λ o. unwrap_or o []) (raw_values-rows (found_of m) (codes "words") ∙ ap (all_of (codes "words")) e) ∙ all_is in
      λ i. record { vl = vl i; steps = steps i; map = map i; dump = dump i; suppress = suppress i; words = all i }

  -- and the parse fails for want of memory alone
  pub takes_all : takes (command_taking name a) words ≡ true
  takes_all = and_from _ _ (simple name a) (ap₂ (λ (x : App) (ws : Words). built_takes x nothing_held ws) (built_is name a) (words_are name a words)
      ∙ leaf_takes (app name a) nothing_held words refl level)
    where
      level : level_passes (app name a).top [] nothing_held words false ≡ true
      level = and_from _ _ walk_ends.passes (and_from _ _ walk_ends.settles (and_from _ _ (defaults_pass a) (valid name a (finished (rules a) (walk (rules a) [] nothing_held words).held))))
