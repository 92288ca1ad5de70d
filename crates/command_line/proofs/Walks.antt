-- What a walk of `clap` over one more word of a command does.
use Rattle.std.proofs.Common.{refl, sym, ap, true≢false, ◌∙◌, ◌≡◌, ℕ, List, [], ◌∷◌, ◌++◌, Bool, true, false, nat_eq, codes, Option, Some, None, if◌then◌else◌}
use Rattle.clap.specs.Lexer.{long_of, short_of, long_of_rest, short_of_rest, strip_byte}
use Rattle.std.specs.Prelude.{option_and_then, bytes_eq, find, ◌&&◌, ◌||◌}
use Rattle.std.proofs.lemmas.Option.{none-some}
use Rattle.std.proofs.lemmas.List.{append-nil}
use Rattle.std.proofs.lemmas.Bool.{not-true}
use Rattle.clap.specs.Words.{Row, Rule, Text}
use Rattle.clap.specs.Walk.{Held, Walk, Waiting, at_row, used, settled, reacted, walked, walk_from, word_met, plain_word, more_values, with_values, idle, option, positional, arg_by_id, arg_by_long, is_pending, has_row}
use Rattle.clap.specs.Takes.{turn_passes, settle_passes, use_passes}
use Rattle.clap.specs.declared.parser.matches.ValueSource.TheVariants.{CommandLine}
use Rattle.clap.specs.declared.builder.value_parser.Reading.TheVariants as reading
use Rattle.command_line.specs.Line.{is_plain}
use Rattle.command_line.specs.Given.{allows}
use Rattle.command_line.specs.declared.place.Allowed.{Allowed}
use Rattle.command_line.specs.declared.place.OptionName.{OptionName}
use Rattle.command_line.specs.declared.place.OptionName.TheVariants.{Vl, Steps, Map, Dump, Suppress}
use Rattle.command_line.proofs.Commands.{option_text, option_built, words_built, rules, shape, by_long, by_id, words_by_index}
use Rattle.command_line.proofs.Sorts.{word_of}

-- ---- the rows

abbrev pub row : Text → List Text → Row
row id values = record { id = id; values = values; count = None; source = Some CommandLine; reading = reading.AsWritten }

abbrev pub found_in : Text → List Row → Option Row
found_in id rows = find (λ r. bytes_eq r.id id) rows

pub at_missing : (id : Text) (change : Row → List Row) (missing rows : List Row) → found_in id rows ≡ None → at_row id change missing rows ≡ rows ++ missing
at_missing id change missing [] e = refl
at_missing id change missing (r ∷ rs) e = go (bytes_eq r.id id) refl e (at_missing id change missing rs)
  where
    go : (b : Bool) → bytes_eq r.id id ≡ b → (if b then Some r else found_in id rs) ≡ None → (found_in id rs ≡ None → at_row id change missing rs ≡ rs ++ missing)
        → at_row id change missing (r ∷ rs) ≡ r ∷ (rs ++ missing)
    go true t f h = absurd (none-some r (sym f))
    go false t f h = rw t (ap (λ (xs : List Row). r ∷ xs) (h f))

pub option_used : (n : OptionName) (v : Text) (rows : List Row) → found_in (option_text n) rows ≡ None → used (option_built n) (v ∷ []) rows ≡ rows ++ row (option_text n) (v ∷ []) ∷ []
option_used n v rows e =
    ap (with_values (option_text n) reading.AsWritten CommandLine (v ∷ [])) (at_missing (option_text n) (λ _. []) [] rows e ∙ append-nil rows)
    ∙ at_missing (option_text n) (more_values CommandLine (v ∷ [])) (row (option_text n) (v ∷ []) ∷ []) rows e

pub words_used : (x : Text) (xs : List Text) (rows : List Row) → found_in (codes "words") rows ≡ None → used words_built (x ∷ xs) rows ≡ rows ++ row (codes "words") (x ∷ xs) ∷ []
words_used x xs rows e = at_missing (codes "words") (more_values CommandLine (x ∷ xs)) (row (codes "words") (x ∷ xs) ∷ []) rows e

pub no_row : (id : Text) (rows : List Row) → found_in id rows ≡ None → has_row id rows ≡ false
no_row id [] e = refl
no_row id (r ∷ rs) e = go (bytes_eq r.id id) refl e (no_row id rs)
  where
    go : (b : Bool) → bytes_eq r.id id ≡ b → (if b then Some r else found_in id rs) ≡ None → (found_in id rs ≡ None → has_row id rs ≡ false) → (bytes_eq r.id id || has_row id rs) ≡ false
    go true t f h = absurd (none-some r (sym f))
    go false t f h = rw t (h f)

either_true : (b : Bool) → ((b && true) || true) ≡ true
either_true true = refl
either_true false = refl

-- ---- the arguments

pub long_is : (n : OptionName) (a : Allowed) → allows a n ≡ true → arg_by_long (rules a) (option_text n) ≡ Some (option_built n)
long_is n a e = by_long n a ∙ ap (λ b. if b then Some (option_built n) else None) e

pub id_is : (n : OptionName) (a : Allowed) → allows a n ≡ true → arg_by_id (rules a) (option_text n) ≡ Some (option_built n)
id_is n a e = by_id n a ∙ ap (λ b. if b then Some (option_built n) else None) e

-- ---- one more word

pub long_none : (b : ℕ) (bs : Text) → nat_eq b 45 ≡ false → long_of (b ∷ bs) ≡ None
long_none b bs e = ap (λ t. option_and_then long_of_rest (option_and_then (strip_byte 45) (if t then Some bs else None))) e

pub short_none : (b : ℕ) (bs : Text) → nat_eq b 45 ≡ false → short_of (b ∷ bs) ≡ None
short_none b bs e = ap (λ t. option_and_then short_of_rest (if t then Some bs else None)) e

-- a word that begins with no minus
pub plain_met : (c : List Rule) (waiting : Waiting) (position b : ℕ) (bs : Text) (h : Held) → nat_eq b 45 ≡ false
    → word_met c [] false waiting position (b ∷ bs) h ≡ plain_word c waiting (b ∷ bs) h
plain_met c idle position b bs h e = rw (long_none b bs e, short_none b bs e, e) refl
plain_met c other position b bs h e = rw (long_none b bs e, short_none b bs e, e) refl

abbrev pub waiting_for : OptionName → Held → Walk
waiting_for n h = record (walk_from (record h { pending = Some (option_text n, []) })) { waiting = option (option_text n) }

module _ (a : Allowed) where
  pub alone_step : (n : OptionName) (h : Held) → allows a n ≡ true → walked (rules a) [] (walk_from h) (word_of n) ≡ waiting_for n (settled (rules a) h)
  unfolding walked
  alone_step Vl h e = rw (long_is Vl a e) refl
  alone_step Steps h e = rw (long_is Steps a e) refl
  alone_step Map h e = rw (long_is Map a e) refl
  alone_step Dump h e = rw (long_is Dump a e) refl
  alone_step Suppress h e = rw (long_is Suppress a e) refl

  pub joined_step : (n : OptionName) (v : Text) (h : Held) → allows a n ≡ true
      → walked (rules a) [] (walk_from h) (word_of n ++ (61 ∷ v)) ≡ walk_from (reacted (rules a) (option_built n) (v ∷ []) h)
  unfolding walked
  joined_step Vl v h e = rw (long_is Vl a e) refl
  joined_step Steps v h e = rw (long_is Steps a e) refl
  joined_step Map v h e = rw (long_is Map a e) refl
  joined_step Dump v h e = rw (long_is Dump a e) refl
  joined_step Suppress v h e = rw (long_is Suppress a e) refl

  pub value_step : (n : OptionName) (v : Text) (h : Held) → allows a n ≡ true → is_plain v ≡ true
      → walked (rules a) [] (waiting_for n h) v ≡ walk_from (record h { pending = Some (option_text n, v ∷ []) })
  unfolding walked
  value_step n [] h e p = absurd (true≢false (sym p))
  value_step Vl (b ∷ bs) h e p = rw (plain_met (rules a) (option (codes "vl")) 1 b bs (record h { pending = Some (codes "vl", []) }) (not-true _ p), id_is Vl a e) refl
  value_step Steps (b ∷ bs) h e p = rw (plain_met (rules a) (option (codes "steps")) 1 b bs (record h { pending = Some (codes "steps", []) }) (not-true _ p), id_is Steps a e) refl
  value_step Map (b ∷ bs) h e p = rw (plain_met (rules a) (option (codes "map")) 1 b bs (record h { pending = Some (codes "map", []) }) (not-true _ p), id_is Map a e) refl
  value_step Dump (b ∷ bs) h e p = rw (plain_met (rules a) (option (codes "dump")) 1 b bs (record h { pending = Some (codes "dump", []) }) (not-true _ p), id_is Dump a e) refl
  value_step Suppress (b ∷ bs) h e p = rw (plain_met (rules a) (option (codes "suppress")) 1 b bs (record h { pending = Some (codes "suppress", []) }) (not-true _ p), id_is Suppress a e) refl

  -- ---- positional words

  -- the walk has met these positional words
  abbrev pub in_words : Bool → Waiting → List Text → Held → Walk
  in_words t waiting found h = record { held = record h { pending = Some (codes "words", found) }; waiting = waiting; position = 1; is_trailing = t; stopped = None }

  -- `--` came before them
  abbrev pub trailing_from : Held → Walk
  trailing_from h = record (walk_from h) { is_trailing = true }

  pub literal_step : (waiting : Waiting) (found : List Text) (h : Held) (word : Text)
      → walked (rules a) [] (in_words true waiting found h) word ≡ in_words true positional (found ++ word ∷ []) h
  unfolding walked
  literal_step waiting found h word = rw (words_by_index a) refl

  pub plain_step : (found : List Text) (h : Held) (b : ℕ) (bs : Text) → nat_eq b 45 ≡ false
      → walked (rules a) [] (in_words false positional found h) (b ∷ bs) ≡ in_words false positional (found ++ (b ∷ bs) ∷ []) h
  unfolding walked
  plain_step found h b bs e = rw (plain_met (rules a) positional 1 b bs (record h { pending = Some (codes "words", found) }) e, words_by_index a) refl

  pub end_step : (found : List Text) (h : Held) → walked (rules a) [] (in_words false positional found h) (codes "--") ≡ in_words true positional found h
  unfolding walked
  end_step found h = refl

  pub end_first : (h : Held) → walked (rules a) [] (walk_from h) (codes "--") ≡ trailing_from h
  unfolding walked
  end_first h = refl

  pub literal_first : (h : Held) (word : Text) → is_pending words_built h.pending ≡ false
      → walked (rules a) [] (trailing_from h) word ≡ in_words true positional (word ∷ []) (settled (rules a) h)
  unfolding walked
  literal_first h word e = rw (words_by_index a, e) refl

  pub plain_first : (h : Held) (b : ℕ) (bs : Text) → nat_eq b 45 ≡ false → is_pending words_built h.pending ≡ false
      → walked (rules a) [] (walk_from h) (b ∷ bs) ≡ in_words false positional ((b ∷ bs) ∷ []) (settled (rules a) h)
  unfolding walked
  plain_first h b bs e p = rw (plain_met (rules a) idle 1 b bs h e, words_by_index a, p) refl

  -- ---- each of these words passes

  abbrev turns : Text → Walk → Text → Bool
  turns name w word = turn_passes (shape name a) [] w word

  pub alone_turns : (name : Text) (n : OptionName) (h : Held) → allows a n ≡ true → settle_passes (rules a) false h ≡ true → turns name (walk_from h) (word_of n) ≡ true
  alone_turns name Vl h e p = rw (long_is Vl a e, p) refl
  alone_turns name Steps h e p = rw (long_is Steps a e, p) refl
  alone_turns name Map h e p = rw (long_is Map a e, p) refl
  alone_turns name Dump h e p = rw (long_is Dump a e, p) refl
  alone_turns name Suppress h e p = rw (long_is Suppress a e, p) refl

  -- a use of an option with one value
  pub use_passes-option : (n : OptionName) (v : Text) (rows : List Row) → found_in (option_text n) rows ≡ None → use_passes false (option_built n) (v ∷ []) rows ≡ true
  use_passes-option n v rows e = rw (no_row (option_text n) rows e) refl

  pub joined_turns : (name : Text) (n : OptionName) (v : Text) (h : Held) → allows a n ≡ true → settle_passes (rules a) false h ≡ true
      → use_passes false (option_built n) (v ∷ []) (settled (rules a) h).rows ≡ true → turns name (walk_from h) (word_of n ++ (61 ∷ v)) ≡ true
  joined_turns name Vl v h e p u = rw (long_is Vl a e, p, u) refl
  joined_turns name Steps v h e p u = rw (long_is Steps a e, p, u) refl
  joined_turns name Map v h e p u = rw (long_is Map a e, p, u) refl
  joined_turns name Dump v h e p u = rw (long_is Dump a e, p, u) refl
  joined_turns name Suppress v h e p u = rw (long_is Suppress a e, p, u) refl

  pub value_turns : (name : Text) (n : OptionName) (v : Text) (h : Held) → allows a n ≡ true → is_plain v ≡ true → turns name (waiting_for n h) v ≡ true
  value_turns name n [] h e p = absurd (true≢false (sym p))
  value_turns name n (b ∷ bs) h e p =
      let q = not-true _ p in
      rw (plain_met (rules a) (option (option_text n)) 1 b bs (record h { pending = Some (option_text n, []) }) q, long_none b bs q, short_none b bs q, q) refl

  pub literal_turns : (name : Text) (waiting : Waiting) (found : List Text) (h : Held) (word : Text) → turns name (in_words true waiting found h) word ≡ true
  literal_turns name waiting found h word = rw (words_by_index a) refl

  pub plain_turns : (name : Text) (found : List Text) (h : Held) (b : ℕ) (bs : Text) → nat_eq b 45 ≡ false → turns name (in_words false positional found h) (b ∷ bs) ≡ true
  plain_turns name found h b bs q =
      rw (plain_met (rules a) positional 1 b bs (record h { pending = Some (codes "words", found) }) q, long_none b bs q, short_none b bs q, q, words_by_index a) refl

  pub end_turns : (name : Text) (found : List Text) (h : Held) → turns name (in_words false positional found h) (codes "--") ≡ true
  end_turns name found h = refl

  pub end_first_turns : (name : Text) (h : Held) → turns name (walk_from h) (codes "--") ≡ true
  end_first_turns name h = refl

  pub literal_first_turns : (name : Text) (h : Held) (word : Text) → settle_passes (rules a) false h ≡ true → turns name (trailing_from h) word ≡ true
  literal_first_turns name h word p = rw (words_by_index a, p) (either_true (is_pending words_built h.pending))

  pub plain_first_turns : (name : Text) (h : Held) (b : ℕ) (bs : Text) → nat_eq b 45 ≡ false → settle_passes (rules a) false h ≡ true → turns name (walk_from h) (b ∷ bs) ≡ true
  plain_first_turns name h b bs q p =
      rw (plain_met (rules a) idle 1 b bs h q, long_none b bs q, short_none b bs q, q, words_by_index a, p) (either_true (is_pending words_built h.pending))
