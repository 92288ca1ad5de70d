-- The line of some words, by what these give.
use Rattle.std.proofs.Common.{refl, sym, ap, inl, inr, true≢false, arith, ◌∙◌, ◌≡◌, ℕ, zero, suc, ◌+◌, ◌≤◌, List, [], ◌∷◌, ◌++◌, length, Bool, true, false, codes, Option, Some, None, if◌then◌else◌}
use Rattle.std.specs.Prelude.{option_map, option_and_then, bytes_eq, is_some, ◌⊎◌, ◌&&◌, ◌||◌}
use Rattle.std.specs.Option.{option_or}
use Rattle.std.proofs.lemmas.Bool.{lt-ltb}
use Rattle.std.proofs.lemmas.Option.{none-some}
use Rattle.std.proofs.lemmas.List.{append-nil, append_assoc}
use mathlib.Core.Bool.{or-true}
use Rattle.number_text.specs.Numbers.{given, number_of}
use Rattle.command_line.specs.Line.{Words, Options, Extent, Line, is_end, is_plain, is_filled, positional, positional_from, value_named, value_in, value_following, value_at, once, extent_of, period_of, with_vl, with_steps, with_map, with_dump, with_suppress, option_at, options_of, no_options, run_with, run_of, eval_with, eval_of, debug_with, debug_of, pipe_with, pipe_of, CompileLine, AsmLine, ObjectLine, compile_of, asm_of, object_of, two_files, words_and_file, kernel_and_object, two_of}
use Rattle.command_line.specs.Numbers.{parted}
use Rattle.command_line.specs.Given.{Given, name_of, joined_of, name_before, allows, without, next, gives, given_from, given_of, nothing, with_value, with_word, spelt_value, options_in, options_and_words}
use Rattle.command_line.specs.declared.place.Allowed.{Allowed}
use Rattle.command_line.specs.declared.place.OptionName.{OptionName}
use Rattle.command_line.specs.declared.place.OptionName.TheVariants.{Vl, Steps, Map, Dump, Suppress}
use Rattle.command_line.specs.declared.place.Place.{Place}
use Rattle.command_line.specs.declared.place.Place.TheVariants as place
use Rattle.clap.specs.Walk.{nothing_held}
use Rattle.number_text.proofs.Bytes.{bytes_eq-told}
use Rattle.command_line.proofs.PositionalWords.{text_given, positional_words, or_none}
use Rattle.command_line.proofs.Opens.{next_alone, next_joined, gives-end, gives-plain, gives-alone, gives-joined}
use Rattle.command_line.proofs.Sorts.{Sorted, ends, plain, alone, joined, other, sorted, word_of, name_is, joined_is, unwrapped}

-- ---- options

abbrev with_name : OptionName → Options → List ℕ → Option Options
with_name Vl o v = with_vl o v
with_name Steps o v = with_steps o v
with_name Map o v = with_map o v
with_name Dump o v = with_dump o v
with_name Suppress o v = with_suppress o v

abbrev has : OptionName → Options → Bool
has Vl o = is_some o.vl
has Steps o = is_some o.steps
has Map o = is_some o.map
has Dump o = is_some o.dump
has Suppress o = is_some o.suppress

-- what was read before, or the value of this text
abbrev keep : {A : Type 0} → (List ℕ → Option A) → Option A → Option (List ℕ) → Option (Option A)
keep spelt (Some x) v = Some (Some x)
keep spelt None v = spelt_value spelt v

-- the options with those that are given
reads : Options → Given → Option Options
reads o g =
    option_and_then (λ vl.
    option_and_then (λ steps.
    option_and_then (λ dump.
    option_map (λ suppress. record { vl = vl; steps = steps; map = option_or o.map g.map; dump = dump; suppress = suppress })
    (keep period_of o.suppress g.suppress))
    (keep extent_of o.dump g.dump))
    (keep number_of o.steps g.steps))
    (keep number_of o.vl g.vl)

kept_none : {A : Type 0} (spelt : List ℕ → Option A) (x : Option A) → keep spelt x None ≡ Some x
kept_none spelt None = refl
kept_none spelt (Some x) = refl

reads_none : (o : Options) (g : Given) → g.vl ≡ None → g.steps ≡ None → g.map ≡ None → g.dump ≡ None → g.suppress ≡ None → reads o g ≡ Some o
unfolding reads
reads_none o g v s m d u = rw (v, s, m, d, u, kept_none number_of o.vl, kept_none number_of o.steps, kept_none extent_of o.dump, kept_none period_of o.suppress, or_none o.map) refl

is_none : {A : Type 0} (o : Option A) → is_some o ≡ false → o ≡ None
is_none None e = refl
is_none (Some x) e = absurd (true≢false e)

-- one more option is read before those after it
reads_more : (n : OptionName) (v : List ℕ) (o : Options) (g : Given) → has n o ≡ false → option_and_then (λ p. reads p g) (with_name n o v) ≡ reads o (with_value n v g)
unfolding reads with_vl with_steps with_map with_dump with_suppress
reads_more Vl v o g e = rw (is_none o.vl e) (go (number_of v))
  where
    go : (x : Option ℕ) → option_and_then (λ p. reads p g) (option_map (λ k. record o { vl = Some k }) x)
        ≡ option_and_then (λ vl. option_and_then (λ steps. option_and_then (λ dump. option_map (λ suppress. record { vl = vl; steps = steps; map = option_or o.map g.map; dump = dump; suppress = suppress })
        (keep period_of o.suppress g.suppress)) (keep extent_of o.dump g.dump)) (keep number_of o.steps g.steps)) (option_map (λ k. Some k) x)
    go None = refl
    go (Some k) = refl
reads_more Steps v o g e = rw (is_none o.steps e) (go (number_of v) (keep number_of o.vl g.vl) refl)
  where
    go : (x : Option ℕ) (y : Option (Option ℕ)) → keep number_of o.vl g.vl ≡ y → option_and_then (λ p. reads p g) (option_map (λ k. record o { steps = Some k }) x)
        ≡ option_and_then (λ vl. option_and_then (λ steps. option_and_then (λ dump. option_map (λ suppress. record { vl = vl; steps = steps; map = option_or o.map g.map; dump = dump; suppress = suppress })
        (keep period_of o.suppress g.suppress)) (keep extent_of o.dump g.dump)) (option_map (λ k. Some k) x)) y
    go None None k = refl
    go None (Some y) k = refl
    go (Some x) y k = rw k refl
reads_more Map v o g e = rw (is_none o.map e) refl
reads_more Dump v o g e = rw (is_none o.dump e) (go (extent_of v) (keep number_of o.vl g.vl) (keep number_of o.steps g.steps) refl refl)
  where
    go : (x : Option Extent) (y z : Option (Option ℕ)) → keep number_of o.vl g.vl ≡ y → keep number_of o.steps g.steps ≡ z → option_and_then (λ p. reads p g) (option_map (λ k. record o { dump = Some k }) x)
        ≡ option_and_then (λ vl. option_and_then (λ steps. option_and_then (λ dump. option_map (λ suppress. record { vl = vl; steps = steps; map = option_or o.map g.map; dump = dump; suppress = suppress })
        (keep period_of o.suppress g.suppress)) (option_map (λ k. Some k) x)) z) y
    go None None z k l = refl
    go None (Some y) None k l = refl
    go None (Some y) (Some z) k l = refl
    go (Some x) y z k l = rw (k, l) refl
reads_more Suppress v o g e = rw (is_none o.suppress e) (go (period_of v) (keep number_of o.vl g.vl) (keep number_of o.steps g.steps) (keep extent_of o.dump g.dump) refl refl refl)
  where
    go : (x : Option ℕ) (y z : Option (Option ℕ)) (w : Option (Option Extent)) → keep number_of o.vl g.vl ≡ y → keep number_of o.steps g.steps ≡ z → keep extent_of o.dump g.dump ≡ w
        → option_and_then (λ p. reads p g) (option_map (λ k. record o { suppress = Some k }) x)
        ≡ option_and_then (λ vl. option_and_then (λ steps. option_and_then (λ dump. option_map (λ suppress. record { vl = vl; steps = steps; map = option_or o.map g.map; dump = dump; suppress = suppress })
        (option_map (λ k. Some k) x)) w) z) y
    go None None z w k l m = refl
    go None (Some y) None w k l m = refl
    go None (Some y) (Some z) None k l m = refl
    go None (Some y) (Some z) (Some w) k l m = refl
    go (Some x) y z w k l m = rw (k, l, m) refl

-- ---- the options that were given

abbrev same : OptionName → OptionName → Bool
same Vl Vl = true
same Steps Steps = true
same Map Map = true
same Dump Dump = true
same Suppress Suppress = true
same _ _ = false

has_vl : (m : OptionName) (o : Options) (k : ℕ) → has m (record o { vl = Some k }) ≡ (if same Vl m then true else has m o)
has_vl Vl o k = refl
has_vl also o k = refl

has_steps : (m : OptionName) (o : Options) (k : ℕ) → has m (record o { steps = Some k }) ≡ (if same Steps m then true else has m o)
has_steps Vl o k = refl
has_steps also o k = refl

has_map : (m : OptionName) (o : Options) (k : List ℕ) → has m (record o { map = Some k }) ≡ (if same Map m then true else has m o)
has_map Vl o k = refl
has_map also o k = refl

has_dump : (m : OptionName) (o : Options) (k : Extent) → has m (record o { dump = Some k }) ≡ (if same Dump m then true else has m o)
has_dump Vl o k = refl
has_dump also o k = refl

has_suppress : (m : OptionName) (o : Options) (k : ℕ) → has m (record o { suppress = Some k }) ≡ (if same Suppress m then true else has m o)
has_suppress Vl o k = refl
has_suppress also o k = refl

taken_has : {A : Type 0} (m n : OptionName) (o p : Options) (f : A → Options) (x : Option A) → ((k : A) → has m (f k) ≡ (if same n m then true else has m o)) → option_map f x ≡ Some p
    → has m p ≡ (if same n m then true else has m o)
taken_has m n o p f None h e = absurd (none-some p e)
taken_has m n o p f (Some k) h e = ap (has m) (sym (unwrapped p (f k) p e)) ∙ h k

-- the options after one more
has_after : (n m : OptionName) (o p : Options) (v : List ℕ) → with_name n o v ≡ Some p → has m p ≡ (if same n m then true else has m o)
unfolding with_vl with_steps with_map with_dump with_suppress
has_after Vl m o p v e = taken_has m Vl o p (λ k. record o { vl = Some k }) (once o.vl (number_of v)) (has_vl m o) e
has_after Steps m o p v e = taken_has m Steps o p (λ k. record o { steps = Some k }) (once o.steps (number_of v)) (has_steps m o) e
has_after Map m o p v e = taken_has m Map o p (λ k. record o { map = Some k }) (once o.map (Some v)) (has_map m o) e
has_after Dump m o p v e = taken_has m Dump o p (λ k. record o { dump = Some k }) (once o.dump (extent_of v)) (has_dump m o) e
has_after Suppress m o p v e = taken_has m Suppress o p (λ k. record o { suppress = Some k }) (once o.suppress (period_of v)) (has_suppress m o) e

-- an option that was given before
again : (n : OptionName) (o : Options) (v : List ℕ) → has n o ≡ true → with_name n o v ≡ None
unfolding with_vl with_steps with_map with_dump with_suppress
again Vl o v h = rw h refl
again also o v h = rw h refl

allows_after : (left : Allowed) (n m : OptionName) → allows (without left n) m ≡ (if same n m then false else allows left m)
allows_after left Vl Vl = refl
allows_after left Steps Vl = refl
allows_after left Map Vl = refl
allows_after left Dump Vl = refl
allows_after left Suppress Vl = refl
allows_after left n m = refl

abbrev unit : Bool → ℕ
unit b = if b then 1 else 0

abbrev room : Allowed → ℕ
room a = unit a.vl + (unit a.steps + (unit a.map + (unit a.dump + unit a.suppress)))

room_after : (left : Allowed) (n : OptionName) → allows left n ≡ true → room left ≡ suc (room (without left n))
room_after left Vl e = let q : unit left.vl ≡ 1 = ap unit e in omega arith
room_after left Steps e = let q : unit left.steps ≡ 1 = ap unit e in omega arith
room_after left Map e = let q : unit left.map ≡ 1 = ap unit e in omega arith
room_after left Dump e = let q : unit left.dump ≡ 1 = ap unit e in omega arith
room_after left Suppress e = let q : unit left.suppress ≡ 1 = ap unit e in omega arith

-- ---- an option at the front

-- the words after the name of an option in a word of its own, by its value
abbrev taking : OptionName → Options → (List ℕ × Words) → Option (Options × Words)
taking n o p = option_map (λ k. (k, p.1)) (with_name n o p.0)

alone_at : (n : OptionName) (o : Options) (words : Words) → option_at o (word_of n ∷ words) ≡ given (value_following words) (taking n o) (Some (o, word_of n ∷ words))
unfolding option_at value_at parted
alone_at Vl o words = refl
alone_at also o words = refl

parted_is : (n : OptionName) (v : List ℕ) → parted 61 (word_of n ++ (61 ∷ v)) ≡ Some (word_of n, v)
unfolding parted
parted_is Vl v = rw (lt-ltb 4 (length (word_of Vl ++ (61 ∷ v))) (omega arith)) refl
parted_is Steps v = rw (lt-ltb 7 (length (word_of Steps ++ (61 ∷ v))) (omega arith)) refl
parted_is Map v = rw (lt-ltb 5 (length (word_of Map ++ (61 ∷ v))) (omega arith)) refl
parted_is Dump v = rw (lt-ltb 6 (length (word_of Dump ++ (61 ∷ v))) (omega arith)) refl
parted_is Suppress v = rw (lt-ltb 10 (length (word_of Suppress ++ (61 ∷ v))) (omega arith)) refl

joined_at : (n : OptionName) (v : List ℕ) (o : Options) (words : Words) → is_filled v ≡ true → option_at o ((word_of n ++ (61 ∷ v)) ∷ words) ≡ taking n o (v, words)
unfolding option_at value_at
joined_at Vl v o words f = rw (parted_is Vl v, f) refl
joined_at Steps v o words f = rw (parted_is Steps v, f) refl
joined_at Map v o words f = rw (parted_is Map v, f) refl
joined_at Dump v o words f = rw (parted_is Dump v, f) refl
joined_at Suppress v o words f = rw (parted_is Suppress v, f) refl

name_is_own : (m : OptionName) → name_of (word_of m) ≡ Some m
name_is_own Vl = refl
name_is_own also = refl

not_named : (n : OptionName) (word : List ℕ) → name_of word ≡ None → bytes_eq word (word_of n) ≡ false
not_named n word e = go (bytes_eq word (word_of n)) refl
  where
    go : (b : Bool) → bytes_eq word (word_of n) ≡ b → b ≡ false
    go true t = absurd (none-some n (sym e ∙ ap name_of (bytes_eq-told word (word_of n) t) ∙ name_is_own n))
    go false t = refl

not_joined : (n : OptionName) (word : List ℕ) → joined_of word ≡ None → value_in (word_of n) word ≡ None
unfolding joined_of
not_joined n word e = by_parts (parted 61 word) refl e
  where
    by_filled : (p : List ℕ × List ℕ) → p.0 ≡ word_of n → (b : Bool) → is_filled p.1 ≡ b → name_before p ≡ None → (if b then Some p.1 else None) ≡ None
    by_filled p w true f g =
        let h : name_before p ≡ Some (n, p.1) = rw f (ap (λ o. option_map {U = OptionName × List ℕ} (λ m. (m, p.1)) o) (ap name_of w ∙ name_is_own n)) in
        absurd (none-some (n, p.1) (sym g ∙ h))
    by_filled p w false f g = refl

    by_name : (p : List ℕ × List ℕ) → (b : Bool) → bytes_eq p.0 (word_of n) ≡ b → name_before p ≡ None → (if b && is_filled p.1 then Some p.1 else None) ≡ None
    by_name p true t g = by_filled p (bytes_eq-told p.0 (word_of n) t) (is_filled p.1) refl g
    by_name p false t g = refl

    by_parts : (o : Option (List ℕ × List ℕ)) → parted 61 word ≡ o → option_and_then name_before o ≡ None → option_and_then (value_named (word_of n)) o ≡ None
    by_parts None w g = refl
    by_parts (Some p) w g = by_name p (bytes_eq p.0 (word_of n)) refl g

no_value_at : (n : OptionName) (word : List ℕ) (words : Words) → name_of word ≡ None → joined_of word ≡ None → value_at (word_of n) (word ∷ words) ≡ None
unfolding value_at
no_value_at n word words e j = rw (not_named n word e) (ap (option_map (λ value. (value, words))) (not_joined n word j))

-- a word that names no option
none_at : (word : List ℕ) (words : Words) (o : Options) → name_of word ≡ None → joined_of word ≡ None → option_at o (word ∷ words) ≡ Some (o, word ∷ words)
unfolding option_at
none_at word words o e j = rw (no_value_at Vl word words e j, no_value_at Steps word words e j, no_value_at Map word words e j, no_value_at Dump word words e j, no_value_at Suppress word words e j) refl

nothing_at : (o : Options) → option_at o [] ≡ Some (o, [])
unfolding option_at value_at
nothing_at o = refl

-- `--`, and a word that begins with no minus, name none
end_names : (word : List ℕ) → is_end word ≡ true → (name_of word ≡ None) × (joined_of word ≡ None)
unfolding joined_of parted
end_names word t = rw (bytes_eq-told word (codes "--") t) (refl, refl)

not_plain : (n : OptionName) (rest : List ℕ) → is_plain (word_of n ++ rest) ≡ false
not_plain Vl rest = refl
not_plain also rest = refl

pub plain_names : (word : List ℕ) → is_plain word ≡ true → (name_of word ≡ None) × (joined_of word ≡ None)
plain_names word p = (by_name (name_of word) refl, by_joined (joined_of word) refl)
  where
    by_name : (o : Option OptionName) → name_of word ≡ o → o ≡ None
    by_name None e = refl
    by_name (Some n) e = absurd (true≢false (sym p ∙ ap is_plain (name_is word n e ∙ sym (append-nil (word_of n))) ∙ not_plain n []))

    by_joined : (o : Option (OptionName × List ℕ)) → joined_of word ≡ o → o ≡ None
    by_joined None e = refl
    by_joined (Some x) e = absurd (true≢false (sym p ∙ ap is_plain (joined_is word x.0 x.1 e).0 ∙ not_plain x.0 (61 ∷ x.1)))

-- ---- positional words

none_allowed : Allowed
none_allowed = record { vl = false; steps = false; map = false; dump = false; suppress = false }

pub given_none : (words : Words) (g : Given) → given_from place.Positional words ≡ Some g → (n : OptionName) → text_given n g ≡ None
given_none words g e = (positional_words none_allowed (codes "x") words [] nothing_held g e).none

choose_literal : (f : Given → Words) (b c : Bool) (P : Option Words) (H : Place → Option Given) → P ≡ option_map f (H place.Literal)
    → (if b then None else if c then P else None) ≡ option_map f (option_and_then H (if b then None else if c then Some place.Literal else None))
choose_literal f true c P H e = refl
choose_literal f false true P H e = e
choose_literal f false false P H e = refl

-- the words found before, and those that are given
abbrev adding : Words → Given → Words
adding found g = found ++ g.words

adding_one_word : (found : Words) (word : List ℕ) (o : Option Given) → option_map (adding (found ++ word ∷ [])) o ≡ option_map (adding found) (option_map (with_word word) o)
adding_one_word found word None = refl
adding_one_word found word (Some g) = ap (λ (x : Words). Some x) (append_assoc found (word ∷ []) g.words)

literal_is : (words found : Words) → positional_from true found words ≡ option_map (adding found) (given_from place.Literal words)
unfolding positional_from given_from next gives
literal_is [] found = ap (λ (x : Words). Some x) (sym (append-nil found))
literal_is (word ∷ words) found = choose_literal (adding found) (is_end word) (is_filled word) (positional_from true (found ++ word ∷ []) words)
    (λ q. option_map (gives place.Literal word) (given_from q words)) (literal_is words (found ++ word ∷ []) ∙ adding_one_word found word (given_from place.Literal words))

map_same : (f : Given → Given) (o : Option Given) → ((g : Given) → f g ≡ g) → option_map f o ≡ o
map_same f None h = refl
map_same f (Some g) h = ap (λ (x : Given). Some x) (h g)

map_as : (f h : Given → Given) (o : Option Given) → ((g : Given) → f g ≡ h g) → option_map f o ≡ option_map h o
map_as f h None e = refl
map_as f h (Some g) e = ap (λ (x : Given). Some x) (e g)

positional_end : (word : List ℕ) (g : Given) → is_end word ≡ true → gives place.Positional word g ≡ g
unfolding gives
positional_end word g t = rw t refl

positional_word : (word : List ℕ) (g : Given) → is_end word ≡ false → gives place.Positional word g ≡ with_word word g
unfolding gives
positional_word word g t = rw t refl

positional_is : (words found : Words) → positional_from false found words ≡ option_map (adding found) (given_from place.Positional words)
unfolding positional_from given_from next
positional_is [] found = ap (λ (x : Words). Some x) (sym (append-nil found))
positional_is (word ∷ words) found = by_end (is_end word) refl (is_plain word) (positional_is words (found ++ word ∷ []))
  where
    by_end : (b : Bool) → is_end word ≡ b → (c : Bool) → positional_from false (found ++ word ∷ []) words ≡ option_map (adding (found ++ word ∷ [])) (given_from place.Positional words)
        → (if b then positional_from true found words else if c then positional_from false (found ++ word ∷ []) words else None)
        ≡ option_map (adding found) (option_and_then (λ q. option_map (gives place.Positional word) (given_from q words)) (if b then Some place.Literal else if c then Some place.Positional else None))
    by_end true t c ih = literal_is words found ∙ sym (ap (option_map (adding found)) (map_same (gives place.Positional word) (given_from place.Literal words) (λ g. positional_end word g t)))
    by_end false t true ih = ih ∙ adding_one_word found word (given_from place.Positional words)
        ∙ sym (ap (option_map (adding found)) (map_as (gives place.Positional word) (with_word word) (given_from place.Positional words) (λ g. positional_word word g t)))
    by_end false t false ih = refl

-- the first positional word, or `--`, ends the options
same_place : (left : Allowed) (word : List ℕ) (words : Words) → (is_end word || is_plain word) ≡ true → given_from (place.Options left) (word ∷ words) ≡ given_from place.Positional (word ∷ words)
unfolding given_from next
same_place left word words e = go (is_end word) (is_plain word) refl refl e
  where
    go : (b c : Bool) → is_end word ≡ b → is_plain word ≡ c → (b || c) ≡ true → given_from (place.Options left) (word ∷ words) ≡ given_from place.Positional (word ∷ words)
    go true c t p f = rw t (map_as (gives (place.Options left) word) (gives place.Positional word) (given_from place.Literal words) (λ g. gives-end left (codes "x") left word g t ∙ sym (positional_end word g t)))
    go false true t p f = rw (t, p) (map_as (gives (place.Options left) word) (gives place.Positional word) (given_from place.Positional words) (λ g. gives-plain left (codes "x") left word g t p ∙ sym (positional_word word g t)))
    go false false t p f = absurd (true≢false (sym f))

words_are : (left : Allowed) (word : List ℕ) (words : Words) → (is_end word || is_plain word) ≡ true
    → positional (word ∷ words) ≡ option_map (λ (g : Given). g.words) (given_from (place.Options left) (word ∷ words))
words_are left word words e = positional_is (word ∷ words) [] ∙ ap (option_map (λ (g : Given). g.words)) (sym (same_place left word words e))

not_positional : (word : List ℕ) (words : Words) → is_end word ≡ false → is_plain word ≡ false → positional (word ∷ words) ≡ None
unfolding positional_from
not_positional word words t p = rw (t, p) refl

-- ---- what the words from a first one on give

from_alone : (left : Allowed) (word : List ℕ) (words : Words) (n : OptionName) → is_end word ≡ false → is_plain word ≡ false → name_of word ≡ Some n
    → given_from (place.Options left) (word ∷ words) ≡ (if allows left n then given_from (place.Value n left) words else None)
unfolding given_from
from_alone left word words n t p m =
    ap (option_and_then (λ q. option_map (gives (place.Options left) word) (given_from q words))) (next_alone left (codes "x") left word n t p m) ∙ go (allows left n)
  where
    go : (b : Bool) → option_and_then (λ (q : Place). option_map (gives (place.Options left) word) (given_from q words)) (if b then Some (place.Value n left) else None)
        ≡ (if b then given_from (place.Value n left) words else None)
    go true = map_same (gives (place.Options left) word) (given_from (place.Value n left) words) (λ g. gives-alone left (codes "x") left word g n t p m)
    go false = refl

from_joined : (left : Allowed) (word : List ℕ) (words : Words) (n : OptionName) (v : List ℕ) → is_end word ≡ false → is_plain word ≡ false → name_of word ≡ None → joined_of word ≡ Some (n, v)
    → given_from (place.Options left) (word ∷ words) ≡ (if allows left n then option_map (with_value n v) (given_from (place.Options (without left n)) words) else None)
unfolding given_from
from_joined left word words n v t p m j =
    ap (option_and_then (λ q. option_map (gives (place.Options left) word) (given_from q words))) (next_joined left (codes "x") left word (Some (n, v)) t p m j) ∙ go (allows left n)
  where
    go : (b : Bool) → option_and_then (λ (q : Place). option_map (gives (place.Options left) word) (given_from q words)) (if b then Some (place.Options (without left n)) else None)
        ≡ (if b then option_map (with_value n v) (given_from (place.Options (without left n)) words) else None)
    go true = map_as (gives (place.Options left) word) (with_value n v) (given_from (place.Options (without left n)) words) (λ g. gives-joined left (codes "x") left word g n v t p m j)
    go false = refl

from_other : (left : Allowed) (word : List ℕ) (words : Words) → is_end word ≡ false → is_plain word ≡ false → name_of word ≡ None → joined_of word ≡ None
    → given_from (place.Options left) (word ∷ words) ≡ None
unfolding given_from
from_other left word words t p m j =
    ap (option_and_then (λ q. option_map (gives (place.Options left) word) (given_from q words))) (next_joined left (codes "x") left word None t p m j)

from_value : (left : Allowed) (n : OptionName) (v : List ℕ) (words : Words)
    → given_from (place.Value n left) (v ∷ words) ≡ (if is_plain v then option_map (with_value n v) (given_from (place.Options (without left n)) words) else None)
unfolding given_from next gives
from_value left n v words = go (is_plain v)
  where
    go : (b : Bool) → option_and_then (λ (q : Place). option_map (gives (place.Value n left) v) (given_from q words)) (if b then Some (place.Options (without left n)) else None)
        ≡ (if b then option_map (with_value n v) (given_from (place.Options (without left n)) words) else None)
    go true = refl
    go false = refl

no_value_left : (left : Allowed) (n : OptionName) → given_from (place.Value n left) [] ≡ None
unfolding given_from
no_value_left left n = refl

no_words_left : (left : Allowed) → given_from (place.Options left) [] ≡ Some nothing
unfolding given_from
no_words_left left = refl

-- ---- a command by its options and its positional words

no_line : {A B : Type 0} (f : A → Option B) (o : Option A) → ((x : A) → f x ≡ None) → option_and_then f o ≡ None
no_line f None h = refl
no_line f (Some x) h = h x

module _ (F : Options → Words → Option Line) where
  -- the line, where so many options are read and then positional words
  chain : ℕ → Options → Words → Option Line
  chain zero o words = option_and_then (F o) (positional words)
  chain (suc k) o words = option_and_then (λ p. chain k p.0 p.1) (option_at o words)

  -- the line by what is given
  abbrev line : Options → Option Given → Option Line
  line o x = option_and_then (λ g. option_and_then (λ p. F p g.words) (reads o g)) x

  chain_none : (k : ℕ) (o : Options) (words : Words) → option_at o words ≡ Some (o, words) → chain k o words ≡ option_and_then (F o) (positional words)
  unfolding chain
  chain_none zero o words e = refl
  chain_none (suc k) o words e = ap (option_and_then (λ p. chain k p.0 p.1)) e ∙ chain_none k o words e

  -- positional words alone are given
  line_words : (o : Options) (words : Words) (G : Option Given) → given_from place.Positional words ≡ G → option_and_then (F o) (positional words) ≡ line o G
  line_words o words None e = ap (option_and_then (F o)) (positional_is words [] ∙ ap (option_map (adding [])) e)
  line_words o words (Some g) e =
      let no = given_none words g e in
      ap (option_and_then (F o)) (positional_is words [] ∙ ap (option_map (adding [])) e) ∙ sym (ap (option_and_then (λ p. F p g.words)) (reads_none o g (no Vl) (no Steps) (no Map) (no Dump) (no Suppress)))

  -- what the command says to an option that it has not
  abbrev Closed : OptionName → Type 0
  Closed n = (o : Options) (words : Words) → has n o ≡ true → F o words ≡ None

  keeps_at : (n m : OptionName) (o : Options) (p : Options × Words) (x : Option (List ℕ × Words)) (rest : Option (Options × Words)) → has n o ≡ true
      → (rest ≡ Some p → has n p.0 ≡ true) → given x (taking m o) rest ≡ Some p → has n p.0 ≡ true
  keeps_at n m o p None rest h k e = k e
  keeps_at n m o p (Some y) rest h k e = go (with_name m o y.0) refl e
    where
      go : (w : Option Options) → with_name m o y.0 ≡ w → option_map {U = Options × Words} (λ q. (q, y.1)) w ≡ Some p → has n p.0 ≡ true
      go None w f = absurd (none-some p f)
      go (Some q) w f = ap (λ (x : Options × Words). has n x.0) (sym (unwrapped p (q, y.1) p f)) ∙ has_after m n o q y.0 w ∙ either (same m n)
        where
          either : (b : Bool) → (if b then true else has n o) ≡ true
          either true = refl
          either false = h

  option_keeps : (n : OptionName) (o : Options) (words : Words) (p : Options × Words) → has n o ≡ true → option_at o words ≡ Some p → has n p.0 ≡ true
  unfolding option_at
  option_keeps n o words p h e =
      keeps_at n Vl o p (value_at (codes "--vl") words) _ h (keeps_at n Steps o p (value_at (codes "--steps") words) _ h (keeps_at n Map o p (value_at (codes "--map") words) _ h
      (keeps_at n Dump o p (value_at (codes "--dump") words) _ h
      (keeps_at n Suppress o p (value_at (codes "--suppress") words) _ h (λ f. ap (λ (x : Options × Words). has n x.0) (sym (unwrapped p (o, words) p f)) ∙ h))))) e

  closed_chain : (n : OptionName) → Closed n → (k : ℕ) (o : Options) (words : Words) → has n o ≡ true → chain k o words ≡ None
  unfolding chain
  closed_chain n c zero o words h = no_line (F o) (positional words) (λ ws. c o ws h)
  closed_chain n c (suc k) o words h = go (option_at o words) refl (closed_chain n c k)
    where
      go : (x : Option (Options × Words)) → option_at o words ≡ x → ((p : Options) (ws : Words) → has n p ≡ true → chain k p ws ≡ None) → option_and_then (λ p. chain k p.0 p.1) x ≡ None
      go None e ih = refl
      go (Some p) e ih = ih p.0 p.1 (option_keeps n o words p h e)

  -- the options that may still come were not given, and the others were or are not of the command
  record Fits (left : Allowed) (o : Options) (k : ℕ) : Type 0 where
    pub count : room left ≤ k
    pub unset : (n : OptionName) → allows left n ≡ true → has n o ≡ false
    pub closed : (n : OptionName) → allows left n ≡ false → (has n o ≡ true) ⊎ Closed n

  fits_after : (left : Allowed) (o p : Options) (k : ℕ) (n : OptionName) (v : List ℕ) → Fits left o (suc k) → allows left n ≡ true → with_name n o v ≡ Some p → Fits (without left n) p k
  fits_after left o p k n v f al w = record {
    count = let c = f.count in let r = room_after left n al in omega arith;
    unset = λ m e. unset_go m (same n m) refl (sym (allows_after left n m) ∙ e);
    closed = λ m e. closed_go m (same n m) refl (sym (allows_after left n m) ∙ e);
  }
    where
      unset_go : (m : OptionName) (b : Bool) → same n m ≡ b → (if same n m then false else allows left m) ≡ true → has m p ≡ false
      unset_go m true s e = absurd (true≢false (sym e ∙ ap (λ b. if b then false else allows left m) s))
      unset_go m false s e = has_after n m o p v w ∙ ap (λ b. if b then true else has m o) s ∙ f.unset m (sym (ap (λ b. if b then false else allows left m) s) ∙ e)

      closed_go : (m : OptionName) (b : Bool) → same n m ≡ b → (if same n m then false else allows left m) ≡ false → (has m p ≡ true) ⊎ Closed m
      closed_go m true s e = inl (has_after n m o p v w ∙ ap (λ b. if b then true else has m o) s)
      closed_go m false s e = pass (f.closed m (sym (ap (λ b. if b then false else allows left m) s) ∙ e))
        where
          pass : (has m o ≡ true) ⊎ Closed m → (has m p ≡ true) ⊎ Closed m
          pass (inl h) = inl (has_after n m o p v w ∙ ap (λ b. if b then true else has m o) s ∙ h)
          pass (inr c) = inr c

  abbrev Lines : Words → Type 0
  Lines words = (k : ℕ) (left : Allowed) (o : Options) → Fits left o k → chain k o words ≡ line o (given_from (place.Options left) words)

  -- an option with its value, and the words after it
  takes_option : (words rest : Words) (n : OptionName) (v : List ℕ) → Lines rest → positional words ≡ None → (k : ℕ) (left : Allowed) (o : Options) → Fits left o k
      → option_at o words ≡ taking n o (v, rest)
      → chain k o words ≡ line o (if allows left n then option_map (with_value n v) (given_from (place.Options (without left n)) rest) else None)
  unfolding chain
  takes_option words rest n v ih none k left o f at = by_allowed (allows left n) refl k f
    where
      closed_go : (k : ℕ) → (has n o ≡ true) ⊎ Closed n → option_and_then (λ p. chain k p.0 p.1) (taking n o (v, rest)) ≡ None
      closed_go k (inl h) = ap (λ w. option_and_then (λ p. chain k p.0 p.1) (option_map {U = Options × Words} (λ q. (q, rest)) w)) (again n o v h)
      closed_go k (inr c) = go (with_name n o v) refl
        where
          either : (p : Options) → with_name n o v ≡ Some p → has n p ≡ true
          either p w = has_after n n o p v w ∙ ap (λ b. if b then true else has n o) (same_name n)
            where
              same_name : (m : OptionName) → same m m ≡ true
              same_name Vl = refl
              same_name also = refl

          go : (w : Option Options) → with_name n o v ≡ w → option_and_then (λ p. chain k p.0 p.1) (option_map {U = Options × Words} (λ q. (q, rest)) w) ≡ None
          go None w = refl
          go (Some p) w = closed_chain n c k p rest (either p w)

      line_go : (G : Option Given) (w : Option Options) → with_name n o v ≡ w → has n o ≡ false → line o (option_map (with_value n v) G) ≡ option_and_then (λ p. line p G) w
      line_go None None w h = refl
      line_go None (Some p) w h = refl
      line_go (Some g) None w h = ap (option_and_then (λ p. F p (with_value n v g).words)) (sym (reads_more n v o g h) ∙ ap (option_and_then (λ p. reads p g)) w)
      line_go (Some g) (Some p) w h = ap (option_and_then (λ p. F p (with_value n v g).words)) (sym (reads_more n v o g h) ∙ ap (option_and_then (λ p. reads p g)) w) ∙ ap (λ ws. option_and_then (λ q. F q ws) (reads p g)) (words_same n v g)
        where
          words_same : (m : OptionName) (x : List ℕ) (y : Given) → (with_value m x y).words ≡ y.words
          words_same Vl x y = refl
          words_same also x y = refl

      chain_go : (k : ℕ) → Fits left o (suc k) → allows left n ≡ true → (w : Option Options) → with_name n o v ≡ w
          → option_and_then (λ p. chain k p.0 p.1) (option_map {U = Options × Words} (λ q. (q, rest)) w) ≡ option_and_then (λ p. line p (given_from (place.Options (without left n)) rest)) w
      chain_go k f al None w = refl
      chain_go k f al (Some p) w = ih k (without left n) p (fits_after left o p k n v f al w)

      by_allowed : (b : Bool) → allows left n ≡ b → (k : ℕ) → Fits left o k
          → chain k o words ≡ line o (if b then option_map (with_value n v) (given_from (place.Options (without left n)) rest) else None)
      by_allowed true al zero f = absurd (let c = f.count in let r = room_after left n al in omega arith)
      by_allowed true al (suc k) f =
          ap (option_and_then (λ p. chain k p.0 p.1)) at ∙ chain_go k f al (with_name n o v) refl
          ∙ sym (line_go (given_from (place.Options (without left n)) rest) (with_name n o v) refl (f.unset n al))
      by_allowed false al zero f = ap (option_and_then (F o)) none
      by_allowed false al (suc k) f = ap (option_and_then (λ p. chain k p.0 p.1)) at ∙ closed_go k (f.closed n al)

  abbrev Tail : Words → Type 0
  Tail [] = Unit {0}
  Tail (v ∷ rest) = Lines rest

  -- a first word that is neither an option nor positional
  no_first : (word : List ℕ) (words : Words) (k : ℕ) (left : Allowed) (o : Options) → option_at o (word ∷ words) ≡ Some (o, word ∷ words) → positional (word ∷ words) ≡ None
      → given_from (place.Options left) (word ∷ words) ≡ None → chain k o (word ∷ words) ≡ line o (given_from (place.Options left) (word ∷ words))
  no_first word words k left o at none g = chain_none k o (word ∷ words) at ∙ ap (option_and_then (F o)) none ∙ sym (ap (line o) g)

  first_positional : (word : List ℕ) (words : Words) (k : ℕ) (left : Allowed) (o : Options) → name_of word ≡ None → joined_of word ≡ None → (is_end word || is_plain word) ≡ true
      → chain k o (word ∷ words) ≡ line o (given_from (place.Options left) (word ∷ words))
  first_positional word words k left o m j e =
      chain_none k o (word ∷ words) (none_at word words o m j) ∙ line_words o (word ∷ words) (given_from place.Positional (word ∷ words)) refl ∙ sym (ap (line o) (same_place left word words e))

  alone_lines : (word : List ℕ) (words : Words) → Tail words → is_end word ≡ false → is_plain word ≡ false → (n : OptionName) → name_of word ≡ Some n → Lines (word ∷ words)
  alone_lines word [] tail t p n m k left o f =
      let is = name_is word n m in
      let at : option_at o (word ∷ []) ≡ Some (o, word ∷ []) = rw is (alone_at n o []) in
      no_first word [] k left o at (not_positional word [] t p) (from_alone left word [] n t p m ∙ go (allows left n))
    where
      go : (b : Bool) → (if b then given_from (place.Value n left) [] else None) ≡ None
      go true = no_value_left left n
      go false = refl
  alone_lines word (v ∷ rest) tail t p n m k left o f = by_plain (is_plain v) refl
    where
      is : word ≡ word_of n
      is = name_is word n m

      none : positional (word ∷ (v ∷ rest)) ≡ None
      none = not_positional word (v ∷ rest) t p

      at : option_at o (word ∷ (v ∷ rest)) ≡ given (if is_plain v then Some (v, rest) else None) (taking n o) (Some (o, word ∷ (v ∷ rest)))
      at = rw is (alone_at n o (v ∷ rest))

      given_go : (b : Bool) → is_plain v ≡ b → given_from (place.Options left) (word ∷ (v ∷ rest))
          ≡ (if allows left n then (if b then option_map (with_value n v) (given_from (place.Options (without left n)) rest) else None) else None)
      given_go b q = from_alone left word (v ∷ rest) n t p m ∙ ap (λ x. if allows left n then x else None)
          (from_value left n v rest ∙ ap (λ (c : Bool). if c then option_map (with_value n v) (given_from (place.Options (without left n)) rest) else None) q)

      none_go : (b : Bool) → ◌≡◌ {A = Option Given} (if b then None else None) None
      none_go true = refl
      none_go false = refl

      by_plain : (b : Bool) → is_plain v ≡ b → chain k o (word ∷ (v ∷ rest)) ≡ line o (given_from (place.Options left) (word ∷ (v ∷ rest)))
      by_plain true q = takes_option (word ∷ (v ∷ rest)) rest n v tail none k left o f
          (at ∙ ap (λ (c : Bool). given (if c then Some (v, rest) else None) (taking n o) (Some (o, word ∷ (v ∷ rest)))) q) ∙ sym (ap (line o) (given_go true q))
      by_plain false q = no_first word (v ∷ rest) k left o (at ∙ ap (λ (c : Bool). given (if c then Some (v, rest) else None) (taking n o) (Some (o, word ∷ (v ∷ rest)))) q) none
          (given_go false q ∙ none_go (allows left n))

  first_lines : (word : List ℕ) (words : Words) → Lines words → Tail words → Lines (word ∷ words)
  first_lines word words ih tail k left o f = by_sort (sorted word)
    where
      by_sort : Sorted word → chain k o (word ∷ words) ≡ line o (given_from (place.Options left) (word ∷ words))
      by_sort (ends t) = let e = end_names word t in first_positional word words k left o e.0 e.1 (ap (λ b. b || is_plain word) t)
      by_sort (plain t p) = let e = plain_names word p in first_positional word words k left o e.0 e.1 (ap (λ b. is_end word || b) p ∙ or-true (is_end word))
      by_sort (alone t p n m) = alone_lines word words tail t p n m k left o f
      by_sort (joined t p m n v j) =
          let is = joined_is word n v j in
          let at : option_at o (word ∷ words) ≡ taking n o (v, words) = rw is.0 (joined_at n v o words is.1) in
          takes_option (word ∷ words) words n v ih (not_positional word words t p) k left o f at ∙ sym (ap (line o) (from_joined left word words n v t p m j))
      by_sort (other t p m j) = no_first word words k left o (none_at word words o m j) (not_positional word words t p) (from_other left word words t p m j)

  no_lines : Lines []
  unfolding positional_from
  no_lines k left o f = chain_none k o [] (nothing_at o) ∙ sym (ap (line o) (no_words_left left) ∙ ap (option_and_then (λ p. F p [])) (reads_none o nothing refl refl refl refl refl))

  all_lines : (words : Words) → Lines words × Tail words
  all_lines [] = (no_lines, tt)
  all_lines (word ∷ words) = let r = all_lines words in (first_lines word words r.0 r.1, r.0)

  -- at most five options and positional words
  five : (words : Words) → option_and_then (λ p. option_and_then (F p.0) (positional p.1)) (options_of words) ≡ chain 5 no_options words
  unfolding options_of chain
  five words = four_go (option_at no_options words)
    where
      one_go : (x : Option (Options × Words)) → option_and_then (λ p. option_and_then (F p.0) (positional p.1)) (option_and_then (λ four. option_at four.0 four.1) x) ≡ option_and_then (λ p. chain 1 p.0 p.1) x
      one_go None = refl
      one_go (Some p) = refl

      two_go : (x : Option (Options × Words)) → option_and_then (λ p. option_and_then (F p.0) (positional p.1))
          (option_and_then (λ three. option_and_then (λ four. option_at four.0 four.1) (option_at three.0 three.1)) x) ≡ option_and_then (λ p. chain 2 p.0 p.1) x
      two_go None = refl
      two_go (Some p) = one_go (option_at p.0 p.1)

      three_go : (x : Option (Options × Words)) → option_and_then (λ p. option_and_then (F p.0) (positional p.1))
          (option_and_then (λ two. option_and_then (λ three. option_and_then (λ four. option_at four.0 four.1) (option_at three.0 three.1)) (option_at two.0 two.1)) x) ≡ option_and_then (λ p. chain 3 p.0 p.1) x
      three_go None = refl
      three_go (Some p) = two_go (option_at p.0 p.1)

      four_go : (x : Option (Options × Words)) → option_and_then (λ p. option_and_then (F p.0) (positional p.1))
          (option_and_then (λ one. option_and_then (λ two. option_and_then (λ three. option_and_then (λ four. option_at four.0 four.1) (option_at three.0 three.1)) (option_at two.0 two.1)) (option_at one.0 one.1)) x) ≡ option_and_then (λ p. chain 4 p.0 p.1) x
      four_go None = refl
      four_go (Some p) = three_go (option_at p.0 p.1)

  lines : (a : Allowed) (words : Words) → ((n : OptionName) → allows a n ≡ false → Closed n)
      → option_and_then (λ p. option_and_then (F p.0) (positional p.1)) (options_of words) ≡ option_and_then (λ g. option_and_then (λ p. F p g.words) (options_in g)) (given_of a words)
  unfolding reads options_in
  lines a words c = five words ∙ (all_lines words).0 5 a no_options fits
    where
      room_go : (v s m d u : Bool) → room (record { vl = v; steps = s; map = m; dump = d; suppress = u }) ≤ 5
      room_go v s m d u = most v s m d u
        where
          unit_most : (b : Bool) → unit b ≤ 1
          unit_most true = omega arith
          unit_most false = omega arith

          most : (v s m d u : Bool) → unit v + (unit s + (unit m + (unit d + unit u))) ≤ 5
          most v s m d u = let x = unit_most v in let y = unit_most s in let z = unit_most m in let w = unit_most d in let l = unit_most u in omega arith

      unset_go : (n : OptionName) → has n no_options ≡ false
      unset_go Vl = refl
      unset_go also = refl

      fits : Fits a no_options 5
      fits = record { count = room_go a.vl a.steps a.map a.dump a.suppress; unset = λ n e. unset_go n; closed = λ n e. inr (c n e) }

-- ---- each command

abbrev run_allows : Allowed
run_allows = record { vl = true; steps = true; map = true; dump = true; suppress = true }

abbrev eval_allows : Allowed
eval_allows = record { vl = false; steps = true; map = true; dump = true; suppress = false }

abbrev pipe_allows : Allowed
pipe_allows = record { vl = true; steps = true; map = true; dump = true; suppress = false }

abbrev debug_allows : Allowed
debug_allows = record { vl = true; steps = false; map = true; dump = false; suppress = false }

abbrev no_allows : Allowed
no_allows = record { vl = false; steps = false; map = false; dump = false; suppress = false }

-- the line of a command with options, by what its words give
abbrev pub line_by : (Options → Words → Option Line) → Option Given → Option Line
line_by F x = option_and_then (λ (p : Options × Words). F p.0 p.1) (options_and_words x)

by_both : (F : Options → Words → Option Line) (words : Words) (o : Option Options) → option_and_then (λ p. F p words) o ≡ option_and_then (λ (p : Options × Words). F p.0 p.1) (option_map (λ (o : Options). (o, words)) o)
by_both F words None = refl
by_both F words (Some o) = refl

by_given : (F : Options → Words → Option Line) (x : Option Given) → option_and_then (λ g. option_and_then (λ p. F p g.words) (options_in g)) x ≡ line_by F x
by_given F None = refl
by_given F (Some g) = by_both F g.words (options_in g)

pub run_is : (words : Words) → run_of words ≡ line_by run_with (given_of run_allows words)
unfolding run_of
run_is words = lines run_with run_allows words closed ∙ by_given run_with (given_of run_allows words)
  where
    closed : (n : OptionName) → allows run_allows n ≡ false → (o : Options) (ws : Words) → has n o ≡ true → run_with o ws ≡ None
    closed Vl e = absurd (true≢false e)
    closed also e = absurd (true≢false e)

no_choice : (b : Bool) → ◌≡◌ {A = Option Line} (if b then None else None) None
no_choice true = refl
no_choice false = refl

pub eval_is : (words : Words) → eval_of words ≡ line_by eval_with (given_of eval_allows words)
unfolding eval_of eval_with
eval_is words = lines eval_with eval_allows words closed ∙ by_given eval_with (given_of eval_allows words)
  where
    closed : (n : OptionName) → allows eval_allows n ≡ false → (o : Options) (ws : Words) → has n o ≡ true → eval_with o ws ≡ None
    closed Vl e = λ o ws h. rw h refl
    closed Suppress e = λ o ws h. rw h (no_choice (is_some o.vl))
    closed also e = absurd (true≢false e)

pub debug_is : (words : Words) → debug_of words ≡ line_by debug_with (given_of debug_allows words)
unfolding debug_of debug_with
debug_is words = lines debug_with debug_allows words closed ∙ by_given debug_with (given_of debug_allows words)
  where
    no_choices : (b c : Bool) → ◌≡◌ {A = Option Line} (if b then None else if c then None else None) None
    no_choices true c = refl
    no_choices false c = no_choice c

    closed : (n : OptionName) → allows debug_allows n ≡ false → (o : Options) (ws : Words) → has n o ≡ true → debug_with o ws ≡ None
    closed Vl e = absurd (true≢false e)
    closed Steps e = λ o ws h. rw h refl
    closed Map e = absurd (true≢false e)
    closed Dump e = λ o ws h. rw h (no_choice (is_some o.steps))
    closed Suppress e = λ o ws h. rw h (no_choices (is_some o.steps) (is_some o.dump))

pub pipe_is : (words : Words) → pipe_of words ≡ line_by pipe_with (given_of pipe_allows words)
unfolding pipe_of pipe_with
pipe_is words = lines pipe_with pipe_allows words closed ∙ by_given pipe_with (given_of pipe_allows words)
  where
    closed : (n : OptionName) → allows pipe_allows n ≡ false → (o : Options) (ws : Words) → has n o ≡ true → pipe_with o ws ≡ None
    closed Suppress e = λ o ws h. rw h refl
    closed also e = absurd (true≢false e)

-- the positional words of a command that has no options
pub words_alone : (words : Words) → positional words ≡ option_map (λ (g : Given). g.words) (given_of no_allows words)
unfolding positional_from given_from
words_alone [] = refl
words_alone (word ∷ words) = by_sort (sorted word)
  where
    no_allowed : (n : OptionName) → allows no_allows n ≡ false
    no_allowed Vl = refl
    no_allowed also = refl

    nothing_here : is_end word ≡ false → is_plain word ≡ false → given_from (place.Options no_allows) (word ∷ words) ≡ None
        → positional (word ∷ words) ≡ option_map (λ (g : Given). g.words) (given_of no_allows (word ∷ words))
    nothing_here t p e = not_positional word words t p ∙ sym (ap (option_map (λ (g : Given). g.words)) e)

    by_sort : Sorted word → positional (word ∷ words) ≡ option_map (λ (g : Given). g.words) (given_of no_allows (word ∷ words))
    by_sort (ends t) = words_are no_allows word words (ap (λ b. b || is_plain word) t)
    by_sort (plain t p) = words_are no_allows word words (ap (λ b. is_end word || b) p ∙ or-true (is_end word))
    by_sort (alone t p n m) = nothing_here t p (from_alone no_allows word words n t p m ∙ ap (λ (b : Bool). if b then given_from (place.Value n no_allows) words else None) (no_allowed n))
    by_sort (joined t p m n v j) = nothing_here t p (from_joined no_allows word words n v t p m j
        ∙ ap (λ (b : Bool). if b then option_map (with_value n v) (given_from (place.Options (without no_allows n)) words) else None) (no_allowed n))
    by_sort (other t p m j) = nothing_here t p (from_other no_allows word words t p m j)

two_lines : (F : List ℕ → List ℕ → Line) (f : Words → Option Line) (words : Option Words) → ((from to : List ℕ) → f (from ∷ to ∷ []) ≡ Some (F from to)) → f [] ≡ None → ((a : List ℕ) → f (a ∷ []) ≡ None) → ((a b c : List ℕ) (rest : Words) → f (a ∷ b ∷ c ∷ rest) ≡ None)
    → option_and_then f words ≡ option_map (λ (p : List ℕ × List ℕ). F p.0 p.1) (option_and_then two_of words)
two_lines F f None two none one more = refl
two_lines F f (Some []) two none one more = none
two_lines F f (Some (a ∷ [])) two none one more = one a
two_lines F f (Some (a ∷ b ∷ [])) two none one more = two a b
two_lines F f (Some (a ∷ b ∷ c ∷ rest)) two none one more = more a b c rest

pub compile_is : (words : Words) → compile_of words ≡ option_map (λ (p : List ℕ × List ℕ). CompileLine p.0 p.1) (option_and_then two_of (positional words))
unfolding compile_of
compile_is words = two_lines CompileLine two_files (positional words) (λ a b. refl) refl (λ a. refl) (λ a b c rest. refl)

pub asm_is : (words : Words) → asm_of words ≡ option_map (λ (p : List ℕ × List ℕ). AsmLine p.0 p.1) (option_and_then two_of (positional words))
unfolding asm_of
asm_is words = two_lines AsmLine words_and_file (positional words) (λ a b. refl) refl (λ a. refl) (λ a b c rest. refl)

pub object_is : (words : Words) → object_of words ≡ option_map (λ (p : List ℕ × List ℕ). ObjectLine p.0 p.1) (option_and_then two_of (positional words))
unfolding object_of
object_is words = two_lines ObjectLine kernel_and_object (positional words) (λ a b. refl) refl (λ a. refl) (λ a b c rest. refl)
