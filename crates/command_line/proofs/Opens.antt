-- A walk of `clap` over all words that may follow a command.
use Rattle.std.proofs.Common.{refl, sym, ap, ap₂, subst, true≢false, arith, ◌∙◌, ◌≡◌, suc, ◌≤◌, List, [], ◌∷◌, ◌++◌, length, Bool, true, false, codes, Option, Some, None, if◌then◌else◌}
use Rattle.std.specs.Prelude.{option_and_then, bytes_eq, nat_le}
use Rattle.std.specs.List.{fold}
use Rattle.std.specs.Option.{option_or, option_map_or}
use Rattle.std.proofs.lemmas.Bool.{le-leb, and_from, not-true}
use Rattle.std.proofs.lemmas.Option.{none-some}
use Rattle.std.proofs.lemmas.List.Folds.{find-append}
use Rattle.number_text.specs.Numbers.{given}
use Rattle.clap.specs.Lexer.{usize_max}
use Rattle.clap.specs.Words.{Row, Text}
use Rattle.clap.specs.Walk.{Held, Walk, used_by_id, settled, reacted, walked, walk_from, positional, is_pending}
use Rattle.clap.specs.Takes.{turn_passes, settle_passes, use_passes, values_pass, walk_passes}
use Rattle.number_text.proofs.Bytes.{bytes_eq-told}
use Rattle.command_line.specs.Line.{Words, is_end, is_plain}
use Rattle.command_line.specs.Given.{Given, name_of, joined_of, allows, without, value_after, options_after, next, gives, given_from, nothing, with_value, with_word, with_joined}
use Rattle.command_line.specs.declared.place.Allowed.{Allowed}
use Rattle.command_line.specs.declared.place.OptionName.{OptionName}
use Rattle.command_line.specs.declared.place.OptionName.TheVariants.{Vl, Steps, Map, Dump, Suppress}
use Rattle.command_line.specs.declared.place.Place.{Place}
use Rattle.command_line.specs.declared.place.Place.TheVariants as place
use Rattle.command_line.proofs.Commands.{option_text, option_built, words_built, rules, shape, words_by_id}
use Rattle.command_line.proofs.Sorts.{Sorted, ends, plain, alone, joined, other, sorted, name_is, joined_is, unwrapped}
use Rattle.command_line.proofs.Walks.{row, found_in, option_used, words_used, id_is, waiting_for, alone_step, joined_step, value_step, in_words, trailing_from, end_first, literal_first, plain_first, alone_turns, use_passes-option, joined_turns, value_turns, end_first_turns, literal_first_turns, plain_first_turns}
use Rattle.command_line.proofs.PositionalWords.{text_given, option_found, words_found, Follows, follows, or_none, or_assoc, Pushes, no_value, literal_words, positional_words, literal_next}

-- ---- names

-- an option that may still come after this one is another
free_after : (left : Allowed) (n m : OptionName) → allows (without left n) m ≡ true → (allows left m ≡ true) × (bytes_eq (option_text n) (option_text m) ≡ false)
free_after left Vl Vl e = absurd (true≢false (sym e))
free_after left Steps Steps e = absurd (true≢false (sym e))
free_after left Map Map e = absurd (true≢false (sym e))
free_after left Dump Dump e = absurd (true≢false (sym e))
free_after left Suppress Suppress e = absurd (true≢false (sym e))
free_after left n m e = (e, refl)

abbrev one : OptionName → Text → List Row
one n v = row (option_text n) (v ∷ []) ∷ []

-- a value is found under its own name alone
found_one : (n m : OptionName) (v : Text) (g : Given) → option_or (found_in (option_text m) (one n v)) (option_found m (text_given m g)) ≡ option_found m (text_given m (with_value n v g))
found_one Vl Vl v g = refl
found_one Steps Vl v g = refl
found_one Map Vl v g = refl
found_one Dump Vl v g = refl
found_one Suppress Vl v g = refl
found_one n m v g = refl

not_words : (n : OptionName) (v : Text) → found_in (codes "words") (one n v) ≡ None
not_words Vl v = refl
not_words also v = refl

words_not : (n : OptionName) (x : Text) (xs : Words) → found_in (option_text n) (row (codes "words") (x ∷ xs) ∷ []) ≡ None
words_not Vl x xs = refl
words_not also x xs = refl

same_words : (n : OptionName) (v : Text) (g : Given) → (with_value n v g).words ≡ g.words
same_words Vl v g = refl
same_words also v g = refl

not_pending : (n : OptionName) (v : Text) → is_pending words_built (Some (option_text n, v ∷ [])) ≡ false
not_pending Vl v = refl
not_pending also v = refl

-- ---- the walk where options may come

pub record Open (a left : Allowed) (h : Held) : Type 0 where
  pub pending : is_pending words_built h.pending ≡ false
  pub free : (n : OptionName) → allows left n ≡ true → (allows a n ≡ true) × (found_in (option_text n) (settled (rules a) h).rows ≡ None)
  pub no_words : found_in (codes "words") (settled (rules a) h).rows ≡ None
  pub passes : settle_passes (rules a) false h ≡ true

found_more : (id : Text) (rows more : List Row) → found_in id rows ≡ None → found_in id more ≡ None → found_in id (rows ++ more) ≡ None
found_more id rows more e f = find-append (λ r. bytes_eq r.id id) rows more ∙ ap₂ option_or e f

other_row : (n m : OptionName) (v : Text) → bytes_eq (option_text n) (option_text m) ≡ false → found_in (option_text m) (one n v) ≡ None
other_row n m v e = rw e refl

open_after : (a left : Allowed) (h after : Held) (n : OptionName) (v : Text) → Open a left h → is_pending words_built after.pending ≡ false → settle_passes (rules a) false after ≡ true
    → (settled (rules a) after).rows ≡ (settled (rules a) h).rows ++ one n v → Open a (without left n) after
open_after a left h after n v o p s e = record {
  pending = p;
  free = λ m f. let q = free_after left n m f in let r = o.free m q.0 in
      (r.0, ap (found_in (option_text m)) e ∙ found_more (option_text m) (settled (rules a) h).rows (one n v) r.1 (other_row n m v q.1));
  no_words = ap (found_in (codes "words")) e ∙ found_more (codes "words") (settled (rules a) h).rows (one n v) o.no_words (not_words n v);
  passes = s;
}

-- ---- where the walk ends

-- after the words the rows hold what these give beside what was held before them
pub record Ends (a : Allowed) (name : Text) (rows : List Row) (w : Walk) (words : Words) (g : Given) : Type 0 where
  pub passes : walk_passes (shape name a) [] w words ≡ true
  pub settles : settle_passes (rules a) false (fold (walked (rules a) []) w words).held ≡ true
  pub options : (n : OptionName) → found_in (option_text n) (settled (rules a) (fold (walked (rules a) []) w words).held).rows ≡ option_or (found_in (option_text n) rows) (option_found n (text_given n g))
  pub words_are : found_in (codes "words") (settled (rules a) (fold (walked (rules a) []) w words).held).rows ≡ words_found g.words

ends_step : (a : Allowed) (name : Text) (rows more : List Row) (w after : Walk) (word : Text) (words : Words) (g r : Given)
    → walked (rules a) [] w word ≡ after → turn_passes (shape name a) [] w word ≡ true → Ends a name more after words r
    → ((n : OptionName) → option_or (found_in (option_text n) more) (option_found n (text_given n r)) ≡ option_or (found_in (option_text n) rows) (option_found n (text_given n g)))
    → r.words ≡ g.words → Ends a name rows w (word ∷ words) g
unfolding walk_passes
ends_step a name rows more w after word words g r step turn e same ws =
    let walk : fold (walked (rules a) []) (walked (rules a) [] w word) words ≡ fold (walked (rules a) []) after words = ap (λ (x : Walk). fold (walked (rules a) []) x words) step in
    record {
      passes = and_from _ _ turn (ap (λ (x : Walk). walk_passes (shape name a) [] x words) step ∙ e.passes);
      settles = ap (λ (x : Walk). settle_passes (rules a) false x.held) walk ∙ e.settles;
      options = λ n. ap (λ (x : Walk). found_in (option_text n) (settled (rules a) x.held).rows) walk ∙ e.options n ∙ same n;
      words_are = ap (λ (x : Walk). found_in (codes "words") (settled (rules a) x.held).rows) walk ∙ e.words_are ∙ ap words_found ws;
    }

-- the value of an option came
ends_value : (a : Allowed) (name : Text) (rows more : List Row) (w after : Walk) (word : Text) (words : Words) (n : OptionName) (v : Text) (r : Given)
    → walked (rules a) [] w word ≡ after → turn_passes (shape name a) [] w word ≡ true → Ends a name more after words r → more ≡ rows ++ one n v
    → Ends a name rows w (word ∷ words) (with_value n v r)
ends_value a name rows more w after word words n v r step turn e m = ends_step a name rows more w after word words (with_value n v r) r step turn e
    (λ k. ap (λ o. option_or o (option_found k (text_given k r))) (ap (found_in (option_text k)) m ∙ find-append (λ x. bytes_eq x.id (option_text k)) rows (one n v))
    ∙ or_assoc (found_in (option_text k) rows) (found_in (option_text k) (one n v)) (option_found k (text_given k r))
    ∙ ap (option_or (found_in (option_text k) rows)) (found_one n k v r))
    (sym (same_words n v r))

all_pass : (vs : Words) → values_pass words_built vs ≡ true
all_pass [] = refl
all_pass (v ∷ vs) = all_pass vs

-- the walk ends among positional words
pub ends_words : (a : Allowed) (name : Text) (h : Held) (w : Walk) (x : Text) (words : Words) (r : Given) → Pushes a name w words (x ∷ []) h r
    → found_in (codes "words") h.rows ≡ None → suc (length words) ≤ usize_max → Ends a name h.rows w words (with_word x r)
ends_words a name h w x words r p e few = record {
  passes = p.passes;
  settles = ap (settle_passes (rules a) false) p.held ∙ settle_is;
  options = λ n. ap (λ (k : Held). found_in (option_text n) (settled (rules a) k).rows) p.held ∙ ap (found_in (option_text n)) rows_are
      ∙ find-append (λ k. bytes_eq k.id (option_text n)) h.rows (row (codes "words") (x ∷ r.words) ∷ [])
      ∙ ap (option_or (found_in (option_text n) h.rows)) (words_not n x r.words ∙ sym (ap (option_found n) (value_is n ∙ p.none n)));
  words_are = ap (λ (k : Held). found_in (codes "words") (settled (rules a) k).rows) p.held ∙ ap (found_in (codes "words")) rows_are
      ∙ find-append (λ k. bytes_eq k.id (codes "words")) h.rows (row (codes "words") (x ∷ r.words) ∷ []) ∙ ap (λ o. option_or o (words_found (x ∷ r.words))) e;
}
  where
    value_is : (n : OptionName) → text_given n (with_word x r) ≡ text_given n r
    value_is Vl = refl
    value_is also = refl

    rows_are : (settled (rules a) (record h { pending = Some (codes "words", x ∷ r.words) })).rows ≡ h.rows ++ row (codes "words") (x ∷ r.words) ∷ []
    rows_are = rw (words_by_id a) (words_used x r.words h.rows e)

    count_is : nat_le (length (x ∷ r.words)) usize_max ≡ true
    count_is = le-leb (length (x ∷ r.words)) usize_max (let c = p.count in omega arith)

    settle_is : settle_passes (rules a) false (record h { pending = Some (codes "words", x ∷ r.words) }) ≡ true
    settle_is = rw (words_by_id a, le-leb 0 (length (x ∷ r.words)) (omega arith), count_is, all_pass r.words) refl

-- ---- the whole walk

-- the words end here, and nothing is given
ends_nothing : (a left : Allowed) (name : Text) (h : Held) (w : Walk) (g : Given) → Open a left h → w.held ≡ h → nothing ≡ g → Ends a name (settled (rules a) h).rows w [] g
unfolding walk_passes
ends_nothing a left name h w g o held e = record {
  passes = refl;
  settles = ap (settle_passes (rules a) false) held ∙ o.passes;
  options = λ n. ap (λ (k : Held). found_in (option_text n) (settled (rules a) k).rows) held ∙ sym (or_none _) ∙ ap (λ p. option_or (found_in (option_text n) (settled (rules a) h).rows) (option_found n p)) (sym (no_value n) ∙ ap (text_given n) e);
  words_are = ap (λ (k : Held). found_in (codes "words") (settled (rules a) k).rows) held ∙ o.no_words ∙ ap (λ (x : Given). words_found x.words) e;
}

module _ (a : Allowed) (name : Text) where
  same_given : (rows : List Row) (w : Walk) (words : Words) (g r : Given) → r ≡ g → Ends a name rows w words r → Ends a name rows w words g
  same_given rows w words g r e x = subst (λ (y : Given). Ends a name rows w words y) e x

  -- a positional word comes first
  first_word : (left : Allowed) (h : Held) (w after : Walk) (word : Text) (words : Words) (g r : Given) → Open a left h → walked (rules a) [] w word ≡ after → turn_passes (shape name a) [] w word ≡ true
      → Pushes a name after words (word ∷ []) (settled (rules a) h) r → suc (length words) ≤ usize_max → with_word word r ≡ g → Ends a name (settled (rules a) h).rows w (word ∷ words) g
  first_word left h w after word words g r o step turn p few e =
      ends_step a name (settled (rules a) h).rows (settled (rules a) h).rows w after word words g g step turn
      (same_given _ after words g (with_word word r) e (ends_words a name (settled (rules a) h) after word words r p o.no_words few)) (λ n. refl) refl

  -- all words come after `--`
  trailing_words : (left : Allowed) (h : Held) (words : Words) (g : Given) → Open a left h → length words ≤ usize_max → given_from place.Literal words ≡ Some g
      → Ends a name (settled (rules a) h).rows (trailing_from a h) words g
  unfolding given_from gives
  trailing_words left h [] g o few e = ends_nothing a left name h (trailing_from a h) g o refl (unwrapped g nothing g e)
  trailing_words left h (word ∷ words) g o few e =
      let f = follows place.Literal word words g e in
      let r = ap (λ q. given_from q words) (sym (literal_next a name word f.after f.goes)) ∙ f.more in
      first_word left h (trailing_from a h) (in_words a true positional (word ∷ []) (settled (rules a) h)) word words g f.rest o
      (literal_first a h word o.pending) (literal_first_turns a name h word o.passes) (literal_words a name words positional (word ∷ []) (settled (rules a) h) f.rest r) few f.all

  -- from where options may come, and from where the value of one has to come
  abbrev pub Opened : Words → Type 0
  Opened words = ((left : Allowed) (h : Held) (g : Given) → Open a left h → length words ≤ usize_max → given_from (place.Options left) words ≡ Some g
      → Ends a name (settled (rules a) h).rows (walk_from h) words g)
      × ((n : OptionName) (left : Allowed) (h : Held) (g : Given) → Open a left h → allows left n ≡ true → length words ≤ usize_max → given_from (place.Value n left) words ≡ Some g
      → Ends a name (settled (rules a) h).rows (waiting_for n (settled (rules a) h)) words g)

  next_end : (left : Allowed) (word : Text) → is_end word ≡ true → next (place.Options left) word ≡ Some place.Literal
  unfolding next
  next_end left word e = rw e refl

  next_plain : (left : Allowed) (word : Text) → is_end word ≡ false → is_plain word ≡ true → next (place.Options left) word ≡ Some place.Positional
  unfolding next
  next_plain left word e p = rw (e, p) refl

  pub next_alone : (left : Allowed) (word : Text) (n : OptionName) → is_end word ≡ false → is_plain word ≡ false → name_of word ≡ Some n → next (place.Options left) word ≡ value_after left n
  unfolding next
  next_alone left word n e p m = rw (e, p) (ap (λ o. given o (value_after left) (option_and_then (options_after left) (joined_of word))) m)

  pub next_joined : (left : Allowed) (word : Text) (o : Option (OptionName × Text)) → is_end word ≡ false → is_plain word ≡ false → name_of word ≡ None → joined_of word ≡ o
      → next (place.Options left) word ≡ option_and_then (options_after left) o
  unfolding next
  next_joined left word o e p m j = rw (e, p) (ap₂ (λ k i. given k (value_after left) (option_and_then (options_after left) i)) m j)

  pub gives-end : (left : Allowed) (word : Text) (r : Given) → is_end word ≡ true → gives (place.Options left) word r ≡ r
  unfolding gives
  gives-end left word r e = rw e refl

  pub gives-plain : (left : Allowed) (word : Text) (r : Given) → is_end word ≡ false → is_plain word ≡ true → gives (place.Options left) word r ≡ with_word word r
  unfolding gives
  gives-plain left word r e p = rw (e, p) refl

  pub gives-alone : (left : Allowed) (word : Text) (r : Given) (n : OptionName) → is_end word ≡ false → is_plain word ≡ false → name_of word ≡ Some n → gives (place.Options left) word r ≡ r
  unfolding gives
  gives-alone left word r n e p m = rw (e, p) (ap (λ o. given o (λ _. r) (with_joined word r)) m)

  pub gives-joined : (left : Allowed) (word : Text) (r : Given) (n : OptionName) (v : Text) → is_end word ≡ false → is_plain word ≡ false → name_of word ≡ None → joined_of word ≡ Some (n, v)
      → gives (place.Options left) word r ≡ with_value n v r
  unfolding gives
  gives-joined left word r n v e p m j = rw (e, p) (ap (λ o. given o (λ _. r) (with_joined word r)) m ∙ ap (λ o. given o (λ (x : OptionName × Text). with_value x.0 x.1 r) r) j)

  gives-value : (left : Allowed) (word : Text) (n : OptionName) (r : Given) → gives (place.Value n left) word r ≡ with_value n word r
  unfolding gives
  gives-value left word n r = refl

  some_if : (b : Bool) (x y : Place) → (if b then Some x else None) ≡ Some y → (b ≡ true) × (x ≡ y)
  some_if true x y e = (refl, unwrapped x x y e)
  some_if false x y e = absurd (none-some y e)

  plain_first_turn : (h : Held) (word : Text) → is_plain word ≡ true → is_pending words_built h.pending ≡ false → settle_passes (rules a) false h ≡ true
      → (walked (rules a) [] (walk_from h) word ≡ in_words a false positional (word ∷ []) (settled (rules a) h)) × (turn_passes (shape name a) [] (walk_from h) word ≡ true)
  plain_first_turn h [] p q s = absurd (true≢false (sym p))
  plain_first_turn h (b ∷ bs) p q s = (plain_first a h b bs (not-true _ p) q, plain_first_turns a name h b bs (not-true _ p) s)

  options_open : (word : Text) (words : Words) → Opened words → (left : Allowed) (h : Held) (g : Given) → Open a left h → suc (length words) ≤ usize_max
      → given_from (place.Options left) (word ∷ words) ≡ Some g → Ends a name (settled (rules a) h).rows (walk_from h) (word ∷ words) g
  options_open word words ih left h g o few e = by_sort (sorted word) (follows (place.Options left) word words g e)
    where
      rows : List Row
      rows = (settled (rules a) h).rows

      less : length words ≤ usize_max
      less = omega arith

      passing : (after : Walk) (r : Given) → walked (rules a) [] (walk_from h) word ≡ after → turn_passes (shape name a) [] (walk_from h) word ≡ true → r ≡ g
          → Ends a name (settled (rules a) h).rows after words r → Ends a name (settled (rules a) h).rows (walk_from h) (word ∷ words) g
      passing after r step turn same x =
          ends_step a name (settled (rules a) h).rows (settled (rules a) h).rows (walk_from h) after word words g g step turn (same_given (settled (rules a) h).rows after words g r same x) (λ n. refl) refl

      by_sort : Sorted word → Follows (place.Options left) word words g → Ends a name (settled (rules a) h).rows (walk_from h) (word ∷ words) g
      by_sort (ends t) f =
          let is = bytes_eq-told word (codes "--") t in
          let q = unwrapped place.Literal f.after place.Literal (sym f.goes ∙ next_end left word t) in
          passing (trailing_from a h) f.rest (ap (walked (rules a) [] (walk_from h)) is ∙ end_first a h) (ap (turn_passes (shape name a) [] (walk_from h)) is ∙ end_first_turns a name h)
          (sym (gives-end left word f.rest t) ∙ f.all) (trailing_words left h words f.rest o less (ap (λ x. given_from x words) (sym q) ∙ f.more))
      by_sort (plain t p) f =
          let q = unwrapped place.Literal f.after place.Positional (sym f.goes ∙ next_plain left word t p) in
          let turn = plain_first_turn h word p o.pending o.passes in
          first_word left h (walk_from h) (in_words a false positional (word ∷ []) (settled (rules a) h)) word words g f.rest o turn.0 turn.1
          (positional_words a name words (word ∷ []) (settled (rules a) h) f.rest (ap (λ x. given_from x words) (sym q) ∙ f.more)) few (sym (gives-plain left word f.rest t p) ∙ f.all)
      by_sort (alone t p n m) f =
          let s = some_if (allows left n) (place.Value n left) f.after (sym (next_alone left word n t p m) ∙ f.goes) in
          let is = name_is word n m in
          let al = (o.free n s.0).0 in
          passing (waiting_for n (settled (rules a) h)) f.rest (ap (walked (rules a) [] (walk_from h)) is ∙ alone_step a n h al)
          (ap (turn_passes (shape name a) [] (walk_from h)) is ∙ alone_turns a name n h al o.passes) (sym (gives-alone left word f.rest n t p m) ∙ f.all)
          (ih.1 n left h f.rest o s.0 less (ap (λ x. given_from x words) s.1 ∙ f.more))
      by_sort (joined t p m n v j) f =
          let s = some_if (allows left n) (place.Options (without left n)) f.after (sym (next_joined left word (Some (n, v)) t p m j) ∙ f.goes) in
          let is = (joined_is word n v j).0 in
          let al = (o.free n s.0).0 in
          let no = (o.free n s.0).1 in
          let after = reacted (rules a) (option_built n) (v ∷ []) h in
          let more = option_used n v (settled (rules a) h).rows no in
          same_given (settled (rules a) h).rows (walk_from h) (word ∷ words) g (with_value n v f.rest) (sym (gives-joined left word f.rest n v t p m j) ∙ f.all)
          (ends_value a name (settled (rules a) h).rows (settled (rules a) after).rows (walk_from h) (walk_from after) word words n v f.rest
          (ap (walked (rules a) [] (walk_from h)) is ∙ joined_step a n v h al)
          (ap (turn_passes (shape name a) [] (walk_from h)) is ∙ joined_turns a name n v h al o.passes (use_passes-option a n v (settled (rules a) h).rows no))
          (ih.0 (without left n) after f.rest (open_after a left h after n v o refl refl more) less (ap (λ x. given_from x words) s.1 ∙ f.more)) more)
      by_sort (other t p m j) f = absurd (none-some f.after (sym (next_joined left word None t p m j) ∙ f.goes))

  next_value : (left : Allowed) (n : OptionName) (v : Text) → next (place.Value n left) v ≡ (if is_plain v then Some (place.Options (without left n)) else None)
  unfolding next
  next_value left n v = refl

  value_open : (v : Text) (words : Words) → Opened words → (n : OptionName) (left : Allowed) (h : Held) (g : Given) → Open a left h → allows left n ≡ true → suc (length words) ≤ usize_max
      → given_from (place.Value n left) (v ∷ words) ≡ Some g → Ends a name (settled (rules a) h).rows (waiting_for n (settled (rules a) h)) (v ∷ words) g
  value_open v words ih n left h g o al few e =
      let f = follows (place.Value n left) v words g e in
      let s = some_if (is_plain v) (place.Options (without left n)) f.after (sym (next_value left n v) ∙ f.goes) in
      let has = (o.free n al).0 in
      let no = (o.free n al).1 in
      let after : Held = record (settled (rules a) h) { pending = Some (option_text n, v ∷ []) } in
      let more : (settled (rules a) after).rows ≡ (settled (rules a) h).rows ++ one n v = ap (λ r. used_by_id r (v ∷ []) (settled (rules a) h).rows) (id_is n a has) ∙ option_used n v (settled (rules a) h).rows no in
      let settles : settle_passes (rules a) false after ≡ true = ap (λ r. option_map_or (λ x. use_passes false x (v ∷ []) (settled (rules a) h).rows) r true) (id_is n a has) ∙ use_passes-option a n v (settled (rules a) h).rows no in
      same_given (settled (rules a) h).rows (waiting_for n (settled (rules a) h)) (v ∷ words) g (with_value n v f.rest) (sym (gives-value left v n f.rest) ∙ f.all)
      (ends_value a name (settled (rules a) h).rows (settled (rules a) after).rows (waiting_for n (settled (rules a) h)) (walk_from after) v words n v f.rest
      (value_step a n v (settled (rules a) h) has s.0) (value_turns a name n v (settled (rules a) h) has s.0)
      (ih.0 (without left n) after f.rest (open_after a left h after n v o (not_pending n v) settles more) (omega arith) (ap (λ x. given_from x words) s.1 ∙ f.more)) more)

  no_words : (n : OptionName) (left : Allowed) (g : Given) → given_from (place.Value n left) [] ≡ Some g → ⊥
  unfolding given_from
  no_words n left g e = none-some g e

  no_more_is_given : (left : Allowed) (g : Given) → given_from (place.Options left) [] ≡ Some g → nothing ≡ g
  unfolding given_from
  no_more_is_given left g e = unwrapped g nothing g e

  pub opened : (words : Words) → Opened words
  opened [] = (λ left h g o few e. ends_nothing a left name h (walk_from h) g o refl (no_more_is_given left g e), λ n left h g o al few e. absurd (no_words n left g e))
  opened (word ∷ words) = let ih = opened words in (options_open word words ih, value_open word words ih)
