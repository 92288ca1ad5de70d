-- A walk of `clap` over words that may follow a command finds what the words give.
use Rattle.std.proofs.Common.{refl, sym, ap, true≢false, arith, ◌∙◌, ◌≡◌, suc, ◌≤◌, [], ◌∷◌, ◌++◌, length, Bool, true, false, codes, Option, Some, None, if◌then◌else◌}
use Rattle.std.specs.Prelude.{option_map, option_and_then}
use Rattle.std.specs.List.{fold}
use Rattle.std.specs.Option.{option_or}
use Rattle.std.proofs.lemmas.Option.{none-some}
use Rattle.std.proofs.lemmas.List.{append-nil, append_assoc}
use Rattle.std.proofs.lemmas.Bool.{and_from, not-true}
use Rattle.clap.specs.Words.{Row, Text}
use Rattle.clap.specs.Walk.{Held, Walk, Waiting, walked, positional}
use Rattle.clap.specs.Takes.{turn_passes, walk_passes}
use Rattle.number_text.proofs.Bytes.{bytes_eq-told}
use Rattle.command_line.specs.Line.{Words, is_end, is_plain, is_filled}
use Rattle.command_line.specs.Given.{Given, next, gives, given_from, nothing, with_word}
use Rattle.command_line.specs.declared.place.Allowed.{Allowed}
use Rattle.command_line.specs.declared.place.OptionName.{OptionName}
use Rattle.command_line.specs.declared.place.OptionName.TheVariants.{Vl, Steps, Map, Dump, Suppress}
use Rattle.command_line.specs.declared.place.Place.{Place}
use Rattle.command_line.specs.declared.place.Place.TheVariants as place
use Rattle.command_line.proofs.Commands.{option_text, rules, shape}
use Rattle.command_line.proofs.Sorts.{unwrapped}
use Rattle.command_line.proofs.Walks.{row, in_words, literal_step, plain_step, end_step, literal_turns, plain_turns, end_turns}

-- ---- what the words give

abbrev pub text_given : OptionName → Given → Option Text
text_given Vl g = g.vl
text_given Steps g = g.steps
text_given Map g = g.map
text_given Dump g = g.dump
text_given Suppress g = g.suppress

abbrev pub option_found : OptionName → Option Text → Option Row
option_found n o = option_map (λ v. row (option_text n) (v ∷ [])) o

abbrev pub words_found : Words → Option Row
words_found [] = None
words_found (x ∷ xs) = Some (row (codes "words") (x ∷ xs))

-- the words from a place on, by the first of them
pub record Follows (p : Place) (word : Text) (words : Words) (g : Given) : Type 0 where
  pub after : Place
  pub rest : Given
  pub goes : next p word ≡ Some after
  pub more : given_from after words ≡ Some rest
  pub all : gives p word rest ≡ g

pub follows : (p : Place) (word : Text) (words : Words) (g : Given) → given_from p (word ∷ words) ≡ Some g → Follows p word words g
unfolding given_from
follows p word words g e = by_place (next p word) refl e
  where
    by_rest : (q : Place) → next p word ≡ Some q → (o : Option Given) → given_from q words ≡ o → option_map (gives p word) o ≡ Some g → Follows p word words g
    by_rest q n None r f = absurd (none-some g f)
    by_rest q n (Some x) r f = record { after = q; rest = x; goes = n; more = r; all = unwrapped g _ g f }

    by_place : (o : Option Place) → next p word ≡ o → option_and_then (λ q. option_map (gives p word) (given_from q words)) o ≡ Some g → Follows p word words g
    by_place None n f = absurd (none-some g f)
    by_place (Some q) n f = by_rest q n (given_from q words) refl f

-- ---- booleans and options

pub or_none : {A : Type 0} (o : Option A) → option_or o None ≡ o
or_none None = refl
or_none (Some x) = refl

pub or_assoc : {A : Type 0} (o p q : Option A) → option_or (option_or o p) q ≡ option_or o (option_or p q)
or_assoc None p q = refl
or_assoc (Some x) p q = refl

-- ---- positional words

-- the walk over positional words adds them to those that it has met
pub record Pushes (a : Allowed) (name : Text) (w : Walk) (words found : Words) (h : Held) (g : Given) : Type 0 where
  pub held : (fold (walked (rules a) []) w words).held ≡ record h { pending = Some (codes "words", found ++ g.words) }
  pub passes : walk_passes (shape name a) [] w words ≡ true
  pub none : (n : OptionName) → text_given n g ≡ None
  pub count : length g.words ≤ length words

pub no_value : (n : OptionName) → text_given n nothing ≡ None
no_value Vl = refl
no_value other = refl

same_value : (n : OptionName) (word : Text) (g : Given) → text_given n (with_word word g) ≡ text_given n g
same_value Vl word g = refl
same_value other word g = refl

module _ (a : Allowed) (name : Text) where
  pushes_none : (w : Walk) (found : Words) (h : Held) (g : Given) → w.held ≡ record h { pending = Some (codes "words", found) } → nothing ≡ g → Pushes a name w [] found h g
  unfolding walk_passes
  pushes_none w found h g held e = record {
    held = held ∙ ap (λ (xs : Words). record h { pending = Some (codes "words", xs) }) (sym (append-nil found)) ∙ ap (λ (x : Given). record h { pending = Some (codes "words", found ++ x.words) }) e;
    passes = refl;
    none = λ n. ap (text_given n) (sym e) ∙ no_value n;
    count = omega (arith, ap (λ (x : Given). length x.words) e);
  }

  pushes_more : (w after : Walk) (word : Text) (words found : Words) (h : Held) (g r : Given) → walked (rules a) [] w word ≡ after → turn_passes (shape name a) [] w word ≡ true
      → Pushes a name after words (found ++ word ∷ []) h r → with_word word r ≡ g → Pushes a name w (word ∷ words) found h g
  unfolding walk_passes
  pushes_more w after word words found h g r step turn p e = record {
    held = ap (λ (x : Walk). (fold (walked (rules a) []) x words).held) step ∙ p.held
        ∙ ap (λ (xs : Words). record h { pending = Some (codes "words", xs) }) (append_assoc found (word ∷ []) r.words)
        ∙ ap (λ (x : Given). record h { pending = Some (codes "words", found ++ x.words) }) e;
    passes = and_from _ _ turn (ap (λ (x : Walk). walk_passes (shape name a) [] x words) step ∙ p.passes);
    none = λ n. ap (text_given n) (sym e) ∙ same_value n word r ∙ p.none n;
    count = let c = p.count in let q : suc (length r.words) ≡ length g.words = ap (λ (x : Given). length x.words) e in omega arith;
  }

  pushes_end : (w after : Walk) (word : Text) (words found : Words) (h : Held) (g r : Given) → walked (rules a) [] w word ≡ after → turn_passes (shape name a) [] w word ≡ true
      → Pushes a name after words found h r → r ≡ g → Pushes a name w (word ∷ words) found h g
  unfolding walk_passes
  pushes_end w after word words found h g r step turn p e = record {
    held = ap (λ (x : Walk). (fold (walked (rules a) []) x words).held) step ∙ p.held ∙ ap (λ (x : Given). record h { pending = Some (codes "words", found ++ x.words) }) e;
    passes = and_from _ _ turn (ap (λ (x : Walk). walk_passes (shape name a) [] x words) step ∙ p.passes);
    none = λ n. ap (text_given n) (sym e) ∙ p.none n;
    count = let c = p.count in let q : length r.words ≡ length g.words = ap (λ (x : Given). length x.words) e in omega arith;
  }

  pub literal_next : (word : Text) (q : Place) → next place.Literal word ≡ Some q → q ≡ place.Literal
  unfolding next
  literal_next word q e = by_end (is_end word) e
    where
      by_filled : (b : Bool) → (if b then Some place.Literal else None) ≡ Some q → q ≡ place.Literal
      by_filled true f = unwrapped q q place.Literal (sym f)
      by_filled false f = absurd (none-some q f)

      by_end : (b : Bool) → (if b then None else if is_filled word then Some place.Literal else None) ≡ Some q → q ≡ place.Literal
      by_end true f = absurd (none-some q f)
      by_end false f = by_filled (is_filled word) f

  pub literal_words : (words : Words) (waiting : Waiting) (found : Words) (h : Held) (g : Given) → given_from place.Literal words ≡ Some g
      → Pushes a name (in_words a true waiting found h) words found h g
  unfolding given_from gives
  literal_words [] waiting found h g e = pushes_none (in_words a true waiting found h) found h g refl (unwrapped g nothing g e)
  literal_words (word ∷ words) waiting found h g e =
      let f = follows place.Literal word words g e in
      let r = ap (λ q. given_from q words) (sym (literal_next word f.after f.goes)) ∙ f.more in
      pushes_more (in_words a true waiting found h) (in_words a true positional (found ++ word ∷ []) h) word words found h g f.rest
      (literal_step a waiting found h word) (literal_turns a name waiting found h word) (literal_words words positional (found ++ word ∷ []) h f.rest r) f.all

  data Positional (word : Text) (q : Place) : Type 0 where
    ended : word ≡ codes "--" → is_end word ≡ true → q ≡ place.Literal → Positional word q
    worded : is_end word ≡ false → is_plain word ≡ true → q ≡ place.Positional → Positional word q

  positional_next : (word : Text) (q : Place) → next place.Positional word ≡ Some q → Positional word q
  unfolding next
  positional_next word q e = by_end (is_end word) refl e
    where
      by_plain : is_end word ≡ false → (b : Bool) → is_plain word ≡ b → (if b then Some place.Positional else None) ≡ Some q → Positional word q
      by_plain t true p f = worded t p (unwrapped q q place.Positional (sym f))
      by_plain t false p f = absurd (none-some q f)

      by_end : (b : Bool) → is_end word ≡ b → (if b then Some place.Literal else if is_plain word then Some place.Positional else None) ≡ Some q → Positional word q
      by_end true t f = ended (bytes_eq-told word (codes "--") t) t (unwrapped q q place.Literal (sym f))
      by_end false t f = by_plain t (is_plain word) refl f

  gives-end : (word : Text) (r : Given) → is_end word ≡ true → gives place.Positional word r ≡ r
  unfolding gives
  gives-end word r t = rw t refl

  gives-word : (word : Text) (r : Given) → is_end word ≡ false → gives place.Positional word r ≡ with_word word r
  unfolding gives
  gives-word word r t = rw t refl

  plain_turn : (word : Text) (found : Words) (h : Held) → is_plain word ≡ true
      → (walked (rules a) [] (in_words a false positional found h) word ≡ in_words a false positional (found ++ word ∷ []) h)
      × (turn_passes (shape name a) [] (in_words a false positional found h) word ≡ true)
  plain_turn [] found h p = absurd (true≢false (sym p))
  plain_turn (b ∷ bs) found h p = (plain_step a found h b bs (not-true _ p), plain_turns a name found h b bs (not-true _ p))

  end_turn : (word : Text) (found : Words) (h : Held) → word ≡ codes "--"
      → (walked (rules a) [] (in_words a false positional found h) word ≡ in_words a true positional found h)
      × (turn_passes (shape name a) [] (in_words a false positional found h) word ≡ true)
  end_turn word found h e = rw e (end_step a found h, end_turns a name found h)

  pub positional_words : (words found : Words) (h : Held) (g : Given) → given_from place.Positional words ≡ Some g
      → Pushes a name (in_words a false positional found h) words found h g
  unfolding given_from
  positional_words [] found h g e = pushes_none (in_words a false positional found h) found h g refl (unwrapped g nothing g e)
  positional_words (word ∷ words) found h g e =
      let f = follows place.Positional word words g e in
      by_next f (positional_next word f.after f.goes) (positional_words words (found ++ word ∷ []) h f.rest)
    where
      by_next : (f : Follows place.Positional word words g) → Positional word f.after
          → (given_from place.Positional words ≡ Some f.rest → Pushes a name (in_words a false positional (found ++ word ∷ []) h) words (found ++ word ∷ []) h f.rest)
          → Pushes a name (in_words a false positional found h) (word ∷ words) found h g
      by_next f (ended w t q) ih =
          let turn = end_turn word found h w in
          pushes_end (in_words a false positional found h) (in_words a true positional found h) word words found h g f.rest turn.0 turn.1
          (literal_words words positional found h f.rest (ap (λ x. given_from x words) (sym q) ∙ f.more)) (sym (gives-end word f.rest t) ∙ f.all)
      by_next f (worded t p q) ih =
          let turn = plain_turn word found h p in
          pushes_more (in_words a false positional found h) (in_words a false positional (found ++ word ∷ []) h) word words found h g f.rest turn.0 turn.1
          (ih (ap (λ x. given_from x words) (sym q) ∙ f.more)) (sym (gives-word word f.rest t) ∙ f.all)
