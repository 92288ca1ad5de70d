-- Those of some registers that words write, one after another.
use Rattle.std.proofs.Common.{◌≡◌, ℕ, ◌+◌, ◌<◌, ◌≤◌, Bool, true, false, List, [], ◌∷◌, ◌++◌, length, drop, Option, refl, sym, ap, ◌∙◌, append_assoc}
use Rattle.std.specs.Prelude.{◌||◌, if◌then◌else◌, slice_index_or}
use Rattle.std.proofs.lemmas.List.{drop_more, drop_all}
use Rattle.machine_model.specs.InstructionTable.{Listed}
use Rattle.promises.specs.Saved.{word_writes, is_written, written_among}

module _ (written : Listed → Option ℕ) where
  -- ---- whether some word does

  next_written : (r word : ℕ) (words : List ℕ) → is_written written r (word ∷ words) ≡ (word_writes written r word || is_written written r words)
  unfolding is_written
  next_written r word words = refl

  none_written : (r : ℕ) → is_written written r [] ≡ false
  unfolding is_written
  none_written r = refl

  pub written_step : (r : ℕ) (words : List ℕ) (i : ℕ) → i < length words → is_written written r (drop i words) ≡ (word_writes written r (slice_index_or words i 0) || is_written written r (drop (i + 1) words))
  written_step r words i lt = ap (is_written written r) (drop_more words i 0 lt) ∙ next_written r (slice_index_or words i 0) (drop (i + 1) words)

  pub written_end : (r : ℕ) (words : List ℕ) (i : ℕ) → length words ≤ i → is_written written r (drop i words) ≡ false
  written_end r words i le = ap (is_written written r) (drop_all i words le) ∙ none_written r

  -- at a word that does, and at one that does not
  pub step_true : (r : ℕ) (words : List ℕ) (i : ℕ) → i < length words → true ≡ word_writes written r (slice_index_or words i 0) → is_written written r (drop i words) ≡ true
  step_true r words i lt e = written_step r words i lt ∙ ap (λ b. b || is_written written r (drop (i + 1) words)) (sym e)

  pub step_false : (r : ℕ) (words : List ℕ) (i : ℕ) → i < length words → false ≡ word_writes written r (slice_index_or words i 0) → is_written written r (drop i words) ≡ is_written written r (drop (i + 1) words)
  step_false r words i lt e = written_step r words i lt ∙ ap (λ b. b || is_written written r (drop (i + 1) words)) (sym e)

  -- ---- those that are written

  -- one register, and those behind it
  pub among_one : (words : List ℕ) (r : ℕ) → written_among written words (r ∷ []) ≡ (if is_written written r words then r ∷ [] else [])
  unfolding written_among
  among_one words r = refl

  both : (b : Bool) (r : ℕ) (rest : List ℕ) → (if b then r ∷ rest else rest) ≡ (if b then r ∷ [] else []) ++ rest
  both true r rest = refl
  both false r rest = refl

  next_among : (words : List ℕ) (r : ℕ) (rs : List ℕ) → written_among written words (r ∷ rs) ≡ written_among written words (r ∷ []) ++ written_among written words rs
  unfolding written_among
  next_among words r rs = both (is_written written r words) r (written_among written words rs)

  none_among : (words : List ℕ) → written_among written words [] ≡ []
  unfolding written_among
  none_among words = refl

  pub among_step : (words rs : List ℕ) (i : ℕ) → i < length rs → written_among written words (drop i rs) ≡ written_among written words (slice_index_or rs i 0 ∷ []) ++ written_among written words (drop (i + 1) rs)
  among_step words rs i lt = ap (written_among written words) (drop_more rs i 0 lt) ∙ next_among words (slice_index_or rs i 0) (drop (i + 1) rs)

  pub among_end : (words rs : List ℕ) (i : ℕ) → length rs ≤ i → written_among written words (drop i rs) ≡ []
  among_end words rs i le = ap (written_among written words) (drop_all i rs le) ∙ none_among words
