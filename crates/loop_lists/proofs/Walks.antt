-- What the walk over expressions asks of a call, and what the calls leave in the list.
use Rattle.std.proofs.Common.{◌≡◌, ℕ, ◌+◌, ◌*◌, ◌<◌, ◌≤◌, ℤ, List, [], ◌∷◌, ◌++◌, ◌∙◌, Option, Some, None, true, false, refl, sym, ap, ap₂, arith, append_assoc}
use Rattle.std.specs.Option.{is_some}
use Rattle.std.proofs.lemmas.Bool.{false≢true}
use Rattle.kernel_tree.specs.Plain.{Term, Choice, Either, Program}
use Rattle.kernel_tree.specs.Limits.{term_depth}
use Rattle.kernel_tree.specs.Items.{loop_index, term_size, index_size}
use Rattle.loop_form.specs.declared.item.ItemKind.TheVariants as kind
use Rattle.loop_form.specs.Entries.{Content, IsPlain, Entry, entry, term_entries, inner_entries}
use Rattle.loop_lists.proofs.Steps.{two_parts}

-- ---- an expression of a kind

module _ (i : Option (List ℕ)) (t from len : ℕ) (whole : Term) (falls : 2 * term_depth whole ≡ t) (following : len ≤ from) (fits : from + term_size i whole ≤ 1000) where
  pub called : (e : Term) (n s : ℕ) → whole ≡ e → term_depth e ≡ n + 1 → term_size i e ≡ s → (2 * n + 1 < t) × ((len ≤ from) × (from + s ≤ 1000))
  called e n s is d z =
      let deep = ap term_depth is in
      let size = ap (term_size i) is in
      (omega (arith, falls, deep, d), (following, omega (arith, fits, size, z)))

  pub has_place : (e : Term) → whole ≡ e → term_size i e ≡ 1 → len < 1000
  has_place e is z = let size = ap (term_size i) is in omega (arith, following, fits, size, z)

pub entries_of_same_term : (k : Program) (from last_use : ℕ) (e whole : Term) (old new : List Entry) → new ≡ old ++ term_entries k from last_use e → whole ≡ e → new ≡ old ++ term_entries k from last_use whole
entries_of_same_term k from last_use e whole old new n is = n ∙ ap (λ (x : Term). old ++ term_entries k from last_use x) (sym is)

pub size_of_same_term : (i : Option (List ℕ)) (e whole : Term) (old new : ℕ) → new ≡ old + term_size i e → whole ≡ e → new ≡ old + term_size i whole
size_of_same_term i e whole old new n is = n ∙ ap (λ (x : Term). old + term_size i x) (sym is)

-- ---- an index, by its offset where it is a stream index

pub computed : (o : Option ℤ) (n : ℕ) → is_some o ≡ false → index_size o n ≡ n
computed (Some c) n e = absurd (false≢true (sym e))
computed None n e = refl

pub streamed : (o : Option ℤ) (n : ℕ) → is_some o ≡ true → index_size o n ≡ 0
streamed (Some c) n e = refl
streamed None n e = absurd (false≢true e)

module _ (k : Program) (from last_use : ℕ) (old new : List Entry) (x y : Content) (same : x ≡ y) where
  pub stream_read : (o : Option ℤ) (n : ℕ) (es : List Entry) → is_some o ≡ true → new ≡ old ++ entry k from x last_use ∷ [] → new ≡ old ++ (inner_entries o es ++ entry k (from + index_size o n) y last_use ∷ [])
  stream_read (Some c) n es e is =
      let here : from ≡ from + 0 = omega arith in
      is ∙ ap₂ (λ (m : ℕ) (z : Content). old ++ entry k m z last_use ∷ []) here same
  stream_read None n es e is = absurd (false≢true e)

  pub computed_read : (o : Option ℤ) (m : ℕ) (e : Term) (middle : List Entry) → is_some o ≡ false → m ≡ term_size (loop_index k) e → middle ≡ old ++ term_entries k from (from + m) e → new ≡ middle ++ entry k (from + m) x last_use ∷ []
      → new ≡ old ++ (inner_entries o (term_entries k from (from + index_size o (term_size (loop_index k) e)) e) ++ entry k (from + index_size o (term_size (loop_index k) e)) y last_use ∷ [])
  computed_read (Some c) m e middle f size a b = absurd (false≢true (sym f))
  computed_read None m e middle f size a b =
      two_parts old middle new (term_entries k from (from + m) e) (entry k (from + m) x last_use ∷ []) a b
      ∙ ap₂ (λ (n : ℕ) (z : Content). old ++ (term_entries k from (from + n) e ++ entry k (from + n) z last_use ∷ [])) size same

-- ---- operands, and what is made of them

pub three_parts : {A : Type 0} (e0 e1 e2 e3 a b c : List A) → e1 ≡ e0 ++ a → e2 ≡ e1 ++ b → e3 ≡ e2 ++ c → e3 ≡ e0 ++ (a ++ (b ++ c))
three_parts e0 e1 e2 e3 a b c e f g = two_parts e1 e2 e3 b c f g ∙ ap (λ l. l ++ (b ++ c)) e ∙ append_assoc e0 a (b ++ c)

module _ (k : Program) (from last_use : ℕ) (x : Content) (old new : List Entry) where
  pub one_operand : (e : Term) (m : ℕ) (middle : List Entry) → m ≡ term_size (loop_index k) e → middle ≡ old ++ term_entries k from (from + m) e → new ≡ middle ++ entry k (from + m) x last_use ∷ []
      → let item = from + term_size (loop_index k) e in new ≡ old ++ (term_entries k from item e ++ entry k item x last_use ∷ [])
  one_operand e m middle size a b =
      two_parts old middle new (term_entries k from (from + m) e) (entry k (from + m) x last_use ∷ []) a b
      ∙ ap (λ (n : ℕ). old ++ (term_entries k from (from + n) e ++ entry k (from + n) x last_use ∷ [])) size

  pub two_operands : (e f : Term) (m n : ℕ) (e1 e2 : List Entry) → m ≡ term_size (loop_index k) e → n ≡ term_size (loop_index k) f
      → e1 ≡ old ++ term_entries k from (from + m + n) e → e2 ≡ e1 ++ term_entries k (from + m) (from + m + n) f → new ≡ e2 ++ entry k (from + m + n) x last_use ∷ []
      → let next = from + term_size (loop_index k) e in let item = next + term_size (loop_index k) f in new ≡ old ++ (term_entries k from item e ++ (term_entries k next item f ++ entry k item x last_use ∷ []))
  two_operands e f m n e1 e2 p q a b c =
      three_parts old e1 e2 new (term_entries k from (from + m + n) e) (term_entries k (from + m) (from + m + n) f) (entry k (from + m + n) x last_use ∷ []) a b c
      ∙ ap₂ (λ (m n : ℕ). old ++ (term_entries k from (from + m + n) e ++ (term_entries k (from + m) (from + m + n) f ++ entry k (from + m + n) x last_use ∷ []))) p q

pub four_more : {A : Type 0} (e0 e1 e2 e3 e4 a b c d : List A) → e1 ≡ e0 ++ a → e2 ≡ e1 ++ b → e3 ≡ e2 ++ c → e4 ≡ e3 ++ d → e4 ≡ e0 ++ (a ++ (b ++ (c ++ d)))
four_more e0 e1 e2 e3 e4 a b c d e f g h = three_parts e1 e2 e3 e4 b c d f g h ∙ ap (λ l. l ++ (b ++ (c ++ d))) e ∙ append_assoc e0 a (b ++ (c ++ d))

module _ (k : Program) (from last_use : ℕ) (old new : List Entry) where
  pub either_listed : (e f : Term) (m n : ℕ) (e1 e2 e3 : List Entry) → m ≡ term_size (loop_index k) e → n ≡ term_size (loop_index k) f
      → e1 ≡ old ++ term_entries k from (from + m + 1 + n) e → e2 ≡ e1 ++ entry k (from + m) (IsPlain kind.Mark) (from + m + 1 + n) ∷ [] → e3 ≡ e2 ++ term_entries k (from + m + 1) (from + m + 1 + n) f
      → new ≡ e3 ++ entry k (from + m + 1 + n) (IsPlain kind.Or) last_use ∷ [] → new ≡ old ++ term_entries k from last_use (Either e f)
  either_listed e f m n e1 e2 e3 p q a b c d =
      four_more old e1 e2 e3 new _ _ _ _ a b c d
      ∙ ap₂ (λ (m n : ℕ). old ++ (term_entries k from (from + m + 1 + n) e ++ (entry k (from + m) (IsPlain kind.Mark) (from + m + 1 + n) ∷ (term_entries k (from + m + 1) (from + m + 1 + n) f ++ entry k (from + m + 1 + n) (IsPlain kind.Or) last_use ∷ [])))) p q

  pub choice_listed : (h e f : Term) (m n o : ℕ) (e1 e2 e3 : List Entry) → m ≡ term_size (loop_index k) e → n ≡ term_size (loop_index k) f → o ≡ term_size (loop_index k) h
      → e1 ≡ old ++ term_entries k from (from + m + n + o) e → e2 ≡ e1 ++ term_entries k (from + m) (from + m + n + o) f → e3 ≡ e2 ++ term_entries k (from + m + n) (from + m + n + o) h
      → new ≡ e3 ++ entry k (from + m + n + o) (IsPlain kind.Select) last_use ∷ [] → new ≡ old ++ term_entries k from last_use (Choice h e f)
  choice_listed h e f m n o e1 e2 e3 p q r a b c d =
      let parts = λ (m n o : ℕ). old ++ (term_entries k from (from + m + n + o) e ++ (term_entries k (from + m) (from + m + n + o) f ++ (term_entries k (from + m + n) (from + m + n + o) h ++ entry k (from + m + n + o) (IsPlain kind.Select) last_use ∷ []))) in
      four_more old e1 e2 e3 new _ _ _ _ a b c d ∙ ap₂ (parts m) q r ∙ ap (λ (m : ℕ). parts m (term_size (loop_index k) f) (term_size (loop_index k) h)) p

-- an item that stands for its own user
pub ended_by_operand : (k : Program) (from : ℕ) (x : Content) (old new : List Entry) (e : Term) (m : ℕ) (middle : List Entry) → m ≡ term_size (loop_index k) e → middle ≡ old ++ term_entries k from (from + m) e → new ≡ middle ++ entry k (from + m) x (from + m) ∷ []
    → let item = from + term_size (loop_index k) e in new ≡ old ++ (term_entries k from item e ++ entry k item x item ∷ [])
ended_by_operand k from x old new e m middle size a b =
    two_parts old middle new (term_entries k from (from + m) e) (entry k (from + m) x (from + m) ∷ []) a b
    ∙ ap (λ (n : ℕ). old ++ (term_entries k from (from + n) e ++ entry k (from + n) x (from + n) ∷ [])) size
