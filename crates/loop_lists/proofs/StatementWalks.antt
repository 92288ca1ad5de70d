-- What the calls of the walk over statements leave in the list.
use Rattle.std.proofs.Common.{◌≡◌, ℕ, ◌+◌, List, [], ◌∷◌, ◌++◌, ◌∙◌, Option, sym, ap, ap₂, arith, append_assoc}
use Rattle.kernel_tree.specs.Plain.{Term, Action, Choose, Block, Nothing, Else, Program}
use Rattle.kernel_tree.specs.Items.{loop_index, term_size, action_size, block_size}
use Rattle.loop_form.specs.declared.item.ItemKind.TheVariants as kind
use Rattle.loop_form.specs.Entries.{IsPlain, Entry, entry, term_entries, action_entries, block_entries}
use Rattle.loop_lists.proofs.Steps.{two_parts}
use Rattle.loop_lists.proofs.Walks.{three_parts, four_more}

pub statement_listed : (k : Program) (from : ℕ) (s whole : Action) (old new : List Entry) → new ≡ old ++ action_entries k from s → whole ≡ s → new ≡ old ++ action_entries k from whole
statement_listed k from s whole old new n is = n ∙ ap (λ (x : Action). old ++ action_entries k from x) (sym is)

pub statement_counted : (i : Option (List ℕ)) (s whole : Action) (old new : ℕ) → new ≡ old + action_size i s → whole ≡ s → new ≡ old + action_size i whole
statement_counted i s whole old new n is = n ∙ ap (λ (x : Action). old + action_size i x) (sym is)

-- the condition, `then` and the block; the condition is used by the item `following`
abbrev then_entries : Program → (from following : ℕ) → Term → Block → List Entry
then_entries k from following c b =
    let first = from + term_size (loop_index k) c in
    term_entries k from following c ++ (entry k first (IsPlain kind.Then) first ∷ block_entries k (first + 1) b)

module _ (k : Program) (from : ℕ) (old new : List Entry) (c : Term) (b : Block) where
  pub then_listed : (m n : ℕ) (e1 e2 : List Entry) → m ≡ term_size (loop_index k) c → n ≡ block_size (loop_index k) b
      → e1 ≡ old ++ term_entries k from (from + m + 1 + n) c → e2 ≡ e1 ++ entry k (from + m) (IsPlain kind.Then) (from + m) ∷ [] → new ≡ e2 ++ block_entries k (from + m + 1) b
      → new ≡ old ++ then_entries k from (from + m + 1 + n) c b
  then_listed m n e1 e2 p q f g h =
      three_parts old e1 e2 new _ _ _ f g h
      ∙ ap (λ (j : ℕ). old ++ (term_entries k from (from + m + 1 + n) c ++ (entry k (from + j) (IsPlain kind.Then) (from + j) ∷ block_entries k (from + j + 1) b))) p

  pub if_listed : (end : ℕ) (e1 : List Entry) → end ≡ from + term_size (loop_index k) c + 1 + block_size (loop_index k) b
      → e1 ≡ old ++ then_entries k from end c b → new ≡ e1 ++ entry k end (IsPlain kind.End) end ∷ [] → new ≡ old ++ action_entries k from (Choose c b Nothing)
  if_listed end e1 p f g =
      let first = from + term_size (loop_index k) c in
      let block = block_entries k (first + 1) b in
      let parts = λ (j l : ℕ). old ++ (term_entries k from j c ++ (entry k first (IsPlain kind.Then) first ∷ (block ++ entry k l (IsPlain kind.End) l ∷ []))) in
      let none : end ≡ first + 1 + block_size (loop_index k) b + 0 = omega (arith, p) in
      two_parts old e1 new (then_entries k from end c b) _ f g
      ∙ ap (λ l. old ++ l) (append_assoc (term_entries k from end c) (entry k first (IsPlain kind.Then) first ∷ block) (entry k end (IsPlain kind.End) end ∷ []))
      ∙ ap₂ parts p none

  pub if_else_listed : (d : Block) (place n : ℕ) (e1 e2 e3 : List Entry) → place ≡ from + term_size (loop_index k) c + 1 + block_size (loop_index k) b → n ≡ block_size (loop_index k) d
      → e1 ≡ old ++ then_entries k from place c b → e2 ≡ e1 ++ entry k place (IsPlain kind.Else) (place + (1 + n)) ∷ [] → e3 ≡ e2 ++ block_entries k (place + 1) d → new ≡ e3 ++ entry k (place + (1 + n)) (IsPlain kind.End) (place + (1 + n)) ∷ []
      → new ≡ old ++ action_entries k from (Choose c b (Else d))
  if_else_listed d place n e1 e2 e3 p q f g h i =
      let first = from + term_size (loop_index k) c in
      let block = block_entries k (first + 1) b in
      let rest = λ (j l : ℕ). entry k j (IsPlain kind.Else) (j + (1 + l)) ∷ (block_entries k (j + 1) d ++ entry k (j + (1 + l)) (IsPlain kind.End) (j + (1 + l)) ∷ []) in
      let parts = λ (j l : ℕ). old ++ (term_entries k from j c ++ (entry k first (IsPlain kind.Then) first ∷ (block ++ rest j l))) in
      four_more old e1 e2 e3 new (then_entries k from place c b) _ _ _ f g h i
      ∙ ap (λ l. old ++ l) (append_assoc (term_entries k from place c) (entry k first (IsPlain kind.Then) first ∷ block) (rest place n))
      ∙ ap₂ parts p q
