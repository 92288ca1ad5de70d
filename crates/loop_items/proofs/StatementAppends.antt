-- What the calls of the walk over statements append, put together. Each list stands before whatever follows.
use Rattle.std.proofs.Common.{◌≡◌, ℕ, ◌+◌, ◌-◌, List, ◌∷◌, ◌++◌, ◌∙◌, Option, Some, length, take, sym, ap, ap₂, subst, arith}
use Rattle.std.specs.Prelude.{min}
use Rattle.std.proofs.lemmas.List.{length-take, take-take}
use Rattle.kernel_tree.specs.Plain.{Term, Action, Choose, Block, Nothing, Else, Then}
use Rattle.kernel_tree.specs.Items.{term_size, action_size, block_size}
use Rattle.kernel_tree.specs.Typing.{Scope, after_action, after_block}
use Rattle.loop_form.specs.declared.visible.Visible.{Visible}
use Rattle.loop_form.specs.LoopItems.{Bound, Item, item, truth_home, cond_items, action_items, block_items, after_env}
use Rattle.loop_form.specs.LoopItems as ops
use Rattle.loop_form.specs.LoopView.{env_of, scope_of, Declares}

-- names that only grow begin as before
pub kept_names : {A : Type 0} (n0 n1 n2 n3 : List A) → n1 ≡ n0 → take (length n1) n2 ≡ n1 → take (length n2) n3 ≡ n2 → take (length n0) n3 ≡ n0
kept_names n0 n1 n2 n3 e f g =
    let short : min (length n1) (length n2) ≡ length n1 = sym (length-take (length n1) n2) ∙ ap length f in
    ap (λ l. take (length l) n3) (sym e) ∙ sym (take-take (length n1) (length n2) n3 (omega (arith, short))) ∙ ap (λ l. take (length n1) l) g ∙ f ∙ e

module _ (i : Option (List ℕ)) (taken : List (List ℕ)) (mask : Option ℕ) (from : ℕ) (old : List Item) (names names2 : List Visible) (same : names2 ≡ names) where
  -- what is appended for a statement that has been taken apart, with the names of a slice that is borrowed
  pub action_as : (s whole : Action) (new rest : List Item) → new ++ rest ≡ old ++ action_items (scope_of i names2 taken) mask from (env_of names2) s rest → whole ≡ s → new ++ rest ≡ old ++ action_items (scope_of i names taken) mask from (env_of names) whole rest
  action_as s whole new rest n is = n ∙ ap₂ (λ (x : Action) (vs : List Visible). old ++ action_items (scope_of i vs taken) mask from (env_of vs) x rest) (sym is) same

  pub condition_as : (c : Term) (new : List Item) → ((r : List Item) → new ++ r ≡ old ++ cond_items (scope_of i names2 taken) mask from (env_of names2) c r) → (r : List Item) → new ++ r ≡ old ++ cond_items (scope_of i names taken) mask from (env_of names) c r
  condition_as c new n r = n r ∙ ap (λ (vs : List Visible). old ++ cond_items (scope_of i vs taken) mask from (env_of vs) c r) same

module _ (S : Scope) (mask : Option ℕ) (from : ℕ) (env : List Bound) (old : List Item) where
  -- `if`
  pub if_made : (c : Term) (b : Block) (m x : ℕ) (middle new rest : List Item) → new ++ rest ≡ middle ++ block_items S (Some x) (from + m + 1) env b rest
      → ((r : List Item) → middle ++ r ≡ old ++ cond_items S mask from env c r) → m ≡ term_size S.index c → x ≡ truth_home S.index from c
      → new ++ rest ≡ old ++ action_items S mask from env (Choose c b Nothing) rest
  if_made c b m x middle new rest p q e g =
      p ∙ q (block_items S (Some x) (from + m + 1) env b rest)
      ∙ ap₂ (λ (n y : ℕ). old ++ cond_items S mask from env c (block_items S (Some y) (from + n + 1) env b rest)) e g

module _ (i : Option (List ℕ)) (names : List Visible) (taken : List (List ℕ)) (mask : Option ℕ) (from : ℕ) (old : List Item) where
  -- `if` with a second block, which begins with the names from before the first one
  pub if_else_made : (c : Term) (b d : Block) (m n x : ℕ) (names2 : List Visible) (first second marked new rest : List Item)
      → ((more : List (List ℕ)) → new ++ rest ≡ marked ++ block_items (scope_of i names2 more) (Some (from + m + 1 + n)) (from + m + 1 + n + 1) (env_of names2) d rest)
      → ((r : List Item) → marked ++ r ≡ second ++ item (from + m + 1 + n) mask (ops.Not x) ∷ r)
      → ((r : List Item) → second ++ r ≡ first ++ block_items (scope_of i names taken) (Some x) (from + m + 1) (env_of names) b r)
      → ((r : List Item) → first ++ r ≡ old ++ cond_items (scope_of i names taken) mask from (env_of names) c r)
      → names2 ≡ names → m ≡ term_size i c → n ≡ block_size i b → x ≡ truth_home i from c
      → new ++ rest ≡ old ++ action_items (scope_of i names taken) mask from (env_of names) (Choose c b (Else d)) rest
  if_else_made c b d m n x names2 first second marked new rest p1 p2 p3 p4 is e f g =
      let S = scope_of i names taken in
      let more = (after_block S b).taken in
      let made = λ (m n x : ℕ) (vs : List Visible). old ++ cond_items S mask from (env_of names) c (block_items S (Some x) (from + m + 1) (env_of names) b (item (from + m + 1 + n) mask (ops.Not x) ∷ block_items (scope_of i vs more) (Some (from + m + 1 + n)) (from + m + 1 + n + 1) (env_of vs) d rest)) in
      let last = block_items (scope_of i names2 more) (Some (from + m + 1 + n)) (from + m + 1 + n + 1) (env_of names2) d rest in
      let between = item (from + m + 1 + n) mask (ops.Not x) ∷ last in
      p1 more ∙ p2 last ∙ p3 between ∙ p4 (block_items S (Some x) (from + m + 1) (env_of names) b between)
      ∙ ap₂ (λ (k : ℕ) (vs : List Visible). made k n x vs) e is
      ∙ ap₂ (λ (k y : ℕ). made (term_size i c) k y names) f g

  -- a statement, and those after it with the name that it declares
  pub block_made : (s : Action) (b whole : Block) (m : ℕ) (names1 names2 : List Visible) (middle new rest : List Item)
      → ((more : List (List ℕ)) → new ++ rest ≡ middle ++ block_items (scope_of i names2 more) mask (from + m) (env_of names2) b rest)
      → ((r : List Item) → middle ++ r ≡ old ++ action_items (scope_of i names taken) mask from (env_of names) s r)
      → names1 ≡ names → Declares i from s names1 names2 → m ≡ action_size i s → whole ≡ Then s b
      → new ++ rest ≡ old ++ block_items (scope_of i names taken) mask from (env_of names) whole rest
  block_made s b whole m names1 names2 middle new rest p q same declares e is =
      let S = scope_of i names taken in
      let d = subst (λ (vs : List Visible). Declares i from s vs names2) same declares taken in
      let more = (after_action S s).taken in
      p more ∙ q (block_items (scope_of i names2 more) mask (from + m) (env_of names2) b rest)
      ∙ ap₂ (λ (T : Scope) (es : List Bound). old ++ action_items S mask from (env_of names) s (block_items T mask (from + m) es b rest)) (sym d.0) (sym d.1)
      ∙ ap (λ (n : ℕ). old ++ action_items S mask from (env_of names) s (block_items (after_action S s) mask (from + n) (after_env S from (env_of names) s) b rest)) e
      ∙ ap (λ (x : Block). old ++ block_items S mask from (env_of names) x rest) (sym is)
