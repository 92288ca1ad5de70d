-- What the calls of the walk over expressions append, put together. Each list stands before whatever follows.
use Rattle.std.proofs.Common.{◌≡◌, ℕ, ◌+◌, ◌*◌, ◌<◌, ◌≤◌, ℤ, List, ◌∷◌, ◌++◌, ◌∙◌, Option, Some, None, sym, ap, ap₂, subst, arith}
use Rattle.kernel_tree.specs.declared.ops.Ty.{Ty}
use Rattle.kernel_tree.specs.Plain.{Term, Choice, Both, Either}
use Rattle.kernel_tree.specs.Limits.{term_depth}
use Rattle.kernel_tree.specs.Items.{term_size, index_size}
use Rattle.kernel_tree.specs.Typing.{Scope, index_type, array_type}
use Rattle.loop_form.specs.declared.loop_item.Operand.{Operand}
use Rattle.loop_form.specs.Reaches.{reach_of_type}
use Rattle.loop_form.specs.LoopItems.{Bound, Op, Item, item, operand_at, index_source, home, truth_home, gather_item, load_item, term_items, cond_items}
use Rattle.loop_form.specs.LoopItems as ops
use Rattle.loop_form.specs.Near.{NearTerm, NearInner}

-- ---- a call for an expression of a kind

module _ (i : Option (List ℕ)) (t from : ℕ) (whole : Term) (falls : 3 * term_depth whole ≡ t) (fits : from + term_size i whole ≤ 1000) (near : NearTerm i whole) where
  pub called : (e : Term) (n s : ℕ) → whole ≡ e → term_depth e ≡ n + 1 → term_size i e ≡ s → (3 * n + 2 < t) × ((from + s ≤ 1000) × NearTerm i e)
  called e n s is d z =
      let deep = ap term_depth is in
      let size = ap (term_size i) is in
      (omega (arith, falls, deep, d), (omega (arith, fits, size, z), subst (NearTerm i) is near))

module _ (S : Scope) (mask : Option ℕ) (from : ℕ) (env : List Bound) (old : List Item) where
  -- what is appended for an expression that has been taken apart
  pub value_as : (want : Option Ty) (e whole : Term) (new rest : List Item) → new ++ rest ≡ old ++ term_items S want mask from env e rest → whole ≡ e → new ++ rest ≡ old ++ term_items S want mask from env whole rest
  value_as want e whole new rest n is = n ∙ ap (λ (x : Term). old ++ term_items S want mask from env x rest) (sym is)

  pub condition_as : (e whole : Term) (new rest : List Item) → new ++ rest ≡ old ++ cond_items S mask from env e rest → whole ≡ e → new ++ rest ≡ old ++ cond_items S mask from env whole rest
  condition_as e whole new rest n is = n ∙ ap (λ (x : Term). old ++ cond_items S mask from env x rest) (sym is)

  -- an operand, and what is made of it
  pub one_made : (want want2 : Option Ty) (op : Option Ty → Operand → Op) (e : Term) (m : ℕ) (x : Operand) (middle new rest : List Item)
      → new ++ rest ≡ middle ++ item (from + m) mask (op want x) ∷ rest → ((r : List Item) → middle ++ r ≡ old ++ term_items S want mask from env e r)
      → m ≡ term_size S.index e → x ≡ home S.index want from env e → want ≡ want2
      → new ++ rest ≡ old ++ term_items S want2 mask from env e (item (from + term_size S.index e) mask (op want2 (home S.index want2 from env e)) ∷ rest)
  one_made want want2 op e m x middle new rest a b p g w =
      a ∙ b (item (from + m) mask (op want x) ∷ rest)
      ∙ ap₂ (λ (n : ℕ) (y : Operand). old ++ term_items S want mask from env e (item (from + n) mask (op want y) ∷ rest)) p g
      ∙ ap (λ (u : Option Ty). old ++ term_items S u mask from env e (item (from + term_size S.index e) mask (op u (home S.index u from env e)) ∷ rest)) w

  -- two operands, of one type
  pub two_made : (want want2 : Option Ty) (op : Option Ty → Operand → Operand → Op) (e f : Term) (m n : ℕ) (x y : Operand) (first second new rest : List Item)
      → new ++ rest ≡ second ++ item (from + m + n) mask (op want x y) ∷ rest
      → ((r : List Item) → second ++ r ≡ first ++ term_items S want mask (from + m) env f r) → ((r : List Item) → first ++ r ≡ old ++ term_items S want mask from env e r)
      → m ≡ term_size S.index e → n ≡ term_size S.index f → x ≡ home S.index want from env e → y ≡ home S.index want (from + m) env f → want ≡ want2
      → let next = from + term_size S.index e in new ++ rest ≡ old ++ term_items S want2 mask from env e (term_items S want2 mask next env f (item (next + term_size S.index f) mask (op want2 (home S.index want2 from env e) (home S.index want2 next env f)) ∷ rest))
  two_made want want2 op e f m n x y first second new rest a b d p q g h w =
      let made = λ (u : Option Ty) (m n : ℕ) (x y : Operand). old ++ term_items S u mask from env e (term_items S u mask (from + m) env f (item (from + m + n) mask (op u x y) ∷ rest)) in
      a ∙ b (item (from + m + n) mask (op want x y) ∷ rest) ∙ d (term_items S want mask (from + m) env f (item (from + m + n) mask (op want x y) ∷ rest))
      ∙ ap₂ (made want m n) g h
      ∙ ap₂ (λ (m n : ℕ). made want m n (home S.index want from env e) (home S.index want (from + m) env f)) p q
      ∙ ap (λ (u : Option Ty). made u (term_size S.index e) (term_size S.index f) (home S.index u from env e) (home S.index u (from + term_size S.index e) env f)) w

  -- `select`
  pub choice_made : (want : Option Ty) (c e f : Term) (m n o z : ℕ) (x y : Operand) (first second third new rest : List Item)
      → new ++ rest ≡ third ++ item (from + m + n + o) mask (ops.Select want z x y) ∷ rest
      → ((r : List Item) → third ++ r ≡ second ++ cond_items S mask (from + m + n) env c r)
      → ((r : List Item) → second ++ r ≡ first ++ term_items S want mask (from + m) env f r) → ((r : List Item) → first ++ r ≡ old ++ term_items S want mask from env e r)
      → m ≡ term_size S.index e → n ≡ term_size S.index f → o ≡ term_size S.index c
      → z ≡ truth_home S.index (from + m + n) c → x ≡ home S.index want from env e → y ≡ home S.index want (from + m) env f
      → new ++ rest ≡ old ++ term_items S want mask from env (Choice c e f) rest
  choice_made want c e f m n o z x y first second third new rest a b d k p q s l g h =
      let made = λ (m n o z : ℕ) (x y : Operand). old ++ term_items S want mask from env e (term_items S want mask (from + m) env f (cond_items S mask (from + m + n) env c (item (from + m + n + o) mask (ops.Select want z x y) ∷ rest))) in
      let held = λ (m n o : ℕ). made m n o (truth_home S.index (from + m + n) c) (home S.index want from env e) (home S.index want (from + m) env f) in
      a ∙ b (item (from + m + n + o) mask (ops.Select want z x y) ∷ rest)
      ∙ d (cond_items S mask (from + m + n) env c (item (from + m + n + o) mask (ops.Select want z x y) ∷ rest))
      ∙ k (term_items S want mask (from + m) env f (cond_items S mask (from + m + n) env c (item (from + m + n + o) mask (ops.Select want z x y) ∷ rest)))
      ∙ ap₂ (made m n o z) g h ∙ ap (λ (z : ℕ). made m n o z (home S.index want from env e) (home S.index want (from + m) env f)) l
      ∙ ap₂ (λ (m n : ℕ). held m n o) p q ∙ ap (λ (o : ℕ). held (term_size S.index e) (term_size S.index f) o) s

  -- ---- conditions

  -- what is made of one condition
  pub truth_made : (op : ℕ → Op) (e : Term) (m x : ℕ) (middle new rest : List Item)
      → new ++ rest ≡ middle ++ item (from + m) mask (op x) ∷ rest → ((r : List Item) → middle ++ r ≡ old ++ cond_items S mask from env e r)
      → m ≡ term_size S.index e → x ≡ truth_home S.index from e
      → new ++ rest ≡ old ++ cond_items S mask from env e (item (from + term_size S.index e) mask (op (truth_home S.index from e)) ∷ rest)
  truth_made op e m x middle new rest a b p g =
      a ∙ b (item (from + m) mask (op x) ∷ rest)
      ∙ ap₂ (λ (n y : ℕ). old ++ cond_items S mask from env e (item (from + n) mask (op y) ∷ rest)) p g

  pub both_made : (e f : Term) (m n x y : ℕ) (first second new rest : List Item)
      → new ++ rest ≡ second ++ item (from + m + n) mask (ops.And y) ∷ rest
      → ((r : List Item) → second ++ r ≡ first ++ cond_items S (Some x) (from + m) env f r) → ((r : List Item) → first ++ r ≡ old ++ cond_items S mask from env e r)
      → m ≡ term_size S.index e → n ≡ term_size S.index f → x ≡ truth_home S.index from e → y ≡ truth_home S.index (from + m) f
      → new ++ rest ≡ old ++ cond_items S mask from env (Both e f) rest
  both_made e f m n x y first second new rest a b d p q g h =
      let made = λ (m n x y : ℕ). old ++ cond_items S mask from env e (cond_items S (Some x) (from + m) env f (item (from + m + n) mask (ops.And y) ∷ rest)) in
      a ∙ b (item (from + m + n) mask (ops.And y) ∷ rest) ∙ d (cond_items S (Some x) (from + m) env f (item (from + m + n) mask (ops.And y) ∷ rest))
      ∙ ap₂ (made m n) g h
      ∙ ap₂ (λ (m n : ℕ). made m n (truth_home S.index from e) (truth_home S.index (from + m) f)) p q

  pub either_made : (e f : Term) (m n x y : ℕ) (first marked second new rest : List Item)
      → new ++ rest ≡ second ++ item (from + m + 1 + n) mask (ops.Or x y) ∷ rest
      → ((r : List Item) → second ++ r ≡ marked ++ cond_items S (Some (from + m)) (from + m + 1) env f r)
      → ((r : List Item) → marked ++ r ≡ first ++ item (from + m) mask (ops.Not x) ∷ r) → ((r : List Item) → first ++ r ≡ old ++ cond_items S mask from env e r)
      → m ≡ term_size S.index e → n ≡ term_size S.index f → x ≡ truth_home S.index from e → y ≡ truth_home S.index (from + m + 1) f
      → new ++ rest ≡ old ++ cond_items S mask from env (Either e f) rest
  either_made e f m n x y first marked second new rest a b k d p q g h =
      let made = λ (m n x y : ℕ). old ++ cond_items S mask from env e (item (from + m) mask (ops.Not x) ∷ cond_items S (Some (from + m)) (from + m + 1) env f (item (from + m + 1 + n) mask (ops.Or x y) ∷ rest)) in
      let right = cond_items S (Some (from + m)) (from + m + 1) env f (item (from + m + 1 + n) mask (ops.Or x y) ∷ rest) in
      a ∙ b (item (from + m + 1 + n) mask (ops.Or x y) ∷ rest) ∙ k right ∙ d (item (from + m) mask (ops.Not x) ∷ right)
      ∙ ap₂ (made m n) g h
      ∙ ap₂ (λ (m n : ℕ). made m n (truth_home S.index from e) (truth_home S.index (from + m + 1) f)) p q

  -- ---- reads

  -- a read at a computed index
  pub gathered : (a array : List ℕ) (i : Term) (base x : Operand) (t want source : Option Ty) (reach : Option ℕ) (m : ℕ) (middle new rest : List Item)
      → new ++ rest ≡ middle ++ item (from + m) mask (ops.Gather array base t reach want x) ∷ rest → ((r : List Item) → middle ++ r ≡ old ++ term_items S want mask from env i r)
      → m ≡ term_size S.index i → array ≡ a → base ≡ operand_at env array → t ≡ array_type S array → reach ≡ reach_of_type source → source ≡ index_source S i → x ≡ home S.index want from env i → want ≡ index_type S i
      → new ++ rest ≡ old ++ term_items S (index_type S i) mask from env i (gather_item S mask from (from + term_size S.index i) env a i ∷ rest)
  gathered a array i base x t want source reach m middle new rest p q e1 e2 e3 e4 e5 e6 e7 e8 =
      let made = λ (u : Option Ty) (n : ℕ) (z : List ℕ) (b : Operand) (s : Option Ty) (l : Option ℕ) (y : Operand). old ++ term_items S u mask from env i (item (from + n) mask (ops.Gather z b s l u y) ∷ rest) in
      p ∙ q (item (from + m) mask (ops.Gather array base t reach want x) ∷ rest)
      ∙ ap₂ (λ (b : Operand) (s : Option Ty). made want m array b s reach x) e3 e4
      ∙ ap₂ (λ (z : List ℕ) (l : Option ℕ). made want m z (operand_at env z) (array_type S z) l x) e2 (e5 ∙ ap reach_of_type e6)
      ∙ ap₂ (λ (n : ℕ) (y : Operand). made want n a (operand_at env a) (array_type S a) (reach_of_type (index_source S i)) y) e1 e7
      ∙ ap (λ (u : Option Ty). made u (term_size S.index i) a (operand_at env a) (array_type S a) (reach_of_type (index_source S i)) (home S.index u from env i)) e8

  -- a read at a stream index, with its offset
  pub stream_made : (o : Option ℤ) (n : ℕ) (a array : List ℕ) (base : Operand) (t : Option Ty) (c : ℤ) (computed new rest : List Item) → o ≡ Some c
      → new ++ rest ≡ old ++ item from mask (ops.Load array base t c) ∷ rest → array ≡ a → base ≡ operand_at env array → t ≡ array_type S array
      → new ++ rest ≡ old ++ load_item S mask (from + index_size o n) env a o computed rest
  stream_made None n a array base t c computed new rest is p e f g = cc
  stream_made (Some d) n a array base t c computed new rest is p e f g =
      let here : from ≡ from + 0 = omega arith in
      let same : c ≡ d = cc in
      p ∙ ap₂ (λ (b : Operand) (s : Option Ty). old ++ item from mask (ops.Load array b s c) ∷ rest) f g
      ∙ ap₂ (λ (q : ℕ) (z : List ℕ). old ++ item q mask (ops.Load z (operand_at env z) (array_type S z) c) ∷ rest) here e
      ∙ ap (λ (k : ℤ). old ++ item (from + 0) mask (ops.Load a (operand_at env a) (array_type S a) k) ∷ rest) same

  pub computed_made : (o : Option ℤ) (n : ℕ) (a : List ℕ) (make : ℕ → List Item) (new rest : List Item) → o ≡ None → new ++ rest ≡ old ++ make (from + n)
      → new ++ rest ≡ old ++ load_item S mask (from + index_size o n) env a o (make (from + index_size o n)) rest
  computed_made None n a make new rest is p = p
  computed_made (Some d) n a make new rest is p = cc

-- the demands of a read at a computed index
pub inner_near : (o : Option ℤ) (P : Type 0) → o ≡ None → NearInner o P → P
inner_near None P is p = p
inner_near (Some d) P is p = cc

pub inner_fits : (o : Option ℤ) (from n : ℕ) → o ≡ None → from + (index_size o n + 1) ≤ 1000 → from + (n + 1) ≤ 1000
inner_fits None from n is p = p
inner_fits (Some d) from n is p = cc
