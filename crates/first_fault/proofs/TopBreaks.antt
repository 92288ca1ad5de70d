-- Breaks stand in the loop's own block: the items of a list that break, and the number after the last of them.
use Rattle.std.proofs.Common.{◌≡◌, ℕ, ◌+◌, ℤ, Bool, true, false, cond, List, [], ◌∷◌, Option, Some, None, refl, sym, ap, ◌∙◌, subst}
use Rattle.std.specs.Prelude.{is_some, ◌||◌, ◌&&◌, if◌then◌else◌}
use Rattle.std.specs.List.{list_any}
use Rattle.std.proofs.lemmas.Bool.{or_parts}
use Rattle.kernel_tree.specs.declared.ops.Ty.{Ty}
use Rattle.kernel_tree.specs.Plain.{Term, Literal, Variable, Element, Unary, Operation, Shift, Conversion, Choice, Comparison, Both, Either, Not, Action, Define, Put, Update, Choose, Leave, Block, Done, Then, Otherwise, Nothing, Else}
use Rattle.kernel_tree.specs.Items.{stream_offset, index_items, term_size, action_size, block_size}
use Rattle.kernel_tree.specs.Typing.{Scope, own, first, index_type, side_type, after_action, after_block, left, array_type}
use Rattle.loop_form.specs.declared.loop_item.Operand.{Operand}
use Rattle.loop_form.specs.LoopItems.{Bound, accumulator_of, Item, item, truth_home, load_item, gather_item, term_items, cond_items, store_item, after_env, break_items, leave_items, action_items, block_items, otherwise_items}
use Rattle.loop_form.specs.LoopItems as ops
use Rattle.chunk_emit.specs.Fits.{following_items}
use Rattle.first_fault.specs.BreakRegion.{breaks_loop, is_loop_break, region_of}
use Rattle.first_fault.specs.KernelFits.{is_inner_break}

-- the breaks among the items
abbrev pub breaks_of : List Item → List Item
breaks_of [] = []
breaks_of (it ∷ items) = if breaks_loop it.op then it ∷ breaks_of items else breaks_of items

-- the number after the last break, and p where there is none
abbrev pub following_break : ℕ → List Item → ℕ
following_break p [] = p
following_break p (it ∷ items) = following_break (it.item + 1) items

-- ---- the region ends after the last break

none_breaks : (items : List Item) → list_any is_loop_break items ≡ false → breaks_of items ≡ []
none_breaks [] e = refl
none_breaks (it ∷ items) e =
    let h = or_parts (is_loop_break it) (list_any is_loop_break items) e in
    ap (λ b. cond b (it ∷ breaks_of items) (breaks_of items)) h.0 ∙ none_breaks items h.1

-- a list with a break forgets what stood before
any_start : (p q : ℕ) (items : List Item) → list_any is_loop_break items ≡ true → following_break p (breaks_of items) ≡ following_break q (breaks_of items)
any_start p q [] e = absurd cc
any_start p q (it ∷ items) e = by (breaks_loop it.op) e (any_start p q items)
  where
    by : (b : Bool) → b || list_any is_loop_break items ≡ true → (list_any is_loop_break items ≡ true → following_break p (breaks_of items) ≡ following_break q (breaks_of items)) → following_break p (cond b (it ∷ breaks_of items) (breaks_of items)) ≡ following_break q (cond b (it ∷ breaks_of items) (breaks_of items))
    by true e more = refl
    by false e more = more e

pub region_end : (p : ℕ) (items : List Item) → following_items p (region_of items) ≡ following_break p (breaks_of items)
region_end p [] = refl
region_end p (it ∷ items) = by (list_any is_loop_break (it ∷ items)) refl (region_end (it.item + 1) items)
  where
    some : (b : Bool) → b || list_any is_loop_break items ≡ true → following_break (it.item + 1) (breaks_of items) ≡ following_break p (cond b (it ∷ breaks_of items) (breaks_of items))
    some true e = refl
    some false e = any_start (it.item + 1) p items e

    by : (b : Bool) → list_any is_loop_break (it ∷ items) ≡ b → following_items (it.item + 1) (region_of items) ≡ following_break (it.item + 1) (breaks_of items) → following_items p (cond b (it ∷ region_of items) []) ≡ following_break p (breaks_of (it ∷ items))
    by true e h = h ∙ some (breaks_loop it.op) e
    by false e h = sym (ap (following_break p) (none_breaks (it ∷ items) e))

pub outer_of : (items : List Item) → list_any is_inner_break items ≡ list_any is_inner_break (breaks_of items)
outer_of [] = refl
outer_of (it ∷ items) = by (breaks_loop it.op) refl (outer_of items)
  where
    by : (b : Bool) → breaks_loop it.op ≡ b → list_any is_inner_break items ≡ list_any is_inner_break (breaks_of items) → is_inner_break it || list_any is_inner_break items ≡ list_any is_inner_break (cond b (it ∷ breaks_of items) (breaks_of items))
    by true e h = ap (λ c. is_inner_break it || c) h
    by false e h = ap (λ c. (c && is_some it.mask) || list_any is_inner_break items) e ∙ h

-- ---- expressions have no breaks

load_breaks : (s : Scope) (mask : Option ℕ) (q : ℕ) (env : List Bound) (a : List ℕ) (o : Option ℤ) (gathered rest : List Item) → breaks_of gathered ≡ breaks_of rest → breaks_of (load_item s mask q env a o gathered rest) ≡ breaks_of rest
load_breaks s mask q env a None gathered rest h = h
load_breaks s mask q env a (Some c) gathered rest h = refl

pub store_breaks : (s : Scope) (mask : Option ℕ) (q : ℕ) (env : List Bound) (a : List ℕ) (o : Option ℤ) (v : Operand) (rest : List Item) → breaks_of (store_item s mask q env a o v rest) ≡ breaks_of rest
store_breaks s mask q env a None v rest = refl
store_breaks s mask q env a (Some c) v rest = refl

pub record TermBreaks (t : Term) : Type 0 where
  pub as_value : (s : Scope) (want : Option Ty) (mask : Option ℕ) (b : ℕ) (env : List Bound) (rest : List Item) → breaks_of (term_items s want mask b env t rest) ≡ breaks_of rest
  pub as_cond : (s : Scope) (mask : Option ℕ) (b : ℕ) (env : List Bound) (rest : List Item) → breaks_of (cond_items s mask b env t rest) ≡ breaks_of rest

pub term_breaks : (t : Term) → TermBreaks t
term_breaks (Literal n) = record { as_value = λ s want mask b env rest. refl; as_cond = λ s mask b env rest. refl }
term_breaks (Variable x) = record { as_value = λ s want mask b env rest. refl; as_cond = λ s mask b env rest. refl }
term_breaks (Element a j) = record { as_value = λ s want mask b env rest. load_breaks s mask _ env a (stream_offset s.index j) (term_items s (index_type s j) mask b env j (gather_item s mask b (b + index_items s.index j) env a j ∷ rest)) rest ((term_breaks j).as_value s (index_type s j) mask b env _); as_cond = λ s mask b env rest. refl }
term_breaks (Unary op e) = record { as_value = λ s want mask b env rest. (term_breaks e).as_value s want mask b env _; as_cond = λ s mask b env rest. refl }
term_breaks (Operation op x y) = record { as_value = λ s want mask b env rest. (term_breaks x).as_value s want mask b env _ ∙ (term_breaks y).as_value s want mask _ env _; as_cond = λ s mask b env rest. refl }
term_breaks (Shift to_left e n) = record { as_value = λ s want mask b env rest. (term_breaks e).as_value s want mask b env _; as_cond = λ s mask b env rest. refl }
term_breaks (Conversion e t) = record { as_value = λ s want mask b env rest. (term_breaks e).as_value s (own s e) mask b env _; as_cond = λ s mask b env rest. refl }
term_breaks (Choice c x y) = record {
  as_value = λ s want mask b env rest. (term_breaks x).as_value s want mask b env _ ∙ (term_breaks y).as_value s want mask _ env _ ∙ (term_breaks c).as_cond s mask _ env _;
  as_cond = λ s mask b env rest. refl;
}
term_breaks (Comparison op x y) = record {
  as_value = λ s want mask b env rest. refl;
  as_cond = λ s mask b env rest. (term_breaks x).as_value s (side_type s x y) mask b env _ ∙ (term_breaks y).as_value s (side_type s x y) mask _ env _;
}
term_breaks (Both x y) = record {
  as_value = λ s want mask b env rest. refl;
  as_cond = λ s mask b env rest. (term_breaks x).as_cond s mask b env _ ∙ (term_breaks y).as_cond s (Some (truth_home s.index b x)) _ env _;
}
term_breaks (Either x y) = record {
  as_value = λ s want mask b env rest. refl;
  as_cond = λ s mask b env rest. (term_breaks x).as_cond s mask b env _ ∙ (term_breaks y).as_cond s (Some (b + term_size s.index x)) _ env _;
}
term_breaks (Not e) = record { as_value = λ s want mask b env rest. refl; as_cond = λ s mask b env rest. (term_breaks e).as_cond s mask b env _ }

-- ---- blocks within an `if`

-- no break is added
abbrev Adds : List Item → List Item → Type 0
Adds items rest = list_any is_inner_break (breaks_of items) ≡ false → breaks_of items ≡ breaks_of rest

same_adds : (xs ys zs : List Item) → breaks_of xs ≡ breaks_of ys → Adds ys zs → Adds xs zs
same_adds xs ys zs e h none = e ∙ h (sym (ap (list_any is_inner_break) e) ∙ none)

then_adds : (xs ys zs : List Item) → Adds xs ys → Adds ys zs → Adds xs zs
then_adds xs ys zs g h none = let e = g none in e ∙ h (sym (ap (list_any is_inner_break) e) ∙ none)

-- an `if`, by its blocks
choose_adds : (c : Term) (t : Block) (d : Otherwise) (s : Scope) (mask : Option ℕ) (b : ℕ) (env : List Bound) (rest : List Item)
    → let home : ℕ = truth_home s.index b c in
    let inner : ℕ = b + term_size s.index c + 1 in
    let last : List Item = otherwise_items (left s (after_block s t)) mask (inner + block_size s.index t) home env d rest in
    Adds (block_items s (Some home) inner env t last) last → Adds last rest → Adds (action_items s mask b env (Choose c t d) rest) rest
choose_adds c t d s mask b env rest first second none =
    let home : ℕ = truth_home s.index b c in
    let inner : ℕ = b + term_size s.index c + 1 in
    let last : List Item = otherwise_items (left s (after_block s t)) mask (inner + block_size s.index t) home env d rest in
    let middle : List Item = block_items s (Some home) inner env t last in
    same_adds (cond_items s mask b env c middle) middle rest ((term_breaks c).as_cond s mask b env middle) (then_adds middle last rest first second) none

break_breaks : (c : Term) (s : Scope) (mask : Option ℕ) (b : ℕ) (env : List Bound) (rest : List Item) → breaks_of (break_items s mask b env c rest) ≡ item (b + term_size s.index c) mask (ops.Break (truth_home s.index b c)) ∷ breaks_of rest
break_breaks c s mask b env rest = (term_breaks c).as_cond s mask b env (item (b + term_size s.index c) mask (ops.Break (truth_home s.index b c)) ∷ rest)

masked_leave : (c : Term) (s : Scope) (m b : ℕ) (env : List Bound) (rest : List Item) → list_any is_inner_break (breaks_of (leave_items s (Some m) b env c rest)) ≡ true
masked_leave (Either x y) s m b env rest = masked_leave x s m b env _
masked_leave c s m b env rest = ap (list_any is_inner_break) (break_breaks c s (Some m) b env rest)

mutual
  masked_action : (a : Action) (s : Scope) (m b : ℕ) (env : List Bound) (rest : List Item) → Adds (action_items s (Some m) b env a rest) rest
  masked_action (Define x t e) s m b env rest none = (term_breaks e).as_value s (first t (own s e)) (Some m) b env _
  masked_action (Put a j e) s m b env rest none = (term_breaks e).as_value s (array_type s a) (Some m) b env _ ∙ store_breaks s (Some m) _ env a (stream_offset s.index j) _ rest
  masked_action (Update x op e) s m b env rest none = (term_breaks e).as_value s (accumulator_of s x) (Some m) b env _
  masked_action (Choose c t d) s m b env rest none =
      choose_adds c t d s (Some m) b env rest (masked_block t s (truth_home s.index b c) (b + term_size s.index c + 1) env _)
      (any_otherwise d (left s (after_block s t)) (Some m) (b + term_size s.index c + 1 + block_size s.index t) (truth_home s.index b c) env rest) none
  masked_action (Leave c) s m b env rest none = let one : true ≡ false = sym (masked_leave c s m b env rest) ∙ none in absurd cc

  masked_block : (t : Block) (s : Scope) (m b : ℕ) (env : List Bound) (rest : List Item) → Adds (block_items s (Some m) b env t rest) rest
  masked_block Done s m b env rest none = refl
  masked_block (Then a t) s m b env rest none =
      let next = b + action_size s.index a in
      let later = block_items (after_action s a) (Some m) next (after_env s b env a) t rest in
      then_adds (action_items s (Some m) b env a later) later rest (masked_action a s m b env later) (masked_block t (after_action s a) m next (after_env s b env a) rest) none

  any_otherwise : (d : Otherwise) (s : Scope) (mask : Option ℕ) (b c : ℕ) (env : List Bound) (rest : List Item) → Adds (otherwise_items s mask b c env d rest) rest
  any_otherwise Nothing s mask b c env rest none = refl
  any_otherwise (Else t) s mask b c env rest none = masked_block t s b (b + 1) env rest none

-- ---- statements of the loop's own block

-- the number of the last break of a statement
abbrev pub last_break : Option (List ℕ) → ℕ → Term → ℕ
last_break i from (Either a b) = from + term_size i a + 1 + term_size i b
last_break i from c = from + term_size i c

abbrev pub IsLast : Option (List ℕ) → ℕ → Action → ℕ → Type 0
IsLast i b (Leave c) q = q ≡ last_break i b c
IsLast i b _ q = ⊥

-- breaks after which others follow: where the last of them stands
record Breaks (all rest : List Item) (q : ℕ) : Type 0 where
  following : (p : ℕ) → following_break p all ≡ following_break (q + 1) rest
  outer : list_any is_inner_break all ≡ false → list_any is_inner_break rest ≡ false

one_breaks : (q c : ℕ) (rest : List Item) → Breaks (item q None (ops.Break c) ∷ rest) rest q
one_breaks q c rest = record { following = λ p. refl; outer = λ e. e }

then_breaks : (all mid rest : List Item) (q n : ℕ) → Breaks all mid q → Breaks mid rest n → Breaks all rest n
then_breaks all mid rest q n h g = record { following = λ p. h.following p ∙ g.following (q + 1); outer = λ e. g.outer (h.outer e) }

leave_breaks : (c : Term) (s : Scope) (b : ℕ) (env : List Bound) (rest : List Item) → Breaks (breaks_of (leave_items s None b env c rest)) (breaks_of rest) (last_break s.index b c)
leave_breaks (Either x y) s b env rest =
    let next = b + term_size s.index x + 1 in
    let mid = breaks_of (break_items s None next env y rest) in
    then_breaks (breaks_of (leave_items s None b env x (break_items s None next env y rest))) mid (breaks_of rest) (last_break s.index b x) (next + term_size s.index y)
    (leave_breaks x s b env (break_items s None next env y rest))
    (subst (λ all. Breaks all (breaks_of rest) (next + term_size s.index y)) (sym (break_breaks y s None next env rest)) (one_breaks (next + term_size s.index y) (truth_home s.index next y) (breaks_of rest)))
leave_breaks c s b env rest = subst (λ all. Breaks all (breaks_of rest) (b + term_size s.index c)) (sym (break_breaks c s None b env rest)) (one_breaks (b + term_size s.index c) (truth_home s.index b c) (breaks_of rest))

-- a statement that breaks, or one that does not
pub data TopAction (s : Scope) (b : ℕ) (env : List Bound) (a : Action) (rest : List Item) : Type 0 where
  goes : breaks_of (action_items s None b env a rest) ≡ breaks_of rest → TopAction s b env a rest
  ends : (q : ℕ) → IsLast s.index b a q → ((p : ℕ) → following_break p (breaks_of (action_items s None b env a rest)) ≡ following_break (q + 1) (breaks_of rest))
      → (list_any is_inner_break (breaks_of (action_items s None b env a rest)) ≡ false → list_any is_inner_break (breaks_of rest) ≡ false) → TopAction s b env a rest

pub top_action : (a : Action) (s : Scope) (b : ℕ) (env : List Bound) (rest : List Item) → list_any is_inner_break (breaks_of (action_items s None b env a rest)) ≡ false → TopAction s b env a rest
top_action (Define x t e) s b env rest none = goes ((term_breaks e).as_value s (first t (own s e)) None b env _)
top_action (Put a j e) s b env rest none = goes ((term_breaks e).as_value s (array_type s a) None b env _ ∙ store_breaks s None _ env a (stream_offset s.index j) _ rest)
top_action (Update x op e) s b env rest none = goes ((term_breaks e).as_value s (accumulator_of s x) None b env _)
top_action (Choose c t d) s b env rest none =
    goes
    (choose_adds c t d s None b env rest (masked_block t s (truth_home s.index b c) (b + term_size s.index c + 1) env _)
    (any_otherwise d (left s (after_block s t)) None (b + term_size s.index c + 1 + block_size s.index t) (truth_home s.index b c) env rest) none)
top_action (Leave c) s b env rest none = let h = leave_breaks c s b env rest in ends (last_break s.index b c) refl h.following h.outer
