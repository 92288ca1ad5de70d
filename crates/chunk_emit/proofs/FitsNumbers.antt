-- The items of a loop have ascending numbers, and so each number has one item.
use Rattle.std.proofs.Common.{◌≡◌, ◌≢◌, ℕ, ◌+◌, ◌<◌, ◌≤◌, ℤ, Bool, true, false, cond, List, [], ◌∷◌, ◌++◌, Option, Some, None, refl, sym, ap, ◌∙◌, arith}
use Rattle.std.specs.Prelude.{nat_eq}
use Rattle.std.proofs.lemmas.Bool.{eqb-true, eq-eqb}
use Rattle.std.proofs.lemmas.Bool.Decides.{nat_tests}
use Rattle.kernel_tree.specs.declared.ops.Ty.{Ty}
use Rattle.kernel_tree.specs.Plain.{Term, Literal, Variable, Element, Unary, Operation, Shift, Conversion, Choice, Comparison, Both, Either, Not, Action, Define, Put, Update, Choose, Leave, Block, Done, Then, Otherwise, Nothing, Else, PlainLoop, Program}
use Rattle.kernel_tree.specs.Items.{stream_offset, index_size, index_items, term_size, action_size, block_size, otherwise_size, loop_start}
use Rattle.kernel_tree.specs.Typing.{Scope, own, first, index_type, side_type, after_action, after_block, left, in_loop, var_scope, array_type}
use Rattle.kernel_tree.proofs.Scopes.{index_after}
use Rattle.loop_form.specs.declared.loop_item.Operand.{Operand}
use Rattle.loop_form.specs.LoopItems.{Bound, Item, accumulator_of, truth_home, load_item, store_item, term_items, cond_items, after_env, break_items, leave_items, action_items, block_items, otherwise_items, loop_env, loop_items}
use Rattle.lane_emit.specs.ItemCode.{made_type, makes_truth}
use Rattle.chunk_emit.specs.KernelLayout.{type_in, tests_in}

-- items with ascending numbers from p on
abbrev pub Ascends : ℕ → List Item → Type 0
Ascends p [] = Unit {0}
Ascends p (it ∷ items) = (p ≤ it.item) × Ascends (it.item + 1) items

sooner : (p q : ℕ) (items : List Item) → p ≤ q → Ascends q items → Ascends p items
sooner p q [] le h = tt
sooner p q (it ∷ items) le h = let a = h.0 in (omega (arith, a, le), h.1)

ascends_at_next : (p q n : ℕ) (rest : List Item) → p ≤ q → q + 1 ≤ n → Ascends n rest → (p ≤ q) × Ascends (q + 1) rest
ascends_at_next p q n rest le lt h = (le, sooner (q + 1) n rest lt h)

load_ascends : (scope : Scope) (mask : Option ℕ) (p q n : ℕ) (env : List Bound) (a : List ℕ) (o : Option ℤ) (gathered rest : List Item) → p ≤ q → q + 1 ≤ n → (o ≡ None → Ascends p gathered) → Ascends n rest → Ascends p (load_item scope mask q env a o gathered rest)
load_ascends scope mask p q n env a None gathered rest le lt g h = g refl
load_ascends scope mask p q n env a (Some c) gathered rest le lt g h = ascends_at_next p q n rest le lt h

store_ascends : (scope : Scope) (mask : Option ℕ) (p q n : ℕ) (env : List Bound) (a : List ℕ) (o : Option ℤ) (v : Operand) (rest : List Item) → p ≤ q → q + 1 ≤ n → Ascends n rest → Ascends p (store_item scope mask q env a o v rest)
store_ascends scope mask p q n env a None v rest le lt h = sooner p n rest (omega (arith, le, lt)) h
store_ascends scope mask p q n env a (Some c) v rest le lt h = ascends_at_next p q n rest le lt h

record TermAscends (t : Term) : Type 0 where
  as_value : (s : Scope) (want : Option Ty) (mask : Option ℕ) (b : ℕ) (env : List Bound) (rest : List Item) → Ascends (b + term_size s.index t) rest → Ascends b (term_items s want mask b env t rest)
  as_cond : (s : Scope) (mask : Option ℕ) (b : ℕ) (env : List Bound) (rest : List Item) → Ascends (b + term_size s.index t) rest → Ascends b (cond_items s mask b env t rest)

term_ascends : (t : Term) → TermAscends t
term_ascends (Literal n) = record { as_value = λ s want mask b env rest h. sooner b _ rest (omega arith) h; as_cond = λ s mask b env rest h. sooner b _ rest (omega arith) h }
term_ascends (Variable x) = record { as_value = λ s want mask b env rest h. sooner b _ rest (omega arith) h; as_cond = λ s mask b env rest h. sooner b _ rest (omega arith) h }
term_ascends (Element a j) = record {
  as_value = λ s want mask b env rest h. load_ascends s mask b (b + index_items s.index j) _ env a (stream_offset s.index j) _ rest (omega arith) (omega arith)
      (λ none. let same : index_items s.index j ≡ term_size s.index j = ap (λ o. index_size o (term_size s.index j)) none in
      (term_ascends j).as_value s (index_type s j) mask b env _ (ascends_at_next (b + term_size s.index j) (b + index_items s.index j) (b + (index_items s.index j + 1)) rest (omega (arith, same)) (omega arith) h)) h;
  as_cond = λ s mask b env rest h. sooner b _ rest (omega arith) h;
}
term_ascends (Unary op e) = record {
  as_value = λ s want mask b env rest h. (term_ascends e).as_value s want mask b env _ (ascends_at_next _ _ (b + (term_size s.index e + 1)) rest (omega arith) (omega arith) h);
  as_cond = λ s mask b env rest h. sooner b _ rest (omega arith) h;
}
term_ascends (Operation op x y) = record {
  as_value = λ s want mask b env rest h. (term_ascends x).as_value s want mask b env _ ((term_ascends y).as_value s want mask _ env _ (ascends_at_next _ _ (b + (term_size s.index x + term_size s.index y + 1)) rest (omega arith) (omega arith) h));
  as_cond = λ s mask b env rest h. sooner b _ rest (omega arith) h;
}
term_ascends (Shift to_left e n) = record {
  as_value = λ s want mask b env rest h. (term_ascends e).as_value s want mask b env _ (ascends_at_next _ _ (b + (term_size s.index e + 1)) rest (omega arith) (omega arith) h);
  as_cond = λ s mask b env rest h. sooner b _ rest (omega arith) h;
}
term_ascends (Conversion e t) = record {
  as_value = λ s want mask b env rest h. (term_ascends e).as_value s (own s e) mask b env _ (ascends_at_next _ _ (b + (term_size s.index e + 1)) rest (omega arith) (omega arith) h);
  as_cond = λ s mask b env rest h. sooner b _ rest (omega arith) h;
}
term_ascends (Choice c x y) = record {
  as_value = λ s want mask b env rest h. (term_ascends x).as_value s want mask b env _ ((term_ascends y).as_value s want mask _ env _ ((term_ascends c).as_cond s mask _ env _ (ascends_at_next _ _ (b + term_size s.index (Choice c x y)) rest (omega arith) (omega arith) h)));
  as_cond = λ s mask b env rest h. sooner b _ rest (omega arith) h;
}
term_ascends (Comparison op x y) = record {
  as_value = λ s want mask b env rest h. sooner b _ rest (omega arith) h;
  as_cond = λ s mask b env rest h. (term_ascends x).as_value s (side_type s x y) mask b env _ ((term_ascends y).as_value s (side_type s x y) mask _ env _ (ascends_at_next _ _ (b + term_size s.index (Comparison op x y)) rest (omega arith) (omega arith) h));
}
term_ascends (Both x y) = record {
  as_value = λ s want mask b env rest h. sooner b _ rest (omega arith) h;
  as_cond = λ s mask b env rest h. (term_ascends x).as_cond s mask b env _ ((term_ascends y).as_cond s (Some (truth_home s.index b x)) _ env _ (ascends_at_next _ _ (b + term_size s.index (Both x y)) rest (omega arith) (omega arith) h));
}
term_ascends (Either x y) = record {
  as_value = λ s want mask b env rest h. sooner b _ rest (omega arith) h;
  as_cond = λ s mask b env rest h.
      let mark = b + term_size s.index x in
      (term_ascends x).as_cond s mask b env _ (ascends_at_next mark mark (mark + 1) _ (omega arith) (omega arith)
      ((term_ascends y).as_cond s (Some mark) (mark + 1) env _ (ascends_at_next _ _ (b + term_size s.index (Either x y)) rest (omega arith) (omega arith) h)));
}
term_ascends (Not e) = record {
  as_value = λ s want mask b env rest h. sooner b _ rest (omega arith) h;
  as_cond = λ s mask b env rest h. (term_ascends e).as_cond s mask b env _ (ascends_at_next _ _ (b + term_size s.index (Not e)) rest (omega arith) (omega arith) h);
}

-- ---- statements

break_ascends : (c : Term) (s : Scope) (mask : Option ℕ) (b : ℕ) (env : List Bound) (rest : List Item) → Ascends (b + (term_size s.index c + 1)) rest → Ascends b (break_items s mask b env c rest)
break_ascends c s mask b env rest h = (term_ascends c).as_cond s mask b env _ (ascends_at_next _ _ (b + (term_size s.index c + 1)) rest (omega arith) (omega arith) h)

leave_ascends : (c : Term) (s : Scope) (mask : Option ℕ) (b : ℕ) (env : List Bound) (rest : List Item) → Ascends (b + (term_size s.index c + 1)) rest → Ascends b (leave_items s mask b env c rest)
leave_ascends (Either x y) s mask b env rest h =
    let next = b + term_size s.index x + 1 in
    leave_ascends x s mask b env _ (sooner (b + (term_size s.index x + 1)) next _ (omega arith) (break_ascends y s mask next env rest (sooner (next + (term_size s.index y + 1)) (b + (term_size s.index (Either x y) + 1)) rest (omega arith) h)))
leave_ascends c s mask b env rest h = break_ascends c s mask b env rest h

mutual
  action_ascends : (a : Action) (s : Scope) (mask : Option ℕ) (b : ℕ) (env : List Bound) (rest : List Item) → Ascends (b + action_size s.index a) rest → Ascends b (action_items s mask b env a rest)
  action_ascends (Define x t e) s mask b env rest h = (term_ascends e).as_value s (first t (own s e)) mask b env _ (ascends_at_next _ _ (b + (term_size s.index e + 1)) rest (omega arith) (omega arith) h)
  action_ascends (Put a j e) s mask b env rest h = (term_ascends e).as_value s (array_type s a) mask b env _ (store_ascends s mask _ (b + term_size s.index e) (b + (term_size s.index e + 1)) env a (stream_offset s.index j) _ rest (omega arith) (omega arith) h)
  action_ascends (Update x op e) s mask b env rest h = (term_ascends e).as_value s (accumulator_of s x) mask b env _ (ascends_at_next _ _ (b + (term_size s.index e + 1)) rest (omega arith) (omega arith) h)
  action_ascends (Choose c t d) s mask b env rest h =
      let inner = b + term_size s.index c + 1 in
      let second = inner + block_size s.index t in
      (term_ascends c).as_cond s mask b env _ (sooner (b + term_size s.index c) inner _ (omega arith)
      (block_ascends t s (Some (truth_home s.index b c)) inner env _ (otherwise_ascends d (left s (after_block s t)) mask second (truth_home s.index b c) env rest (sooner (second + otherwise_size s.index d) (b + action_size s.index (Choose c t d)) rest (omega arith) h))))
  action_ascends (Leave c) s mask b env rest h = leave_ascends c s mask b env rest h

  pub block_ascends : (t : Block) (s : Scope) (mask : Option ℕ) (b : ℕ) (env : List Bound) (rest : List Item) → Ascends (b + block_size s.index t) rest → Ascends b (block_items s mask b env t rest)
  block_ascends Done s mask b env rest h = sooner b _ rest (omega arith) h
  block_ascends (Then a t) s mask b env rest h =
      let next = b + action_size s.index a in
      let size : block_size s.index t ≡ block_size (after_action s a).index t = ap (λ i. block_size i t) (sym (index_after s a)) in
      action_ascends a s mask b env _ (block_ascends t (after_action s a) mask next (after_env s b env a) rest (sooner (next + block_size (after_action s a).index t) (b + block_size s.index (Then a t)) rest (omega (arith, size)) h))

  otherwise_ascends : (d : Otherwise) (s : Scope) (mask : Option ℕ) (b c : ℕ) (env : List Bound) (rest : List Item) → Ascends (b + otherwise_size s.index d) rest → Ascends b (otherwise_items s mask b c env d rest)
  otherwise_ascends Nothing s mask b c env rest h = sooner b _ rest (omega arith) h
  otherwise_ascends (Else t) s mask b c env rest h = (omega arith, block_ascends t s (Some b) (b + 1) env rest (sooner (b + 1 + block_size s.index t) (b + otherwise_size s.index (Else t)) rest (omega arith) h))

-- the items of a loop
pub loop_ascends : (k : Program) (l : PlainLoop) → Ascends (loop_start k + 1) (loop_items k l)
loop_ascends k l = block_ascends l.body (in_loop (var_scope k) l) None (loop_start k + 1) (loop_env (var_scope k) l.index) [] tt

-- ---- one item a number

pub type_at_item : (p : ℕ) (xs : List Item) (it : Item) (ys : List Item) → Ascends p (xs ++ it ∷ ys) → type_in (xs ++ it ∷ ys) it.item ≡ made_type it.op
type_at_item p [] it ys h = ap (λ b. cond b (made_type it.op) (type_in ys it.item)) (eq-eqb it.item it.item refl)
type_at_item p (x ∷ xs) it ys h = by (nat_eq x.item it.item) refl (type_at_item (x.item + 1) xs it ys h.1)
  where
    later : (p : ℕ) (xs : List Item) → Ascends p (xs ++ it ∷ ys) → p ≤ it.item
    later p [] h = h.0
    later p (y ∷ xs) h = let a = h.0 in let r = later (y.item + 1) xs h.1 in omega (arith, a, r)

    by : (b : Bool) → nat_eq x.item it.item ≡ b → type_in (xs ++ it ∷ ys) it.item ≡ made_type it.op → cond b (made_type x.op) (type_in (xs ++ it ∷ ys) it.item) ≡ made_type it.op
    by true e h2 = let same = eqb-true x.item it.item e in let l = later (x.item + 1) xs h.1 in absurd (omega (arith, same, l))
    by false e h2 = h2

differ : (m n : ℕ) → m ≢ n → nat_eq m n ≡ false
differ m n ne = grind (arith, nat_tests)

later : (p : ℕ) (xs : List Item) (it : Item) (ys : List Item) → Ascends p (xs ++ it ∷ ys) → p ≤ it.item
later p [] it ys h = h.0
later p (x ∷ xs) it ys h = let a = h.0 in let r = later (x.item + 1) xs it ys h.1 in omega (arith, a, r)

pub test_at_item : (p : ℕ) (xs : List Item) (it : Item) (ys : List Item) → Ascends p (xs ++ it ∷ ys) → tests_in (xs ++ it ∷ ys) it.item ≡ makes_truth it.op
test_at_item p [] it ys h = ap (λ b. cond b (makes_truth it.op) (tests_in ys it.item)) (eq-eqb it.item it.item refl)
test_at_item p (x ∷ xs) it ys h =
    let l = later (x.item + 1) xs it ys h.1 in
    ap (λ b. cond b (makes_truth x.op) (tests_in (xs ++ it ∷ ys) it.item)) (differ x.item it.item (λ e. absurd (omega (arith, l, e)))) ∙ test_at_item (x.item + 1) xs it ys h.1

-- ---- no item of a number

-- before the first of some items
abbrev pub IsBefore : ℕ → List Item → Type 0
IsBefore r [] = Unit {0}
IsBefore r (it ∷ items) = r < it.item

untested : (p r : ℕ) (ys : List Item) → Ascends p ys → r < p → tests_in ys r ≡ false
untested p r [] h lt = refl
untested p r (y ∷ ys) h lt =
    let a = h.0 in
    ap (λ b. cond b (makes_truth y.op) (tests_in ys r)) (differ y.item r (λ e. absurd (omega (arith, a, lt, e)))) ∙ untested (y.item + 1) r ys h.1 (omega (arith, a, lt))

-- between an item and the next one
pub untested_after : (p r : ℕ) (xs : List Item) (it : Item) (ys : List Item) → Ascends p (xs ++ it ∷ ys) → it.item < r → IsBefore r ys → tests_in (xs ++ it ∷ ys) r ≡ false
untested_after p r [] it ys h lt to = ap (λ b. cond b (makes_truth it.op) (tests_in ys r)) (differ it.item r (λ e. absurd (omega (arith, lt, e)))) ∙ by ys h.1 to
  where
    by : (ys : List Item) → Ascends (it.item + 1) ys → IsBefore r ys → tests_in ys r ≡ false
    by [] h to = refl
    by (y ∷ ys) h to = untested y.item r (y ∷ ys) (omega arith, h.1) to
untested_after p r (x ∷ xs) it ys h lt to =
    let l = later (x.item + 1) xs it ys h.1 in
    ap (λ b. cond b (makes_truth x.op) (tests_in (xs ++ it ∷ ys) r)) (differ x.item r (λ e. absurd (omega (arith, l, lt, e)))) ∙ untested_after (x.item + 1) r xs it ys h.1 lt to
