-- A loop has no more items than its kernel.
use Rattle.std.proofs.Common.{◌≡◌, ℕ, suc, ◌+◌, ◌≤◌, ℤ, List, [], ◌∷◌, length, Option, Some, None, refl, ap, ◌∙◌, arith}
use Rattle.std.specs.Prelude.{option_map}
use Rattle.kernel_tree.specs.declared.ops.Ty.{Ty}
use Rattle.kernel_tree.specs.Plain.{Term, Literal, Variable, Element, Unary, Operation, Shift, Conversion, Choice, Comparison, Both, Either, Not, Action, Define, Put, Update, Choose, Leave, Block, Done, Then, Otherwise, Nothing, Else, PlainLoop, Program}
use Rattle.kernel_tree.specs.Items.{stream_offset, index_size, index_items, term_size, action_size, block_size, otherwise_size, index_of, for_loop_size, size_of, loop_start}
use Rattle.kernel_tree.specs.Typing.{Scope, own, first, index_type, side_type, after_action, after_block, left, in_loop, var_scope, array_type}
use Rattle.kernel_tree.proofs.Scopes.{index_after, scope_index}
use Rattle.loop_form.specs.declared.loop_item.Operand.{Operand}
use Rattle.loop_form.specs.LoopItems.{Bound, Item, accumulator_of, truth_home, load_item, gather_item, store_item, term_items, cond_items, break_items, leave_items, after_env, action_items, block_items, otherwise_items, loop_env, loop_items, for_loop_items, loop_items_of}

load_few : (scope : Scope) (mask : Option ℕ) (q : ℕ) (env : List Bound) (a : List ℕ) (o : Option ℤ) (gathered rest : List Item) (n : ℕ) → length gathered ≤ n + suc (length rest) → length (load_item scope mask q env a o gathered rest) ≤ index_size o n + 1 + length rest
load_few scope mask q env a None gathered rest n h = omega (arith, h)
load_few scope mask q env a (Some c) gathered rest n h = omega arith

store_few : (scope : Scope) (mask : Option ℕ) (q : ℕ) (env : List Bound) (a : List ℕ) (o : Option ℤ) (v : Operand) (rest : List Item) → length (store_item scope mask q env a o v rest) ≤ 1 + length rest
store_few scope mask q env a None v rest = omega arith
store_few scope mask q env a (Some c) v rest = omega arith

-- ---- expressions

record TermFew (t : Term) : Type 0 where
  as_value : (s : Scope) (want : Option Ty) (mask : Option ℕ) (b : ℕ) (env : List Bound) (rest : List Item) → length (term_items s want mask b env t rest) ≤ term_size s.index t + length rest
  as_cond : (s : Scope) (mask : Option ℕ) (b : ℕ) (env : List Bound) (rest : List Item) → length (cond_items s mask b env t rest) ≤ term_size s.index t + length rest

-- one item, after another expression's
following_one : (n m k : ℕ) → n ≤ m + suc k → n ≤ m + 1 + k
following_one n m k h = omega (arith, h)

following_two : (n p q r k : ℕ) → n ≤ p + q → q ≤ r + suc k → n ≤ p + r + 1 + k
following_two n p q r k h j = omega (arith, h, j)

following_three : (n p q r u v k : ℕ) → n ≤ p + q → q ≤ r + u → u ≤ v + suc k → n ≤ p + r + v + 1 + k
following_three n p q r u v k h j l = omega (arith, h, j, l)

term_few : (t : Term) → TermFew t
term_few (Literal n) = record { as_value = λ s want mask b env rest. omega arith; as_cond = λ s mask b env rest. omega arith }
term_few (Variable x) = record { as_value = λ s want mask b env rest. omega arith; as_cond = λ s mask b env rest. omega arith }
term_few (Element a j) = record {
  as_value = λ s want mask b env rest. load_few s mask (b + index_items s.index j) env a (stream_offset s.index j) (term_items s (index_type s j) mask b env j (gather_item s mask b (b + index_items s.index j) env a j ∷ rest)) rest (term_size s.index j) ((term_few j).as_value s (index_type s j) mask b env _);
  as_cond = λ s mask b env rest. omega arith;
}
term_few (Unary op e) = record {
  as_value = λ s want mask b env rest. following_one _ _ _ ((term_few e).as_value s want mask b env _);
  as_cond = λ s mask b env rest. omega arith;
}
term_few (Operation op x y) = record {
  as_value = λ s want mask b env rest. following_two _ _ _ _ _ ((term_few x).as_value s want mask b env _) ((term_few y).as_value s want mask _ env _);
  as_cond = λ s mask b env rest. omega arith;
}
term_few (Shift to_left e n) = record {
  as_value = λ s want mask b env rest. following_one _ _ _ ((term_few e).as_value s want mask b env _);
  as_cond = λ s mask b env rest. omega arith;
}
term_few (Conversion e t) = record {
  as_value = λ s want mask b env rest. following_one _ _ _ ((term_few e).as_value s (own s e) mask b env _);
  as_cond = λ s mask b env rest. omega arith;
}
term_few (Choice c x y) = record {
  as_value = λ s want mask b env rest. following_three _ _ _ _ _ _ _ ((term_few x).as_value s want mask b env _) ((term_few y).as_value s want mask _ env _) ((term_few c).as_cond s mask _ env _);
  as_cond = λ s mask b env rest. omega arith;
}
term_few (Comparison op x y) = record {
  as_value = λ s want mask b env rest. omega arith;
  as_cond = λ s mask b env rest. following_two _ _ _ _ _ ((term_few x).as_value s (side_type s x y) mask b env _) ((term_few y).as_value s (side_type s x y) mask _ env _);
}
term_few (Both x y) = record {
  as_value = λ s want mask b env rest. omega arith;
  as_cond = λ s mask b env rest. following_two _ _ _ _ _ ((term_few x).as_cond s mask b env _) ((term_few y).as_cond s (Some (truth_home s.index b x)) _ env _);
}
term_few (Either x y) = record {
  as_value = λ s want mask b env rest. omega arith;
  as_cond = λ s mask b env rest. let h = (term_few x).as_cond s mask b env _ in let j = (term_few y).as_cond s (Some (b + term_size s.index x)) (b + term_size s.index x + 1) env _ in both_sides _ _ _ _ _ h j;
}
  where
    both_sides : (n p q r k : ℕ) → n ≤ p + suc q → q ≤ r + suc k → n ≤ p + 1 + r + 1 + k
    both_sides n p q r k h j = omega (arith, h, j)
term_few (Not e) = record {
  as_value = λ s want mask b env rest. omega arith;
  as_cond = λ s mask b env rest. following_one _ _ _ ((term_few e).as_cond s mask b env _);
}

-- ---- statements

break_few : (c : Term) (s : Scope) (mask : Option ℕ) (b : ℕ) (env : List Bound) (rest : List Item) → length (break_items s mask b env c rest) ≤ term_size s.index c + 1 + length rest
break_few c s mask b env rest = following_one _ _ _ ((term_few c).as_cond s mask b env _)

leave_few : (c : Term) (s : Scope) (mask : Option ℕ) (b : ℕ) (env : List Bound) (rest : List Item) → length (leave_items s mask b env c rest) ≤ term_size s.index c + 1 + length rest
leave_few (Either x y) s mask b env rest = two_breaks _ _ _ _ _ (leave_few x s mask b env _) (break_few y s mask (b + term_size s.index x + 1) env rest)
  where
    two_breaks : (n p q r k : ℕ) → n ≤ p + 1 + q → q ≤ r + 1 + k → n ≤ p + 1 + r + 1 + 1 + k
    two_breaks n p q r k h j = omega (arith, h, j)
leave_few c s mask b env rest = break_few c s mask b env rest

mutual
  action_few : (a : Action) (s : Scope) (mask : Option ℕ) (b : ℕ) (env : List Bound) (rest : List Item) → length (action_items s mask b env a rest) ≤ action_size s.index a + length rest
  action_few (Define x t e) s mask b env rest = following_one _ _ _ ((term_few e).as_value s (first t (own s e)) mask b env _)
  action_few (Put a j e) s mask b env rest = stored _ _ _ _ ((term_few e).as_value s (array_type s a) mask b env _) (store_few s mask (b + term_size s.index e) env a (stream_offset s.index j) _ rest)
    where
      stored : (n p q k : ℕ) → n ≤ p + q → q ≤ 1 + k → n ≤ p + 1 + k
      stored n p q k h j = omega (arith, h, j)
  action_few (Update x op e) s mask b env rest = following_one _ _ _ ((term_few e).as_value s (accumulator_of s x) mask b env _)
  action_few (Choose c t d) s mask b env rest =
      chosen _ _ _ _ _ _ _ ((term_few c).as_cond s mask b env _) (block_few t s (Some (truth_home s.index b c)) (b + term_size s.index c + 1) env _) (otherwise_few d (left s (after_block s t)) mask (b + term_size s.index c + 1 + block_size s.index t) (truth_home s.index b c) env rest)
    where
      chosen : (n p q r u v k : ℕ) → n ≤ p + q → q ≤ r + u → u ≤ v + k → n ≤ p + 1 + r + v + 1 + k
      chosen n p q r u v k h j l = omega (arith, h, j, l)
  action_few (Leave c) s mask b env rest = leave_few c s mask b env rest

  block_few : (t : Block) (s : Scope) (mask : Option ℕ) (b : ℕ) (env : List Bound) (rest : List Item) → length (block_items s mask b env t rest) ≤ block_size s.index t + length rest
  block_few Done s mask b env rest = omega arith
  block_few (Then a t) s mask b env rest =
      let size : block_size (after_action s a).index t ≡ block_size s.index t = ap (λ i. block_size i t) (index_after s a) in
      both _ _ _ _ _ _ (action_few a s mask b env _) (block_few t (after_action s a) mask (b + action_size s.index a) (after_env s b env a) rest) size
    where
      both : (n p q r k v : ℕ) → n ≤ p + q → q ≤ r + k → r ≡ v → n ≤ p + v + k
      both n p q r k v h j e = omega (arith, h, j, e)

  otherwise_few : (d : Otherwise) (s : Scope) (mask : Option ℕ) (b c : ℕ) (env : List Bound) (rest : List Item) → length (otherwise_items s mask b c env d rest) ≤ otherwise_size s.index d + length rest
  otherwise_few Nothing s mask b c env rest = omega arith
  otherwise_few (Else t) s mask b c env rest = let h = block_few t s (Some b) (b + 1) env rest in one_more _ _ _ h
    where
      one_more : (n p k : ℕ) → n ≤ p + k → suc n ≤ 1 + p + k
      one_more n p k h = omega (arith, h)

-- ---- the loop

pub few_items : (k : Program) (l : PlainLoop) → k.for_loop ≡ Some l → length (loop_items k l) ≤ size_of k
few_items k l is =
    let h = block_few l.body (in_loop (var_scope k) l) None (loop_start k + 1) (loop_env (var_scope k) l.index) [] in
    let index : (var_scope k).index ≡ Some l.index = scope_index k ∙ ap (option_map index_of) is in
    let size : block_size (var_scope k).index l.body ≡ block_size (Some l.index) l.body = ap (λ i. block_size i l.body) index in
    let whole : for_loop_size k.for_loop ≡ 1 + block_size (Some l.index) l.body = ap for_loop_size is in
    omega (arith, h, size, whole)

pub all_items : (k : Program) → length (loop_items_of k) ≤ size_of k
all_items k = by_for_loop k.for_loop refl
  where
    by_for_loop : (o : Option PlainLoop) → k.for_loop ≡ o → length (for_loop_items k o) ≤ size_of k
    by_for_loop None e = omega arith
    by_for_loop (Some l) e = few_items k l e
