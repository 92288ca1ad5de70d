-- What is known of each read at a computed index, by its array and its reach.
use Rattle.std.proofs.Common.{ℕ, ◌+◌, List, [], ◌∷◌, Option, Some, None}
use Rattle.std.specs.Prelude.{ℤ}
use Rattle.kernel_tree.specs.declared.ops.Ty.{Ty}
use Rattle.kernel_tree.specs.Plain.{Term, Literal, Variable, Element, Unary, Operation, Shift, Conversion, Choice, Comparison, Both, Either, Not, Action, Define, Put, Update, Choose, Leave, Block, Done, Then, Otherwise, Nothing, Else}
use Rattle.kernel_tree.specs.Items.{stream_offset, term_size}
use Rattle.kernel_tree.specs.Typing.{Scope, own, first, index_type, side_type, after_action, after_block, left, array_type}
use Rattle.loop_form.specs.declared.loop_item.Operand.{Operand}
use Rattle.loop_form.specs.Reaches.{reach_of_type}
use Rattle.loop_form.specs.LoopItems.{Bound, Op, Item, index_source, truth_home, load_item, store_item, term_items, cond_items, accumulator_of, after_env, break_items, leave_items, action_items, block_items, otherwise_items}
use Rattle.loop_form.specs.LoopItems as ops
use Rattle.vector_order.proofs.ReadyTerms.{Computed, computed_map}

abbrev pub CalmOp : (List ℕ → Option ℕ → Type 0) → Op → Type 0
CalmOp C (ops.Gather a base t r u x) = C a r
CalmOp C _ = Unit {0}

abbrev pub AllCalm : (List ℕ → Option ℕ → Type 0) → List Item → Type 0
AllCalm C [] = Unit {0}
AllCalm C (it ∷ items) = CalmOp C it.op × AllCalm C items

-- ---- in the tree

abbrev pub Calmly : (List ℕ → Option ℕ → Type 0) → Scope → Term → Type 0
Calmly C scope (Literal n) = Unit {0}
Calmly C scope (Variable x) = Unit {0}
Calmly C scope (Element a i) = Computed (stream_offset scope.index i) (C a (reach_of_type (index_source scope i)) × Calmly C scope i)
Calmly C scope (Unary op e) = Calmly C scope e
Calmly C scope (Operation op a b) = Calmly C scope a × Calmly C scope b
Calmly C scope (Shift left e n) = Calmly C scope e
Calmly C scope (Conversion e t) = Calmly C scope e
Calmly C scope (Choice c a b) = Calmly C scope c × Calmly C scope a × Calmly C scope b
Calmly C scope (Comparison op a b) = Calmly C scope a × Calmly C scope b
Calmly C scope (Both a b) = Calmly C scope a × Calmly C scope b
Calmly C scope (Either a b) = Calmly C scope a × Calmly C scope b
Calmly C scope (Not e) = Calmly C scope e

abbrev mutual
  pub CalmAction : (List ℕ → Option ℕ → Type 0) → Scope → Action → Type 0
  CalmAction C scope (Define x t e) = Calmly C scope e
  CalmAction C scope (Put a j e) = Calmly C scope e
  CalmAction C scope (Update x op e) = Calmly C scope e
  CalmAction C scope (Choose c b d) = Calmly C scope c × CalmBlock C scope b × CalmOtherwise C (left scope (after_block scope b)) d
  CalmAction C scope (Leave c) = Calmly C scope c

  pub CalmBlock : (List ℕ → Option ℕ → Type 0) → Scope → Block → Type 0
  CalmBlock C scope Done = Unit {0}
  CalmBlock C scope (Then s b) = CalmAction C scope s × CalmBlock C (after_action scope s) b

  pub CalmOtherwise : (List ℕ → Option ℕ → Type 0) → Scope → Otherwise → Type 0
  CalmOtherwise C scope Nothing = Unit {0}
  CalmOtherwise C scope (Else b) = CalmBlock C scope b

-- ---- in the items

module _ (C : List ℕ → Option ℕ → Type 0) where
  load_calm : (scope : Scope) (mask : Option ℕ) (q : ℕ) (env : List Bound) (a : List ℕ) (o : Option ℤ) (gathered rest : List Item) → Computed o (AllCalm C gathered) → AllCalm C rest → AllCalm C (load_item scope mask q env a o gathered rest)
  load_calm scope mask q env a None gathered rest h r = h
  load_calm scope mask q env a (Some c) gathered rest h r = (tt, r)

  store_calm : (scope : Scope) (mask : Option ℕ) (q : ℕ) (env : List Bound) (a : List ℕ) (o : Option ℤ) (v : Operand) (rest : List Item) → AllCalm C rest → AllCalm C (store_item scope mask q env a o v rest)
  store_calm scope mask q env a None v rest r = r
  store_calm scope mask q env a (Some c) v rest r = (tt, r)

  record TermCalm (t : Term) : Type 0 where
    as_value : (scope : Scope) (want : Option Ty) (mask : Option ℕ) (from : ℕ) (env : List Bound) (rest : List Item) → Calmly C scope t → AllCalm C rest → AllCalm C (term_items scope want mask from env t rest)
    as_cond : (scope : Scope) (mask : Option ℕ) (from : ℕ) (env : List Bound) (rest : List Item) → Calmly C scope t → AllCalm C rest → AllCalm C (cond_items scope mask from env t rest)

  term_calm : (t : Term) → TermCalm t
  term_calm (Literal n) = record { as_value = λ scope want mask from env rest h r. r; as_cond = λ scope mask from env rest h r. r }
  term_calm (Variable x) = record { as_value = λ scope want mask from env rest h r. r; as_cond = λ scope mask from env rest h r. r }
  term_calm (Element a i) = record {
    as_value = λ scope want mask from env rest h r.
        load_calm scope mask _ env a (stream_offset scope.index i) _ rest (computed_map (stream_offset scope.index i) (λ p. (term_calm i).as_value scope (index_type scope i) mask from env _ p.1 (p.0, r)) h) r;
    as_cond = λ scope mask from env rest h r. r;
  }
  term_calm (Unary op e) = record { as_value = λ scope want mask from env rest h r. (term_calm e).as_value scope want mask from env _ h (tt, r); as_cond = λ scope mask from env rest h r. r }
  term_calm (Operation op x y) = record { as_value = λ scope want mask from env rest h r. (term_calm x).as_value scope want mask from env _ h.0 ((term_calm y).as_value scope want mask _ env _ h.1 (tt, r)); as_cond = λ scope mask from env rest h r. r }
  term_calm (Shift left e n) = record { as_value = λ scope want mask from env rest h r. (term_calm e).as_value scope want mask from env _ h (tt, r); as_cond = λ scope mask from env rest h r. r }
  term_calm (Conversion e t) = record { as_value = λ scope want mask from env rest h r. (term_calm e).as_value scope (own scope e) mask from env _ h (tt, r); as_cond = λ scope mask from env rest h r. r }
  term_calm (Choice c x y) = record {
    as_value = λ scope want mask from env rest h r. (term_calm x).as_value scope want mask from env _ h.1 ((term_calm y).as_value scope want mask _ env _ h.2 ((term_calm c).as_cond scope mask _ env _ h.0 (tt, r)));
    as_cond = λ scope mask from env rest h r. r;
  }
  term_calm (Comparison op x y) = record { as_value = λ scope want mask from env rest h r. r; as_cond = λ scope mask from env rest h r. (term_calm x).as_value scope (side_type scope x y) mask from env _ h.0 ((term_calm y).as_value scope (side_type scope x y) mask _ env _ h.1 (tt, r)) }
  term_calm (Both x y) = record { as_value = λ scope want mask from env rest h r. r; as_cond = λ scope mask from env rest h r. (term_calm x).as_cond scope mask from env _ h.0 ((term_calm y).as_cond scope (Some (truth_home scope.index from x)) _ env _ h.1 (tt, r)) }
  term_calm (Either x y) = record { as_value = λ scope want mask from env rest h r. r; as_cond = λ scope mask from env rest h r. (term_calm x).as_cond scope mask from env _ h.0 (tt, (term_calm y).as_cond scope (Some (from + term_size scope.index x)) _ env _ h.1 (tt, r)) }
  term_calm (Not e) = record { as_value = λ scope want mask from env rest h r. r; as_cond = λ scope mask from env rest h r. (term_calm e).as_cond scope mask from env _ h (tt, r) }

  break_calm : (c : Term) (scope : Scope) (mask : Option ℕ) (from : ℕ) (env : List Bound) (rest : List Item) → Calmly C scope c → AllCalm C rest → AllCalm C (break_items scope mask from env c rest)
  break_calm c scope mask from env rest h r = (term_calm c).as_cond scope mask from env _ h (tt, r)

  leave_calm : (c : Term) (scope : Scope) (mask : Option ℕ) (from : ℕ) (env : List Bound) (rest : List Item) → Calmly C scope c → AllCalm C rest → AllCalm C (leave_items scope mask from env c rest)
  leave_calm (Either a b) scope mask from env rest h r = leave_calm a scope mask from env _ h.0 (break_calm b scope mask (from + term_size scope.index a + 1) env rest h.1 r)
  leave_calm c scope mask from env rest h r = break_calm c scope mask from env rest h r

  mutual
    action_calm : (s : Action) (scope : Scope) (mask : Option ℕ) (from : ℕ) (env : List Bound) (rest : List Item) → CalmAction C scope s → AllCalm C rest → AllCalm C (action_items scope mask from env s rest)
    action_calm (Define x t e) scope mask from env rest h r = (term_calm e).as_value scope (first t (own scope e)) mask from env _ h (tt, r)
    action_calm (Put a j e) scope mask from env rest h r = (term_calm e).as_value scope (array_type scope a) mask from env _ h (store_calm scope mask _ env a (stream_offset scope.index j) _ rest r)
    action_calm (Update x op e) scope mask from env rest h r = (term_calm e).as_value scope (accumulator_of scope x) mask from env _ h (tt, r)
    action_calm (Choose c b d) scope mask from env rest h r =
        (term_calm c).as_cond scope mask from env _ h.0 (block_calm b scope (Some (truth_home scope.index from c)) _ env _ h.1 (otherwise_calm d (left scope (after_block scope b)) mask _ (truth_home scope.index from c) env rest h.2 r))
    action_calm (Leave c) scope mask from env rest h r = leave_calm c scope mask from env rest h r

    pub block_calm : (b : Block) (scope : Scope) (mask : Option ℕ) (from : ℕ) (env : List Bound) (rest : List Item) → CalmBlock C scope b → AllCalm C rest → AllCalm C (block_items scope mask from env b rest)
    block_calm Done scope mask from env rest h r = r
    block_calm (Then s b) scope mask from env rest h r = action_calm s scope mask from env _ h.0 (block_calm b (after_action scope s) mask _ (after_env scope from env s) rest h.1 r)

    otherwise_calm : (d : Otherwise) (scope : Scope) (mask : Option ℕ) (from c : ℕ) (env : List Bound) (rest : List Item) → CalmOtherwise C scope d → AllCalm C rest → AllCalm C (otherwise_items scope mask from c env d rest)
    otherwise_calm Nothing scope mask from c env rest h r = r
    otherwise_calm (Else b) scope mask from c env rest h r = (tt, block_calm b scope (Some from) (from + 1) env rest h r)
