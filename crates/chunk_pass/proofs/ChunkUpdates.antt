-- The items of a loop update no accumulator that no item of its listing updates.
use Rattle.std.proofs.Common.{◌≡◌, ℕ, ◌+◌, ℤ, Bool, false, ◌||◌, List, [], ◌∷◌, ◌++◌, Option, Some, None, refl, sym, ap, ap₂, ◌∙◌}
use Rattle.std.specs.Prelude.{bytes_eq}
use Rattle.std.specs.List.{list_any}
use Rattle.std.proofs.lemmas.List.Folds.{list_any-append}
use Rattle.std.proofs.lemmas.Bool.{or_parts}
use Rattle.kernel_tree.specs.Plain.{Term, Literal, Variable, Element, Unary, Operation, Shift, Conversion, Choice, Comparison, Both, Either, Not, Action, Define, Put, Update, Choose, Leave, Block, Done, Then, Otherwise, Nothing, Else, PlainLoop, Program}
use Rattle.kernel_tree.specs.Items.{stream_offset, loop_index, index_items, term_size, action_size, block_size, otherwise_size, loop_start}
use Rattle.kernel_tree.specs.Typing.{Scope, own, first, index_type, side_type, after_action, after_block, left, in_loop, var_scope, array_type}
use Rattle.loop_form.specs.declared.item.ItemKind.TheVariants as kind
use Rattle.loop_form.specs.declared.loop_item.Operand.{Operand}
use Rattle.loop_form.specs.Entries.{Entry, IsPlain, entry, term_entries, action_entries, block_entries, otherwise_entries, for_loop_entries, loop_entries}
use Rattle.loop_form.specs.LoopItems.{Bound, Op, Item, truth_home, load_item, gather_item, term_items, cond_items, store_item, accumulator_of, after_env, break_items, leave_items, action_items, block_items, otherwise_items, loop_env, loop_items}
use Rattle.loop_form.specs.LoopItems as ops
use Rattle.loop_form.specs.Needs.{updates}

abbrev pub adds : List ℕ → Op → Bool
adds x (ops.Update y op t v) = bytes_eq y x
adds x _ = false

-- the item is an update of the accumulator
abbrev pub is_add : List ℕ → Item → Bool
is_add x it = adds x it.op

module _ (x : List ℕ) where
  load_adds : (scope : Scope) (mask : Option ℕ) (q : ℕ) (env : List Bound) (a : List ℕ) (o : Option ℤ) (gathered rest : List Item) → list_any (is_add x) gathered ≡ list_any (is_add x) rest → list_any (is_add x) (load_item scope mask q env a o gathered rest) ≡ list_any (is_add x) rest
  load_adds scope mask q env a None gathered rest h = h
  load_adds scope mask q env a (Some c) gathered rest h = refl

  store_adds : (scope : Scope) (mask : Option ℕ) (q : ℕ) (env : List Bound) (a : List ℕ) (o : Option ℤ) (v : Operand) (rest : List Item) → list_any (is_add x) (store_item scope mask q env a o v rest) ≡ list_any (is_add x) rest
  store_adds scope mask q env a None v rest = refl
  store_adds scope mask q env a (Some c) v rest = refl

  -- expressions update nothing
  record TermAdds (t : Term) : Type 0 where
    as_value : (scope : Scope) (want : _) (mask : Option ℕ) (from : ℕ) (env : List Bound) (rest : List Item) → list_any (is_add x) (term_items scope want mask from env t rest) ≡ list_any (is_add x) rest
    as_cond : (scope : Scope) (mask : Option ℕ) (from : ℕ) (env : List Bound) (rest : List Item) → list_any (is_add x) (cond_items scope mask from env t rest) ≡ list_any (is_add x) rest

  term_adds : (t : Term) → TermAdds t
  term_adds (Literal n) = record { as_value = λ scope want mask from env rest. refl; as_cond = λ scope mask from env rest. refl }
  term_adds (Variable y) = record { as_value = λ scope want mask from env rest. refl; as_cond = λ scope mask from env rest. refl }
  term_adds (Element a i) = record { as_value = λ scope want mask from env rest. load_adds scope mask (from + index_items scope.index i) env a (stream_offset scope.index i) (term_items scope (index_type scope i) mask from env i (gather_item scope mask from (from + index_items scope.index i) env a i ∷ rest)) rest ((term_adds i).as_value scope (index_type scope i) mask from env _); as_cond = λ scope mask from env rest. refl }
  term_adds (Unary op e) = record { as_value = λ scope want mask from env rest. (term_adds e).as_value scope want mask from env _; as_cond = λ scope mask from env rest. refl }
  term_adds (Operation op a b) = record { as_value = λ scope want mask from env rest. (term_adds a).as_value scope want mask from env _ ∙ (term_adds b).as_value scope want mask _ env _; as_cond = λ scope mask from env rest. refl }
  term_adds (Shift toward e n) = record { as_value = λ scope want mask from env rest. (term_adds e).as_value scope want mask from env _; as_cond = λ scope mask from env rest. refl }
  term_adds (Conversion e t) = record { as_value = λ scope want mask from env rest. (term_adds e).as_value scope (own scope e) mask from env _; as_cond = λ scope mask from env rest. refl }
  term_adds (Choice c a b) = record { as_value = λ scope want mask from env rest. (term_adds a).as_value scope want mask from env _ ∙ (term_adds b).as_value scope want mask _ env _ ∙ (term_adds c).as_cond scope mask _ env _; as_cond = λ scope mask from env rest. refl }
  term_adds (Comparison op a b) = record { as_value = λ scope want mask from env rest. refl; as_cond = λ scope mask from env rest. (term_adds a).as_value scope (side_type scope a b) mask from env _ ∙ (term_adds b).as_value scope (side_type scope a b) mask _ env _ }
  term_adds (Both a b) = record { as_value = λ scope want mask from env rest. refl; as_cond = λ scope mask from env rest. (term_adds a).as_cond scope mask from env _ ∙ (term_adds b).as_cond scope (Some (truth_home scope.index from a)) _ env _ }
  term_adds (Either a b) = record { as_value = λ scope want mask from env rest. refl; as_cond = λ scope mask from env rest. (term_adds a).as_cond scope mask from env _ ∙ (term_adds b).as_cond scope (Some (from + term_size scope.index a)) _ env _ }
  term_adds (Not e) = record { as_value = λ scope want mask from env rest. refl; as_cond = λ scope mask from env rest. (term_adds e).as_cond scope mask from env _ }

  -- ---- statements

  no_update_in_rest : (es fs : List Entry) → list_any (updates x) (es ++ fs) ≡ false → list_any (updates x) fs ≡ false
  no_update_in_rest es fs h = (or_parts (list_any (updates x) es) (list_any (updates x) fs) (sym (list_any-append (updates x) es fs) ∙ h)).1

  no_update_in_front : (es fs : List Entry) → list_any (updates x) (es ++ fs) ≡ false → list_any (updates x) es ≡ false
  no_update_in_front es fs h = (or_parts (list_any (updates x) es) (list_any (updates x) fs) (sym (list_any-append (updates x) es fs) ∙ h)).0

  break_adds : (c : Term) (scope : Scope) (mask : Option ℕ) (from : ℕ) (env : List Bound) (rest : List Item) → list_any (is_add x) (break_items scope mask from env c rest) ≡ list_any (is_add x) rest
  break_adds c scope mask from env rest = (term_adds c).as_cond scope mask from env _

  leave_adds : (c : Term) (scope : Scope) (mask : Option ℕ) (from : ℕ) (env : List Bound) (rest : List Item) → list_any (is_add x) (leave_items scope mask from env c rest) ≡ list_any (is_add x) rest
  leave_adds (Either a b) scope mask from env rest = leave_adds a scope mask from env _ ∙ break_adds b scope mask (from + term_size scope.index a + 1) env rest
  leave_adds c scope mask from env rest = break_adds c scope mask from env rest

  module _ (k : Program) where
    mutual
      action_adds : (s : Action) (scope : Scope) (mask : Option ℕ) (from g : ℕ) (env : List Bound) (rest : List Item) → list_any (updates x) (action_entries k g s) ≡ false → list_any (is_add x) rest ≡ false → list_any (is_add x) (action_items scope mask from env s rest) ≡ false
      action_adds (Define y t e) scope mask from g env rest h r = (term_adds e).as_value scope (first t (own scope e)) mask from env _ ∙ r
      action_adds (Put a i e) scope mask from g env rest h r = (term_adds e).as_value scope (array_type scope a) mask from env _ ∙ store_adds scope mask _ env a (stream_offset scope.index i) _ rest ∙ r
      action_adds (Update y op e) scope mask from g env rest h r =
          let here = or_parts (bytes_eq y x) false (no_update_in_rest (term_entries k g (g + term_size (loop_index k) e) e) _ h) in
          (term_adds e).as_value scope (accumulator_of scope y) mask from env _ ∙ ap₂ (λ a b. a || b) here.0 r
      action_adds (Choose c b d) scope mask from g env rest h r =
          let first = g + term_size (loop_index k) c in
          let next = first + 1 + block_size (loop_index k) b in
          let end = next + otherwise_size (loop_index k) d in
          let last : List Entry = otherwise_entries k next end d ++ entry k end (IsPlain kind.End) end ∷ [] in
          let inner : list_any (updates x) (block_entries k (first + 1) b ++ last) ≡ false = no_update_in_rest (term_entries k g next c) (entry k first (IsPlain kind.Then) first ∷ (block_entries k (first + 1) b ++ last)) h in
          let others = no_update_in_front (otherwise_entries k next end d) _ (no_update_in_rest (block_entries k (first + 1) b) last inner) in
          (term_adds c).as_cond scope mask from env _
          ∙ block_adds b scope (Some (truth_home scope.index from c)) _ (first + 1) env _ (no_update_in_front (block_entries k (first + 1) b) last inner) (otherwise_adds d (left scope (after_block scope b)) mask _ (truth_home scope.index from c) next end env rest others r)
      action_adds (Leave c) scope mask from g env rest h r = leave_adds c scope mask from env rest ∙ r

      block_adds : (b : Block) (scope : Scope) (mask : Option ℕ) (from g : ℕ) (env : List Bound) (rest : List Item) → list_any (updates x) (block_entries k g b) ≡ false → list_any (is_add x) rest ≡ false → list_any (is_add x) (block_items scope mask from env b rest) ≡ false
      block_adds Done scope mask from g env rest h r = r
      block_adds (Then s b) scope mask from g env rest h r =
          let after = g + action_size (loop_index k) s in
          action_adds s scope mask from g env _ (no_update_in_front (action_entries k g s) (block_entries k after b) h) (block_adds b (after_action scope s) mask _ after (after_env scope from env s) rest (no_update_in_rest (action_entries k g s) (block_entries k after b) h) r)

      otherwise_adds : (d : Otherwise) (scope : Scope) (mask : Option ℕ) (from c g end : ℕ) (env : List Bound) (rest : List Item) → list_any (updates x) (otherwise_entries k g end d) ≡ false → list_any (is_add x) rest ≡ false → list_any (is_add x) (otherwise_items scope mask from c env d rest) ≡ false
      otherwise_adds Nothing scope mask from c g end env rest h r = r
      otherwise_adds (Else b) scope mask from c g end env rest h r = block_adds b scope (Some from) (from + 1) (g + 1) env rest h r

    pub none_added : (l : PlainLoop) → k.for_loop ≡ Some l → list_any (updates x) (loop_entries k) ≡ false → list_any (is_add x) (loop_items k l) ≡ false
    none_added l is h = block_adds l.body (in_loop (var_scope k) l) None (loop_start k + 1) (loop_start k + 1) (loop_env (var_scope k) l.index) [] (ap (λ o. list_any (updates x) (for_loop_entries k (loop_start k) o)) (sym is) ∙ h) refl
