-- A loop of class Vector stores and updates nothing up to its last break, and reads at no computed index.
use Rattle.std.proofs.Common.{◌≡◌, ℕ, ◌+◌, ℤ, Bool, true, false, not, ◌&&◌, ◌||◌, List, [], ◌∷◌, ◌++◌, Option, Some, None, refl, sym, ap, ap₂, ◌∙◌, subst}
use Rattle.std.specs.Prelude.{if◌then◌else◌, is_none}
use Rattle.std.proofs.lemmas.List.{append_assoc}
use Rattle.std.specs.List.{list_any}
use Rattle.std.proofs.lemmas.Bool.{or_parts}
use Rattle.kernel_tree.proofs.Scopes.{index_after, scope_index}
use Rattle.kernel_tree.specs.declared.ops.Ty.{Ty}
use Rattle.kernel_tree.specs.Plain.{Term, Literal, Variable, Element, Unary, Operation, Shift, Conversion, Choice, Comparison, Both, Either, Not, Action, Define, Put, Update, Choose, Leave, Block, Done, Then, Otherwise, Nothing, Else, Program}
use Rattle.kernel_tree.specs.Items.{stream_offset, loop_index, index_items, term_size, action_size, block_size, otherwise_size, loop_start}
use Rattle.kernel_tree.specs.Typing.{Scope, own, first, index_type, side_type, after_action, after_block, left, in_loop, var_scope, array_type}
use Rattle.guest_types.specs.Memory.{Memory}
use Rattle.kernel_meaning.specs.Eval.{Names}
use Rattle.loop_form.specs.Entries.{Content, IsLiteral, IsName, IsRead, IsLet, IsStore, IsUpdate, IsPlain, Entry, entry, inner_entries, term_entries, action_entries, block_entries, otherwise_entries, loop_entries, for_loop_entries}
use Rattle.loop_form.specs.declared.loop_item.Operand.{Operand}
use Rattle.loop_form.specs.LoopItems.{Bound, Op, gather_item, Item, truth_home, load_item, term_items, cond_items, store_item, accumulator_of, after_env, break_items, leave_items, action_items, block_items, otherwise_items, loop_env, loop_items}
use Rattle.loop_form.specs.LoopItems as ops
use Rattle.dependence.specs.Classes.{write_content, break_content, computed_content, is_barred, computed_index, is_break, before_break}
use Rattle.dependence.proofs.ClassLaws.{class_facts, gather_facts}
use Rattle.vector_order.specs.Orders.{Lane, Effect, Halts, Keeps, Writes}
use Rattle.vector_order.specs.Regions.{AllQuiet}
use Rattle.vector_order.specs.Operands.{on_mask, load_effect}
use Rattle.vector_order.specs.Items.{op_effect, acts_of}
use Rattle.first_fault.specs.BreakRegion.{breaks_loop, is_loop_break, writes, is_write, region_of, rest_of, RegionSplits}
use Rattle.loop_form.specs.declared.item.ItemKind.TheVariants as kind

-- ---- writes and breaks as marks: a break is true

abbrev put_mark : (write quit : Bool) → List Bool → List Bool
put_mark false false bs = bs
put_mark false true bs = true ∷ bs
put_mark true q bs = false ∷ bs

abbrev marks : List Item → List Bool
marks [] = []
marks (it ∷ items) = put_mark (writes it.op) (breaks_loop it.op) (marks items)

-- an item that stands after the last break: a store, an update, or a read at a computed index
abbrev stays_after : Program → Content → Bool
stays_after k c = write_content c || computed_content (loop_index k) c

abbrev entry_marks : Program → List Entry → List Bool
entry_marks k [] = []
entry_marks k (e ∷ es) = put_mark (stays_after k e.content) (break_content e.content) (entry_marks k es)

abbrev some_break : List Bool → Bool
some_break [] = false
some_break (b ∷ bs) = b || some_break bs

-- a write before a break
abbrev is_bad : List Bool → Bool
is_bad [] = false
is_bad (b ∷ bs) = (not b && some_break bs) || is_bad bs

-- ---- entries

entry_break : (k : Program) (es : List Entry) → list_any is_break es ≡ some_break (entry_marks k es)
entry_break k [] = refl
entry_break k (e ∷ es) = by e.content (entry_break k es)
  where
    read : (b : Bool) → list_any is_break es ≡ some_break (entry_marks k es) → list_any is_break es ≡ some_break (put_mark b false (entry_marks k es))
    read true h = h
    read false h = h

    plain : (b : Bool) → list_any is_break es ≡ some_break (entry_marks k es) → (b || list_any is_break es) ≡ some_break (put_mark false b (entry_marks k es))
    plain true h = refl
    plain false h = h

    by : (c : Content) → list_any is_break es ≡ some_break (entry_marks k es) → (break_content c || list_any is_break es) ≡ some_break (put_mark (stays_after k c) (break_content c) (entry_marks k es))
    by (IsLiteral n) h = h
    by (IsName x) h = h
    by (IsRead a i) h = read (computed_content (loop_index k) (IsRead a i)) h
    by (IsLet x) h = h
    by (IsStore a i) h = h
    by (IsUpdate x op) h = h
    by (IsPlain kd) h = plain (break_content (IsPlain kd)) h

-- where no such item is before a break
entry_good : (k : Program) (all es : List Entry) → before_break es ≡ false → computed_index k all es ≡ false → is_bad (entry_marks k es) ≡ false
unfolding before_break computed_index
entry_good k all [] written computed = refl
entry_good k all (e ∷ es) written computed =
    by (stays_after k e.content) (break_content e.content) (λ stays. sym (entry_break k es) ∙ none e.content refl stays) (entry_good k all es (or_parts (write_content e.content && list_any is_break es) (before_break es) written).1 (or_parts (is_barred k all es e) (computed_index k all es) computed).1)
  where
    here : (write_content e.content && list_any is_break es) ≡ false
    here = (or_parts (write_content e.content && list_any is_break es) (before_break es) written).0

    none : (c : Content) → e.content ≡ c → stays_after k e.content ≡ true → list_any is_break es ≡ false
    none (IsLiteral n) is h = let no : false ≡ true = sym (ap (stays_after k) is) ∙ h in absurd cc
    none (IsName x) is h = let no : false ≡ true = sym (ap (stays_after k) is) ∙ h in absurd cc
    none (IsRead a i) is h = (gather_facts k all [] es e a i is (sym (ap (stays_after k) is) ∙ h) computed).unbroken
    none (IsLet x) is h = let no : false ≡ true = sym (ap (stays_after k) is) ∙ h in absurd cc
    none (IsStore a i) is h = sym (ap (λ c. write_content c && list_any is_break es) is) ∙ here
    none (IsUpdate x op) is h = sym (ap (λ c. write_content c && list_any is_break es) is) ∙ here
    none (IsPlain kd) is h = let no : false ≡ true = sym (ap (stays_after k) is) ∙ h in absurd cc

    by : (w b : Bool) → (w ≡ true → some_break (entry_marks k es) ≡ false) → is_bad (entry_marks k es) ≡ false → is_bad (put_mark w b (entry_marks k es)) ≡ false
    by false false f ih = ih
    by false true f ih = ih
    by true b f ih = ap₂ (λ x y. x || y) (f refl) ih

mark-append : (w b : Bool) (xs ys : List Bool) → put_mark w b (xs ++ ys) ≡ put_mark w b xs ++ ys
mark-append false false xs ys = refl
mark-append false true xs ys = refl
mark-append true b xs ys = refl

entry_marks-append : (k : Program) (es fs : List Entry) → entry_marks k (es ++ fs) ≡ entry_marks k es ++ entry_marks k fs
entry_marks-append k [] fs = refl
entry_marks-append k (e ∷ es) fs = ap (put_mark (stays_after k e.content) (break_content e.content)) (entry_marks-append k es fs) ∙ mark-append (stays_after k e.content) (break_content e.content) (entry_marks k es) (entry_marks k fs)

-- ---- items

-- the one list is the other, of which some marks may be left out
data Sub : List Bool → List Bool → Type 0 where
  sub_none : Sub [] []
  sub_keep : (b : Bool) {xs ys : List Bool} → Sub xs ys → Sub (b ∷ xs) (b ∷ ys)
  sub_skip : (b : Bool) {xs ys : List Bool} → Sub xs ys → Sub xs (b ∷ ys)
  -- a break more, before one of the other list
  sub_break_more : {xs ys : List Bool} → some_break ys ≡ true → Sub xs ys → Sub (true ∷ xs) ys

sub_break : {xs ys : List Bool} → Sub xs ys → some_break ys ≡ false → some_break xs ≡ false
sub_break sub_none h = refl
sub_break (sub_keep true s) h = absurd cc
sub_break (sub_keep false s) h = sub_break s h
sub_break (sub_skip b {ys = ys} s) h = sub_break s (or_parts b (some_break ys) h).1
sub_break (sub_break_more some s) h = absurd cc

sub_bad : {xs ys : List Bool} → Sub xs ys → is_bad ys ≡ false → is_bad xs ≡ false
sub_bad sub_none h = refl
sub_bad (sub_keep true s) h = sub_bad s h
sub_bad (sub_keep false {xs = xs} {ys = ys} s) h = let p = or_parts (some_break ys) (is_bad ys) h in ap₂ (λ x y. x || y) (sub_break s p.0) (sub_bad s p.1)
sub_bad (sub_skip b {ys = ys} s) h = sub_bad s (or_parts (not b && some_break ys) (is_bad ys) h).1
sub_bad (sub_break_more some s) h = sub_bad s h

skip_all : (bs : List Bool) {xs ms : List Bool} → Sub xs ms → Sub xs (bs ++ ms)
skip_all [] h = h
skip_all (b ∷ bs) h = sub_skip b (skip_all bs h)

-- entries and those after them
entry_marks_append : (k : Program) (xs ys : List Entry) (ms : List Bool) → entry_marks k (xs ++ ys) ++ ms ≡ entry_marks k xs ++ (entry_marks k ys ++ ms)
entry_marks_append k xs ys ms = ap (λ bs. bs ++ ms) (entry_marks-append k xs ys) ∙ append_assoc (entry_marks k xs) (entry_marks k ys) ms

entry_marks_append_sub : (k : Program) (xs ys : List Entry) {bs : List Bool} (ms : List Bool) → Sub bs (entry_marks k xs ++ (entry_marks k ys ++ ms)) → Sub bs (entry_marks k (xs ++ ys) ++ ms)
entry_marks_append_sub k xs ys {bs = bs} ms h = subst (Sub bs) (sym (entry_marks_append k xs ys ms)) h

module _ (k : Program) where
  load_sub : (scope : Scope) (mask : Option ℕ) (q : ℕ) (env : List Bound) (a : List ℕ) (o : Option ℤ) (gathered rest : List Item) (inner : List Entry) (ms : List Bool) → Sub (marks rest) ms → Sub (marks gathered) (entry_marks k inner ++ (false ∷ ms)) → Sub (marks (load_item scope mask q env a o gathered rest)) (entry_marks k (inner_entries o inner) ++ (put_mark (is_none o) false [] ++ ms))
  load_sub scope mask q env a None gathered rest inner ms h g = g
  load_sub scope mask q env a (Some c) gathered rest inner ms h g = h

  record TermSub (t : Term) : Type 0 where
    as_value : (scope : Scope) (want : Option Ty) (mask : Option ℕ) (from g last_use : ℕ) (env : List Bound) (rest : List Item) (ms : List Bool) → scope.index ≡ loop_index k → Sub (marks rest) ms → Sub (marks (term_items scope want mask from env t rest)) (entry_marks k (term_entries k g last_use t) ++ ms)
    as_cond : (scope : Scope) (mask : Option ℕ) (from g last_use : ℕ) (env : List Bound) (rest : List Item) (ms : List Bool) → scope.index ≡ loop_index k → Sub (marks rest) ms → Sub (marks (cond_items scope mask from env t rest)) (entry_marks k (term_entries k g last_use t) ++ ms)

  term_sub : (t : Term) → TermSub t
  term_sub (Literal n) = record { as_value = λ scope want mask from g u env rest ms q h. h; as_cond = λ scope mask from g u env rest ms q h. h }
  term_sub (Variable x) = record { as_value = λ scope want mask from g u env rest ms q h. h; as_cond = λ scope mask from g u env rest ms q h. h }
  term_sub (Element a i) = record {
    as_value = λ scope want mask from g u env rest ms q h.
        let p : ℕ = from + index_items scope.index i in
        let item' : ℕ = g + index_items (loop_index k) i in
        let inner : List Entry = term_entries k g item' i in
        let last : Entry = entry k item' (IsRead a i) u in
        let gathered : List Item = term_items scope (index_type scope i) mask from env i (gather_item scope mask from p env a i ∷ rest) in
        subst (λ (o : Option ℤ). Sub (marks (load_item scope mask p env a o gathered rest)) (entry_marks k (inner_entries (stream_offset (loop_index k) i) inner ++ last ∷ []) ++ ms)) (sym (ap (λ (j : Option (List ℕ)). stream_offset j i) q))
        (entry_marks_append_sub k (inner_entries (stream_offset (loop_index k) i) inner) (last ∷ []) _
        (load_sub scope mask p env a (stream_offset (loop_index k) i) gathered rest inner ms h ((term_sub i).as_value scope (index_type scope i) mask from g item' env (gather_item scope mask from p env a i ∷ rest) (false ∷ ms) q (sub_keep false h))));
    as_cond = λ scope mask from g u env rest ms q h. skip_all (entry_marks k (term_entries k g u (Element a i))) h;
  }
  term_sub (Unary op e) = record {
    as_value = λ scope want mask from g u env rest ms q h. entry_marks_append_sub k (term_entries k g _ e) _ _ ((term_sub e).as_value scope want mask from g _ env _ ms q h);
    as_cond = λ scope mask from g u env rest ms q h. skip_all (entry_marks k (term_entries k g u (Unary op e))) h;
  }
  term_sub (Operation op x y) = record {
    as_value = λ scope want mask from g u env rest ms q h. entry_marks_append_sub k (term_entries k g _ x) _ _ ((term_sub x).as_value scope want mask from g _ env _ _ q (entry_marks_append_sub k (term_entries k _ _ y) _ _ ((term_sub y).as_value scope want mask _ _ _ env _ ms q h)));
    as_cond = λ scope mask from g u env rest ms q h. skip_all (entry_marks k (term_entries k g u (Operation op x y))) h;
  }
  term_sub (Shift toward e n) = record {
    as_value = λ scope want mask from g u env rest ms q h. entry_marks_append_sub k (term_entries k g _ e) _ _ ((term_sub e).as_value scope want mask from g _ env _ ms q h);
    as_cond = λ scope mask from g u env rest ms q h. skip_all (entry_marks k (term_entries k g u (Shift toward e n))) h;
  }
  term_sub (Conversion e t) = record {
    as_value = λ scope want mask from g u env rest ms q h. entry_marks_append_sub k (term_entries k g _ e) _ _ ((term_sub e).as_value scope (own scope e) mask from g _ env _ ms q h);
    as_cond = λ scope mask from g u env rest ms q h. skip_all (entry_marks k (term_entries k g u (Conversion e t))) h;
  }
  term_sub (Choice c x y) = record {
    as_value = λ scope want mask from g u env rest ms q h.
        entry_marks_append_sub k (term_entries k g _ x) _ _
        ((term_sub x).as_value scope want mask from g _ env _ _ q (entry_marks_append_sub k (term_entries k _ _ y) _ _ ((term_sub y).as_value scope want mask _ _ _ env _ _ q (entry_marks_append_sub k (term_entries k _ _ c) _ _ ((term_sub c).as_cond scope mask _ _ _ env _ ms q h)))));
    as_cond = λ scope mask from g u env rest ms q h. skip_all (entry_marks k (term_entries k g u (Choice c x y))) h;
  }
  term_sub (Comparison op x y) = record {
    as_value = λ scope want mask from g u env rest ms q h. skip_all (entry_marks k (term_entries k g u (Comparison op x y))) h;
    as_cond = λ scope mask from g u env rest ms q h. entry_marks_append_sub k (term_entries k g _ x) _ _ ((term_sub x).as_value scope (side_type scope x y) mask from g _ env _ _ q (entry_marks_append_sub k (term_entries k _ _ y) _ _ ((term_sub y).as_value scope (side_type scope x y) mask _ _ _ env _ ms q h)));
  }
  term_sub (Both x y) = record {
    as_value = λ scope want mask from g u env rest ms q h. skip_all (entry_marks k (term_entries k g u (Both x y))) h;
    as_cond = λ scope mask from g u env rest ms q h. entry_marks_append_sub k (term_entries k g _ x) _ _ ((term_sub x).as_cond scope mask from g _ env _ _ q (entry_marks_append_sub k (term_entries k _ _ y) _ _ ((term_sub y).as_cond scope (Some (truth_home scope.index from x)) _ _ _ env _ ms q h)));
  }
  term_sub (Either x y) = record {
    as_value = λ scope want mask from g u env rest ms q h. skip_all (entry_marks k (term_entries k g u (Either x y))) h;
    as_cond = λ scope mask from g u env rest ms q h. entry_marks_append_sub k (term_entries k g _ x) _ _ ((term_sub x).as_cond scope mask from g _ env _ _ q (entry_marks_append_sub k (term_entries k _ _ y) _ _ ((term_sub y).as_cond scope (Some (from + term_size scope.index x)) _ _ _ env _ ms q h)));
  }
  term_sub (Not e) = record {
    as_value = λ scope want mask from g u env rest ms q h. skip_all (entry_marks k (term_entries k g u (Not e))) h;
    as_cond = λ scope mask from g u env rest ms q h. entry_marks_append_sub k (term_entries k g _ e) _ _ ((term_sub e).as_cond scope mask from g _ env _ ms q h);
  }

store_sub : (scope : Scope) (mask : Option ℕ) (q : ℕ) (env : List Bound) (a : List ℕ) (o : Option ℤ) (v : Operand) (rest : List Item) (ms : List Bool) → Sub (marks rest) ms → Sub (marks (store_item scope mask q env a o v rest)) (false ∷ ms)
store_sub scope mask q env a None v rest ms s = sub_skip false s
store_sub scope mask q env a (Some c) v rest ms s = sub_keep false s

-- the breaks of a condition stand before the one break of its listing
break_sub : (k : Program) (c : Term) (scope : Scope) (mask : Option ℕ) (from g u : ℕ) (env : List Bound) (rest : List Item) (ms : List Bool) → scope.index ≡ loop_index k → some_break ms ≡ true → Sub (marks rest) ms → Sub (marks (break_items scope mask from env c rest)) (entry_marks k (term_entries k g u c) ++ ms)
break_sub k c scope mask from g u env rest ms q some h = (term_sub k c).as_cond scope mask from g u env _ ms q (sub_break_more some h)

break_later : (xs ys : List Bool) → some_break ys ≡ true → some_break (xs ++ ys) ≡ true
break_later [] ys e = e
break_later (true ∷ xs) ys e = refl
break_later (false ∷ xs) ys e = break_later xs ys e

leave_sub : (k : Program) (c : Term) (scope : Scope) (mask : Option ℕ) (from g u : ℕ) (env : List Bound) (rest : List Item) (ms : List Bool) → scope.index ≡ loop_index k → some_break ms ≡ true → Sub (marks rest) ms → Sub (marks (leave_items scope mask from env c rest)) (entry_marks k (term_entries k g u c) ++ ms)
leave_sub k (Either x y) scope mask from g u env rest ms q some h =
    let mark = g + term_size (loop_index k) x in
    let item' = mark + 1 + term_size (loop_index k) y in
    let last : List Entry = entry k item' (IsPlain kind.Or) u ∷ [] in
    let later : List Entry = entry k mark (IsPlain kind.Mark) item' ∷ (term_entries k (mark + 1) item' y ++ last) in
    entry_marks_append_sub k (term_entries k g item' x) later _
    (leave_sub k x scope mask from g item' env _ (entry_marks k later ++ ms) q (break_later (entry_marks k later) ms some)
    (entry_marks_append_sub k (term_entries k (mark + 1) item' y) last _ (break_sub k y scope mask _ (mark + 1) item' env rest ms q some h)))
leave_sub k c scope mask from g u env rest ms q some h = break_sub k c scope mask from g u env rest ms q some h

mutual
  action_sub : (k : Program) (s : Action) (scope : Scope) (mask : Option ℕ) (from g : ℕ) (env : List Bound) (rest : List Item) (ms : List Bool) → scope.index ≡ loop_index k → Sub (marks rest) ms → Sub (marks (action_items scope mask from env s rest)) (entry_marks k (action_entries k g s) ++ ms)
  action_sub k (Define x t e) scope mask from g env rest ms q h = entry_marks_append_sub k (term_entries k g _ e) _ _ ((term_sub k e).as_value scope (first t (own scope e)) mask from g _ env _ ms q h)
  action_sub k (Put a i e) scope mask from g env rest ms q h = entry_marks_append_sub k (term_entries k g _ e) _ _ ((term_sub k e).as_value scope (array_type scope a) mask from g _ env _ (false ∷ ms) q (store_sub scope mask _ env a (stream_offset scope.index i) _ rest ms h))
  action_sub k (Update x op e) scope mask from g env rest ms q h = entry_marks_append_sub k (term_entries k g _ e) _ _ ((term_sub k e).as_value scope (accumulator_of scope x) mask from g _ env _ (false ∷ ms) q (sub_keep false h))
  action_sub k (Choose c b d) scope mask from g env rest ms q h =
      let first = g + term_size (loop_index k) c in
      let following = first + 1 + block_size (loop_index k) b in
      let end = following + otherwise_size (loop_index k) d in
      let last : List Entry = otherwise_entries k following end d ++ entry k end (IsPlain kind.End) end ∷ [] in
      entry_marks_append_sub k (term_entries k g following c) _ _
      ((term_sub k c).as_cond scope mask from g following env _ (entry_marks k (block_entries k (first + 1) b ++ last) ++ ms) q
      (entry_marks_append_sub k (block_entries k (first + 1) b) last _
      (block_sub k b scope (Some (truth_home scope.index from c)) _ (first + 1) env _ (entry_marks k last ++ ms) q
      (entry_marks_append_sub k (otherwise_entries k following end d) (entry k end (IsPlain kind.End) end ∷ []) _ (otherwise_sub k d (left scope (after_block scope b)) mask _ (truth_home scope.index from c) following end env rest ms q h)))))
  action_sub k (Leave c) scope mask from g env rest ms q h = entry_marks_append_sub k (term_entries k g _ c) _ _ (leave_sub k c scope mask from g _ env rest (true ∷ ms) q refl (sub_skip true h))

  block_sub : (k : Program) (b : Block) (scope : Scope) (mask : Option ℕ) (from g : ℕ) (env : List Bound) (rest : List Item) (ms : List Bool) → scope.index ≡ loop_index k → Sub (marks rest) ms → Sub (marks (block_items scope mask from env b rest)) (entry_marks k (block_entries k g b) ++ ms)
  block_sub k Done scope mask from g env rest ms q h = h
  block_sub k (Then s b) scope mask from g env rest ms q h =
      let after = g + action_size (loop_index k) s in
      entry_marks_append_sub k (action_entries k g s) (block_entries k after b) _ (action_sub k s scope mask from g env _ (entry_marks k (block_entries k after b) ++ ms) q (block_sub k b (after_action scope s) mask _ after (after_env scope from env s) rest ms (index_after scope s ∙ q) h))

  otherwise_sub : (k : Program) (d : Otherwise) (scope : Scope) (mask : Option ℕ) (from c g end : ℕ) (env : List Bound) (rest : List Item) (ms : List Bool) → scope.index ≡ loop_index k → Sub (marks rest) ms → Sub (marks (otherwise_items scope mask from c env d rest)) (entry_marks k (otherwise_entries k g end d) ++ ms)
  otherwise_sub k Nothing scope mask from c g end env rest ms q h = h
  otherwise_sub k (Else b) scope mask from c g end env rest ms q h = block_sub k b scope (Some from) (from + 1) (g + 1) env rest ms q h

-- ---- the split

item_break : (items : List Item) → list_any is_loop_break items ≡ some_break (marks items)
item_break [] = refl
item_break (it ∷ items) = by it.op (item_break items)
  where
    by : (op : Op) → list_any is_loop_break items ≡ some_break (marks items) → (breaks_loop op || list_any is_loop_break items) ≡ some_break (put_mark (writes op) (breaks_loop op) (marks items))
    by (ops.Load a base t c) h = h
    by (ops.Gather a base t r u x) h = h
    by (ops.Unary op t x) h = h
    by (ops.Binary op t x y) h = h
    by (ops.Shift left n t x) h = h
    by (ops.Cast own t x) h = h
    by (ops.Let t x) h = h
    by (ops.Select t c x y) h = h
    by (ops.Store a base t c v) h = h
    by (ops.Update x op t v) h = h
    by (ops.Compare op t x y) h = h
    by (ops.Not c) h = h
    by (ops.And c) h = h
    by (ops.Or c d) h = h
    by (ops.Break c) h = refl

-- what stands before a break, and what is after it, where no write is before a break
step_unwritten : (w q any : Bool) (bs : List Bool) → any ≡ some_break bs → (w ≡ true → q ≡ false) → is_bad (put_mark w q bs) ≡ false → (q || any) ≡ true → w ≡ false
step_unwritten false q any bs e only h yes' = refl
step_unwritten true q any bs e only h yes' =
    let none : some_break bs ≡ false = (or_parts (some_break bs) (is_bad bs) h).0 in
    let both : (q || any) ≡ false = ap₂ (λ x y. x || y) (only refl) (e ∙ none) in
    absurd cc

following_bad : (w q : Bool) (bs : List Bool) → is_bad (put_mark w q bs) ≡ false → is_bad bs ≡ false
following_bad false false bs h = h
following_bad false true bs h = h
following_bad true q bs h = (or_parts (some_break bs) (is_bad bs) h).1

only_one : (op : Op) → writes op ≡ true → breaks_loop op ≡ false
only_one (ops.Store a base t c v) e = refl
only_one (ops.Update x op t v) e = refl
only_one (ops.Load a base t c) e = refl
only_one (ops.Gather a base t r u x) e = refl
only_one (ops.Unary op t x) e = refl
only_one (ops.Binary op t x y) e = refl
only_one (ops.Shift left n t x) e = refl
only_one (ops.Cast own t x) e = refl
only_one (ops.Let t x) e = refl
only_one (ops.Select t c x y) e = refl
only_one (ops.Compare op t x y) e = refl
only_one (ops.Not c) e = refl
only_one (ops.And c) e = refl
only_one (ops.Or c d) e = refl
only_one (ops.Break c) e = absurd cc

region_unwritten : (items : List Item) → is_bad (marks items) ≡ false → list_any is_write (region_of items) ≡ false
region_unwritten [] h = refl
region_unwritten (it ∷ items) h = by (list_any is_loop_break (it ∷ items)) refl (region_unwritten items (following_bad (writes it.op) (breaks_loop it.op) (marks items) h))
  where
    by : (b : Bool) → list_any is_loop_break (it ∷ items) ≡ b → list_any is_write (region_of items) ≡ false → list_any is_write (if b then it ∷ region_of items else []) ≡ false
    by true e ih = ap₂ (λ x y. x || y) (step_unwritten (writes it.op) (breaks_loop it.op) (list_any is_loop_break items) (marks items) (item_break items) (only_one it.op) h e) ih
    by false e ih = refl

split_whole : (items : List Item) → region_of items ++ rest_of items ≡ items
split_whole [] = refl
split_whole (it ∷ items) = by (list_any is_loop_break (it ∷ items)) (split_whole items)
  where
    by : (b : Bool) → region_of items ++ rest_of items ≡ items → (if b then it ∷ region_of items else []) ++ (if b then rest_of items else it ∷ items) ≡ it ∷ items
    by true ih = ap (λ r. it ∷ r) ih
    by false ih = refl

split_unbroken : (items : List Item) → list_any is_loop_break (rest_of items) ≡ false
split_unbroken [] = refl
split_unbroken (it ∷ items) = by (list_any is_loop_break (it ∷ items)) refl (split_unbroken items)
  where
    by : (b : Bool) → list_any is_loop_break (it ∷ items) ≡ b → list_any is_loop_break (rest_of items) ≡ false → list_any is_loop_break (if b then rest_of items else it ∷ items) ≡ false
    by true e ih = ih
    by false e ih = e

-- an effect that writes nothing
abbrev pub IsQuiet : Effect → Type 0
IsQuiet (Writes a k v) = ⊥
IsQuiet (Keeps l) = Unit {0}
IsQuiet Halts = Unit {0}

load_quiet : (l : Lane) (q : ℕ) (b : Bool) (o : Option ℤ) (k : Lane) → IsQuiet (if b then load_effect l q o else Keeps k)
load_quiet l q true None k = tt
load_quiet l q true (Some v) k = tt
load_quiet l q false o k = tt

break_quiet : (b : Bool) (l : Lane) → IsQuiet (if b then Halts else Keeps l)
break_quiet true l = tt
break_quiet false l = tt

pub op_quiet : (names : Names) (q i : ℕ) (b : Bool) (m : Memory) (l : Lane) (op : Op) → writes op ≡ false → IsQuiet (op_effect op names q i b m l)
op_quiet names q i b m l (ops.Load a base t c) e = load_quiet l q b _ _
op_quiet names q i b m l (ops.Gather a base t r u x) e = absurd cc
op_quiet names q i b m l (ops.Unary op t x) e = tt
op_quiet names q i b m l (ops.Binary op t x y) e = tt
op_quiet names q i b m l (ops.Shift left n t x) e = tt
op_quiet names q i b m l (ops.Cast own t x) e = tt
op_quiet names q i b m l (ops.Let t x) e = tt
op_quiet names q i b m l (ops.Select t c x y) e = tt
op_quiet names q i b m l (ops.Store a base t c v) e = absurd cc
op_quiet names q i b m l (ops.Update x op t v) e = absurd cc
op_quiet names q i b m l (ops.Compare op t x y) e = tt
op_quiet names q i b m l (ops.Not c) e = tt
op_quiet names q i b m l (ops.And c) e = tt
op_quiet names q i b m l (ops.Or c d) e = tt
op_quiet names q i b m l (ops.Break c) e = break_quiet (b && l.truth c) l

all_quiet : (names : Names) (items : List Item) → list_any is_write items ≡ false → AllQuiet (acts_of names items)
all_quiet names [] h = tt
all_quiet names (it ∷ items) h =
    let parts = or_parts (is_write it) (list_any is_write items) h in
    (record { never = λ i m l a k v e. subst IsQuiet e (op_quiet names it.item i (on_mask it.mask l) m l it.op parts.0) }, all_quiet names items parts.1)

nothing_following : (bs : List Bool) → bs ++ [] ≡ bs
nothing_following [] = refl
nothing_following (b ∷ bs) = ap (λ r. b ∷ r) (nothing_following bs)

pub region_splits : RegionSplits
region_splits k l is e =
    let items = loop_items k l in
    let inner : List Entry = block_entries k (loop_start k + 1) l.body in
    let entries : entry_marks k (loop_entries k) ≡ entry_marks k inner = ap (λ o. entry_marks k (for_loop_entries k (loop_start k) o)) is in
    let sub : Sub (marks items) (entry_marks k inner) = subst (Sub (marks items)) (nothing_following (entry_marks k inner)) (block_sub k l.body (in_loop (var_scope k) l) None (loop_start k + 1) (loop_start k + 1) (loop_env (var_scope k) l.index) [] [] (scope_index k) sub_none) in
    let good : is_bad (marks items) ≡ false = sub_bad sub (ap is_bad (sym entries) ∙ entry_good k (loop_entries k) (loop_entries k) (class_facts k e).unbroken (class_facts k e).gathered) in
    let unwritten = region_unwritten items good in
    record {
      whole = split_whole items;
      unbroken = split_unbroken items;
      unwritten = unwritten;
      quiet = λ names. all_quiet names (region_of items) unwritten;
    }
