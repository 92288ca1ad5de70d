-- What class Vector says of a read at a computed index, where the read stands in the tree.
use Rattle.std.proofs.Common.{◌≡◌, ℕ, zero, suc, ◌+◌, ◌-◌, Bool, true, false, cond, List, [], ◌∷◌, ◌++◌, length, drop, Option, Some, None, refl, sym, ap, ap₂, ◌∙◌, subst, arith}
use Rattle.std.proofs.lemmas.List.{append_assoc, length-append}
use Rattle.std.specs.Prelude.{ℤ, option_and_then, if◌then◌else◌}
use Rattle.kernel_tree.specs.declared.ops.Ty.{Ty}
use Rattle.kernel_tree.specs.declared.ops.Ty.TheVariants as ty
use Rattle.kernel_tree.specs.Plain.{Term, Literal, Variable, Element, Unary, Operation, Shift, Conversion, Choice, Comparison, Both, Either, Not, Action, Define, Put, Update, Choose, Leave, Block, Done, Then, Otherwise, Nothing, Else, Program}
use Rattle.kernel_tree.specs.Items.{stream_offset, loop_index, index_size, index_items, term_size, action_size, block_size, otherwise_size}
use Rattle.kernel_tree.specs.Kinds.{IsValue, IsTruth, ActionKinds, BlockKinds, OtherwiseKinds}
use Rattle.kernel_tree.specs.Typing.{Scope, Role, wanted, Value, Condition, own, first, index_type, side_type, element_type, accumulator_type, lookup, after_action, after_block, left, inner_types, term_types, action_types, block_types, otherwise_types, types_of}
use Rattle.kernel_tree.specs.Checked as checked
use Rattle.kernel_tree.proofs.Scopes.{index_after}
use Rattle.loop_form.specs.Entries.{Content, IsRead, Entry, entry, item_type, inner_entries, term_entries, action_entries, block_entries, otherwise_entries}
use Rattle.loop_form.specs.Reaches.{is_widened, source_type, reach_of_type}
use Rattle.loop_form.specs.LoopItems.{index_source}
use Rattle.loop_form.proofs.ItemTypes.{get_drop}
use Rattle.vector_order.proofs.ReadyTerms.{Computed}
use Rattle.vector_order.proofs.Calms.{Calmly, CalmAction, CalmBlock, CalmOtherwise}

-- ---- the types of items from a number on

abbrev pub From : Program → ℕ → List (Option Ty) → Type 0
From k g ts = (more : List (Option Ty)) × (drop g (types_of k) ≡ ts ++ more)

abbrev empty_list : (A : Type 0) → List A
empty_list A = []

pub drop_append : {A : Type 0} (n : ℕ) (xs ys : List A) → length xs ≡ n → drop n (xs ++ ys) ≡ ys
drop_append zero [] ys e = refl
drop_append zero (x ∷ xs) ys e = absurd cc
drop_append (suc n) [] ys e = absurd cc
drop_append (suc n) (x ∷ xs) ys e = drop_append n xs ys (omega (arith, e))

drop_none : (A : Type 0) (n : ℕ) → drop n (empty_list A) ≡ empty_list A
drop_none A zero = refl
drop_none A (suc n) = refl

pub drop_twice : {A : Type 0} (g n : ℕ) (xs : List A) → drop (g + n) xs ≡ drop n (drop g xs)
drop_twice zero n xs = ap (λ m. drop m xs) (omega arith)
drop_twice {A = A} (suc g) n [] = drop_none A (suc g + n) ∙ sym (ap (drop n) (drop_none A (suc g)) ∙ drop_none A n)
drop_twice (suc g) n (x ∷ xs) = ap (λ m. drop m (x ∷ xs)) (let e : suc g + n ≡ suc (g + n) = omega arith in e) ∙ drop_twice g n xs

module _ (k : Program) where
  from_left : (g : ℕ) (xs ys : List (Option Ty)) → From k g (xs ++ ys) → From k g xs
  from_left g xs ys h = (ys ++ h.0, h.1 ∙ append_assoc xs ys h.0)

  from_right : (g n : ℕ) (xs ys : List (Option Ty)) → length xs ≡ n → From k g (xs ++ ys) → From k (g + n) ys
  from_right g n xs ys e h = (h.0, drop_twice g n (types_of k) ∙ ap (drop n) (h.1 ∙ append_assoc xs ys h.0) ∙ drop_append n xs (ys ++ h.0) e)

  next : (g : ℕ) (t : Option Ty) (ts : List (Option Ty)) → From k g (t ∷ ts) → From k (g + 1) ts
  next g t ts h = from_right g 1 (t ∷ []) ts refl h

  from_head_type : (g : ℕ) (t : Option Ty) (ts : List (Option Ty)) → From k g (t ∷ ts) → item_type k g ≡ t
  unfolding item_type
  from_head_type g t ts h = ap checked.flat (get_drop (types_of k) g t (ts ++ h.0) h.1)

  -- as many types as items
  inner_length : (o : Option ℤ) (ts : List (Option Ty)) (n : ℕ) → length ts ≡ n → length (inner_types o ts) ≡ index_size o n
  inner_length None ts n e = e
  inner_length (Some c) ts n e = refl

  length_append_is : (xs ys : List (Option Ty)) (m n : ℕ) → length xs ≡ m → length ys ≡ n → length (xs ++ ys) ≡ m + n
  length_append_is xs ys m n e f = length-append xs ys ∙ ap₂ (λ (a : ℕ) (b : ℕ). a + b) e f

  pub many : (t : Term) (scope : Scope) (role : Role) → length (term_types scope role t) ≡ term_size scope.index t
  many (Literal n) scope role = refl
  many (Variable x) scope role = refl
  many (Element a i) scope role = length_append_is (inner_types (stream_offset scope.index i) (term_types scope (Value (index_type scope i)) i)) _ (index_items scope.index i) 1 (inner_length (stream_offset scope.index i) _ (term_size scope.index i) (many i scope (Value (index_type scope i)))) refl
  many (Unary op e) scope role = length_append_is (term_types scope (Value (wanted role)) e) _ (term_size scope.index e) 1 (many e scope (Value (wanted role))) refl
  many (Operation op a b) scope role = length_append_is (term_types scope (Value (wanted role)) a) _ (term_size scope.index a) (term_size scope.index b + 1) (many a scope (Value (wanted role))) (length_append_is (term_types scope (Value (wanted role)) b) _ (term_size scope.index b) 1 (many b scope (Value (wanted role))) refl) ∙ omega arith
  many (Shift l e n) scope role = length_append_is (term_types scope (Value (wanted role)) e) _ (term_size scope.index e) 1 (many e scope (Value (wanted role))) refl
  many (Conversion e t) scope role = length_append_is (term_types scope (Value (own scope e)) e) _ (term_size scope.index e) 1 (many e scope (Value (own scope e))) refl
  many (Choice c a b) scope role =
      length_append_is (term_types scope (Value (wanted role)) a) _ (term_size scope.index a) (term_size scope.index b + (term_size scope.index c + 1)) (many a scope (Value (wanted role)))
      (length_append_is (term_types scope (Value (wanted role)) b) _ (term_size scope.index b) (term_size scope.index c + 1) (many b scope (Value (wanted role))) (length_append_is (term_types scope Condition c) _ (term_size scope.index c) 1 (many c scope Condition) refl)) ∙ omega arith
  many (Comparison op a b) scope role = length_append_is (term_types scope (Value (side_type scope a b)) a) _ (term_size scope.index a) (term_size scope.index b + 1) (many a scope (Value (side_type scope a b))) (length_append_is (term_types scope (Value (side_type scope a b)) b) _ (term_size scope.index b) 1 (many b scope (Value (side_type scope a b))) refl) ∙ omega arith
  many (Both a b) scope role = length_append_is (term_types scope Condition a) _ (term_size scope.index a) (term_size scope.index b + 1) (many a scope Condition) (length_append_is (term_types scope Condition b) _ (term_size scope.index b) 1 (many b scope Condition) refl) ∙ omega arith
  many (Either a b) scope role = length_append_is (term_types scope Condition a) _ (term_size scope.index a) (1 + (term_size scope.index b + 1)) (many a scope Condition) (ap suc (length_append_is (term_types scope Condition b) _ (term_size scope.index b) 1 (many b scope Condition) refl) ∙ omega arith) ∙ omega arith
  many (Not e) scope role = length_append_is (term_types scope Condition e) _ (term_size scope.index e) 1 (many e scope Condition) refl

  -- the last item of a value has the type that is wanted
  last_of : (g n : ℕ) (xs : List (Option Ty)) (w : Option Ty) → length xs ≡ n → From k g (xs ++ w ∷ []) → item_type k (g + n) ≡ w
  last_of g n xs w e h = from_head_type (g + n) w [] (from_right g n xs (w ∷ []) e h)

  last_two : (g m n : ℕ) (xs ys : List (Option Ty)) (w : Option Ty) → length xs ≡ m → length ys ≡ n → From k g (xs ++ (ys ++ w ∷ [])) → item_type k (g + m + n) ≡ w
  last_two g m n xs ys w e f h = last_of (g + m) n ys w f (from_right g m xs (ys ++ w ∷ []) e h)

  as_last : (g n m : ℕ) (w : Option Ty) → m ≡ n → item_type k m ≡ w → item_type k n ≡ w
  as_last g n m w e h = ap (item_type k) (sym e) ∙ h

  root : (t : Term) (scope : Scope) (want : Option Ty) (g : ℕ) → IsValue t → From k g (term_types scope (Value want) t) → item_type k (g + term_size scope.index t - 1) ≡ want
  root (Literal n) scope want g v h = as_last g _ g want (omega arith) (from_head_type g want [] h)
  root (Variable x) scope want g v h = as_last g _ g want (omega arith) (from_head_type g want [] h)
  root (Element a i) scope want g v h = as_last g _ (g + index_items scope.index i) want (omega arith) (last_of g (index_items scope.index i) (inner_types (stream_offset scope.index i) (term_types scope (Value (index_type scope i)) i)) want (inner_length (stream_offset scope.index i) _ (term_size scope.index i) (many i scope (Value (index_type scope i)))) h)
  root (Unary op e) scope want g v h = as_last g _ (g + term_size scope.index e) want (omega arith) (last_of g (term_size scope.index e) (term_types scope (Value want) e) want (many e scope (Value want)) h)
  root (Operation op a b) scope want g v h = as_last g _ (g + term_size scope.index a + term_size scope.index b) want (omega arith) (last_two g (term_size scope.index a) (term_size scope.index b) (term_types scope (Value want) a) (term_types scope (Value want) b) want (many a scope (Value want)) (many b scope (Value want)) h)
  root (Shift l e n) scope want g v h = as_last g _ (g + term_size scope.index e) want (omega arith) (last_of g (term_size scope.index e) (term_types scope (Value want) e) want (many e scope (Value want)) h)
  root (Conversion e t) scope want g v h = as_last g _ (g + term_size scope.index e) want (omega arith) (last_of g (term_size scope.index e) (term_types scope (Value (own scope e)) e) want (many e scope (Value (own scope e))) h)
  root (Choice c a b) scope want g v h =
      as_last g _ (g + term_size scope.index a + term_size scope.index b + term_size scope.index c) want (omega arith)
      (last_two (g + term_size scope.index a) (term_size scope.index b) (term_size scope.index c) (term_types scope (Value want) b) (term_types scope Condition c) want (many b scope (Value want)) (many c scope Condition)
      (from_right g (term_size scope.index a) (term_types scope (Value want) a) _ (many a scope (Value want)) h))
  root (Comparison op a b) scope want g v h = elim v [ ]
  root (Both a b) scope want g v h = elim v [ ]
  root (Either a b) scope want g v h = elim v [ ]
  root (Not e) scope want g v h = elim v [ ]

  -- the type that a computed index comes from, by the listing and by the scope
  own_first : (o : Option Ty) (t : Ty) → is_widened o t ≡ true → o ≡ first o (Some ty.U64)
  own_first None t e = absurd cc
  own_first (Some u) t e = refl

  pub source_is : (t : Term) (scope : Scope) (want : Option Ty) (g : ℕ) → want ≡ index_type scope t → IsValue t → From k g (term_types scope (Value want) t) → source_type k (g + term_size scope.index t - 1) t ≡ index_source scope t
  source_is (Conversion e t) scope want g w v h =
      let last : g + term_size scope.index (Conversion e t) - 1 ≡ g + term_size scope.index e = omega arith in
      let part = from_left g (term_types scope (Value (own scope e)) e) (want ∷ []) h in
      ap (λ l. source_type k l (Conversion e t)) last
      ∙ ap (λ o. if is_widened o t then source_type k (g + term_size scope.index e - 1) e else Some t) (root e scope (own scope e) g v part)
      ∙ by (is_widened (own scope e) t) refl (λ q. source_is e scope (own scope e) g q v part)
    where
      by : (b : Bool) → is_widened (own scope e) t ≡ b → (own scope e ≡ index_type scope e → source_type k (g + term_size scope.index e - 1) e ≡ index_source scope e) → cond b (source_type k (g + term_size scope.index e - 1) e) (Some t) ≡ cond b (index_source scope e) (Some t)
      by true q ih = ih (own_first (own scope e) t q)
      by false q ih = refl
  source_is (Literal n) scope want g w v h = root (Literal n) scope want g v h ∙ w
  source_is (Variable x) scope want g w v h = root (Variable x) scope want g v h ∙ w
  source_is (Element a i) scope want g w v h = root (Element a i) scope want g v h ∙ w
  source_is (Unary op e) scope want g w v h = root (Unary op e) scope want g v h ∙ w
  source_is (Operation op a b) scope want g w v h = root (Operation op a b) scope want g v h ∙ w
  source_is (Shift l e n) scope want g w v h = root (Shift l e n) scope want g v h ∙ w
  source_is (Choice c a b) scope want g w v h = root (Choice c a b) scope want g v h ∙ w
  source_is (Comparison op a b) scope want g w v h = elim v [ ]
  source_is (Both a b) scope want g w v h = elim v [ ]
  source_is (Either a b) scope want g w v h = elim v [ ]
  source_is (Not e) scope want g w v h = elim v [ ]

  -- ---- from the listing to the tree

  module _ (C : List ℕ → Option ℕ → Type 0) where
    abbrev pub CalmContent : Content → ℕ → Type 0
    CalmContent (IsRead a i) item = Computed (stream_offset (loop_index k) i) (C a (reach_of_type (source_type k (item - 1) i)))
    CalmContent _ item = Unit {0}

    abbrev pub CalmEntries : List Entry → Type 0
    CalmEntries [] = Unit {0}
    CalmEntries (e ∷ es) = CalmContent e.content e.item × CalmEntries es

    calm_left : (xs ys : List Entry) → CalmEntries (xs ++ ys) → CalmEntries xs
    calm_left [] ys h = tt
    calm_left (x ∷ xs) ys h = (h.0, calm_left xs ys h.1)

    calm_right : (xs ys : List Entry) → CalmEntries (xs ++ ys) → CalmEntries ys
    calm_right [] ys h = h
    calm_right (x ∷ xs) ys h = calm_right xs ys h.1

    size_at : (t : Term) (scope : Scope) → scope.index ≡ loop_index k → term_size scope.index t ≡ term_size (loop_index k) t
    size_at t scope e = ap (λ (j : Option (List ℕ)). term_size j t) e

    -- the types after those of an expression
    from_past_term : (t : Term) (scope : Scope) (role : Role) (g : ℕ) (ts : List (Option Ty)) → scope.index ≡ loop_index k → From k g (term_types scope role t ++ ts) → From k (g + term_size (loop_index k) t) ts
    from_past_term t scope role g ts e h = from_right g (term_size (loop_index k) t) (term_types scope role t) ts (many t scope role ∙ size_at t scope e) h

    record TermCalms (t : Term) : Type 0 where
      as_value : (scope : Scope) (want : Option Ty) (g last_use : ℕ) → scope.index ≡ loop_index k → IsValue t → From k g (term_types scope (Value want) t) → CalmEntries (term_entries k g last_use t) → Calmly C scope t
      as_cond : (scope : Scope) (g last_use : ℕ) → scope.index ≡ loop_index k → IsTruth t → From k g (term_types scope Condition t) → CalmEntries (term_entries k g last_use t) → Calmly C scope t

    term_calms : (t : Term) → TermCalms t
    term_calms (Literal n) = record { as_value = λ scope want g last_use e v h a. tt; as_cond = λ scope g last_use e c h a. elim c [ ] }
    term_calms (Variable x) = record { as_value = λ scope want g last_use e v h a. tt; as_cond = λ scope g last_use e c h a. elim c [ ] }
    term_calms (Element b i) = record {
      as_value = λ scope want g last_use e v h a.
          let offset = ap (λ (j : Option (List ℕ)). stream_offset j i) e in
          subst (λ (o : Option ℤ). Computed o (C b (reach_of_type (index_source scope i)) × Calmly C scope i)) (sym offset)
          (by scope want g last_use e v (λ h a. (term_calms i).as_value scope (index_type scope i) g (g + index_items (loop_index k) i) e v h a) (stream_offset (loop_index k) i) refl (subst (λ (o : Option ℤ). From k g (inner_types o (term_types scope (Value (index_type scope i)) i) ++ want ∷ [])) offset h) a);
      as_cond = λ scope g last_use e c h a. elim c [ ];
    }
      where
        by : (scope : Scope) (want : Option Ty) (g last_use : ℕ) → scope.index ≡ loop_index k → IsValue i → (From k g (term_types scope (Value (index_type scope i)) i) → CalmEntries (term_entries k g (g + index_items (loop_index k) i) i) → Calmly C scope i) → (o : Option ℤ) → stream_offset (loop_index k) i ≡ o → From k g (inner_types o (term_types scope (Value (index_type scope i)) i) ++ want ∷ [])
            → CalmEntries (inner_entries (stream_offset (loop_index k) i) (term_entries k g (g + index_items (loop_index k) i) i) ++ entry k (g + index_items (loop_index k) i) (IsRead b i) last_use ∷ [])
            → Computed o (C b (reach_of_type (index_source scope i)) × Calmly C scope i)
        by scope want g last_use e v ih (Some c) q f a = tt
        by scope want g last_use e v ih None q f a =
            let inner : List Entry = term_entries k g (g + index_items (loop_index k) i) i in
            let part = from_left g (term_types scope (Value (index_type scope i)) i) (want ∷ []) f in
            let mine = (calm_right (inner_entries (stream_offset (loop_index k) i) inner) (entry k (g + index_items (loop_index k) i) (IsRead b i) last_use ∷ []) a).0 in
            let items : index_items (loop_index k) i ≡ term_size scope.index i = ap (λ (o : Option ℤ). index_size o (term_size (loop_index k) i)) q ∙ sym (size_at i scope e) in
            let number : g + index_items (loop_index k) i - 1 ≡ g + term_size scope.index i - 1 = ap (λ n. g + n - 1) items in
            let read : C b (reach_of_type (source_type k (g + index_items (loop_index k) i - 1) i)) = subst (λ (o : Option ℤ). Computed o (C b (reach_of_type (source_type k (g + index_items (loop_index k) i - 1) i)))) q mine in (
              subst (λ s. C b (reach_of_type s)) (ap (λ l. source_type k l i) number ∙ source_is i scope (index_type scope i) g refl v part) read,
              ih part (subst (λ (o : Option ℤ). CalmEntries (inner_entries o inner)) q (calm_left (inner_entries (stream_offset (loop_index k) i) inner) (entry k (g + index_items (loop_index k) i) (IsRead b i) last_use ∷ []) a)),
            )
    term_calms (Unary op x) = record { as_value = λ scope want g last_use e v h a. (term_calms x).as_value scope want g _ e v (from_left g (term_types scope (Value want) x) _ h) (calm_left (term_entries k g _ x) _ a); as_cond = λ scope g last_use e c h a. elim c [ ] }
    term_calms (Operation op x y) = record {
      as_value = λ scope want g last_use e v h a. (
        (term_calms x).as_value scope want g _ e v.0 (from_left g (term_types scope (Value want) x) _ h) (calm_left (term_entries k g _ x) _ a),
        (term_calms y).as_value scope want _ _ e v.1 (from_left _ (term_types scope (Value want) y) _ (from_past_term x scope (Value want) g _ e h)) (calm_left (term_entries k _ _ y) _ (calm_right (term_entries k g _ x) _ a)),
      );
      as_cond = λ scope g last_use e c h a. elim c [ ];
    }
    term_calms (Shift l x n) = record { as_value = λ scope want g last_use e v h a. (term_calms x).as_value scope want g _ e v (from_left g (term_types scope (Value want) x) _ h) (calm_left (term_entries k g _ x) _ a); as_cond = λ scope g last_use e c h a. elim c [ ] }
    term_calms (Conversion x t) = record { as_value = λ scope want g last_use e v h a. (term_calms x).as_value scope (own scope x) g _ e v (from_left g (term_types scope (Value (own scope x)) x) _ h) (calm_left (term_entries k g _ x) _ a); as_cond = λ scope g last_use e c h a. elim c [ ] }
    term_calms (Choice c x y) = record {
      as_value = λ scope want g last_use e v h a.
          let h1 = from_past_term x scope (Value want) g _ e h in
          let h2 = from_past_term y scope (Value want) (g + term_size (loop_index k) x) _ e h1 in
          let a1 = calm_right (term_entries k g _ x) _ a in
          let a2 = calm_right (term_entries k _ _ y) _ a1 in (
            (term_calms c).as_cond scope _ _ e v.2 (from_left _ (term_types scope Condition c) _ h2) (calm_left (term_entries k _ _ c) _ a2),
            (term_calms x).as_value scope want g _ e v.0 (from_left g (term_types scope (Value want) x) _ h) (calm_left (term_entries k g _ x) _ a),
            (term_calms y).as_value scope want _ _ e v.1 (from_left _ (term_types scope (Value want) y) _ h1) (calm_left (term_entries k _ _ y) _ a1),
          );
      as_cond = λ scope g last_use e c' h a. elim c' [ ];
    }
    term_calms (Comparison op x y) = record {
      as_value = λ scope want g last_use e v h a. elim v [ ];
      as_cond = λ scope g last_use e c h a.
          let want : Option Ty = side_type scope x y in (
            (term_calms x).as_value scope want g _ e c.0 (from_left g (term_types scope (Value want) x) _ h) (calm_left (term_entries k g _ x) _ a),
            (term_calms y).as_value scope want _ _ e c.1 (from_left _ (term_types scope (Value want) y) _ (from_past_term x scope (Value want) g _ e h)) (calm_left (term_entries k _ _ y) _ (calm_right (term_entries k g _ x) _ a)),
          );
    }
    term_calms (Both x y) = record {
      as_value = λ scope want g last_use e v h a. elim v [ ];
      as_cond = λ scope g last_use e c h a. (
        (term_calms x).as_cond scope g _ e c.0 (from_left g (term_types scope Condition x) _ h) (calm_left (term_entries k g _ x) _ a),
        (term_calms y).as_cond scope _ _ e c.1 (from_left _ (term_types scope Condition y) _ (from_past_term x scope Condition g _ e h)) (calm_left (term_entries k _ _ y) _ (calm_right (term_entries k g _ x) _ a)),
      );
    }
    term_calms (Either x y) = record {
      as_value = λ scope want g last_use e v h a. elim v [ ];
      as_cond = λ scope g last_use e c h a. (
        (term_calms x).as_cond scope g _ e c.0 (from_left g (term_types scope Condition x) _ h) (calm_left (term_entries k g _ x) _ a),
        (term_calms y).as_cond scope _ _ e c.1 (from_left _ (term_types scope Condition y) _ (next _ None _ (from_past_term x scope Condition g _ e h))) (calm_left (term_entries k _ _ y) _ (calm_right (term_entries k g _ x) _ a).1),
      );
    }
    term_calms (Not x) = record { as_value = λ scope want g last_use e v h a. elim v [ ]; as_cond = λ scope g last_use e c h a. (term_calms x).as_cond scope g _ e c (from_left g (term_types scope Condition x) _ h) (calm_left (term_entries k g _ x) _ a) }

    -- as many types as items of statements
    mutual
      many_action : (s : Action) (scope : Scope) → scope.index ≡ loop_index k → length (action_types scope s) ≡ action_size (loop_index k) s
      many_action (Define x t v) scope e = length_append_is (term_types scope (Value (first t (own scope v))) v) _ (term_size (loop_index k) v) 1 (many v scope (Value (first t (own scope v))) ∙ size_at v scope e) refl
      many_action (Put b i v) scope e = length_append_is (term_types scope (Value (option_and_then element_type (lookup scope b))) v) _ (term_size (loop_index k) v) 1 (many v scope (Value (option_and_then element_type (lookup scope b))) ∙ size_at v scope e) refl
      many_action (Update x op v) scope e = length_append_is (term_types scope (Value (option_and_then accumulator_type (lookup scope x))) v) _ (term_size (loop_index k) v) 1 (many v scope (Value (option_and_then accumulator_type (lookup scope x))) ∙ size_at v scope e) refl
      many_action (Choose c b d) scope e =
          length_append_is (term_types scope Condition c) _ (term_size (loop_index k) c) (1 + (block_size (loop_index k) b + (otherwise_size (loop_index k) d + 1))) (many c scope Condition ∙ size_at c scope e)
          (ap suc (length_append_is (block_types scope b) _ (block_size (loop_index k) b) (otherwise_size (loop_index k) d + 1) (many_block b scope e) (length_append_is (otherwise_types (left scope (after_block scope b)) d) _ (otherwise_size (loop_index k) d) 1 (many_otherwise d (left scope (after_block scope b)) e) refl)) ∙ omega arith)
          ∙ omega arith
      many_action (Leave c) scope e = length_append_is (term_types scope Condition c) _ (term_size (loop_index k) c) 1 (many c scope Condition ∙ size_at c scope e) refl

      many_block : (b : Block) (scope : Scope) → scope.index ≡ loop_index k → length (block_types scope b) ≡ block_size (loop_index k) b
      many_block Done scope e = refl
      many_block (Then s b) scope e = length_append_is (action_types scope s) _ (action_size (loop_index k) s) (block_size (loop_index k) b) (many_action s scope e) (many_block b (after_action scope s) (index_after scope s ∙ e))

      many_otherwise : (d : Otherwise) (scope : Scope) → scope.index ≡ loop_index k → length (otherwise_types scope d) ≡ otherwise_size (loop_index k) d
      many_otherwise Nothing scope e = refl
      many_otherwise (Else b) scope e = ap suc (many_block b scope e) ∙ omega arith

    mutual
      calm_action : (s : Action) (scope : Scope) (g : ℕ) → scope.index ≡ loop_index k → ActionKinds s → From k g (action_types scope s) → CalmEntries (action_entries k g s) → CalmAction C scope s
      calm_action (Define x t v) scope g e kinds h a = (term_calms v).as_value scope (first t (own scope v)) g _ e kinds (from_left g (term_types scope (Value (first t (own scope v))) v) _ h) (calm_left (term_entries k g _ v) _ a)
      calm_action (Put b i v) scope g e kinds h a = (term_calms v).as_value scope (option_and_then element_type (lookup scope b)) g _ e kinds (from_left g (term_types scope (Value (option_and_then element_type (lookup scope b))) v) _ h) (calm_left (term_entries k g _ v) _ a)
      calm_action (Update x op v) scope g e kinds h a = (term_calms v).as_value scope (option_and_then accumulator_type (lookup scope x)) g _ e kinds (from_left g (term_types scope (Value (option_and_then accumulator_type (lookup scope x))) v) _ h) (calm_left (term_entries k g _ v) _ a)
      calm_action (Choose c b d) scope g e kinds h a =
          let scope' : Scope = left scope (after_block scope b) in
          let h1 = next _ None _ (from_past_term c scope Condition g _ e h) in
          let h2 = from_right _ (block_size (loop_index k) b) (block_types scope b) _ (many_block b scope e) h1 in
          let a1 = (calm_right (term_entries k g _ c) _ a).1 in (
            (term_calms c).as_cond scope g _ e kinds.0 (from_left g (term_types scope Condition c) _ h) (calm_left (term_entries k g _ c) _ a),
            calm_block b scope _ e kinds.1 (from_left _ (block_types scope b) _ h1) (calm_left (block_entries k _ b) _ a1),
            calm_otherwise d scope' _ _ e kinds.2 (from_left _ (otherwise_types scope' d) _ h2) (calm_left (otherwise_entries k _ _ d) _ (calm_right (block_entries k _ b) _ a1)),
          )
      calm_action (Leave c) scope g e kinds h a = (term_calms c).as_cond scope g _ e kinds (from_left g (term_types scope Condition c) _ h) (calm_left (term_entries k g _ c) _ a)

      pub calm_block : (b : Block) (scope : Scope) (g : ℕ) → scope.index ≡ loop_index k → BlockKinds b → From k g (block_types scope b) → CalmEntries (block_entries k g b) → CalmBlock C scope b
      calm_block Done scope g e kinds h a = tt
      calm_block (Then s b) scope g e kinds h a = (
        calm_action s scope g e kinds.0 (from_left g (action_types scope s) _ h) (calm_left (action_entries k g s) _ a),
        calm_block b (after_action scope s) _ (index_after scope s ∙ e) kinds.1 (from_right g (action_size (loop_index k) s) (action_types scope s) _ (many_action s scope e) h) (calm_right (action_entries k g s) _ a),
      )

      calm_otherwise : (d : Otherwise) (scope : Scope) (g end : ℕ) → scope.index ≡ loop_index k → OtherwiseKinds d → From k g (otherwise_types scope d) → CalmEntries (otherwise_entries k g end d) → CalmOtherwise C scope d
      calm_otherwise Nothing scope g end e kinds h a = tt
      calm_otherwise (Else b) scope g end e kinds h a = calm_block b scope (g + 1) e kinds (next g None _ h) a.1
