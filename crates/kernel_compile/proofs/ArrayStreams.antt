-- In a kernel that meets the rules each access of the loop is one to an array parameter.
use Rattle.std.proofs.Common.{◌≡◌, ℕ, ◌+◌, ℤ, Bool, true, false, List, [], ◌∷◌, ◌++◌, Option, Some, None, sym, ap, ◌∙◌, subst, inl, inr}
use Rattle.std.specs.Prelude.{option_and_then, filter_map}
use Rattle.std.specs.List.{cons_option}
use Rattle.kernel_tree.specs.declared.ops.Ty.{Ty}
use Rattle.kernel_tree.specs.Plain.{Term, Literal, Variable, Element, Unary, Operation, Shift, Conversion, Choice, Comparison, Both, Either, Not, Action, Define, Put, Update, Choose, Leave, Block, Done, Then, Otherwise, Nothing, Else, Parameter, PlainLoop, Program}
use Rattle.kernel_tree.specs.Items.{stream_offset, loop_index, index_items, loop_start}
use Rattle.kernel_tree.specs.Typing.{Scope, Local, Role, Value, lookup, element_type, as_value, read_faults, wanted, first, own, faults, inner_faults, index_faults, action_faults, block_faults, otherwise_faults, after_action, after_block, defined, left, in_loop, var_scope, for_loop_faults, check_fault}
use Rattle.kernel_tree.proofs.Names.{array_of, array_before}
use Rattle.kernel_tree.proofs.Faultless.{nil-left, nil-right, loop_faultless}
use Rattle.kernel_tree.proofs.NoFault.{read_some, target_some}
use Rattle.kernel_tree.proofs.Scopes.{index_after, scope_index}
use Rattle.loop_form.specs.declared.stream.Stream.{Stream}
use Rattle.loop_form.specs.declared.reach.Reach.{Reach}
use Rattle.loop_form.specs.Reaches.{read_reach, reached, reach_in, reach_at, reaches_of}
use Rattle.vector_order.specs.Apart.{Among}
use Rattle.loop_form.specs.Entries.{Content, IsLiteral, IsName, IsRead, IsLet, IsStore, IsUpdate, IsPlain, Entry, inner_entries, term_entries, action_entries, block_entries, otherwise_entries, for_loop_entries, loop_entries}
use Rattle.loop_form.specs.Streams.{place_of, access, access_of, stream_of, streams_of, type_of_place, In}
use Rattle.loop_form.proofs.ArrayNames.{head_fits}
use Rattle.kernel_tree.specs.declared.ops.Ty.TheVariants as ty
use Rattle.kernel_tree.specs.declared.fault.Found as fault

-- an array that the loop may name is a parameter
abbrev Found : List Parameter → List Local → Type 0
Found ps vs = (a : List ℕ) (t : Ty) → array_of vs a ≡ Some t → (p : ℕ) × (place_of a ps ≡ Some p) × (type_of_place ps p ≡ Some t)

record IsArray (ps : List Parameter) (a : List ℕ) : Type 0 where
  place : ℕ
  type : Ty
  found : place_of a ps ≡ Some place
  typed : type_of_place ps place ≡ Some type

abbrev HasArray : List Parameter → Content → Type 0
HasArray ps (IsRead a i) = IsArray ps a
HasArray ps (IsStore a i) = IsArray ps a
HasArray ps _ = Unit {0}

abbrev AreArrays : List Parameter → List Entry → Type 0
AreArrays ps [] = Unit {0}
AreArrays ps (e ∷ es) = HasArray ps e.content × AreArrays ps es

-- ---- a name where the rules ask for an array

is_array : (ps : List Parameter) (s : Scope) (a : List ℕ) → Found ps s.visible → (t : Ty) × (option_and_then element_type (lookup s a) ≡ Some t) → IsArray ps a
is_array ps s a f h = let r = f a h.0 h.1 in record { place = r.0; type = h.0; found = r.1; typed = r.2 }

-- ---- the items of the loop

arrays-append : (ps : List Parameter) (xs ys : List Entry) → AreArrays ps xs → AreArrays ps ys → AreArrays ps (xs ++ ys)
arrays-append ps [] ys p q = q
arrays-append ps (x ∷ xs) ys p q = (p.0, arrays-append ps xs ys p.1 q)

inner_arrays : (ps : List Parameter) (o : Option ℤ) (es : List Entry) (fs : List fault.Found) → (fs ≡ [] → AreArrays ps es) → inner_faults o fs ≡ [] → AreArrays ps (inner_entries o es)
inner_arrays ps None es fs f e = f e
inner_arrays ps (Some c) es fs f e = tt

module _ (k : Program) where
  term_arrays : (t : Term) (s : Scope) (from : ℕ) (role : Role) (f u : ℕ) → s.index ≡ loop_index k → Found k.params s.visible → faults s from role t ≡ [] → AreArrays k.params (term_entries k f u t)
  term_arrays (Literal n) s from role f u q v h = (tt, tt)
  term_arrays (Variable x) s from role f u q v h = (tt, tt)
  term_arrays (Element a i) s from role f u q v h =
      let item : ℕ = from + index_items s.index i in
      let fs = faults s from (Value (first (own s i) (Some ty.U64))) i in
      let inner : inner_faults (stream_offset s.index i) fs ≡ [] = nil-left _ _ h in
      let outer : as_value item role ++ (read_faults item s.inside (wanted role) (lookup s a) ++ index_faults item (stream_offset s.index i) (own s i)) ≡ [] = nil-right (inner_faults (stream_offset s.index i) fs) _ h in
      let read : read_faults item s.inside (wanted role) (lookup s a) ≡ [] = nil-left _ _ (nil-right (as_value item role) _ outer) in
      arrays-append k.params _ _
      (inner_arrays k.params (stream_offset (loop_index k) i) (term_entries k f (f + index_items (loop_index k) i) i) fs (term_arrays i s from (Value (first (own s i) (Some ty.U64))) f (f + index_items (loop_index k) i) q v) (subst (λ (j : Option (List ℕ)). inner_faults (stream_offset j i) fs ≡ []) q inner))
      (is_array k.params s a v (read_some item s.inside (wanted role) (lookup s a) read), tt)
  term_arrays (Unary op e) s from role f u q v h = arrays-append k.params _ _ (term_arrays e s from (Value (wanted role)) f _ q v (nil-left _ _ h)) (tt, tt)
  term_arrays (Operation op a b) s from role f u q v h = arrays-append k.params _ _ (term_arrays a s _ _ f _ q v (nil-left _ _ h)) (arrays-append k.params _ _ (term_arrays b s _ _ _ _ q v (nil-left _ _ (nil-right _ _ h))) (tt, tt))
  term_arrays (Shift l e n) s from role f u q v h = arrays-append k.params _ _ (term_arrays e s _ _ f _ q v (nil-left _ _ h)) (tt, tt)
  term_arrays (Conversion e t) s from role f u q v h = arrays-append k.params _ _ (term_arrays e s _ _ f _ q v (nil-left _ _ h)) (tt, tt)
  term_arrays (Choice c a b) s from role f u q v h =
      arrays-append k.params _ _ (term_arrays a s _ _ f _ q v (nil-left _ _ h)) (arrays-append k.params _ _ (term_arrays b s _ _ _ _ q v (nil-left _ _ (nil-right _ _ h))) (arrays-append k.params _ _ (term_arrays c s _ _ _ _ q v (nil-left _ _ (nil-right _ _ (nil-right _ _ h)))) (tt, tt)))
  term_arrays (Comparison op a b) s from role f u q v h = arrays-append k.params _ _ (term_arrays a s _ _ f _ q v (nil-left _ _ h)) (arrays-append k.params _ _ (term_arrays b s _ _ _ _ q v (nil-left _ _ (nil-right _ _ h))) (tt, tt))
  term_arrays (Both a b) s from role f u q v h = arrays-append k.params _ _ (term_arrays a s _ _ f _ q v (nil-left _ _ h)) (arrays-append k.params _ _ (term_arrays b s _ _ _ _ q v (nil-left _ _ (nil-right _ _ h))) (tt, tt))
  term_arrays (Either a b) s from role f u q v h = arrays-append k.params _ _ (term_arrays a s _ _ f _ q v (nil-left _ _ h)) (tt, arrays-append k.params _ _ (term_arrays b s _ _ _ _ q v (nil-left _ _ (nil-right _ _ h))) (tt, tt))
  term_arrays (Not e) s from role f u q v h = arrays-append k.params _ _ (term_arrays e s _ _ f _ q v (nil-left _ _ h)) (tt, tt)

  let_found : (s : Scope) (x : List ℕ) (o : Option Ty) → Found k.params s.visible → Found k.params (defined s x o).visible
  let_found s x None v a t e = v a t e
  let_found s x (Some u) v a t e = v a t (array_before s.visible x a u t e)

  action_found : (s : Scope) (a : Action) → Found k.params s.visible → Found k.params (after_action s a).visible
  action_found s (Define x t e) v = let_found s x (first t (own s e)) v
  action_found s (Put a i e) v = v
  action_found s (Update x op e) v = v
  action_found s (Choose c b d) v = v
  action_found s (Leave c) v = v

  mutual
    action_arrays : (a : Action) (s : Scope) (from f : ℕ) → s.index ≡ loop_index k → Found k.params s.visible → action_faults s from a ≡ [] → AreArrays k.params (action_entries k f a)
    action_arrays (Define x t e) s from f q v h = arrays-append k.params _ _ (term_arrays e s _ _ f _ q v (nil-left _ _ h)) (tt, tt)
    action_arrays (Put a i e) s from f q v h =
        arrays-append k.params _ _ (term_arrays e s _ _ f _ q v (nil-left _ _ h))
        (is_array k.params s a v (target_some _ (lookup s a) (nil-left _ _ (nil-right _ _ h))), tt)
    action_arrays (Update x op e) s from f q v h = arrays-append k.params _ _ (term_arrays e s _ _ f _ q v (nil-left _ _ h)) (tt, tt)
    action_arrays (Choose c b d) s from f q v h =
        arrays-append k.params _ _ (term_arrays c s _ _ f _ q v (nil-left _ _ h)) (tt, arrays-append k.params _ _ (block_arrays b s _ _ q v (nil-left _ _ (nil-right _ _ h))) (arrays-append k.params _ _ (otherwise_arrays d (left s (after_block s b)) _ _ _ q v (nil-right _ _ (nil-right _ _ h))) (tt, tt)))
    action_arrays (Leave c) s from f q v h = arrays-append k.params _ _ (term_arrays c s _ _ f _ q v h) (tt, tt)

    block_arrays : (b : Block) (s : Scope) (from f : ℕ) → s.index ≡ loop_index k → Found k.params s.visible → block_faults s from b ≡ [] → AreArrays k.params (block_entries k f b)
    block_arrays Done s from f q v h = tt
    block_arrays (Then a b) s from f q v h = arrays-append k.params _ _ (action_arrays a s from f q v (nil-left _ _ h)) (block_arrays b (after_action s a) _ _ (index_after s a ∙ q) (action_found s a v) (nil-right _ _ h))

    otherwise_arrays : (d : Otherwise) (s : Scope) (from f end : ℕ) → s.index ≡ loop_index k → Found k.params s.visible → otherwise_faults s from d ≡ [] → AreArrays k.params (otherwise_entries k f end d)
    otherwise_arrays Nothing s from f end q v h = tt
    otherwise_arrays (Else b) s from f end q v h = (tt, block_arrays b s _ _ q v h)

  head_found : (l : PlainLoop) → Found k.params (in_loop (var_scope k) l).visible
  head_found l a t e = let r = head_fits k l a t e in (r.0, r.2, r.3)

  for_loop_arrays : (from f : ℕ) (o : Option PlainLoop) → (var_scope k).index ≡ loop_index k → for_loop_faults (var_scope k) from o ≡ [] → AreArrays k.params (for_loop_entries k f o)
  for_loop_arrays from f None q h = tt
  for_loop_arrays from f (Some l) q h = (tt, block_arrays l.body (in_loop (var_scope k) l) _ _ q (head_found l) (nil-right _ _ (nil-right _ _ h)))

loop_arrays : (k : Program) → check_fault k ≡ None → AreArrays k.params (loop_entries k)
loop_arrays k e = for_loop_arrays k _ (loop_start k) k.for_loop (scope_index k) (loop_faultless k e)

-- ---- the accesses

-- the access is one to an array parameter
abbrev pub IsTyped : List Parameter → Stream → Type 0
IsTyped ps s = (t : Ty) × (type_of_place ps s.param ≡ Some t)

access_typed : (ps : List Parameter) (o : Option ℕ) (c : Option ℤ) (b : Bool) (item : ℕ) (rest : List Stream) (s : Stream) (p : ℕ) (t : Ty) → o ≡ Some p → type_of_place ps p ≡ Some t → (In s rest → IsTyped ps s) → In s (cons_option (access o c b item) rest) → IsTyped ps s
access_typed ps None c b item rest s p t e h more i = absurd cc
access_typed ps (Some n) None b item rest s p t e h more i = more i
access_typed ps (Some n) (Some c) b item rest s p t e h more (inl same) =
    let place : n ≡ p = cc in
    (t, ap (λ (x : Stream). type_of_place ps x.param) (sym same) ∙ ap (type_of_place ps) place ∙ h)
access_typed ps (Some n) (Some c) b item rest s p t e h more (inr i) = more i

entries_typed : (k : Program) (es : List Entry) (s : Stream) → AreArrays k.params es → In s (filter_map (stream_of k) es) → IsTyped k.params s
entries_typed k [] s h i = elim i [ ]
entries_typed k (e ∷ es) s h i = by_content e.content h.0 (entries_typed k es s h.1) i
  where
    by_content : (c : Content) → HasArray k.params c → (In s (filter_map (stream_of k) es) → IsTyped k.params s) → In s (cons_option (access_of k c e.item) (filter_map (stream_of k) es)) → IsTyped k.params s
    by_content (IsLiteral n) a ih i = ih i
    by_content (IsName x) a ih i = ih i
    by_content (IsRead x j) a ih i = access_typed k.params (place_of x k.params) (stream_offset (loop_index k) j) false e.item _ s a.place a.type a.found a.typed ih i
    by_content (IsLet x) a ih i = ih i
    by_content (IsStore x j) a ih i = access_typed k.params (place_of x k.params) (stream_offset (loop_index k) j) true e.item _ s a.place a.type a.found a.typed ih i
    by_content (IsUpdate x op) a ih i = ih i
    by_content (IsPlain p) a ih i = ih i

pub streams_typed : (k : Program) → check_fault k ≡ None → (s : Stream) → In s (streams_of k) → IsTyped k.params s
streams_typed k e s i = entries_typed k (loop_entries k) s (loop_arrays k e) i

-- ---- the reads at computed indexes that have a reach

-- the read is of an array parameter
abbrev pub IsReadTyped : List Parameter → Reach → Type 0
IsReadTyped ps r = (t : Ty) × (type_of_place ps r.param ≡ Some t)

reached_typed : (ps : List Parameter) (o m : Option ℕ) (rest : List Reach) (r : Reach) (p : ℕ) (t : Ty) → o ≡ Some p → type_of_place ps p ≡ Some t → (Among r rest → IsReadTyped ps r) → Among r (cons_option (reached o m) rest) → IsReadTyped ps r
reached_typed ps None m rest r p t e h more i = absurd cc
reached_typed ps (Some n) None rest r p t e h more i = more i
reached_typed ps (Some n) (Some g) rest r p t e h more (inl same) =
    let place : n ≡ p = cc in
    (t, ap (λ (x : Reach). type_of_place ps x.param) (sym same) ∙ ap (type_of_place ps) place ∙ h)
reached_typed ps (Some n) (Some g) rest r p t e h more (inr i) = more i

reads_typed : (k : Program) (es : List Entry) (r : Reach) → AreArrays k.params es → Among r (filter_map (reach_at k) es) → IsReadTyped k.params r
reads_typed k [] r h i = elim i [ ]
reads_typed k (e ∷ es) r h i = by_content e.content h.0 (reads_typed k es r h.1) i
  where
    by_content : (c : Content) → HasArray k.params c → (Among r (filter_map (reach_at k) es) → IsReadTyped k.params r) → Among r (cons_option (reach_in k c e.item) (filter_map (reach_at k) es)) → IsReadTyped k.params r
    by_content (IsLiteral n) a ih i = ih i
    by_content (IsName x) a ih i = ih i
    by_content (IsRead x j) a ih i = reached_typed k.params (place_of x k.params) (read_reach k j e.item) _ r a.place a.type a.found a.typed ih i
    by_content (IsLet x) a ih i = ih i
    by_content (IsStore x j) a ih i = ih i
    by_content (IsUpdate x op) a ih i = ih i
    by_content (IsPlain p) a ih i = ih i

pub reaches_typed : (k : Program) → check_fault k ≡ None → (r : Reach) → Among r (reaches_of k) → IsReadTyped k.params r
reaches_typed k e r i = reads_typed k (loop_entries k) r (loop_arrays k e) i
