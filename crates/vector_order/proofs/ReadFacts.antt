-- What class Vector says of the reads at computed indexes.
use Rattle.std.proofs.Common.{◌≡◌, ◌≢◌, ℕ, suc, ◌+◌, ◌-◌, ◌<◌, ◌≤◌, Bool, true, false, cond, List, [], ◌∷◌, ◌++◌, length, drop, Option, Some, None, ◌⊎◌, inl, inr, refl, sym, ap, ap₂, ◌∙◌, subst, arith}
use Rattle.std.proofs.lemmas.List.{append_assoc}
use Rattle.std.specs.Prelude.{ℤ, is_none, bytes_eq, filter_map}
use Rattle.std.specs.List.{list_any, cons_option}
use Rattle.std.proofs.lemmas.Bool.{or_parts}
use Rattle.kernel_tree.specs.declared.ops.Ty.{Ty}
use Rattle.kernel_tree.specs.declared.ops.Ty.TheVariants as ty
use Rattle.kernel_tree.specs.Plain.{Term, Parameter, Accumulator, PlainLoop, Program}
use Rattle.kernel_tree.specs.Items.{stream_offset, loop_index, loop_start, term_size, vars_size}
use Rattle.kernel_tree.specs.Typing.{Scope, Value, declared, check_fault, in_loop, param_scope, var_scope, after_for_loop, block_types, term_types, params_types, vars_types, for_loop_types, answer_types, types_of}
use Rattle.kernel_tree.specs.declared.fault.Binding.TheVariants as binding
use Rattle.kernel_tree.proofs.Names.{bytes_eq-refl, bytes_eq-told}
use Rattle.kernel_tree.proofs.Scopes.{param_index, scope_index}
use Rattle.kernel_tree.proofs.RightKinds.{body-kinds}
use Rattle.loop_form.specs.declared.stream.Stream.{Stream}
use Rattle.loop_form.specs.Entries.{Content, IsLiteral, IsName, IsRead, IsLet, IsStore, IsUpdate, IsPlain, Entry, for_loop_entries, loop_entries}
use Rattle.loop_form.specs.Streams.{place_from, place_of, access, access_of, stream_of, streams_of, In}
use Rattle.dependence.specs.Apart.{is_store}
use Rattle.loop_form.specs.declared.reach.Reach.{Reach}
use Rattle.loop_form.specs.Reaches.{source_type, reach_of_type, reach_of, content_reach, reached, reach_at, reach_in}
use Rattle.dependence.specs.Classes.{is_storing, store_content, stores_to, content_stores_to, computed_index, class_of}
use Rattle.dependence.specs.declared.reason.Class.TheVariants.{Vector}
use Rattle.vector_order.specs.Apart.{Among}
use Rattle.dependence.proofs.ClassLaws.{class_facts, GatherFacts, gather_facts}
use Rattle.vector_order.proofs.ElementClears.{Calm, ReadCalm}
use Rattle.vector_order.proofs.ReadyTerms.{Computed}
use Rattle.vector_order.proofs.Calms.{CalmBlock}
use Rattle.vector_order.proofs.CalmKernels.{From, drop_append, drop_twice, many, CalmContent, CalmEntries, calm_block}

-- ---- stores

-- where no item stores, no access does
no_store : (k : Program) (es : List Entry) → list_any is_storing es ≡ false → list_any is_store (filter_map (stream_of k) es) ≡ false
no_store k [] h = refl
no_store k (e ∷ es) h = let parts = or_parts (is_storing e) (list_any is_storing es) h in by e.content refl (no_store k es parts.1) parts.0
  where
    read : (o : Option ℕ) (c : Option ℤ) (item : ℕ) (ss : List Stream) → list_any is_store ss ≡ false → list_any is_store (cons_option (access o c false item) ss) ≡ false
    read None c item ss h = h
    read (Some p) None item ss h = h
    read (Some p) (Some c) item ss h = h

    there : {c : Content} → e.content ≡ c → list_any is_store (cons_option (access_of k c e.item) (filter_map (stream_of k) es)) ≡ false → list_any is_store (filter_map (stream_of k) (e ∷ es)) ≡ false
    there f h = subst (λ c. list_any is_store (cons_option (access_of k c e.item) (filter_map (stream_of k) es)) ≡ false) (sym f) h

    by : (c : Content) → e.content ≡ c → list_any is_store (filter_map (stream_of k) es) ≡ false → store_content e.content ≡ false → list_any is_store (filter_map (stream_of k) (e ∷ es)) ≡ false
    by (IsLiteral n) at ih q = there at ih
    by (IsName x) at ih q = there at ih
    by (IsRead a i) at ih q = there at (read (place_of a k.params) (stream_offset (loop_index k) i) e.item (filter_map (stream_of k) es) ih)
    by (IsLet x) at ih q = there at ih
    by (IsStore a i) at ih q = let no : true ≡ false = sym (ap store_content at) ∙ q in absurd cc
    by (IsUpdate x op) at ih q = there at ih
    by (IsPlain p) at ih q = there at ih

-- two names of one place are one
place_up : (x : List ℕ) (n p : ℕ) (ps : List Parameter) → place_from x n ps ≡ Some p → n ≤ p
place_up x n p [] e = absurd cc
place_up x n p (q ∷ ps) e = by (bytes_eq q.name x) e (place_up x (n + 1) p ps)
  where
    by : (b : Bool) → cond b (Some n) (place_from x (n + 1) ps) ≡ Some p → (place_from x (n + 1) ps ≡ Some p → n + 1 ≤ p) → n ≤ p
    by true e h = let f : n ≡ p = cc in omega (arith, f)
    by false e h = let f = h e in omega (arith, f)

place_name : (x y : List ℕ) (n p : ℕ) (ps : List Parameter) → place_from x n ps ≡ Some p → place_from y n ps ≡ Some p → x ≡ y
place_name x y n p [] e f = absurd cc
place_name x y n p (q ∷ ps) e f = by (bytes_eq q.name x) (bytes_eq q.name y) refl refl e f (place_name x y (n + 1) p ps)
  where
    by : (b c : Bool) → bytes_eq q.name x ≡ b → bytes_eq q.name y ≡ c → cond b (Some n) (place_from x (n + 1) ps) ≡ Some p → cond c (Some n) (place_from y (n + 1) ps) ≡ Some p → (place_from x (n + 1) ps ≡ Some p → place_from y (n + 1) ps ≡ Some p → x ≡ y) → x ≡ y
    by true true g h e f ih = sym (bytes_eq-told q.name x g) ∙ bytes_eq-told q.name y h
    by true false g h e f ih = let at : n ≡ p = cc in let up = place_up y (n + 1) p ps f in absurd (omega (arith, at, up))
    by false true g h e f ih = let at : n ≡ p = cc in let up = place_up x (n + 1) p ps e in absurd (omega (arith, at, up))
    by false false g h e f ih = ih e f

-- an array to which no item stores is that of no store
unstored_place : (k : Program) (a : List ℕ) (p : ℕ) (s : Stream) (es : List Entry) → place_of a k.params ≡ Some p → list_any (stores_to a) es ≡ false → In s (filter_map (stream_of k) es) → s.store ≡ true → (s.param ≡ p → ⊥)
unstored_place k a p s [] at h is store = absurd is
unstored_place k a p s (e ∷ es) at h is store = let parts = or_parts (stores_to a e) (list_any (stores_to a) es) h in by e.content refl parts.0 is (λ is. unstored_place k a p s es at parts.1 is store)
  where
    read : (o : Option ℕ) (c : Option ℤ) (item : ℕ) (ss : List Stream) → In s (cons_option (access o c false item) ss) → (In s ss → s.param ≢ p) → s.param ≢ p
    read None c item ss is h = h is
    read (Some q) None item ss is h = h is
    read (Some q) (Some c) item ss (inl one) h = let no : true ≡ false = sym store ∙ ap (λ (s : Stream). s.store) (sym one) in absurd cc
    read (Some q) (Some c) item ss (inr is) h = h is

    stored : (b : List ℕ) (o : Option ℕ) → place_of b k.params ≡ o → (c : Option ℤ) (item : ℕ) (ss : List Stream) → bytes_eq b a ≡ false → In s (cons_option (access o c true item) ss) → (In s ss → s.param ≢ p) → s.param ≢ p
    stored b None q c item ss other is h same = h is same
    stored b (Some r) q None item ss other is h same = h is same
    stored b (Some r) q (Some c) item ss other (inr is) h same = h is same
    stored b (Some r) q (Some c) item ss other (inl one) h same =
        let there : r ≡ p = ap (λ (s : Stream). s.param) one ∙ same in
        let names : b ≡ a = place_name b a 0 p k.params (q ∙ ap Some there) at in
        let no : true ≡ false = sym (bytes_eq-refl a) ∙ ap (λ x. bytes_eq x a) (sym names) ∙ other in
        cc

    here : {c : Content} → e.content ≡ c → In s (filter_map (stream_of k) (e ∷ es)) → In s (cons_option (access_of k c e.item) (filter_map (stream_of k) es))
    here f is = subst (λ c. In s (cons_option (access_of k c e.item) (filter_map (stream_of k) es))) f is

    by : (c : Content) → e.content ≡ c → content_stores_to a e.content ≡ false → In s (filter_map (stream_of k) (e ∷ es)) → (In s (filter_map (stream_of k) es) → s.param ≢ p) → s.param ≢ p
    by (IsLiteral n) f q is h = h (here f is)
    by (IsName x) f q is h = h (here f is)
    by (IsRead b i) f q is h = read (place_of b k.params) (stream_offset (loop_index k) i) e.item (filter_map (stream_of k) es) (here f is) h
    by (IsLet x) f q is h = h (here f is)
    by (IsStore b i) f q is h = stored b (place_of b k.params) refl (stream_offset (loop_index k) i) e.item (filter_map (stream_of k) es) (sym (ap (content_stores_to a) f) ∙ q) (here f is) h
    by (IsUpdate x op) f q is h = h (here f is)
    by (IsPlain x) f q is h = h (here f is)

-- ---- reaches

some_of : (o : Option ℕ) → is_none o ≡ false → (n : ℕ) × (o ≡ Some n)
some_of None e = absurd cc
some_of (Some n) e = (n, refl)

reach_size : (o : Option Ty) (n : ℕ) → reach_of_type o ≡ Some n → (0 < n) × (n ≤ 65536)
reach_size None n e = absurd cc
reach_size (Some ty.U8) n e = let f : 256 ≡ n = cc in (omega (arith, f), omega (arith, f))
reach_size (Some ty.U16) n e = let f : 65536 ≡ n = cc in (omega (arith, f), omega (arith, f))
reach_size other n e = absurd cc

-- an item's reach is among those of the items
among_all : (k : Program) (r : Reach) (before : List Entry) (e : Entry) (es : List Entry) → reach_at k e ≡ Some r → Among r (filter_map (reach_at k) (before ++ e ∷ es))
among_all k r [] e es h = subst (λ o. Among r (cons_option o (filter_map (reach_at k) es))) (sym h) (inl refl)
among_all k r (b ∷ before) e es h = by (reach_at k b) (among_all k r before e es h)
  where
    by : (o : Option Reach) → Among r (filter_map (reach_at k) (before ++ e ∷ es)) → Among r (cons_option o (filter_map (reach_at k) (before ++ e ∷ es)))
    by None h = h
    by (Some t) h = inr h

-- ---- reads

module _ (k : Program) (vector : class_of k ≡ Vector) where
  calm_read : (before : List Entry) (e : Entry) (rest : List Entry) (a : List ℕ) (i : Term) → before ++ e ∷ rest ≡ loop_entries k → e.content ≡ IsRead a i → stream_offset (loop_index k) i ≡ None → Calm k a (reach_of_type (source_type k (e.item - 1) i))
  calm_read before e rest a i split is computed p at = by (list_any is_storing (loop_entries k)) refl
    where
      facts : GatherFacts k (loop_entries k) rest a e
      facts = gather_facts k (loop_entries k) before rest e a i is (ap is_none computed) (subst (λ es. computed_index k (loop_entries k) es ≡ false) (sym split) (class_facts k vector).gathered)

      reach : Option ℕ
      reach = reach_of_type (source_type k (e.item - 1) i)

      reach_is : reach_of k e ≡ reach
      reach_is = ap (λ c. content_reach k c e.item) is ∙ unstreamed (stream_offset (loop_index k) i) computed
        where
          unstreamed : (o : Option ℤ) → o ≡ None → cond (Rattle.std.specs.Prelude.is_some o) None reach ≡ reach
          unstreamed None e = refl
          unstreamed (Some c) e = absurd cc

      by : (b : Bool) → list_any is_storing (loop_entries k) ≡ b → (list_any is_store (streams_of k) ≡ false) ⊎ ReadCalm k p reach
      by false none = inl (no_store k (loop_entries k) none)
      by true some =
          let found = some_of (reach_of k e) (facts.reached some) in
          let far : reach ≡ Some found.0 = sym reach_is ∙ found.1 in
          let size = reach_size (source_type k (e.item - 1) i) found.0 far in
          let listed : reach_at k e ≡ Some (record { param = p; reach = found.0 }) =
          ap (λ c. reach_in k c e.item) is ∙ ap₂ (λ o r. reached o r) at (sym (ap (λ c. content_reach k c e.item) is) ∙ found.1) in
          inr (record {
            unstored = λ s is store. unstored_place k a p s (loop_entries k) at facts.unstored is store;
            read = record { param = p; reach = found.0 };
            listed = subst (λ es. Among (record { param = p; reach = found.0 }) (filter_map (reach_at k) es)) split (among_all k (record { param = p; reach = found.0 }) before e rest listed);
            of = refl;
            far = far;
            some = size.0;
            few = size.1;
          })

  calm_from : (before es : List Entry) → before ++ es ≡ loop_entries k → CalmEntries k (Calm k) es
  calm_from before [] split = tt
  calm_from before (e ∷ es) split = (by e.content refl, calm_from (before ++ e ∷ []) es (append_assoc before (e ∷ []) es ∙ split))
    where
      by : (c : Content) → e.content ≡ c → CalmContent k (Calm k) c e.item
      by (IsLiteral n) is = tt
      by (IsName x) is = tt
      by (IsRead a i) is = at (stream_offset (loop_index k) i) refl
        where
          at : (o : Option ℤ) → stream_offset (loop_index k) i ≡ o → Computed o (Calm k a (reach_of_type (source_type k (e.item - 1) i)))
          at None q = calm_read before e es a i split is q
          at (Some c) q = tt
      by (IsLet x) is = tt
      by (IsStore a i) is = tt
      by (IsUpdate x op) is = tt
      by (IsPlain p) is = tt

  -- ---- the loop's part of the types

  params_many : (ps : List Parameter) → length (params_types ps) ≡ length ps
  params_many [] = refl
  params_many (p ∷ ps) = ap suc (params_many ps)

  vars_many : (vs : List Accumulator) (scope : Scope) → scope.index ≡ loop_index k → length (vars_types scope vs) ≡ vars_size (loop_index k) vs
  vars_many [] scope e = refl
  vars_many (v ∷ vs) scope e =
      Rattle.std.proofs.lemmas.List.length-append (term_types scope (Value (Some v.type)) v.init) _
      ∙ ap₂ (λ (a : ℕ) (b : ℕ). a + suc b) (many k v.init scope (Value (Some v.type)) ∙ ap (λ (j : Option (List ℕ)). term_size j v.init) e) (vars_many vs (declared scope v.name (binding.Accumulator v.type)) e)
      ∙ omega arith

  loop_types_from : (l : PlainLoop) → k.for_loop ≡ Some l → From k (loop_start k + 1) (block_types (in_loop (var_scope k) l) l.body)
  loop_types_from l loop =
      let rest : List (Option Ty) = answer_types (after_for_loop (var_scope k) k.for_loop) k.answer in
      let vars : List (Option Ty) = vars_types (param_scope k) k.vars in
      let first : drop (length k.params) (types_of k) ≡ vars ++ (for_loop_types (var_scope k) k.for_loop ++ rest) = drop_append (length k.params) (params_types k.params) _ (params_many k.params) in
      let second : drop (loop_start k) (types_of k) ≡ for_loop_types (var_scope k) k.for_loop ++ rest =
      drop_twice (length k.params) (vars_size (loop_index k) k.vars) (types_of k) ∙ ap (drop (vars_size (loop_index k) k.vars)) first ∙ drop_append (vars_size (loop_index k) k.vars) vars _ (vars_many k.vars (param_scope k) (param_index k)) in
      let third : drop (loop_start k) (types_of k) ≡ None ∷ (block_types (in_loop (var_scope k) l) l.body ++ rest) = second ∙ ap (λ o. for_loop_types (var_scope k) o ++ rest) loop in
      (rest, drop_twice (loop_start k) 1 (types_of k) ∙ ap (drop 1) third)

  -- each read of the loop's body at a computed index
  pub calm_body : (l : PlainLoop) → check_fault k ≡ None → k.for_loop ≡ Some l → CalmBlock (Calm k) (in_loop (var_scope k) l) l.body
  calm_body l checked loop =
      let all : CalmEntries k (Calm k) (for_loop_entries k (loop_start k) (Some l)) = subst (λ o. CalmEntries k (Calm k) (for_loop_entries k (loop_start k) o)) loop (calm_from [] (loop_entries k) refl) in
      calm_block k (Calm k) l.body (in_loop (var_scope k) l) (loop_start k + 1) (scope_index k) (body-kinds k l checked loop) (loop_types_from l loop) all.1
