-- The type of each item of a listing is the one that its place wants.
use Rattle.std.proofs.Common.{◌≡◌, ℕ, zero, suc, ◌+◌, ℤ, List, [], ◌∷◌, ◌++◌, drop, map, Option, Some, None, refl, sym, ap, ◌∙◌, subst}
use Rattle.std.specs.Prelude.{slice_get}
use Rattle.kernel_tree.specs.declared.ops.Ty.{Ty}
use Rattle.kernel_tree.specs.Plain.{Term, Literal, Variable, Element, Unary, Operation, Shift, Conversion, Choice, Comparison, Both, Either, Not, Action, Define, Put, Update, Choose, Leave, Block, Done, Then, Otherwise, Nothing, Else, Parameter, Accumulator, PlainLoop, Returned, Program}
use Rattle.kernel_tree.specs.Items.{stream_offset, index_items, loop_index}
use Rattle.kernel_tree.specs.Typing.{Scope, Role, Value, wanted, index_type, declared, left, after_action, after_block, after_for_loop, in_loop, param_scope, var_scope, inner_types, term_types, action_types, block_types, otherwise_types, params_types, vars_types, for_loop_types, answer_types, types_of}
use Rattle.kernel_tree.proofs.Scopes.{index_after, param_index, scope_index, last_index}
use Rattle.loop_form.specs.Entries.{Content, IsRead, Entry, entry, item_type, inner_entries, term_entries, action_entries, block_entries, otherwise_entries, params_entries, vars_entries, for_loop_entries, answer_entries, entries_of, loop_entries}
use Rattle.loop_form.specs.Numbers.{Numbered}
use Rattle.loop_form.proofs.Numbers.{all-listed}
use Rattle.kernel_tree.specs.declared.fault.Binding.TheVariants as binding
use Rattle.kernel_tree.specs.Checked as checked

abbrev pub type_of : Entry → Option Ty
type_of e = e.type

-- as many items as types, and each has the type of its number
pub data Matches (k : Program) : List Entry → List (Option Ty) → Type 0 where
  none : Matches k [] []
  more : {e : Entry} {es : List Entry} {t : Option Ty} {ts : List (Option Ty)} → e.type ≡ item_type k e.item → Matches k es ts → Matches k (e ∷ es) (t ∷ ts)

-- a list from a place on: what stands there, and what comes after
pub get_drop : {A : Type 0} (xs : List A) (b : ℕ) (y : A) (ys : List A) → drop b xs ≡ y ∷ ys → slice_get xs b ≡ Some y
get_drop [] zero y ys e = absurd cc
get_drop [] (suc b) y ys e = absurd cc
get_drop (x ∷ xs) zero y ys e = let f : x ≡ y = cc in ap Some f
get_drop (x ∷ xs) (suc b) y ys e = get_drop xs b y ys e

pub drop_next : {A : Type 0} (xs : List A) (b : ℕ) (y : A) (ys : List A) → drop b xs ≡ y ∷ ys → drop (suc b) xs ≡ ys
drop_next [] zero y ys e = absurd cc
drop_next [] (suc b) y ys e = absurd cc
drop_next (x ∷ xs) zero y ys e = let f : xs ≡ ys = cc in f
drop_next (x ∷ xs) (suc b) y ys e = drop_next xs b y ys e

module _ (k : Program) where
  matches_append : (xs ys : List Entry) (ts us : List (Option Ty)) → Matches k xs ts → Matches k ys us → Matches k (xs ++ ys) (ts ++ us)
  matches_append [] ys [] us none h = h
  matches_append [] ys (t ∷ ts) us m h = elim m [ ]
  matches_append (x ∷ xs) ys [] us m h = elim m [ ]
  matches_append (x ∷ xs) ys (t ∷ ts) us (more is g) h = more is (matches_append xs ys ts us g h)

  pub matches_inner : (o : Option ℤ) (es : List Entry) (ts : List (Option Ty)) → Matches k es ts → Matches k (inner_entries o es) (inner_types o ts)
  matches_inner (Some c) es ts h = none
  matches_inner None es ts h = h

  matches_one_entry : (item : ℕ) (c : Content) (user : ℕ) (t : Option Ty) → Matches k (entry k item c user ∷ []) (t ∷ [])
  matches_one_entry item c user t = more refl none

  matches_cons : (item : ℕ) (c : Content) (user : ℕ) (t : Option Ty) (es : List Entry) (ts : List (Option Ty)) → Matches k es ts → Matches k (entry k item c user ∷ es) (t ∷ ts)
  matches_cons item c user t es ts h = more refl h

  pub term_matches : (t : Term) (s : Scope) (role : Role) (b user : ℕ) → s.index ≡ loop_index k → Matches k (term_entries k b user t) (term_types s role t)
  term_matches (Literal n) s role b user e = more refl none
  term_matches (Variable x) s role b user e = more refl none
  term_matches (Element a j) s role b user e =
      let item = b + index_items (loop_index k) j in
      let es = term_entries k b item j in
      let ts = term_types s (Value (index_type s j)) j in
      matches_append (inner_entries (stream_offset (loop_index k) j) es) (entry k item (IsRead a j) user ∷ []) (inner_types (stream_offset s.index j) ts) (wanted role ∷ [])
      (subst (λ o. Matches k (inner_entries (stream_offset (loop_index k) j) es) (inner_types (stream_offset o j) ts)) (sym e) (matches_inner (stream_offset (loop_index k) j) es ts (term_matches j s (Value (index_type s j)) b item e)))
      (more refl none)
  term_matches (Unary op x) s role b user e = matches_append (term_entries k b _ x) _ (term_types s _ x) _ (term_matches x s _ b _ e) (matches_one_entry _ _ _ _)
  term_matches (Operation op x y) s role b user e =
      matches_append (term_entries k b _ x) _ (term_types s _ x) _ (term_matches x s _ b _ e) (matches_append (term_entries k _ _ y) _ (term_types s _ y) _ (term_matches y s _ _ _ e) (matches_one_entry _ _ _ _))
  term_matches (Shift l x n) s role b user e = matches_append (term_entries k b _ x) _ (term_types s _ x) _ (term_matches x s _ b _ e) (matches_one_entry _ _ _ _)
  term_matches (Conversion x t) s role b user e = matches_append (term_entries k b _ x) _ (term_types s _ x) _ (term_matches x s _ b _ e) (matches_one_entry _ _ _ _)
  term_matches (Choice c x y) s role b user e =
      matches_append (term_entries k b _ x) _ (term_types s _ x) _ (term_matches x s _ b _ e)
      (matches_append (term_entries k _ _ y) _ (term_types s _ y) _ (term_matches y s _ _ _ e) (matches_append (term_entries k _ _ c) _ (term_types s _ c) _ (term_matches c s _ _ _ e) (matches_one_entry _ _ _ _)))
  term_matches (Comparison op x y) s role b user e =
      matches_append (term_entries k b _ x) _ (term_types s _ x) _ (term_matches x s _ b _ e) (matches_append (term_entries k _ _ y) _ (term_types s _ y) _ (term_matches y s _ _ _ e) (matches_one_entry _ _ _ _))
  term_matches (Both x y) s role b user e =
      matches_append (term_entries k b _ x) _ (term_types s _ x) _ (term_matches x s _ b _ e) (matches_append (term_entries k _ _ y) _ (term_types s _ y) _ (term_matches y s _ _ _ e) (matches_one_entry _ _ _ _))
  term_matches (Either x y) s role b user e =
      matches_append (term_entries k b _ x) _ (term_types s _ x) _ (term_matches x s _ b _ e) (matches_cons _ _ _ _ _ _ (matches_append (term_entries k _ _ y) _ (term_types s _ y) _ (term_matches y s _ _ _ e) (matches_one_entry _ _ _ _)))
  term_matches (Not x) s role b user e = matches_append (term_entries k b _ x) _ (term_types s _ x) _ (term_matches x s _ b _ e) (matches_one_entry _ _ _ _)

  mutual
    pub action_matches : (a : Action) (s : Scope) (b : ℕ) → s.index ≡ loop_index k → Matches k (action_entries k b a) (action_types s a)
    action_matches (Define x t v) s b e = matches_append (term_entries k b _ v) _ (term_types s _ v) _ (term_matches v s _ b _ e) (matches_one_entry _ _ _ _)
    action_matches (Put a i v) s b e = matches_append (term_entries k b _ v) _ (term_types s _ v) _ (term_matches v s _ b _ e) (matches_one_entry _ _ _ _)
    action_matches (Update x op v) s b e = matches_append (term_entries k b _ v) _ (term_types s _ v) _ (term_matches v s _ b _ e) (matches_one_entry _ _ _ _)
    action_matches (Choose c t d) s b e =
        matches_append (term_entries k b _ c) _ (term_types s _ c) _ (term_matches c s _ b _ e)
        (matches_cons _ _ _ _ _ _ (matches_append (block_entries k _ t) _ (block_types s t) _ (block_matches t s _ e) (matches_append (otherwise_entries k _ _ d) _ (otherwise_types (left s (after_block s t)) d) _ (otherwise_matches d (left s (after_block s t)) _ _ e) (matches_one_entry _ _ _ _))))
    action_matches (Leave c) s b e = matches_append (term_entries k b _ c) _ (term_types s _ c) _ (term_matches c s _ b _ e) (matches_one_entry _ _ _ _)

    pub block_matches : (t : Block) (s : Scope) (b : ℕ) → s.index ≡ loop_index k → Matches k (block_entries k b t) (block_types s t)
    block_matches Done s b e = none
    block_matches (Then a t) s b e = matches_append (action_entries k b a) _ (action_types s a) _ (action_matches a s b e) (block_matches t (after_action s a) _ (index_after s a ∙ e))

    pub otherwise_matches : (d : Otherwise) (s : Scope) (b end : ℕ) → s.index ≡ loop_index k → Matches k (otherwise_entries k b end d) (otherwise_types s d)
    otherwise_matches Nothing s b end e = none
    otherwise_matches (Else t) s b end e = more refl (block_matches t s _ e)

  params_match : (ps : List Parameter) (b : ℕ) → Matches k (params_entries k b ps) (params_types ps)
  params_match [] b = none
  params_match (p ∷ ps) b = more refl (params_match ps (b + 1))

  vars_match : (vs : List Accumulator) (s : Scope) (b : ℕ) → s.index ≡ loop_index k → Matches k (vars_entries k b vs) (vars_types s vs)
  vars_match [] s b e = none
  vars_match (v ∷ vs) s b e = matches_append (term_entries k b _ v.init) _ (term_types s _ v.init) _ (term_matches v.init s _ b _ e) (matches_cons _ _ _ _ _ _ (vars_match vs (declared s v.name (binding.Accumulator v.type)) _ e))

  for_loop_matches : (o : Option PlainLoop) (s : Scope) (b : ℕ) → s.index ≡ loop_index k → Matches k (for_loop_entries k b o) (for_loop_types s o)
  for_loop_matches None s b e = none
  for_loop_matches (Some l) s b e = more refl (block_matches l.body (in_loop s l) _ e)

  answer_match : (o : Option Returned) (s : Scope) (b : ℕ) → s.index ≡ loop_index k → Matches k (answer_entries k b o) (answer_types s o)
  answer_match None s b e = none
  answer_match (Some a) s b e = matches_append (term_entries k b _ a.value) _ (term_types s _ a.value) _ (term_matches a.value s _ b _ e) (matches_one_entry _ _ _ _)

  all_match : Matches k (entries_of k) (types_of k)
  all_match =
      matches_append (params_entries k 0 k.params) _ (params_types k.params) _ (params_match k.params 0)
      (matches_append (vars_entries k _ k.vars) _ (vars_types (param_scope k) k.vars) _ (vars_match k.vars (param_scope k) _ (param_index k))
      (matches_append (loop_entries k) _ (for_loop_types (var_scope k) k.for_loop) _ (for_loop_matches k.for_loop (var_scope k) _ (scope_index k)) (answer_match k.answer (after_for_loop (var_scope k) k.for_loop) _ (last_index k))))

  -- ---- the types of some items

  item_at : (b : ℕ) (t : Option Ty) (ts : List (Option Ty)) → drop b (types_of k) ≡ t ∷ ts → item_type k b ≡ t
  unfolding item_type
  item_at b t ts e = ap checked.flat (get_drop (types_of k) b t ts e)

  types_from : (b : ℕ) (es : List Entry) (ts : List (Option Ty)) → Numbered b es → Matches k es ts → drop b (types_of k) ≡ ts → map type_of es ≡ ts
  types_from b [] [] n none e = refl
  types_from b [] (t ∷ ts) n m e = elim m [ ]
  types_from b (x ∷ es) [] n m e = elim m [ ]
  types_from b (x ∷ es) (t ∷ ts) n (more is h) e =
      let here : x.type ≡ t = is ∙ ap (item_type k) n.0 ∙ item_at b t ts e in
      ap (λ r. r ∷ map type_of es) here ∙ ap (λ r. t ∷ r) (types_from (suc b) es ts n.1 h (drop_next (types_of k) b t ts e))

  all_types : map type_of (entries_of k) ≡ types_of k
  all_types = types_from 0 (entries_of k) (types_of k) (all-listed k).numbered all_match refl

  -- the types of a part, and of what stands after it
  pub first_types : (xs ys : List Entry) (ts us : List (Option Ty)) → Matches k xs ts → map type_of (xs ++ ys) ≡ ts ++ us → map type_of xs ≡ ts
  first_types [] ys [] us none e = refl
  first_types [] ys (t ∷ ts) us m e = elim m [ ]
  first_types (x ∷ xs) ys [] us m e = elim m [ ]
  first_types (x ∷ xs) ys (t ∷ ts) us (more is h) e =
      let here : x.type ≡ t = cc in
      let later : map type_of (xs ++ ys) ≡ ts ++ us = cc in
      ap (λ r. r ∷ map type_of xs) here ∙ ap (λ r. t ∷ r) (first_types xs ys ts us h later)

  pub later_types : (xs ys : List Entry) (ts us : List (Option Ty)) → Matches k xs ts → map type_of (xs ++ ys) ≡ ts ++ us → map type_of ys ≡ us
  later_types [] ys [] us none e = e
  later_types [] ys (t ∷ ts) us m e = elim m [ ]
  later_types (x ∷ xs) ys [] us m e = elim m [ ]
  later_types (x ∷ xs) ys (t ∷ ts) us (more is h) e = let later : map type_of (xs ++ ys) ≡ ts ++ us = cc in later_types xs ys ts us h later

  -- the items of the loop
  pub loop_types : map type_of (loop_entries k) ≡ for_loop_types (var_scope k) k.for_loop
  loop_types =
      first_types (loop_entries k) _ (for_loop_types (var_scope k) k.for_loop) _ (for_loop_matches k.for_loop (var_scope k) _ (scope_index k))
      (later_types (vars_entries k _ k.vars) _ (vars_types (param_scope k) k.vars) _ (vars_match k.vars (param_scope k) _ (param_index k))
      (later_types (params_entries k 0 k.params) _ (params_types k.params) _ (params_match k.params 0) all_types))
