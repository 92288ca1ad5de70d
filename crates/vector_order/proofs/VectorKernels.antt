-- A checked kernel of class Vector: values and conditions stand where they are wanted, and no accumulator is read.
use Rattle.std.proofs.Common.{◌≡◌, ℕ, ◌+◌, Bool, true, false, cond, List, [], ◌∷◌, ◌++◌, Option, Some, None, refl, sym, ap, ap₂, ◌∙◌, subst}
use Rattle.std.specs.Prelude.{ℤ, bytes_eq, find, option_map, option_and_then, is_none, ◌||◌}
use Rattle.std.specs.List.{list_any}
use Rattle.std.proofs.lemmas.Bool.{or_parts}
use Rattle.kernel_tree.specs.declared.ops.Ty.{Ty}
use Rattle.kernel_tree.specs.Plain.{Term, Literal, Variable, Element, Unary, Operation, Shift, Conversion, Choice, Comparison, Both, Either, Not, Action, Define, Put, Update, Choose, Leave, Block, Done, Then, Otherwise, Nothing, Else, Accumulator, Program}
use Rattle.kernel_tree.specs.Items.{stream_offset, loop_index, index_items, term_size, action_size, block_size}
use Rattle.kernel_tree.specs.Typing.{Scope, Local, local, Role, wanted, Value, Condition, has_name, binding_of, lookup, own, first, accumulator_type, index_type, side_type, as_value, read_faults, inner_faults, index_faults, mismatch, untyped, target_faults, faults, action_faults, block_faults, otherwise_faults, defined, after_action, after_block, after_otherwise, left, array_type}
use Rattle.kernel_tree.proofs.Faultless.{nil-left, nil-right}
use Rattle.kernel_tree.proofs.NoFault.{read_some, target_some, update_some, stream_some}
use Rattle.kernel_tree.proofs.Names.{array_of, array_before, bytes_swap}
use Rattle.kernel_tree.proofs.RightKinds.{value-kinds, truth-kinds}
use Rattle.kernel_meaning.specs.Eval.{Names}
use Rattle.loop_form.specs.Entries.{Content, IsLiteral, IsName, IsRead, IsLet, IsStore, IsUpdate, IsPlain, Entry, inner_entries, term_entries, action_entries, block_entries, otherwise_entries}
use Rattle.dependence.specs.Classes.{is_read, accumulator_read}
use Rattle.kernel_tree.specs.declared.ops.Ty.TheVariants as ty
use Rattle.loop_form.specs.Listing.{is_named, names}
use Rattle.loop_form.specs.LoopItems.{accumulator_of}
use Rattle.vector_order.specs.Operands.{HasOffset}
use Rattle.vector_order.specs.Order.{is_var, is_accumulator}
use Rattle.kernel_meaning.proofs.ValueRanges.{typed}
use Rattle.vector_order.proofs.ReadyTerms.{Computed, IsCond, WellFormed, IsWanted, Sourced, Ready}
use Rattle.vector_order.proofs.TermForms.{value_formed, cond_formed}
use Rattle.vector_order.proofs.Blocks.{ReadyAction, ReadyBlock, ReadyOtherwise}
use Rattle.kernel_tree.specs.declared.fault.Binding.TheVariants as binding

-- ---- the items by class

abbrev pub OkContent : Program → Content → Type 0
OkContent k (IsName x) = is_accumulator k x ≡ false
OkContent k _ = Unit {0}

abbrev pub AllOk : Program → List Entry → Type 0
AllOk k [] = Unit {0}
AllOk k (e ∷ es) = OkContent k e.content × AllOk k es

ok_left : (k : Program) (xs ys : List Entry) → AllOk k (xs ++ ys) → AllOk k xs
ok_left k [] ys h = tt
ok_left k (x ∷ xs) ys h = (h.0, ok_left k xs ys h.1)

ok_right : (k : Program) (xs ys : List Entry) → AllOk k (xs ++ ys) → AllOk k ys
ok_right k [] ys h = h
ok_right k (x ∷ xs) ys h = ok_right k xs ys h.1

read_rest : (vs : List Accumulator) (e : Entry) (es : List Entry) → list_any (is_read (e ∷ es)) vs ≡ false → list_any (is_read es) vs ≡ false
read_rest [] e es h = refl
read_rest (v ∷ vs) e es h =
    let parts = or_parts (is_read (e ∷ es) v) (list_any (is_read (e ∷ es)) vs) h in
    let inner = or_parts (names v.name e) (is_read es v) parts.0 in
    ap₂ (λ a b. a || b) inner.1 (read_rest vs e es parts.1)

read_name : (vs : List Accumulator) (x : List ℕ) (e : Entry) (es : List Entry) → e.content ≡ IsName x → list_any (is_read (e ∷ es)) vs ≡ false → list_any (is_var x) vs ≡ false
read_name [] x e es at h = refl
read_name (v ∷ vs) x e es at h =
    let parts = or_parts (is_read (e ∷ es) v) (list_any (is_read (e ∷ es)) vs) h in
    let inner = or_parts (names v.name e) (is_read es v) parts.0 in
    let mine : bytes_eq x v.name ≡ false = sym (ap (is_named v.name) at) ∙ inner.0 in
    ap₂ (λ a b. a || b) (bytes_swap x v.name mine) (read_name vs x e es at parts.1)

has_offset : (o : Option ℤ) → is_none o ≡ false → HasOffset o
has_offset None e = absurd cc
has_offset (Some c) e = tt

pub all_ok : (k : Program) (es : List Entry) → accumulator_read es k.vars ≡ false → AllOk k es
all_ok k [] r = tt
all_ok k (e ∷ es) r = (by_content e.content refl, all_ok k es (read_rest k.vars e es r))
  where
    by_content : (t : Content) → e.content ≡ t → OkContent k t
    by_content (IsLiteral n) at = tt
    by_content (IsName x) at = read_name k.vars x e es at r
    by_content (IsRead a i) at = tt
    by_content (IsLet x) at = tt
    by_content (IsStore a i) at = tt
    by_content (IsUpdate x op) at = tt
    by_content (IsPlain p) at = tt

-- ---- the scope

pub record ScopeOk (k : Program) (scope : Scope) : Type 0 where
  pub index : scope.index ≡ loop_index k
  pub arrays : (a : List ℕ) (t : Ty) → array_of scope.visible a ≡ Some t → is_accumulator k a ≡ false
  pub accs : (x : List ℕ) (t : Ty) → accumulator_of scope x ≡ Some t → is_accumulator k x ≡ true

abbrev acc_of : List Local → List ℕ → Option Ty
acc_of vs x = option_and_then accumulator_type (option_map binding_of (find (has_name x) vs))

acc_before : (vs : List Local) (x a : List ℕ) (u t : Ty) → acc_of (vs ++ local x (binding.Value u) ∷ []) a ≡ Some t → acc_of vs a ≡ Some t
acc_before [] x a u t e = by_test (bytes_eq x a) e
  where
    by_test : (b : Bool) → option_and_then accumulator_type (option_map binding_of (cond b (Some (local x (binding.Value u))) None)) ≡ Some t → acc_of [] a ≡ Some t
    by_test true e = absurd cc
    by_test false e = e
acc_before (v ∷ vs) x a u t e = by_test (bytes_eq v.name a) e (acc_before vs x a u t)
  where
    by_test : (b : Bool) → option_and_then accumulator_type (option_map binding_of (cond b (Some v) (find (has_name a) (vs ++ local x (binding.Value u) ∷ [])))) ≡ Some t → (acc_of (vs ++ local x (binding.Value u) ∷ []) a ≡ Some t → acc_of vs a ≡ Some t) → option_and_then accumulator_type (option_map binding_of (cond b (Some v) (find (has_name a) vs))) ≡ Some t
    by_test true e h = e
    by_test false e h = h e

let_ok : (k : Program) (scope : Scope) (x : List ℕ) (o : Option Ty) → ScopeOk k scope → ScopeOk k (defined scope x o)
let_ok k scope x None ok = record { index = ok.index; arrays = ok.arrays; accs = ok.accs }
let_ok k scope x (Some u) ok = record { index = ok.index; arrays = λ a t e. ok.arrays a t (array_before scope.visible x a u t e); accs = λ a t e. ok.accs a t (acc_before scope.visible x a u t e) }

left_ok : (k : Program) (scope inner : Scope) → ScopeOk k scope → ScopeOk k (left scope inner)
left_ok k scope inner ok = record { index = ok.index; arrays = ok.arrays; accs = ok.accs }

after_ok : (k : Program) (s : Action) (scope : Scope) → ScopeOk k scope → ScopeOk k (after_action scope s)
after_ok k (Define x t e) scope ok = let_ok k scope x (first t (own scope e)) ok
after_ok k (Put a j e) scope ok = ok
after_ok k (Update x op e) scope ok = ok
after_ok k (Choose c b d) scope ok = left_ok k scope (after_otherwise (left scope (after_block scope b)) d) ok
after_ok k (Leave c) scope ok = ok

-- ---- expressions

is_wanted : (t : Term) (scope : Scope) (f : ℕ) (want : Option Ty) → faults scope f (Value want) t ≡ [] → IsWanted scope want t
is_wanted t scope f want h T e = typed t scope f T (subst (λ w. faults scope f (Value w) t ≡ []) e h)

-- the operand of a cast has a type of its own
untyped_own : (item : ℕ) (o : Option Ty) → untyped item o ≡ [] → o ≡ first o (Some ty.U64)
untyped_own item None e = absurd cc
untyped_own item (Some t) e = refl

sourced : (t : Term) (scope : Scope) (f : ℕ) (want : Option Ty) → want ≡ index_type scope t → faults scope f (Value want) t ≡ [] → Sourced scope t
sourced (Conversion e t) scope f want w h =
    let item : ℕ = f + term_size scope.index e in
    let rest = nil-right (faults scope f (Value (own scope e)) e) _ h in
    let role = nil-right (as_value item (Value want)) _ rest in
    let plain = nil-right (mismatch item want t) _ role in
    sourced e scope f (own scope e) (untyped_own item (own scope e) plain) (nil-left (faults scope f (Value (own scope e)) e) _ h)
sourced (Literal n) scope f want w h = is_wanted (Literal n) scope f (index_type scope (Literal n)) (subst (λ w. faults scope f (Value w) (Literal n) ≡ []) w h)
sourced (Variable x) scope f want w h = is_wanted (Variable x) scope f (index_type scope (Variable x)) (subst (λ w. faults scope f (Value w) (Variable x) ≡ []) w h)
sourced (Element a i) scope f want w h = is_wanted (Element a i) scope f (index_type scope (Element a i)) (subst (λ w. faults scope f (Value w) (Element a i) ≡ []) w h)
sourced (Unary op e) scope f want w h = is_wanted (Unary op e) scope f (index_type scope (Unary op e)) (subst (λ w. faults scope f (Value w) (Unary op e) ≡ []) w h)
sourced (Operation op x y) scope f want w h = is_wanted (Operation op x y) scope f (index_type scope (Operation op x y)) (subst (λ w. faults scope f (Value w) (Operation op x y) ≡ []) w h)
sourced (Shift l e n) scope f want w h = is_wanted (Shift l e n) scope f (index_type scope (Shift l e n)) (subst (λ w. faults scope f (Value w) (Shift l e n) ≡ []) w h)
sourced (Choice c x y) scope f want w h = is_wanted (Choice c x y) scope f (index_type scope (Choice c x y)) (subst (λ w. faults scope f (Value w) (Choice c x y) ≡ []) w h)
sourced (Comparison op x y) scope f want w h = is_wanted (Comparison op x y) scope f (index_type scope (Comparison op x y)) (subst (λ w. faults scope f (Value w) (Comparison op x y) ≡ []) w h)
sourced (Both x y) scope f want w h = is_wanted (Both x y) scope f (index_type scope (Both x y)) (subst (λ w. faults scope f (Value w) (Both x y) ≡ []) w h)
sourced (Either x y) scope f want w h = is_wanted (Either x y) scope f (index_type scope (Either x y)) (subst (λ w. faults scope f (Value w) (Either x y) ≡ []) w h)
sourced (Not e) scope f want w h = is_wanted (Not e) scope f (index_type scope (Not e)) (subst (λ w. faults scope f (Value w) (Not e) ≡ []) w h)

module _ (k : Program) where
  ready_term : (t : Term) (scope : Scope) (f g last_use : ℕ) (role : Role) → faults scope f role t ≡ [] → AllOk k (term_entries k g last_use t) → ScopeOk k scope → Ready (is_accumulator k) scope t
  ready_term (Literal n) scope f g last_use role h a ok = tt
  ready_term (Variable x) scope f g last_use role h a ok = a.0
  ready_term (Element b i) scope f g last_use role h a ok =
      let item : ℕ = f + index_items scope.index i in
      let outer : as_value item role ++ (read_faults item scope.inside (wanted role) (lookup scope b) ++ index_faults item (stream_offset scope.index i) (own scope i)) ≡ [] = nil-right (inner_faults (stream_offset scope.index i) (faults scope f (Value (index_type scope i)) i)) _ h in
      let read = nil-left (read_faults item scope.inside (wanted role) (lookup scope b)) _ (nil-right (as_value item role) _ outer) in
      let typed = read_some item scope.inside (wanted role) (lookup scope b) read in
      (by_offset (stream_offset scope.index i) refl (λ none a. ready_term i scope f g (g + index_items (loop_index k) i) (Value (index_type scope i)) none a ok) (nil-left (inner_faults (stream_offset scope.index i) (faults scope f (Value (index_type scope i)) i)) _ h), ok.arrays b typed.0 typed.1)
    where
      by_offset : (o : Option ℤ) → stream_offset scope.index i ≡ o → (faults scope f (Value (index_type scope i)) i ≡ [] → AllOk k (term_entries k g (g + index_items (loop_index k) i) i) → Ready (is_accumulator k) scope i) → inner_faults o (faults scope f (Value (index_type scope i)) i) ≡ [] → Computed o (WellFormed i × Ready (is_accumulator k) scope i × Sourced scope i)
      by_offset (Some c) e ih none = tt
      by_offset None e ih none = (
        value_formed i (value-kinds i scope f (index_type scope i) none),
        ih none (subst (λ (o : Option ℤ). AllOk k (inner_entries o (term_entries k g (g + index_items (loop_index k) i) i))) (sym (ap (λ (j : Option (List ℕ)). stream_offset j i) ok.index) ∙ e) (ok_left k (inner_entries (stream_offset (loop_index k) i) (term_entries k g (g + index_items (loop_index k) i) i)) _ a)),
        sourced i scope f (index_type scope i) refl none,
      )
  ready_term (Unary op e) scope f g last_use role h a ok = ready_term e scope f g _ (Value (wanted role)) (nil-left (faults scope f (Value (wanted role)) e) _ h) (ok_left k (term_entries k g _ e) _ a) ok
  ready_term (Operation op x y) scope f g last_use role h a ok =
      let want : Role = Value (wanted role) in
      let next : ℕ = f + term_size scope.index x in
      let r = nil-right (faults scope f want x) _ h in (
        ready_term x scope f g _ want (nil-left (faults scope f want x) _ h) (ok_left k (term_entries k g _ x) _ a) ok,
        ready_term y scope next _ _ want (nil-left (faults scope next want y) _ r) (ok_left k (term_entries k _ _ y) _ (ok_right k (term_entries k g _ x) _ a)) ok,
      )
  ready_term (Shift l e n) scope f g last_use role h a ok = ready_term e scope f g _ (Value (wanted role)) (nil-left (faults scope f (Value (wanted role)) e) _ h) (ok_left k (term_entries k g _ e) _ a) ok
  ready_term (Conversion e t) scope f g last_use role h a ok = ready_term e scope f g _ (Value (own scope e)) (nil-left (faults scope f (Value (own scope e)) e) _ h) (ok_left k (term_entries k g _ e) _ a) ok
  ready_term (Choice c x y) scope f g last_use role h a ok =
      let want : Role = Value (wanted role) in
      let next : ℕ = f + term_size scope.index x in
      let last : ℕ = next + term_size scope.index y in
      let h1 = nil-right (faults scope f want x) _ h in
      let h2 = nil-right (faults scope next want y) _ h1 in
      let a1 = ok_right k (term_entries k g _ x) _ a in
      let a2 = ok_right k (term_entries k _ _ y) _ a1 in (
        ready_term c scope last _ _ Condition (nil-left (faults scope last Condition c) _ h2) (ok_left k (term_entries k _ _ c) _ a2) ok,
        ready_term x scope f g _ want (nil-left (faults scope f want x) _ h) (ok_left k (term_entries k g _ x) _ a) ok,
        ready_term y scope next _ _ want (nil-left (faults scope next want y) _ h1) (ok_left k (term_entries k _ _ y) _ a1) ok,
      )
  ready_term (Comparison op x y) scope f g last_use role h a ok =
      let want : Role = Value (side_type scope x y) in
      let next : ℕ = f + term_size scope.index x in
      let r = nil-right (faults scope f want x) _ h in (
        ready_term x scope f g _ want (nil-left (faults scope f want x) _ h) (ok_left k (term_entries k g _ x) _ a) ok,
        ready_term y scope next _ _ want (nil-left (faults scope next want y) _ r) (ok_left k (term_entries k _ _ y) _ (ok_right k (term_entries k g _ x) _ a)) ok,
      )
  ready_term (Both x y) scope f g last_use role h a ok =
      let next : ℕ = f + term_size scope.index x in
      let r = nil-right (faults scope f Condition x) _ h in (
        ready_term x scope f g _ Condition (nil-left (faults scope f Condition x) _ h) (ok_left k (term_entries k g _ x) _ a) ok,
        ready_term y scope next _ _ Condition (nil-left (faults scope next Condition y) _ r) (ok_left k (term_entries k _ _ y) _ (ok_right k (term_entries k g _ x) _ a)) ok,
      )
  ready_term (Either x y) scope f g last_use role h a ok =
      let next : ℕ = f + term_size scope.index x + 1 in
      let r = nil-right (faults scope f Condition x) _ h in (
        ready_term x scope f g _ Condition (nil-left (faults scope f Condition x) _ h) (ok_left k (term_entries k g _ x) _ a) ok,
        ready_term y scope next _ _ Condition (nil-left (faults scope next Condition y) _ r) (ok_left k (term_entries k _ _ y) _ (ok_right k (term_entries k g _ x) _ a).1) ok,
      )
  ready_term (Not e) scope f g last_use role h a ok = ready_term e scope f g _ Condition (nil-left (faults scope f Condition e) _ h) (ok_left k (term_entries k g _ e) _ a) ok

  ready_value : (t : Term) (scope : Scope) (f g last_use : ℕ) (want : Option Ty) → faults scope f (Value want) t ≡ [] → AllOk k (term_entries k g last_use t) → ScopeOk k scope → WellFormed t × Ready (is_accumulator k) scope t
  ready_value t scope f g last_use want h a ok = (value_formed t (value-kinds t scope f want h), ready_term t scope f g last_use (Value want) h a ok)

  ready_truth : (t : Term) (scope : Scope) (f g last_use : ℕ) → faults scope f Condition t ≡ [] → AllOk k (term_entries k g last_use t) → ScopeOk k scope → IsCond t × (WellFormed t × Ready (is_accumulator k) scope t)
  ready_truth t scope f g last_use h a ok = let formed = cond_formed t (truth-kinds t scope f h) in (formed.1, (formed.0, ready_term t scope f g last_use Condition h a ok))

  module _ (ns : Names) (i : ℕ) where
    mutual
      ready_action : (s : Action) (scope : Scope) (f g : ℕ) → action_faults scope f s ≡ [] → AllOk k (action_entries k g s) → ScopeOk k scope → ReadyAction ns i (is_accumulator k) scope s
      ready_action (Define x t e) scope f g h a ok =
          let none = nil-left (faults scope f (Value (first t (own scope e))) e) _ h in
          let value = ready_value e scope f g (g + term_size (loop_index k) e) (first t (own scope e)) none (ok_left k (term_entries k g (g + term_size (loop_index k) e) e) _ a) ok in
          (value.0, value.1, is_wanted e scope f (first t (own scope e)) none)
      ready_action (Put b j e) scope f g h a ok =
          let item : ℕ = f + term_size scope.index e in
          let value = ready_value e scope f g (g + term_size (loop_index k) e) (array_type scope b) (nil-left (faults scope f (Value (array_type scope b)) e) _ h) (ok_left k (term_entries k g (g + term_size (loop_index k) e) e) _ a) ok in
          let rest = nil-right (faults scope f (Value (array_type scope b)) e) _ h in
          let typed = target_some item (lookup scope b) (nil-left (target_faults item (lookup scope b)) _ rest) in
          let streamed = stream_some item (stream_offset scope.index j) (nil-right (target_faults item (lookup scope b)) _ rest) in
          (has_offset (stream_offset scope.index j) streamed, ok.arrays b typed.0 typed.1, value)
      ready_action (Update x op e) scope f g h a ok =
          let item : ℕ = f + term_size scope.index e in
          let value = ready_value e scope f g (g + term_size (loop_index k) e) (accumulator_of scope x) (nil-left (faults scope f (Value (accumulator_of scope x)) e) _ h) (ok_left k (term_entries k g (g + term_size (loop_index k) e) e) _ a) ok in
          let typed = update_some item (lookup scope x) (nil-right (faults scope f (Value (accumulator_of scope x)) e) _ h) in
          (ok.accs x typed.0 typed.1, value)
      ready_action (Choose c b d) scope f g h a ok =
          let next : ℕ = f + term_size scope.index c + 1 in
          let first' : ℕ = g + term_size (loop_index k) c in
          let following' : ℕ = first' + 1 + block_size (loop_index k) b in
          let scope' : Scope = left scope (after_block scope b) in
          let h1 = nil-right (faults scope f Condition c) _ h in
          let h2 = nil-right (block_faults scope next b) _ h1 in
          let a1 = (ok_right k (term_entries k g following' c) _ a).1 in
          let a2 = ok_right k (block_entries k (first' + 1) b) _ a1 in
          let truth = ready_truth c scope f g following' (nil-left (faults scope f Condition c) _ h) (ok_left k (term_entries k g following' c) _ a) ok in (
            truth.0,
            truth.1,
            ready_block b scope next (first' + 1) (nil-left (block_faults scope next b) _ h1) (ok_left k (block_entries k (first' + 1) b) _ a1) ok,
            ready_otherwise d scope' (next + block_size scope.index b) following' _ h2 (ok_left k (otherwise_entries k following' _ d) _ a2) (left_ok k scope (after_block scope b) ok),
          )
      ready_action (Leave c) scope f g h a ok = ready_truth c scope f g (g + term_size (loop_index k) c) h (ok_left k (term_entries k g (g + term_size (loop_index k) c) c) _ a) ok

      pub ready_block : (b : Block) (scope : Scope) (f g : ℕ) → block_faults scope f b ≡ [] → AllOk k (block_entries k g b) → ScopeOk k scope → ReadyBlock ns i (is_accumulator k) scope b
      ready_block Done scope f g h a ok = tt
      ready_block (Then s b) scope f g h a ok = (
        ready_action s scope f g (nil-left (action_faults scope f s) _ h) (ok_left k (action_entries k g s) _ a) ok,
        ready_block b (after_action scope s) _ (g + action_size (loop_index k) s) (nil-right (action_faults scope f s) _ h) (ok_right k (action_entries k g s) _ a) (after_ok k s scope ok),
      )

      ready_otherwise : (d : Otherwise) (scope : Scope) (f g end : ℕ) → otherwise_faults scope f d ≡ [] → AllOk k (otherwise_entries k g end d) → ScopeOk k scope → ReadyOtherwise ns i (is_accumulator k) scope d
      ready_otherwise Nothing scope f g end h a ok = tt
      ready_otherwise (Else b) scope f g end h a ok = ready_block b scope (f + 1) (g + 1) h a.1 ok
