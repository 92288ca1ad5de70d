-- In a checked kernel an item that names the loop variable is of type u64.
use Rattle.std.proofs.Common.{◌≡◌, ℕ, ◌+◌, ℤ, Bool, true, false, cond, List, [], ◌∷◌, ◌++◌, map, Option, Some, None, refl, sym, ap, ◌∙◌, subst}
use Rattle.std.specs.Prelude.{bytes_eq, find, option_map, option_and_then}
use Rattle.kernel_tree.specs.declared.ops.Ty.{Ty}
use Rattle.kernel_tree.specs.declared.fault.Binding.{Binding}
use Rattle.kernel_tree.specs.declared.fault.Found.{Found}
use Rattle.kernel_tree.specs.Plain.{Term, Literal, Variable, Element, Unary, Operation, Shift, Conversion, Choice, Comparison, Both, Either, Not, Action, Define, Put, Update, Choose, Leave, Block, Done, Then, Otherwise, Nothing, Else, PlainLoop, Program}
use Rattle.kernel_tree.specs.Items.{term_size, stream_offset, index_items, loop_index, loop_start}
use Rattle.kernel_tree.specs.Typing.{Scope, Local, Role, Value, Condition, wanted, own, first, index_type, side_type, local, has_name, binding_of, lookup, defined, left, after_action, after_block, var_scope, in_loop, twice, element_type, accumulator_type, as_value, as_condition, mismatch, name_faults, untyped, inner_faults, faults, target_faults, update_faults, action_faults, block_faults, otherwise_faults, check_fault, inner_types, term_types, action_types, block_types, otherwise_types, for_loop_types}
use Rattle.loop_form.specs.Entries.{Entry, inner_entries, term_entries, action_entries, block_entries, otherwise_entries, for_loop_entries, loop_entries}
use Rattle.loop_form.specs.Listing.{names}
use Rattle.kernel_tree.proofs.Faultless.{nil-left, nil-right, body_faultless}
use Rattle.kernel_tree.proofs.Scopes.{scope_index, index_after}
use Rattle.kernel_tree.proofs.Names.{bytes_eq-told, bytes_eq-refl, NoName, index_alone}
use Rattle.kernel_tree.proofs.NoFault.{no_mismatch}
use Rattle.loop_form.proofs.ItemTypes.{type_of, loop_types}
use Rattle.kernel_tree.specs.declared.ops.Ty.TheVariants as ty
use Rattle.kernel_tree.specs.declared.fault.Binding.TheVariants as binding

-- of items and their types: each that names x is of type u64
abbrev pub Typed : List ℕ → List Entry → List (Option Ty) → Type 0
Typed x [] [] = Unit {0}
Typed x [] (t ∷ ts) = ⊥
Typed x (e ∷ es) [] = ⊥
Typed x (e ∷ es) (t ∷ ts) = (names x e ≡ true → t ≡ Some ty.U64) × Typed x es ts

typed_append : (x : List ℕ) (xs ys : List Entry) (ts us : List (Option Ty)) → Typed x xs ts → Typed x ys us → Typed x (xs ++ ys) (ts ++ us)
typed_append x [] ys [] us h k = k
typed_append x [] ys (t ∷ ts) us h k = absurd h
typed_append x (e ∷ xs) ys [] us h k = absurd h
typed_append x (e ∷ xs) ys (t ∷ ts) us h k = (h.0, typed_append x xs ys ts us h.1 k)

-- a place that wants a condition, or a value of some type
abbrev Wants : Role → Type 0
Wants Condition = Unit {0}
Wants (Value None) = ⊥
Wants (Value (Some t)) = Unit {0}

-- where a value stands, its parts are wanted to be of its type
wanted_type_wants : (item : ℕ) (role : Role) → Wants role → as_value item role ≡ [] → Wants (Value (wanted role))
wanted_type_wants item Condition w e = absurd cc
wanted_type_wants item (Value None) w e = absurd w
wanted_type_wants item (Value (Some t)) w e = tt

is_typed : (item : ℕ) (o : Option Ty) → untyped item o ≡ [] → Wants (Value o)
is_typed item None e = absurd cc
is_typed item (Some t) e = tt

index_wants : (o : Option Ty) → Wants (Value (first o (Some ty.U64)))
index_wants None = tt
index_wants (Some t) = tt

target_wants : (item : ℕ) (o : Option Binding) → target_faults item o ≡ [] → Wants (Value (option_and_then element_type o))
target_wants item None e = absurd cc
target_wants item (Some (binding.Array t)) e = tt
target_wants item other e = absurd cc

update_wants : (item : ℕ) (o : Option Binding) → update_faults item o ≡ [] → Wants (Value (option_and_then accumulator_type o))
update_wants item None e = absurd cc
update_wants item (Some (binding.Accumulator t)) e = tt
update_wants item other e = absurd cc

-- the name itself
name_wanted : (item : ℕ) (role : Role) (o : Option Binding) → Wants role → as_value item role ≡ [] → name_faults item (wanted role) o ≡ [] → o ≡ Some binding.Index → wanted role ≡ Some ty.U64
name_wanted item Condition o w e f is = absurd cc
name_wanted item (Value None) o w e f is = absurd w
name_wanted item (Value (Some t)) o w e f is = ap Some (no_mismatch item t ty.U64 (ap (name_faults item (Some t)) (sym is) ∙ f))

-- ---- the variable stays visible

find_more : (p : Local → Bool) (xs ys : List Local) (b : Binding) → option_map binding_of (find p xs) ≡ Some b → option_map binding_of (find p (xs ++ ys)) ≡ Some b
find_more p [] ys b e = absurd cc
find_more p (v ∷ xs) ys b e = by (p v) e (find_more p xs ys b)
  where
    by : (c : Bool) → option_map binding_of (cond c (Some v) (find p xs)) ≡ Some b → (option_map binding_of (find p xs) ≡ Some b → option_map binding_of (find p (xs ++ ys)) ≡ Some b) → option_map binding_of (cond c (Some v) (find p (xs ++ ys))) ≡ Some b
    by true e ih = e
    by false e ih = ih e

find_last : (x : List ℕ) (vs : List Local) → NoName x vs → option_map binding_of (find (has_name x) (vs ++ local x binding.Index ∷ [])) ≡ Some binding.Index
find_last x [] h = by (bytes_eq x x) (bytes_eq-refl x)
  where
    by : (c : Bool) → c ≡ true → option_map binding_of (cond c (Some (local x binding.Index)) None) ≡ Some binding.Index
    by true e = refl
    by false e = absurd cc
find_last x (v ∷ vs) h = by (bytes_eq v.name x) h.0 (find_last x vs h.1)
  where
    by : (c : Bool) → c ≡ false → option_map binding_of (find (has_name x) (vs ++ local x binding.Index ∷ [])) ≡ Some binding.Index → option_map binding_of (cond c (Some v) (find (has_name x) (vs ++ local x binding.Index ∷ []))) ≡ Some binding.Index
    by true e ih = absurd cc
    by false e ih = ih

defined_sees : (s : Scope) (x y : List ℕ) (o : Option Ty) → lookup s x ≡ Some binding.Index → lookup (defined s y o) x ≡ Some binding.Index
defined_sees s x y None e = e
defined_sees s x y (Some t) e = find_more (has_name x) s.visible (local y (binding.Value t) ∷ []) binding.Index e

action_sees : (s : Scope) (x : List ℕ) (a : Action) → lookup s x ≡ Some binding.Index → lookup (after_action s a) x ≡ Some binding.Index
action_sees s x (Define y t v) e = defined_sees s x y (first t (own s v)) e
action_sees s x other e = e

-- ---- expressions

typed_inner : (x : List ℕ) (o : Option ℤ) (es : List Entry) (ts : List (Option Ty)) (fs : List Found) → (fs ≡ [] → Typed x es ts) → inner_faults o fs ≡ [] → Typed x (inner_entries o es) (inner_types o ts)
typed_inner x (Some c) es ts fs h e = tt
typed_inner x None es ts fs h e = h e

module _ (k : Program) (x : List ℕ) where
  term_typed : (t : Term) (s : Scope) (role : Role) (from f user : ℕ) → s.index ≡ loop_index k → lookup s x ≡ Some binding.Index → Wants role → faults s from role t ≡ [] → Typed x (term_entries k f user t) (term_types s role t)
  term_typed (Literal n) s role from f user q sees w h = (λ e. absurd cc, tt)
  term_typed (Variable y) s role from f user q sees w h =
      (λ e. name_wanted from role (lookup s y) w (nil-left _ _ h) (nil-right (as_value from role) _ h) (ap (lookup s) (bytes_eq-told y x e) ∙ sees), tt)
  term_typed (Element a j) s role from f user q sees w h =
      let es = term_entries k f (f + index_items (loop_index k) j) j in
      let ts = term_types s (Value (index_type s j)) j in
      let fs = faults s from (Value (index_type s j)) j in
      typed_append x _ _ _ _
      (subst (λ o. Typed x (inner_entries (stream_offset o j) es) (inner_types (stream_offset s.index j) ts)) q
      (typed_inner x (stream_offset s.index j) es ts fs (term_typed j s (Value (index_type s j)) from f _ q sees (index_wants (own s j))) (nil-left _ _ h)))
      (λ e. absurd cc, tt)
  term_typed (Unary op e) s role from f user q sees w h = typed_append x _ _ _ _ (term_typed e s _ _ f _ q sees (wanted_type_wants _ role w (nil-right (faults s from (Value (wanted role)) e) _ h)) (nil-left _ _ h)) (λ e. absurd cc, tt)
  term_typed (Operation op a b) s role from f user q sees w h =
      let more = nil-right (faults s from (Value (wanted role)) a) _ h in
      let wants = wanted_type_wants _ role w (nil-right (faults s _ (Value (wanted role)) b) _ more) in
      typed_append x _ _ _ _ (term_typed a s _ _ f _ q sees wants (nil-left _ _ h)) (typed_append x _ _ _ _ (term_typed b s _ _ _ _ q sees wants (nil-left _ _ more)) (λ e. absurd cc, tt))
  term_typed (Shift l e n) s role from f user q sees w h =
      let more = nil-right (faults s from (Value (wanted role)) e) _ h in
      typed_append x _ _ _ _ (term_typed e s _ _ f _ q sees (wanted_type_wants _ role w (nil-left (as_value _ role) _ more)) (nil-left _ _ h)) (λ e. absurd cc, tt)
  term_typed (Conversion e t) s role from f user q sees w h =
      let more = nil-right (faults s from (Value (own s e)) e) _ h in
      let end = nil-right (mismatch _ (wanted role) t) _ (nil-right (as_value _ role) _ more) in
      typed_append x _ _ _ _ (term_typed e s _ _ f _ q sees (is_typed _ (own s e) end) (nil-left _ _ h)) (λ e. absurd cc, tt)
  term_typed (Choice c a b) s role from f user q sees w h =
      let next = from + term_size s.index a in
      let last = next + term_size s.index b in
      let item = last + term_size s.index c in
      let value = Value (wanted role) in
      let following : faults s next value b ++ (faults s last Condition c ++ as_value item role) ≡ [] = nil-right (faults s from value a) (faults s next value b ++ (faults s last Condition c ++ as_value item role)) h in
      let most : faults s last Condition c ++ as_value item role ≡ [] = nil-right (faults s next value b) (faults s last Condition c ++ as_value item role) following in
      let wants = wanted_type_wants item role w (nil-right (faults s last Condition c) (as_value item role) most) in
      typed_append x _ _ _ _ (term_typed a s value from f _ q sees wants (nil-left (faults s from value a) (faults s next value b ++ (faults s last Condition c ++ as_value item role)) h))
      (typed_append x _ _ _ _ (term_typed b s value next _ _ q sees wants (nil-left (faults s next value b) (faults s last Condition c ++ as_value item role) following))
      (typed_append x _ _ _ _ (term_typed c s Condition last _ _ q sees tt (nil-left (faults s last Condition c) (as_value item role) most)) (λ e. absurd cc, tt)))
  term_typed (Comparison op a b) s role from f user q sees w h =
      let more = nil-right (faults s from (Value (side_type s a b)) a) _ h in
      let most = nil-right (faults s _ (Value (side_type s a b)) b) _ more in
      let wants = is_typed _ (side_type s a b) (nil-right (as_condition _ role) _ most) in
      typed_append x _ _ _ _ (term_typed a s _ _ f _ q sees wants (nil-left _ _ h)) (typed_append x _ _ _ _ (term_typed b s _ _ _ _ q sees wants (nil-left _ _ more)) (λ e. absurd cc, tt))
  term_typed (Both a b) s role from f user q sees w h =
      let more = nil-right (faults s from Condition a) _ h in
      typed_append x _ _ _ _ (term_typed a s _ _ f _ q sees tt (nil-left _ _ h)) (typed_append x _ _ _ _ (term_typed b s _ _ _ _ q sees tt (nil-left _ _ more)) (λ e. absurd cc, tt))
  term_typed (Either a b) s role from f user q sees w h =
      let more = nil-right (faults s from Condition a) _ h in
      typed_append x _ _ _ _ (term_typed a s _ _ f _ q sees tt (nil-left _ _ h)) (λ named. absurd cc, typed_append x _ _ _ _ (term_typed b s _ _ _ _ q sees tt (nil-left _ _ more)) (λ e. absurd cc, tt))
  term_typed (Not e) s role from f user q sees w h = typed_append x _ _ _ _ (term_typed e s _ _ f _ q sees tt (nil-left _ _ h)) (λ e. absurd cc, tt)

  -- ---- statements

  mutual
    action_typed : (a : Action) (s : Scope) (from f : ℕ) → s.index ≡ loop_index k → lookup s x ≡ Some binding.Index → action_faults s from a ≡ [] → Typed x (action_entries k f a) (action_types s a)
    action_typed (Define y t v) s from f q sees h =
        let more = nil-right (faults s from (Value (first t (own s v))) v) _ h in
        typed_append x _ _ _ _ (term_typed v s _ _ f _ q sees (is_typed _ (first t (own s v)) (nil-right (twice _ s y) _ more)) (nil-left _ _ h)) (λ e. absurd cc, tt)
    action_typed (Put a i v) s from f q sees h =
        let more = nil-right (faults s from (Value (option_and_then element_type (lookup s a))) v) _ h in
        typed_append x _ _ _ _ (term_typed v s _ _ f _ q sees (target_wants _ (lookup s a) (nil-left _ _ more)) (nil-left _ _ h)) (λ e. absurd cc, tt)
    action_typed (Update y op v) s from f q sees h =
        let more = nil-right (faults s from (Value (option_and_then accumulator_type (lookup s y))) v) _ h in
        typed_append x _ _ _ _ (term_typed v s _ _ f _ q sees (update_wants _ (lookup s y) more) (nil-left _ _ h)) (λ e. absurd cc, tt)
    action_typed (Choose c b d) s from f q sees h =
        let more = nil-right (faults s from Condition c) _ h in
        typed_append x _ _ _ _ (term_typed c s _ _ f _ q sees tt (nil-left _ _ h)) (
          λ named. absurd cc,
          typed_append x _ _ _ _ (block_typed b s _ _ q sees (nil-left _ _ more)) (typed_append x _ _ _ _ (otherwise_typed d (left s (after_block s b)) _ _ _ q sees (nil-right (block_faults s _ b) _ more)) (λ e. absurd cc, tt)),
        )
    action_typed (Leave c) s from f q sees h = typed_append x _ _ _ _ (term_typed c s _ _ f _ q sees tt h) (λ e. absurd cc, tt)

    block_typed : (b : Block) (s : Scope) (from f : ℕ) → s.index ≡ loop_index k → lookup s x ≡ Some binding.Index → block_faults s from b ≡ [] → Typed x (block_entries k f b) (block_types s b)
    block_typed Done s from f q sees h = tt
    block_typed (Then a b) s from f q sees h =
        typed_append x _ _ _ _ (action_typed a s from f q sees (nil-left _ _ h)) (block_typed b (after_action s a) _ _ (index_after s a ∙ q) (action_sees s x a sees) (nil-right (action_faults s from a) _ h))

    otherwise_typed : (d : Otherwise) (s : Scope) (from f end : ℕ) → s.index ≡ loop_index k → lookup s x ≡ Some binding.Index → otherwise_faults s from d ≡ [] → Typed x (otherwise_entries k f end d) (otherwise_types s d)
    otherwise_typed Nothing s from f end q sees h = tt
    otherwise_typed (Else b) s from f end q sees h = (λ named. absurd cc, block_typed b s _ _ q sees h)

-- ---- the loop

-- each item that names x is of type u64
abbrev pub AreTyped : List ℕ → List Entry → Type 0
AreTyped x [] = Unit {0}
AreTyped x (e ∷ es) = (names x e ≡ true → e.type ≡ Some ty.U64) × AreTyped x es

paired : (x : List ℕ) (es : List Entry) (ts : List (Option Ty)) → Typed x es ts → map type_of es ≡ ts → AreTyped x es
paired x [] [] h e = tt
paired x [] (t ∷ ts) h e = absurd h
paired x (y ∷ es) [] h e = absurd h
paired x (y ∷ es) (t ∷ ts) h e = let here : y.type ≡ t = cc in let more : map type_of es ≡ ts = cc in (λ named. here ∙ h.0 named, paired x es ts h.1 more)

pub index_typed : (k : Program) (l : PlainLoop) → check_fault k ≡ None → k.for_loop ≡ Some l → AreTyped l.index (loop_entries k)
index_typed k l checked loop =
    let scope = var_scope k in
    let here : Typed l.index (block_entries k (loop_start k + 1) l.body) (block_types (in_loop scope l) l.body) = block_typed k l.index l.body (in_loop scope l) (loop_start k + 1) (loop_start k + 1) (scope_index k) (find_last l.index scope.visible (index_alone k l checked loop).visible) (body_faultless k l checked loop) in
    paired l.index (loop_entries k) (for_loop_types scope (Some l))
    (subst (λ (o : Option PlainLoop). Typed l.index (for_loop_entries k (loop_start k) o) (for_loop_types scope (Some l))) (sym loop) (λ e. absurd cc, here))
    (loop_types k ∙ ap (for_loop_types scope) loop)
