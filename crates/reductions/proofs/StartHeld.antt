-- What is held throughout a loop: where it comes from, and the places of operands and accumulators among it.
use Rattle.std.proofs.Common.{◌≡◌, ℕ, zero, suc, ◌+◌, ◌≤◌, Bool, true, false, cond, List, [], ◌∷◌, ◌++◌, length, map, Option, Some, None, refl, sym, ap, ap₂, ◌∙◌, subst, arith}
use Rattle.std.specs.Prelude.{option_map, option_and_then, filter, slice_get, bytes_eq, ◌||◌}
use Rattle.std.specs.List.{find, list_any}
use Rattle.std.proofs.lemmas.Bool.{and_parts}
use Rattle.guest_types.specs.declared.length.Width.{Width}
use Rattle.guest_types.specs.Length.{width_bits}
use Rattle.guest_types.specs.Memory.{Memory}
use Rattle.kernel_tree.specs.declared.ops.Ty.{Ty}
use Rattle.kernel_tree.specs.declared.ast.Shape.{Shape}
use Rattle.kernel_tree.specs.Plain.{Parameter, Accumulator, Program}
use Rattle.kernel_tree.specs.Items.{loop_index}
use Rattle.kernel_tree.specs.Wrap.{bits_of}
use Rattle.kernel_tree.specs.Typing.{Scope, Local, local, has_name, binding_of, value_type, binding_of_shape, is_taken, declared, empty, var_scope, twice, params_faults, check_fault}
use Rattle.kernel_tree.proofs.Faultless.{nil-left, nil-right, params_faultless, vars_faultless}
use Rattle.kernel_tree.specs.Scopes.{locals_of, accs_of}
use Rattle.kernel_tree.proofs.Scopes.{var_visible}
use Rattle.kernel_tree.proofs.Names.{bytes_eq-refl, bytes_eq-told, NoName, Untaken, untaken_before, NoneNamed, vars_named}
use Rattle.kernel_tree.proofs.NoFault.{not_added}
use Rattle.reg_assign.specs.declared.interval.RegClass.TheVariants.{Z}
use Rattle.kernel_meaning.specs.Eval.{Names, value_at}
use Rattle.kernel_meaning.specs.ScalarRun.{started}
use Rattle.kernel_meaning.specs.Ranges.{TypeRange}
use Rattle.kernel_meaning.proofs.NameRanges.{found_type, name_range}
use Rattle.kernel_meaning.proofs.StartRanges.{started_ranged}
use Rattle.loop_form.specs.Entries.{Content, IsLiteral, IsName, IsUpdate, Entry, loop_entries}
use Rattle.loop_form.specs.Lanes.{var_type, target_type, lane_width_of}
use Rattle.loop_form.specs.Listing.{names}
use Rattle.loop_form.specs.Needs.{Throughout, is_scalar, is_named_scalar, scalar_of, scalars, new_constant, is_constant, constants, index_held, is_update, updates, is_updated, accumulating_of, same_type, same_number, throughout}
use Rattle.loop_form.specs.Streams.{place_from, place_of}
use Rattle.loop_form.proofs.ItemWidths.{AreWide, loop_wide}
use Rattle.lane_emit.specs.Right.{IsOf}
use Rattle.chunk_emit.specs.KernelLayout.{is_same, place_in}
use Rattle.chunk_emit.proofs.FitsEntries.{same_type-told, list_any_of_middle}
use Rattle.chunk_emit.proofs.FitsAssigned.{stands}
use Rattle.kernel_tree.specs.declared.ast.Shape.TheVariants as shape
use Rattle.kernel_tree.specs.declared.fault.Binding.TheVariants as binding
use Rattle.loop_form.specs.Needs as needs
use Rattle.loop_form.proofs.Places.{same_number-told}

-- ---- where it comes from

-- A parameter of the kernel is a scalar of this name; an accumulator has a type, and an item of the loop updates it.
abbrev pub Comes : Program → Throughout → Type 0
Comes k (needs.Scalar x) = (p : ℕ) × (t : Ty) × (slice_get k.params p ≡ Some (record { name = x; shape = shape.Scalar t }))
Comes k (needs.Constant t n) = Unit {0}
Comes k needs.Index = Unit {0}
Comes k (needs.Accumulating x) = (list_any (updates x) (loop_entries k) ≡ true) × (t : Ty) × (var_type x k.vars ≡ Some t)

abbrev AllCome : Program → List Throughout → Type 0
AllCome k [] = Unit {0}
AllCome k (t ∷ ts) = Comes k t × AllCome k ts

come_both : (k : Program) (ts us : List Throughout) → AllCome k ts → AllCome k us → AllCome k (ts ++ us)
come_both k [] us h j = j
come_both k (t ∷ ts) us h j = (h.0, come_both k ts us h.1 j)

come_at : (k : Program) (ts : List Throughout) (m : ℕ) (t : Throughout) → AllCome k ts → slice_get ts m ≡ Some t → Comes k t
come_at k [] m t h e = absurd cc
come_at k (u ∷ ts) zero t h e = let same : u ≡ t = cc in subst (Comes k) same h.0
come_at k (u ∷ ts) (suc m) t h e = come_at k ts m t h.1 e

scalars_come : (k : Program) (ps : List Parameter) (n : ℕ) → ((m : ℕ) → slice_get k.params (n + m) ≡ slice_get ps m) → AllCome k (scalars (loop_entries k) ps)
scalars_come k [] n h = tt
scalars_come k (p ∷ ps) n h = by (is_named_scalar (loop_entries k) p) refl (scalars_come k ps (n + 1) (λ m. let e : n + 1 + m ≡ n + suc m = omega arith in ap (slice_get k.params) e ∙ h (suc m)))
  where
    here : (s : Shape) → p.shape ≡ s → is_scalar s ≡ true → Comes k (scalar_of p)
    here (shape.Scalar t) e f = let zero_more : n ≡ n + 0 = omega arith in (n, t, ap (slice_get k.params) zero_more ∙ h 0 ∙ ap (λ s. Some (record { name = p.name; shape = s })) e)
    here (shape.Array t) e f = absurd cc

    by : (b : Bool) → is_named_scalar (loop_entries k) p ≡ b → AllCome k (scalars (loop_entries k) ps) → AllCome k (map scalar_of (cond b (p ∷ filter (is_named_scalar (loop_entries k)) ps) (filter (is_named_scalar (loop_entries k)) ps)))
    by true e r = (here p.shape refl (and_parts (is_scalar p.shape) _ e).0, r)
    by false e r = r

new_comes : (k : Program) (before : List Entry) (t : Option Ty) (c : Content) → AllCome k (new_constant before t c)
new_comes k before t (IsLiteral n) = by (list_any (is_constant t n) before)
  where
    by : (b : Bool) → AllCome k (cond b [] (needs.Constant t n ∷ []))
    by true = tt
    by false = (tt, tt)
new_comes k before t (IsName x) = tt
new_comes k before t other = tt

constants_come : (k : Program) (before es : List Entry) → AllCome k (constants before es)
unfolding constants
constants_come k before [] = tt
constants_come k before (e ∷ es) = come_both k (new_constant before e.type e.content) (constants (before ++ e ∷ []) es) (new_comes k before e.type e.content) (constants_come k (before ++ e ∷ []) es)

index_comes : (k : Program) (es : List Entry) (o : Option (List ℕ)) → AllCome k (index_held es o)
index_comes k es None = tt
index_comes k es (Some i) = by (list_any (names i) es)
  where
    by : (b : Bool) → AllCome k (cond b (needs.Index ∷ []) [])
    by true = (tt, tt)
    by false = tt

-- an accumulator has a type
abbrev IsVar : Program → Accumulator → Type 0
IsVar k v = (t : Ty) × (var_type v.name k.vars ≡ Some t)

var_there : (vs : List Accumulator) (x : List ℕ) → list_any (λ v. bytes_eq v.name x) vs ≡ true → (t : Ty) × (var_type x vs ≡ Some t)
var_there [] x e = absurd cc
var_there (v ∷ vs) x e = by (bytes_eq v.name x) e (var_there vs x)
  where
    by : (b : Bool) → b || list_any (λ v. bytes_eq v.name x) vs ≡ true → (list_any (λ v. bytes_eq v.name x) vs ≡ true → (t : Ty) × (var_type x vs ≡ Some t)) → (t : Ty) × (cond b (Some v.type) (var_type x vs) ≡ Some t)
    by true e more = (v.type, refl)
    by false e more = more e

abbrev AreVars : Program → List Accumulator → Type 0
AreVars k [] = Unit {0}
AreVars k (v ∷ vs) = IsVar k v × AreVars k vs

push_append : {A : Type 0} (xs : List A) (y : A) (ys : List A) → (xs ++ y ∷ []) ++ ys ≡ xs ++ y ∷ ys
push_append [] y ys = refl
push_append (x ∷ xs) y ys = ap (λ r. x ∷ r) (push_append xs y ys)

are_vars : (k : Program) (before vs : List Accumulator) → before ++ vs ≡ k.vars → AreVars k vs
are_vars k before [] e = tt
are_vars k before (v ∷ vs) e =
    (var_there k.vars v.name (ap (list_any (λ v2. bytes_eq v2.name v.name)) (sym e) ∙ list_any_of_middle (λ v2. bytes_eq v2.name v.name) before v vs (bytes_eq-refl v.name)), are_vars k (before ++ v ∷ []) vs (push_append before v vs ∙ e))

sums_come : (k : Program) (vs : List Accumulator) → AreVars k vs → AllCome k (map accumulating_of (filter (is_updated (loop_entries k)) vs))
sums_come k [] h = tt
sums_come k (v ∷ vs) h = by (is_updated (loop_entries k) v) refl (sums_come k vs h.1)
  where
    by : (b : Bool) → is_updated (loop_entries k) v ≡ b → AllCome k (map accumulating_of (filter (is_updated (loop_entries k)) vs)) → AllCome k (map accumulating_of (cond b (v ∷ filter (is_updated (loop_entries k)) vs) (filter (is_updated (loop_entries k)) vs)))
    by true e r = ((e, h.0.0, h.0.1), r)
    by false e r = r

all_come : (k : Program) → AllCome k (throughout k Z)
all_come k =
    come_both k (scalars (loop_entries k) k.params) _ (scalars_come k k.params 0 (λ m. let e : 0 + m ≡ m = omega arith in ap (slice_get k.params) e))
    (come_both k (constants [] (loop_entries k)) _ (constants_come k [] (loop_entries k))
    (come_both k (index_held (loop_entries k) (loop_index k)) _ (index_comes k (loop_entries k) (loop_index k)) (sums_come k k.vars (are_vars k [] k.vars refl))))

pub comes : (k : Program) (m : ℕ) (t : Throughout) → slice_get (throughout k Z) m ≡ Some t → Comes k t
comes k m t e = come_at k (throughout k Z) m t (all_come k) e

-- ---- the places of values

pub same_told : (t u : Throughout) → is_same t u ≡ true → t ≡ u
same_told (needs.Scalar x) (needs.Scalar y) e = ap needs.Scalar (bytes_eq-told x y e)
same_told (needs.Constant s m) (needs.Constant t n) e =
    let both = and_parts (same_type s t) (same_number m n) e in
    ap₂ needs.Constant (same_type-told s t both.0) (same_number-told m n both.1)
same_told needs.Index needs.Index e = refl
same_told (needs.Accumulating x) (needs.Accumulating y) e = ap needs.Accumulating (bytes_eq-told x y e)
same_told (needs.Scalar x) (needs.Constant t n) e = absurd cc
same_told (needs.Scalar x) needs.Index e = absurd cc
same_told (needs.Scalar x) (needs.Accumulating y) e = absurd cc
same_told (needs.Constant s m) (needs.Scalar y) e = absurd cc
same_told (needs.Constant s m) needs.Index e = absurd cc
same_told (needs.Constant s m) (needs.Accumulating y) e = absurd cc
same_told needs.Index (needs.Scalar y) e = absurd cc
same_told needs.Index (needs.Constant t n) e = absurd cc
same_told needs.Index (needs.Accumulating y) e = absurd cc
same_told (needs.Accumulating x) (needs.Scalar y) e = absurd cc
same_told (needs.Accumulating x) (needs.Constant t n) e = absurd cc
same_told (needs.Accumulating x) needs.Index e = absurd cc

-- a value that has a place stands there
pub value_stands : (t : Throughout) (ts : List Throughout) (m : ℕ) → place_in t ts ≡ Some m → slice_get ts m ≡ Some t
value_stands t ts m e = let s = stands t ts m e in s.is ∙ ap Some (same_told s.it t s.same)

-- ---- scalar parameters

place_of_param : (ps : List Parameter) (scope : Scope) (from n p : ℕ) (q : Parameter) → params_faults scope from ps ≡ [] → slice_get ps p ≡ Some q → (place_from q.name n ps ≡ Some (n + p)) × Untaken q.name scope.taken
place_of_param [] scope from n p q f e = absurd cc
place_of_param (x ∷ ps) scope from n zero q f e =
    let same : x ≡ q = cc in
    let number : n ≡ n + 0 = omega arith in
    let free : Untaken x.name scope.taken = not_added (is_taken scope x.name) _ (nil-left (twice from scope x.name) _ f) in (
      ap (λ b. cond b (Some n) (place_from q.name (n + 1) ps)) (ap (λ (r : Parameter). bytes_eq r.name q.name) same ∙ bytes_eq-refl q.name) ∙ ap Some number,
      subst (λ (r : Parameter). Untaken r.name scope.taken) same free,
    )
place_of_param (x ∷ ps) scope from n (suc p) q f e =
    let r = place_of_param ps (declared scope x.name (binding_of_shape x.shape)) (from + 1) (n + 1) p q (nil-right (twice from scope x.name) _ f) e in
    let free = untaken_before q.name x.name scope.taken r.1 in
    let number : n + 1 + p ≡ n + suc p = omega arith in
    (ap (λ b. cond b (Some n) (place_from q.name (n + 1) ps)) free.1 ∙ r.0 ∙ ap Some number, free.0)

-- of a checked kernel, the place of a parameter's name is its own
pub param_place : (k : Program) (p : ℕ) (q : Parameter) → check_fault k ≡ None → slice_get k.params p ≡ Some q → place_of q.name k.params ≡ Some p
param_place k p q sound e =
    (place_of_param k.params (empty (loop_index k)) 0 0 p q (params_faultless k sound) e).0
    ∙ (let number : 0 + p ≡ p = omega arith in ap Some number)

-- ---- accumulators

var_named : (ps : List Parameter) (vs : List Accumulator) (x : List ℕ) (t : Ty) → NoneNamed ps vs → var_type x vs ≡ Some t → NoName x (locals_of ps)
var_named ps [] x t h e = absurd cc
var_named ps (v ∷ vs) x t h e = by (bytes_eq v.name x) refl e (var_named ps vs x t h.1)
  where
    by : (b : Bool) → bytes_eq v.name x ≡ b → cond b (Some v.type) (var_type x vs) ≡ Some t → (var_type x vs ≡ Some t → NoName x (locals_of ps)) → NoName x (locals_of ps)
    by true g e more = subst (λ y. NoName y (locals_of ps)) (bytes_eq-told v.name x g) h.0
    by false g e more = more e

past_params : (ls rest : List Local) (x : List ℕ) → NoName x ls → found_type (ls ++ rest) x ≡ found_type rest x
past_params [] rest x h = refl
past_params (l ∷ ls) rest x h = ap (λ b. option_and_then value_type (option_map binding_of (cond b (Some l) (find (has_name x) (ls ++ rest))))) h.0 ∙ past_params ls rest x h.1

var_found : (vs : List Accumulator) (x : List ℕ) → found_type (accs_of vs) x ≡ var_type x vs
var_found [] x = refl
var_found (v ∷ vs) x = by (bytes_eq v.name x) (var_found vs x)
  where
    by : (b : Bool) → found_type (accs_of vs) x ≡ var_type x vs → option_and_then value_type (option_map binding_of (cond b (Some (local v.name (binding.Accumulator v.type))) (find (has_name x) (accs_of vs)))) ≡ cond b (Some v.type) (var_type x vs)
    by true h = refl
    by false h = h

-- of a checked kernel, an accumulator's value at the start is of its type
pub sum_typed : (k : Program) (args : List ℕ) (m : Memory) (names : Names) (x : List ℕ) (t : Ty) → check_fault k ≡ None → started k args m ≡ Some names → var_type x k.vars ≡ Some t → IsOf t (value_at names x)
sum_typed k args m names x t sound e is =
    let none = var_named k.params k.vars x t (vars_named k sound) is in
    let found : found_type (var_scope k).visible x ≡ Some t = ap (λ vs. found_type vs x) (var_visible k) ∙ past_params (locals_of k.params) (accs_of k.vars) x none ∙ var_found k.vars x ∙ is in
    subst (λ o. TypeRange o (value_at names x)) found (name_range (var_scope k).visible names x (started_ranged k args (length k.params) m names (vars_faultless k sound) e))

-- ---- widths

update_wide : (k : Program) (w : Width) (x : List ℕ) (t : Ty) (c : Content) → ((u : Ty) → target_type k c ≡ Some u → bits_of u ≤ width_bits w) → is_update x c ≡ true → var_type x k.vars ≡ Some t → bits_of t ≤ width_bits w
update_wide k w x t (IsUpdate y op) h e is = h t (ap (λ z. var_type z k.vars) (bytes_eq-told y x e) ∙ is)
update_wide k w x t other h e is = absurd cc

updated_wide : (k : Program) (w : Width) (x : List ℕ) (t : Ty) (es : List Entry) → AreWide k w es → list_any (updates x) es ≡ true → var_type x k.vars ≡ Some t → bits_of t ≤ width_bits w
updated_wide k w x t [] h e is = absurd cc
updated_wide k w x t (y ∷ es) h e is = by (updates x y) refl e (λ f. updated_wide k w x t es h.1 f is)
  where
    by : (b : Bool) → updates x y ≡ b → b || list_any (updates x) es ≡ true → (list_any (updates x) es ≡ true → bits_of t ≤ width_bits w) → bits_of t ≤ width_bits w
    by true f e more = update_wide k w x t y.content h.0.target f is
    by false f e more = more e

-- the type of an updated accumulator is no wider than the lanes
pub sum_wide : (k : Program) (x : List ℕ) (t : Ty) → list_any (updates x) (loop_entries k) ≡ true → var_type x k.vars ≡ Some t → bits_of t ≤ width_bits (lane_width_of k)
sum_wide k x t e is = updated_wide k (lane_width_of k) x t (loop_entries k) (loop_wide k) e is
