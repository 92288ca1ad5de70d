-- The places of accumulators among the values that are held throughout a loop: each that the loop updates has one place, and
-- stands after all else.
use Rattle.std.proofs.Common.{◌≡◌, ℕ, zero, suc, ◌+◌, ◌≤◌, Bool, true, false, cond, List, [], ◌∷◌, ◌++◌, length, map, Option, Some, None, refl, sym, ap, ◌∙◌, arith, append_assoc}
use Rattle.std.specs.Prelude.{bytes_eq, unwrap_or, slice_get, filter, ◌||◌}
use Rattle.std.specs.List.{list_any}
use mathlib.Core.Bool.{or-true}
use Rattle.guest_types.specs.declared.length.Width.{Width}
use Rattle.guest_types.specs.Length.{width_bits}
use Rattle.kernel_tree.specs.declared.ops.Ty.{Ty}
use Rattle.kernel_tree.specs.declared.ops.Ty.TheVariants.{U64}
use Rattle.kernel_tree.specs.Wrap.{bits_of}
use Rattle.kernel_tree.specs.Plain.{Parameter, Accumulator, Program}
use Rattle.kernel_tree.specs.Items.{loop_index}
use Rattle.kernel_tree.specs.Typing.{check_fault}
use Rattle.kernel_tree.proofs.Names.{bytes_eq-refl, bytes_swap, bytes_eq-told}
use Rattle.reg_assign.specs.declared.interval.RegClass.TheVariants.{Z}
use Rattle.loop_form.specs.Entries.{Content, IsLiteral, IsUpdate, Entry, loop_entries}
use Rattle.loop_form.specs.Lanes.{var_type, target_type, lane_width_of}
use Rattle.loop_form.specs.Listing.{names}
use Rattle.loop_form.specs.Needs.{Throughout, Scalar, Constant, Index, Accumulating, scalar_of, is_named_scalar, scalars, is_constant, new_constant, constants, index_held, is_update, updates, is_updated, accumulating_of, throughout}
use Rattle.loop_form.proofs.ItemWidths.{AreWide, loop_wide}
use Rattle.vector_order.specs.Order.{is_var}
use Rattle.chunk_emit.specs.KernelLayout.{is_same, next_place, place_in, sum_place}
use Rattle.chunk_emit.proofs.FitsAssigned.{stands}
use Rattle.reductions.specs.EdgeCode.{type_of_var}
use Rattle.reductions.proofs.FoldNames.{Unlike, Distinct, var_name, vars_distinct, distinct_kept, typed_var}
use Rattle.lane_emit.proofs.PlaceMoved.{moved as moved_by}

-- ---- values that are no accumulators

abbrev is_sum : Throughout → Bool
is_sum (Scalar x) = false
is_sum (Constant t n) = false
is_sum Index = false
is_sum (Accumulating x) = true

abbrev NoSums : List Throughout → Type 0
NoSums [] = Unit {0}
NoSums (t ∷ ts) = (is_sum t ≡ false) × NoSums ts

no_sums_append : (xs ys : List Throughout) → NoSums xs → NoSums ys → NoSums (xs ++ ys)
no_sums_append [] ys h k = k
no_sums_append (x ∷ xs) ys h k = (h.0, no_sums_append xs ys h.1 k)

no_scalars : (es : List Entry) (ps : List Parameter) → NoSums (scalars es ps)
no_scalars es [] = tt
no_scalars es (p ∷ ps) = by (is_named_scalar es p) (no_scalars es ps)
  where
    by : (b : Bool) → NoSums (scalars es ps) → NoSums (map scalar_of (cond b (p ∷ filter (is_named_scalar es) ps) (filter (is_named_scalar es) ps)))
    by true h = (refl, h)
    by false h = h

no_literal : (before : List Entry) (t : Option Ty) (c : Content) → NoSums (new_constant before t c)
no_literal before t (IsLiteral n) = by (list_any (is_constant t n) before)
  where
    by : (b : Bool) → NoSums (cond b [] (Constant t n ∷ []))
    by true = tt
    by false = (refl, tt)
no_literal before t _ = tt

no_constants : (before es : List Entry) → NoSums (constants before es)
unfolding constants
no_constants before [] = tt
no_constants before (e ∷ es) = no_sums_append (new_constant before e.type e.content) (constants (before ++ e ∷ []) es) (no_literal before e.type e.content) (no_constants (before ++ e ∷ []) es)

index_has_no_sums : (es : List Entry) (o : Option (List ℕ)) → NoSums (index_held es o)
index_has_no_sums es None = tt
index_has_no_sums es (Some i) = by (list_any (names i) es)
  where
    by : (b : Bool) → NoSums (cond b (Index ∷ []) [])
    by true = (refl, tt)
    by false = tt

-- ---- the two parts of what is held throughout

abbrev others : Program → List Throughout
others k = scalars (loop_entries k) k.params ++ (constants [] (loop_entries k) ++ index_held (loop_entries k) (loop_index k))

abbrev sums_of : List Accumulator → List Throughout
sums_of vs = map accumulating_of vs

abbrev updated_vars : Program → List Accumulator
updated_vars k = filter (is_updated (loop_entries k)) k.vars

throughout_parts : (k : Program) → throughout k Z ≡ others k ++ sums_of (updated_vars k)
throughout_parts k =
    let xs = scalars (loop_entries k) k.params in
    let ys = constants [] (loop_entries k) in
    let zs = index_held (loop_entries k) (loop_index k) in
    let ws = sums_of (updated_vars k) in
    ap (λ r. xs ++ r) (sym (append_assoc ys zs ws)) ∙ sym (append_assoc xs (ys ++ zs) ws)

no_others : (k : Program) → NoSums (others k)
no_others k =
    no_sums_append (scalars (loop_entries k) k.params) (constants [] (loop_entries k) ++ index_held (loop_entries k) (loop_index k)) (no_scalars (loop_entries k) k.params)
    (no_sums_append (constants [] (loop_entries k)) (index_held (loop_entries k) (loop_index k)) (no_constants [] (loop_entries k)) (index_has_no_sums (loop_entries k) (loop_index k)))

-- ---- places

not_same : (t : Throughout) (x : List ℕ) → is_sum t ≡ false → is_same t (Accumulating x) ≡ false
not_same (Scalar y) x e = refl
not_same (Constant t n) x e = refl
not_same Index x e = refl
not_same (Accumulating y) x e = absurd cc

next_moved : (n : ℕ) (o : Option ℕ) → next_place (moved_by n o) ≡ moved_by (suc n) o
next_moved n None = refl
next_moved n (Some m) = ap Some (let e : suc (n + m) ≡ suc n + m = omega arith in e)

moved_none : (o : Option ℕ) → o ≡ moved_by 0 o
moved_none None = refl
moved_none (Some m) = ap Some (let e : m ≡ 0 + m = omega arith in e)

place_following : (xs ys : List Throughout) (x : List ℕ) → NoSums xs → place_in (Accumulating x) (xs ++ ys) ≡ moved_by (length xs) (place_in (Accumulating x) ys)
place_following [] ys x h = moved_none (place_in (Accumulating x) ys)
place_following (t ∷ xs) ys x h =
    ap (λ b. cond b (Some 0) (next_place (place_in (Accumulating x) (xs ++ ys)))) (not_same t x h.0) ∙ ap next_place (place_following xs ys x h.1)
    ∙ next_moved (length xs) (place_in (Accumulating x) ys)

-- an accumulator at a place of the second part
record IsFollowing (xs ys : List Throughout) (x : List ℕ) (j : ℕ) : Type 0 where
  i : ℕ
  place : j ≡ length xs + i
  is : slice_get ys i ≡ Some (Accumulating x)

some_same : {t u : Throughout} → Some t ≡ Some u → t ≡ u
some_same e = cc

following_of_accumulating : (xs ys : List Throughout) (x : List ℕ) (j : ℕ) → NoSums xs → slice_get (xs ++ ys) j ≡ Some (Accumulating x) → IsFollowing xs ys x j
following_of_accumulating [] ys x j h e = record { i = j; place = omega arith; is = e }
following_of_accumulating (t ∷ xs) ys x zero h e = let no = sym h.0 ∙ ap is_sum (some_same e) in absurd cc
following_of_accumulating (t ∷ xs) ys x (suc j) h e = let b = following_of_accumulating xs ys x j h.1 e in let p = b.place in record { i = b.i; place = omega (arith, p); is = b.is }

name_same : {x y : List ℕ} → Some (Accumulating x) ≡ Some (Accumulating y) → x ≡ y
name_same e = cc

unlike_at : (vs : List Accumulator) (x y : List ℕ) (i : ℕ) → Unlike x (map var_name vs) → slice_get (sums_of vs) i ≡ Some (Accumulating y) → bytes_eq y x ≡ false
unlike_at [] x y i u e = absurd cc
unlike_at (v ∷ vs) x y zero u e = ap (λ z. bytes_eq z x) (sym (name_same e)) ∙ u.0
unlike_at (v ∷ vs) x y (suc i) u e = unlike_at vs x y i u.1 e

sums_first : (vs : List Accumulator) (y : List ℕ) (i : ℕ) → Distinct (map var_name vs) → slice_get (sums_of vs) i ≡ Some (Accumulating y) → place_in (Accumulating y) (sums_of vs) ≡ Some i
sums_first [] y i d e = absurd cc
sums_first (v ∷ vs) y zero d e =
    ap (λ b. cond b (Some 0) (next_place (place_in (Accumulating y) (sums_of vs)))) (ap (λ z. bytes_eq z y) (name_same e) ∙ bytes_eq-refl y)
sums_first (v ∷ vs) y (suc i) d e =
    ap (λ b. cond b (Some 0) (next_place (place_in (Accumulating y) (sums_of vs)))) (bytes_swap y v.name (unlike_at vs v.name y i d.0 e)) ∙ ap next_place (sums_first vs y i d.1 e)

-- the place of an accumulator is the one at which it stands
pub first_place : (k : Program) (y : List ℕ) (j : ℕ) → check_fault k ≡ None → slice_get (throughout k Z) j ≡ Some (Accumulating y) → sum_place k y ≡ Some j
first_place k y j c e =
    let b = following_of_accumulating (others k) (sums_of (updated_vars k)) y j (no_others k) (ap (λ ts. slice_get ts j) (sym (throughout_parts k)) ∙ e) in
    ap (place_in (Accumulating y)) (throughout_parts k) ∙ place_following (others k) (sums_of (updated_vars k)) y (no_others k)
    ∙ ap (moved_by (length (others k))) (sums_first (updated_vars k) y b.i (distinct_kept (is_updated (loop_entries k)) k.vars (vars_distinct k c)) b.is) ∙ ap Some (sym b.place)

same_is : (t : Throughout) (x : List ℕ) → is_same t (Accumulating x) ≡ true → t ≡ Accumulating x
same_is (Scalar y) x e = absurd cc
same_is (Constant t n) x e = absurd cc
same_is Index x e = absurd cc
same_is (Accumulating y) x e = ap Accumulating (bytes_eq-told y x e)

-- at an accumulator's place it stands
pub name_at : (k : Program) (x : List ℕ) (m : ℕ) → sum_place k x ≡ Some m → slice_get (throughout k Z) m ≡ Some (Accumulating x)
name_at k x m e = let s = stands (Accumulating x) (throughout k Z) m e in s.is ∙ ap Some (same_is s.it x s.same)

-- so no two have one place
pub place_names : (k : Program) (x y : List ℕ) (m : ℕ) → sum_place k x ≡ Some m → slice_get (throughout k Z) m ≡ Some (Accumulating y) → x ≡ y
place_names k x y m e f = name_same (sym (name_at k x m e) ∙ f)

-- ---- accumulators that the loop updates

-- what has a place is an accumulator, and updated
pub record IsSum (k : Program) (x : List ℕ) : Type 0 where
  pub var : list_any (is_var x) k.vars ≡ true
  pub updated : list_any (updates x) (loop_entries k) ≡ true

record IsIn (es : List Entry) (vs : List Accumulator) (x : List ℕ) : Type 0 where
  var : list_any (is_var x) vs ≡ true
  updated : list_any (updates x) es ≡ true

in_sums : (es : List Entry) (vs : List Accumulator) (x : List ℕ) (i : ℕ) → place_in (Accumulating x) (sums_of (filter (is_updated es) vs)) ≡ Some i → IsIn es vs x
in_sums es [] x i e = absurd cc
in_sums es (v ∷ vs) x i e = by (is_updated es v) refl e (λ j q. later (in_sums es vs x j q))
  where
    later : IsIn es vs x → IsIn es (v ∷ vs) x
    later h = record { var = ap (λ b. bytes_eq v.name x || b) h.var ∙ or-true (bytes_eq v.name x); updated = h.updated }

    stepped : (o : Option ℕ) → next_place o ≡ Some i → ((j : ℕ) → o ≡ Some j → IsIn es (v ∷ vs) x) → IsIn es (v ∷ vs) x
    stepped None e more = absurd cc
    stepped (Some j) e more = more j refl

    named : (b : Bool) → bytes_eq v.name x ≡ b → is_updated es v ≡ true → cond b (Some 0) (next_place (place_in (Accumulating x) (sums_of (filter (is_updated es) vs)))) ≡ Some i
        → ((j : ℕ) → place_in (Accumulating x) (sums_of (filter (is_updated es) vs)) ≡ Some j → IsIn es (v ∷ vs) x) → IsIn es (v ∷ vs) x
    named true f g e more = record { var = ap (λ b. b || list_any (is_var x) vs) f; updated = ap (λ y. list_any (updates y) es) (sym (bytes_eq-told v.name x f)) ∙ g }
    named false f g e more = stepped (place_in (Accumulating x) (sums_of (filter (is_updated es) vs))) e more

    by : (b : Bool) → is_updated es v ≡ b → place_in (Accumulating x) (sums_of (cond b (v ∷ filter (is_updated es) vs) (filter (is_updated es) vs))) ≡ Some i
        → ((j : ℕ) → place_in (Accumulating x) (sums_of (filter (is_updated es) vs)) ≡ Some j → IsIn es (v ∷ vs) x) → IsIn es (v ∷ vs) x
    by true g e more = named (bytes_eq v.name x) refl g e more
    by false g e more = more i e

pub sum_is : (k : Program) (x : List ℕ) (m : ℕ) → sum_place k x ≡ Some m → IsSum k x
sum_is k x m e =
    let all = sym (place_following (others k) (sums_of (updated_vars k)) x (no_others k)) ∙ sym (ap (place_in (Accumulating x)) (throughout_parts k)) ∙ e in
    by (place_in (Accumulating x) (sums_of (updated_vars k))) refl all
  where
    by : (o : Option ℕ) → place_in (Accumulating x) (sums_of (updated_vars k)) ≡ o → moved_by (length (others k)) o ≡ Some m → IsSum k x
    by None f e = absurd cc
    by (Some i) f e = let h = in_sums (loop_entries k) k.vars x i f in record { var = h.var; updated = h.updated }

-- the type of such an accumulator
pub type_is : (k : Program) (x : List ℕ) (m : ℕ) → sum_place k x ≡ Some m → var_type x k.vars ≡ Some (type_of_var k x)
type_is k x m e = by (var_type x k.vars) refl (typed_var x k.vars (sum_is k x m e).var)
  where
    by : (o : Option Ty) → var_type x k.vars ≡ o → (t : Ty) × (o ≡ Some t) → var_type x k.vars ≡ Some (type_of_var k x)
    by None f h = let no = h.1 in absurd cc
    by (Some t) f h = f ∙ ap (λ o. Some (unwrap_or o U64)) (sym f)

-- it is no wider than a lane
wide_in : (k : Program) (w : Width) (es : List Entry) (x : List ℕ) (t : Ty) → AreWide k w es → var_type x k.vars ≡ Some t → list_any (updates x) es ≡ true → bits_of t ≤ width_bits w
wide_in k w [] x t h e u = absurd cc
wide_in k w (f ∷ es) x t h e u = by (updates x f) refl u (λ q. wide_in k w es x t h.1 e q)
  where
    at : (c : Content) → is_update x c ≡ true → ((u : Ty) → target_type k c ≡ Some u → bits_of u ≤ width_bits w) → bits_of t ≤ width_bits w
    at (IsUpdate y op) q target = target t (ap (λ z. var_type z k.vars) (bytes_eq-told y x q) ∙ e)
    at _ q target = absurd cc

    by : (b : Bool) → updates x f ≡ b → b || list_any (updates x) es ≡ true → (list_any (updates x) es ≡ true → bits_of t ≤ width_bits w) → bits_of t ≤ width_bits w
    by true q u more = at f.content q h.0.target
    by false q u more = more u

pub sum_wide : (k : Program) (x : List ℕ) (m : ℕ) → sum_place k x ≡ Some m → bits_of (type_of_var k x) ≤ width_bits (lane_width_of k)
sum_wide k x m e = wide_in k (lane_width_of k) (loop_entries k) x (type_of_var k x) (loop_wide k) (type_is k x m e) (sum_is k x m e).updated
