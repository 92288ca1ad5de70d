-- Values lie within their bounds, and what lies in a type is not wrapped.
use Rattle.std.proofs.Common.{◌≡◌, ◌∙◌, ℕ, ◌+◌, ◌^◌, ◌/◌, ◌≤◌, Bool, true, false, List, [], ◌++◌, Option, Some, None, refl, sym, ap, subst, arith}
use Rattle.std.specs.Prelude.{ℤ, pos, negsuc, ◌≤ℤ◌, bit_and, int_le, option_map, option_and_then, is_some}
use Rattle.std.specs.Int.{int_shr}
use Rattle.std.proofs.lemmas.Int.{ints, clamps}
use Rattle.std.proofs.lemmas.Nat.{pow_pos, and_le_l, and_le_r}
use Rattle.std.proofs.Math.Nat.{le-div_iff_mul-le, div-mul-le_self}
use Rattle.guest_types.specs.Memory.{Memory}
use Rattle.kernel_tree.specs.declared.ops.Ty.{Ty}
use Rattle.kernel_tree.specs.declared.ops.UnaryOp.{UnaryOp}
use Rattle.kernel_tree.specs.declared.ops.UnaryOp.TheVariants as unary
use Rattle.kernel_tree.specs.declared.ops.BinaryOp.{BinaryOp}
use Rattle.kernel_tree.specs.declared.ops.BinaryOp.TheVariants as binary
use Rattle.kernel_tree.specs.declared.fault.Found.{Found}
use Rattle.kernel_tree.specs.Plain.{Term, Literal, Variable, Element, Unary, Operation, Shift, Conversion, Choice, Comparison, Both, Either, Not}
use Rattle.kernel_tree.specs.Items.{term_size}
use Rattle.kernel_tree.specs.Wrap.{wrap}
use Rattle.kernel_tree.specs.Typing.{Scope, Value, Condition, lookup, value_type, element_type, side_type, own, faults, mismatch, untyped}
use Rattle.kernel_tree.proofs.Faultless.{nil-left, nil-right, never}
use Rattle.kernel_tree.proofs.NoFault.{untyped_some}
use Rattle.kernel_meaning.specs.Operators.{word, unary_on, binary_on, shift_on, shift_count}
use Rattle.kernel_meaning.specs.TypeValues.{IsOf}
use Rattle.kernel_meaning.specs.Eval.{Names, on_both, chosen, value, holds}
use Rattle.kernel_meaning.specs.Ranges.{AreRanged}
use Rattle.kernel_meaning.proofs.TypeRanges.{wrap-of, wrap-is_of}
use Rattle.kernel_meaning.proofs.ValueRanges.{IsTyped, typed, value_range}
use Rattle.value_bounds.specs.declared.bounds.Bounds.{Bounds}
use Rattle.value_bounds.specs.ValueBounds.{between, IsWithin, is_value, lying_in, in_type, kept, unary_bounds, common, binary_bounds, shift_bounds, joined, bounds_of}
use Rattle.value_bounds.proofs.SaturatedBounds.{value_of}
use Rattle.value_bounds.proofs.Corners.{rises, product_within}

-- ---- operators

-- what is known of an integer
abbrev pub Known : Option Bounds → ℤ → Type 0
Known None z = Unit {0}
Known (Some b) z = IsWithin b z

pub unary_known : (op : UnaryOp) (b : Bounds) (x : ℤ) → IsWithin b x → Known (unary_bounds op b) (unary_on op x)
unary_known unary.Neg b x h = let l = h.0 in let k = h.1 in (omega (arith, ints), omega (arith, ints))
unary_known unary.Flip b x h = tt
unary_known unary.Abs b (pos n) h = let l = h.0 in let k = h.1 in (omega (arith, ints), omega (arith, ints, clamps))
unary_known unary.Abs b (negsuc n) h = let l = h.0 in let k = h.1 in (omega (arith, ints), omega (arith, ints, clamps))

-- the common bits of words, of which one is that of a number
common_left : (n : ℕ) (y : ℤ) → bit_and (word (pos n)) (word y) ≤ n
common_left n y = let le = and_le_l (word (pos n)) (word y) in omega (arith, le)

common_right : (x : ℤ) (n : ℕ) → bit_and (word x) (word (pos n)) ≤ n
common_right x n = let le = and_le_r (word x) (word (pos n)) in omega (arith, le)

common_known : (p q : Bool) (a b : Bounds) (x y : ℤ) → int_le (pos 0) a.low ≡ p → int_le (pos 0) b.low ≡ q → IsWithin a x → IsWithin b y → Known (common p q a b) (pos (bit_and (word x) (word y)))
common_known true true a b (pos m) (pos n) e f h k =
    let l = common_left m (pos n) in
    let r = common_right (pos m) n in
    let u = h.1 in let v = k.1 in (omega (arith, ints), omega (arith, ints, clamps))
common_known true true a b (negsuc m) y e f h k = let u = h.0 in absurd (omega (arith, ints))
common_known true true a b (pos m) (negsuc n) e f h k = let u = k.0 in absurd (omega (arith, ints))
common_known true false a b (pos m) y e f h k = let l = common_left m y in let u = h.1 in (omega (arith, ints), omega (arith, ints))
common_known true false a b (negsuc m) y e f h k = let u = h.0 in absurd (omega (arith, ints))
common_known false true a b x (pos n) e f h k = let r = common_right x n in let v = k.1 in (omega (arith, ints), omega (arith, ints))
common_known false true a b x (negsuc n) e f h k = let u = k.0 in absurd (omega (arith, ints))
common_known false false a b x y e f h k = tt

pub binary_known : (op : BinaryOp) (a b : Bounds) (x y : ℤ) → IsWithin a x → IsWithin b y → Known (binary_bounds op a b) (binary_on op x y)
binary_known binary.Add a b x y h k = let l = h.0 in let m = h.1 in let u = k.0 in let v = k.1 in (omega (arith, ints), omega (arith, ints))
binary_known binary.Sub a b x y h k = let l = h.0 in let m = h.1 in let u = k.0 in let v = k.1 in (omega (arith, ints), omega (arith, ints))
binary_known binary.Mul a b x y h k = product_within a b x y h k
binary_known binary.Min a b x y h k = let l = h.0 in let m = h.1 in let u = k.0 in let v = k.1 in (omega (arith, ints, clamps), omega (arith, ints, clamps))
binary_known binary.Max a b x y h k = let l = h.0 in let m = h.1 in let u = k.0 in let v = k.1 in (omega (arith, ints, clamps), omega (arith, ints, clamps))
binary_known binary.And a b x y h k = common_known (int_le (pos 0) a.low) (int_le (pos 0) b.low) a b x y refl refl h k
binary_known binary.Or a b x y h k = tt
binary_known binary.Xor a b x y h k = tt

div_rises : (a x n : ℕ) → a ≤ x → a / 2 ^ n ≤ x / 2 ^ n
div_rises a x n h = (le-div_iff_mul-le (pow_pos n)).1 (let le = div-mul-le_self a (2 ^ n) in omega (arith, le))

shr_rises : (a x : ℤ) (n : ℕ) → a ≤ℤ x → (int_shr a n) ≤ℤ (int_shr x n)
shr_rises (pos a) (pos x) n h = let le : a ≤ x = omega (arith, ints) in let d : a / 2 ^ n ≤ x / 2 ^ n = div_rises a x n le in omega (arith, ints)
shr_rises (pos a) (negsuc x) n h = absurd (omega (arith, ints))
shr_rises (negsuc a) (pos x) n h = omega (arith, ints)
shr_rises (negsuc a) (negsuc x) n h = let le : x ≤ a = omega (arith, ints) in let d : x / 2 ^ n ≤ a / 2 ^ n = div_rises x a n le in omega (arith, ints)

pub shift_known : (left : Bool) (n : ℕ) (b : Bounds) (x : ℤ) → IsWithin b x → IsWithin (shift_bounds left n b) (shift_on left n x)
shift_known true n b x h = (rises b.low x (2 ^ n) h.0, rises x b.high (2 ^ n) h.1)
shift_known false n b x h = (shr_rises b.low x n h.0, shr_rises x b.high n h.1)

-- ---- types

-- both ends are values of a type: so are all between
of_ends : (t : Ty) (b : Bounds) (z : ℤ) → IsOf t b.low → IsOf t b.high → IsWithin b z → IsOf t z
of_ends t b z h k w = let l = h.0 in let m = k.1 in let u = w.0 in let v = w.1 in (omega (arith, ints), omega (arith, ints))

lying_cases : {A : Type 0} (t : Ty) (b : Bounds) → (lying_in t b ≡ None → A) → (lying_in t b ≡ Some b → IsOf t b.low → IsOf t b.high → A) → A
lying_cases {A = A} t b out in_both = by (is_value t b.low) (is_value t b.high) refl refl
  where
    by : (p q : Bool) → is_value t b.low ≡ p → is_value t b.high ≡ q → A
    by true true e f = in_both (rw (e, f) refl) (value_of t b.low e) (value_of t b.high f)
    by true false e f = out (rw (e, f) refl)
    by false q e f = out (rw e refl)

-- a value that is wrapped to a type lies within what is kept of the integer's bounds
pub kept_within : (t : Ty) (o : Option Bounds) (z : ℤ) → Known o z → IsWithin (kept (Some t) o) (wrap t z)
kept_within t None z h = wrap-is_of t z
kept_within t (Some b) z h =
    lying_cases t b
    (λ e. rw e (wrap-is_of t z))
    (λ e l m. rw (e, wrap-of t z (of_ends t b z l m h)) h)

-- where they lie in the type, it is not wrapped
pub stays_unwrapped : (t : Ty) (o : Option Bounds) (z : ℤ) → is_some (in_type (Some t) o) ≡ true → Known o z → wrap t z ≡ z
stays_unwrapped t None z e h = absurd cc
stays_unwrapped t (Some b) z e h =
    lying_cases t b
    (λ f. absurd (let g : is_some (lying_in t b) ≡ false = ap is_some f in cc))
    (λ f l m. wrap-of t z (of_ends t b z l m h))

-- ---- expressions

abbrev pub IsSome : Option Ty → Type 0
IsSome None = ⊥
IsSome (Some t) = Unit {0}

some_type : (o : Option Ty) → (t : Ty) × (o ≡ Some t) → IsSome o
some_type None h = absurd (let e = h.1 in cc)
some_type (Some t) h = tt

-- names, elements and casts have the types that their places want
abbrev pub AreTyped : Scope → Option Ty → Term → Type 0
AreTyped s want (Literal n) = Unit {0}
AreTyped s want (Variable x) = option_and_then value_type (lookup s x) ≡ want
AreTyped s want (Element a i) = option_and_then element_type (lookup s a) ≡ want
AreTyped s want (Unary op e) = AreTyped s want e
AreTyped s want (Operation op x y) = AreTyped s want x × AreTyped s want y
AreTyped s want (Shift left e n) = AreTyped s want e
AreTyped s want (Conversion e t) = (Some t ≡ want) × IsSome (own s e) × AreTyped s (own s e) e
AreTyped s want (Choice c x y) = AreTyped s want x × AreTyped s want y
AreTyped s want other = ⊥

pub is_typed : (e : Term) (s : Scope) (t : Ty) → AreTyped s (Some t) e → IsTyped s t e
is_typed (Literal n) s t h = tt
is_typed (Variable x) s t h = h
is_typed (Element a i) s t h = h
is_typed (Unary op e) s t h = tt
is_typed (Operation op x y) s t h = tt
is_typed (Shift left e n) s t h = tt
is_typed (Conversion e u) s t h = let same = h.0 in cc
is_typed (Choice c x y) s t h = (is_typed x s t h.0, is_typed y s t h.1)
is_typed other s t h = absurd h

-- so they have where no rule fails
pub are_typed : (e : Term) (s : Scope) (from : ℕ) (want : Option Ty) → IsSome want → faults s from (Value want) e ≡ [] → AreTyped s want e
are_typed (Literal n) s from want some h = tt
are_typed (Variable x) s from None some h = absurd some
are_typed (Variable x) s from (Some t) some h = typed (Variable x) s from t h
are_typed (Element a i) s from None some h = absurd some
are_typed (Element a i) s from (Some t) some h = typed (Element a i) s from t h
are_typed (Unary op e) s from want some h = are_typed e s from want some (nil-left (faults s from (Value want) e) _ h)
are_typed (Operation op x y) s from want some h =
    let rest = nil-right (faults s from (Value want) x) _ h in
    (are_typed x s from want some (nil-left (faults s from (Value want) x) _ h), are_typed y s (from + term_size s.index x) want some (nil-left (faults s (from + term_size s.index x) (Value want) y) _ rest))
are_typed (Shift left e n) s from want some h = are_typed e s from want some (nil-left (faults s from (Value want) e) _ h)
are_typed (Conversion e t) s from None some h = absurd some
are_typed (Conversion e t) s from (Some u) some h =
    let item = from + term_size s.index e in
    let after : List Found = mismatch item (Some u) t ++ untyped item (own s e) in
    let rest : mismatch item (Some u) t ++ untyped item (own s e) ≡ [] = nil-right (faults s from (Value (own s e)) e) after h in
    let known = some_type (own s e) (untyped_some item (own s e) (nil-right (mismatch item (Some u) t) (untyped item (own s e)) rest)) in
    (ap Some (sym (typed (Conversion e t) s from u h)), known, are_typed e s from (own s e) known (nil-left (faults s from (Value (own s e)) e) after h))
are_typed (Choice c x y) s from want some h =
    let rest = nil-right (faults s from (Value want) x) _ h in
    (are_typed x s from want some (nil-left (faults s from (Value want) x) _ h), are_typed y s (from + term_size s.index x) want some (nil-left (faults s (from + term_size s.index x) (Value want) y) _ rest))
are_typed (Comparison op x y) s from want some h = absurd (never (nil-right (faults s (from + term_size s.index x) (Value (side_type s x y)) y) _ (nil-right (faults s from (Value (side_type s x y)) x) _ h)))
are_typed (Both x y) s from want some h = absurd (never (nil-right (faults s (from + term_size s.index x) Condition y) _ (nil-right (faults s from Condition x) _ h)))
are_typed (Either x y) s from want some h = absurd (never (nil-right (faults s (from + term_size s.index x + 1) Condition y) _ (nil-right (faults s from Condition x) _ h)))
are_typed (Not e) s from want some h = absurd (never (nil-right (faults s from Condition e) _ h))

map_within : (k : Bounds) (f : ℤ → ℤ) (o : Option ℤ) (v : ℤ) → ((z : ℤ) → o ≡ Some z → IsWithin k (f z)) → option_map f o ≡ Some v → IsWithin k v
map_within k f None v h e = absurd cc
map_within k f (Some z) v h e = let g : f z ≡ v = cc in subst (IsWithin k) g (h z refl)

both_within : (k : Bounds) (f : ℤ → ℤ → ℤ) (o p : Option ℤ) (v : ℤ) → ((y z : ℤ) → o ≡ Some y → p ≡ Some z → IsWithin k (f y z)) → on_both f o p ≡ Some v → IsWithin k v
both_within k f None p v h e = absurd cc
both_within k f (Some y) None v h e = absurd cc
both_within k f (Some y) (Some z) v h e = let g : f y z ≡ v = cc in subst (IsWithin k) g (h y z refl refl)

joined_left : (a b : Bounds) (v : ℤ) → IsWithin a v → IsWithin (joined a b) v
joined_left a b v h = let l = h.0 in let m = h.1 in (omega (arith, ints, clamps), omega (arith, ints, clamps))

joined_right : (a b : Bounds) (v : ℤ) → IsWithin b v → IsWithin (joined a b) v
joined_right a b v h = let l = h.0 in let m = h.1 in (omega (arith, ints, clamps), omega (arith, ints, clamps))

choice_within : (a b : Bounds) (c : Option Bool) (o p : Option ℤ) (v : ℤ) → ((z : ℤ) → o ≡ Some z → IsWithin a z) → ((z : ℤ) → p ≡ Some z → IsWithin b z) → chosen o p c ≡ Some v → IsWithin (joined a b) v
choice_within a b None o p v f g e = absurd cc
choice_within a b (Some c) None p v f g e = absurd cc
choice_within a b (Some c) (Some y) None v f g e = absurd cc
choice_within a b (Some true) (Some y) (Some z) v f g e = joined_left a b v (f v e)
choice_within a b (Some false) (Some y) (Some z) v f g e = joined_right a b v (g v e)

at_some : {A : Type 0} (o : Option Ty) → IsSome o → ((t : Ty) → o ≡ Some t → A) → A
at_some None h f = absurd h
at_some (Some t) h f = f t refl

module _ (s : Scope) (m : Memory) (names : Names) (ranged : AreRanged s.visible names) where
  pub within_bounds : (e : Term) (t : Ty) (v : ℤ) → AreTyped s (Some t) e → value s (Some t) e m names ≡ Some v → IsWithin (bounds_of s (Some t) e) v
  within_bounds (Literal n) t v is e =
      let g : wrap t n ≡ v = cc in
      subst (IsWithin (bounds_of s (Some t) (Literal n))) g (kept_within t (Some (between n n)) n (omega (arith, ints), omega (arith, ints)))
  within_bounds (Variable x) t v is e = value_range (Variable x) s t m names v is ranged e
  within_bounds (Element a i) t v is e = value_range (Element a i) s t m names v is ranged e
  within_bounds (Unary op x) t v is e =
      map_within (bounds_of s (Some t) (Unary op x)) (λ z. wrap t (unary_on op z)) (value s (Some t) x m names) v
      (λ z f. kept_within t (unary_bounds op (bounds_of s (Some t) x)) (unary_on op z) (unary_known op (bounds_of s (Some t) x) z (within_bounds x t z is f))) e
  within_bounds (Operation op x y) t v is e =
      both_within (bounds_of s (Some t) (Operation op x y)) (λ y z. wrap t (binary_on op y z)) (value s (Some t) x m names) (value s (Some t) y m names) v
      (λ u z f g. kept_within t (binary_bounds op (bounds_of s (Some t) x) (bounds_of s (Some t) y)) (binary_on op u z)
      (binary_known op (bounds_of s (Some t) x) (bounds_of s (Some t) y) u z (within_bounds x t u is.0 f) (within_bounds y t z is.1 g))) e
  within_bounds (Shift left x n) t v is e =
      map_within (bounds_of s (Some t) (Shift left x n)) (λ z. wrap t (shift_on left (shift_count n) z)) (value s (Some t) x m names) v
      (λ z f. kept_within t (Some (shift_bounds left (shift_count n) (bounds_of s (Some t) x))) (shift_on left (shift_count n) z)
      (shift_known left (shift_count n) (bounds_of s (Some t) x) z (within_bounds x t z is f))) e
  within_bounds (Conversion x u) t v is e =
      at_some (own s x) is.1
      (λ o same. map_within (bounds_of s (Some t) (Conversion x u)) (wrap u) (value s (own s x) x m names) v
      (λ z f. kept_within u (Some (bounds_of s (own s x) x)) z
      (subst (λ w. IsWithin (bounds_of s w x) z) (sym same)
      (within_bounds x o z (subst (λ w. AreTyped s w x) same is.2) (sym (ap (λ w. value s w x m names) same) ∙ f)))) e)
  within_bounds (Choice c x y) t v is e =
      choice_within (bounds_of s (Some t) x) (bounds_of s (Some t) y) (holds s c m names) (value s (Some t) x m names) (value s (Some t) y m names) v
      (λ z f. within_bounds x t z is.0 f) (λ z f. within_bounds y t z is.1 f) e
  within_bounds (Comparison op x y) t v is e = absurd is
  within_bounds (Both x y) t v is e = absurd is
  within_bounds (Either x y) t v is e = absurd is
  within_bounds (Not x) t v is e = absurd is
