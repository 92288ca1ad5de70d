-- The value of an expression is one of its type.
use Rattle.std.proofs.Common.{◌≡◌, ℕ, ◌+◌, Bool, true, false, [], Option, Some, None, Result, Ok, Err, sym, ap, ◌∙◌, subst}
use Rattle.std.specs.Prelude.{ℤ, pos, option_map, option_and_then}
use Rattle.guest_types.specs.declared.memory.AccessFault.{AccessFault}
use Rattle.guest_types.specs.Memory.{Memory, loaded}
use Rattle.kernel_tree.specs.declared.ops.Ty.{Ty}
use Rattle.kernel_tree.specs.Plain.{Term, Literal, Variable, Element, Unary, Operation, Shift, Conversion, Choice, Comparison, Both, Either, Not}
use Rattle.kernel_tree.specs.Wrap.{wrap, byte_count}
use Rattle.kernel_tree.specs.Items.{stream_offset, term_size, index_items}
use Rattle.kernel_tree.specs.Typing.{Scope, Value, Condition, lookup, own, element_type, value_type, index_type, side_type, faults, inner_faults, read_faults, mismatch}
use Rattle.kernel_meaning.specs.TypeValues.{IsOf}
use Rattle.kernel_meaning.specs.Eval.{Names, value_at, read_value, read_element, address, on_both, chosen, value, holds}
use Rattle.kernel_meaning.specs.Ranges.{TypeRange, AreRanged}
use Rattle.kernel_meaning.proofs.TypeRanges.{wrap-is_of}
use Rattle.kernel_meaning.proofs.NameRanges.{name_range}
use Rattle.kernel_tree.proofs.Faultless.{nil-left, nil-right, never}
use Rattle.kernel_tree.proofs.NoFault.{no_mismatch, no_name, no_read}

-- What an expression takes without wrapping it has the type: names, elements, and what is converted.
abbrev pub IsTyped : Scope → Ty → Term → Type 0
IsTyped s T (Literal n) = Unit {0}
IsTyped s T (Variable x) = option_and_then value_type (lookup s x) ≡ Some T
IsTyped s T (Element a i) = option_and_then element_type (lookup s a) ≡ Some T
IsTyped s T (Unary op e) = Unit {0}
IsTyped s T (Operation op a b) = Unit {0}
IsTyped s T (Shift left e n) = Unit {0}
IsTyped s T (Conversion e t) = T ≡ t
IsTyped s T (Choice c a b) = IsTyped s T a × IsTyped s T b
IsTyped s T other = ⊥

-- so it has where no rule fails
pub typed : (e : Term) (s : Scope) (from : ℕ) (T : Ty) → faults s from (Value (Some T)) e ≡ [] → IsTyped s T e
typed (Literal n) s from T h = tt
typed (Variable x) s from T h = no_name from T (lookup s x) h
typed (Element a i) s from T h =
    no_read (from + index_items s.index i) s.inside T (lookup s a)
    (nil-left (read_faults (from + index_items s.index i) s.inside (Some T) (lookup s a)) _ (nil-right (inner_faults (stream_offset s.index i) (faults s from (Value (index_type s i)) i)) _ h))
typed (Unary op e) s from T h = tt
typed (Operation op a b) s from T h = tt
typed (Shift left e n) s from T h = tt
typed (Conversion e t) s from T h = no_mismatch (from + term_size s.index e) T t (nil-left (mismatch (from + term_size s.index e) (Some T) t) _ (nil-right (faults s from (Value (own s e)) e) _ h))
typed (Choice c a b) s from T h =
    let rest = nil-right (faults s from (Value (Some T)) a) _ h in
    (typed a s from T (nil-left (faults s from (Value (Some T)) a) _ h), typed b s (from + term_size s.index a) T (nil-left (faults s (from + term_size s.index a) (Value (Some T)) b) _ rest))
typed (Comparison op a b) s from T h = absurd (never (nil-right (faults s (from + term_size s.index a) (Value (side_type s a b)) b) _ (nil-right (faults s from (Value (side_type s a b)) a) _ h)))
typed (Both a b) s from T h = absurd (never (nil-right (faults s (from + term_size s.index a) Condition b) _ (nil-right (faults s from Condition a) _ h)))
typed (Either a b) s from T h = absurd (never (nil-right (faults s (from + term_size s.index a + 1) Condition b) _ (nil-right (faults s from Condition a) _ h)))
typed (Not e) s from T h = absurd (never (nil-right (faults s from Condition e) _ h))

-- ---- results

ranged : (T : Ty) (z v : ℤ) → Some (wrap T z) ≡ Some v → IsOf T v
ranged T z v e = let f : wrap T z ≡ v = cc in subst (IsOf T) f (wrap-is_of T z)

map_range : (T : Ty) (f : ℤ → ℤ) (o : Option ℤ) (v : ℤ) → option_map (λ z. wrap T (f z)) o ≡ Some v → IsOf T v
map_range T f None v e = absurd cc
map_range T f (Some z) v e = ranged T (f z) v e

both_range : (T : Ty) (f : ℤ → ℤ → ℤ) (o p : Option ℤ) (v : ℤ) → on_both (λ y z. wrap T (f y z)) o p ≡ Some v → IsOf T v
both_range T f None p v e = absurd cc
both_range T f (Some y) None v e = absurd cc
both_range T f (Some y) (Some z) v e = ranged T (f y z) v e

loaded_range : (T : Ty) (r : Result ℕ AccessFault) (v : ℤ) → read_value T r ≡ Some v → IsOf T v
loaded_range T (Ok n) v e = ranged T (pos n) v e
loaded_range T (Err f) v e = absurd cc

read_range : (T : Ty) (t : Option Ty) (m : Memory) (base : ℤ) (o : Option ℤ) (v : ℤ) → t ≡ Some T → option_and_then (read_element t m base) o ≡ Some v → IsOf T v
read_range T t m base None v e h = absurd cc
read_range T t m base (Some x) v e h = loaded_range T (loaded m (address T base x) (byte_count T)) v (sym (ap (λ t. read_element t m base x) e) ∙ h)

choose_range : (T : Ty) (c : Option Bool) (o p : Option ℤ) (v : ℤ) → ((y : ℤ) → o ≡ Some y → IsOf T y) → ((y : ℤ) → p ≡ Some y → IsOf T y) → chosen o p c ≡ Some v → IsOf T v
choose_range T None o p v f g e = absurd cc
choose_range T (Some c) None p v f g e = absurd cc
choose_range T (Some c) (Some y) None v f g e = absurd cc
choose_range T (Some true) (Some y) (Some z) v f g e = f v e
choose_range T (Some false) (Some y) (Some z) v f g e = g v e

pub value_range : (e : Term) (s : Scope) (T : Ty) (m : Memory) (names : Names) (v : ℤ) → IsTyped s T e → AreRanged s.visible names → value s (Some T) e m names ≡ Some v → IsOf T v
value_range (Literal n) s T m names v is r e = ranged T n v e
value_range (Variable x) s T m names v is r e =
    let f : value_at names x ≡ v = cc in
    subst (IsOf T) f (subst (λ o. TypeRange o (value_at names x)) is (name_range s.visible names x r))
value_range (Element a i) s T m names v is r e = read_range T (option_and_then element_type (lookup s a)) m (value_at names a) _ v is e
value_range (Unary op x) s T m names v is r e = map_range T _ (value s (Some T) x m names) v e
value_range (Operation op x y) s T m names v is r e = both_range T _ (value s (Some T) x m names) (value s (Some T) y m names) v e
value_range (Shift left x n) s T m names v is r e = map_range T _ (value s (Some T) x m names) v e
value_range (Conversion x t) s T m names v is r e = map_range T (λ z. z) (value s (own s x) x m names) v (subst (λ u. option_map (wrap u) (value s (own s x) x m names) ≡ Some v) (sym is) e)
value_range (Choice c x y) s T m names v is r e =
    choose_range T (holds s c m names) (value s (Some T) x m names) (value s (Some T) y m names) v (λ u q. value_range x s T m names u is.0 r q) (λ u q. value_range y s T m names u is.1 r q) e
value_range (Comparison op x y) s T m names v is r e = absurd is
value_range other s T m names v is r e = absurd is
