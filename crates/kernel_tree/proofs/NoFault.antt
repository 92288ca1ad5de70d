-- What it tells that no rule fails at an item.
use Rattle.std.proofs.Common.{◌≡◌, ℕ, zero, suc, ℤ, Bool, true, false, cond, List, [], ◌∷◌, Option, Some, None, refl, sym, ap, ◌∙◌}
use Rattle.std.proofs.lemmas.Bool.{eqb-true}
use Rattle.std.specs.Prelude.{nat_eq, is_none, option_and_then}
use Rattle.kernel_tree.specs.declared.ops.Ty.{Ty}
use Rattle.kernel_tree.specs.declared.ops.Ty.TheVariants as ty
use Rattle.kernel_tree.specs.declared.fault.Binding.{Binding}
use Rattle.kernel_tree.specs.declared.fault.Binding.TheVariants as binding
use Rattle.kernel_tree.specs.Plain.{PlainLoop, Program}
use Rattle.kernel_tree.specs.Typing.{value_type, element_type, accumulator_type, lookup, number_of_type, mismatch, typed_faults, name_faults, read_faults, untyped, kind_faults, target_faults, update_faults, stream_faults, bound_faults, check_fault, var_scope}
use Rattle.kernel_tree.specs.Items.{loop_start}
use Rattle.kernel_tree.proofs.Faultless.{bound_faultless}

pub is_empty : {A : Type 0} (b : Bool) (x : A) (xs : List A) → cond b [] (x ∷ xs) ≡ [] → b ≡ true
is_empty true x xs e = refl
is_empty false x xs e = absurd cc

pub not_added : {A : Type 0} (b : Bool) (x : A) → cond b (x ∷ []) [] ≡ [] → b ≡ false
not_added true x e = absurd cc
not_added false x e = refl

-- ---- types

pub type_from : ℕ → Ty
type_from zero = ty.I8
type_from (suc zero) = ty.I16
type_from (suc (suc zero)) = ty.I32
type_from (suc (suc (suc zero))) = ty.I64
type_from (suc (suc (suc (suc zero)))) = ty.U8
type_from (suc (suc (suc (suc (suc zero))))) = ty.U16
type_from (suc (suc (suc (suc (suc (suc zero)))))) = ty.U32
type_from (suc (suc (suc (suc (suc (suc (suc n))))))) = ty.U64

pub type_back : (t : Ty) → type_from (number_of_type t) ≡ t
unfolding type_from
type_back ty.I8 = refl
type_back other = refl

pub no_mismatch : (item : ℕ) (want t : Ty) → mismatch item (Some want) t ≡ [] → want ≡ t
no_mismatch item want t e = sym (type_back want) ∙ ap type_from (eqb-true _ _ (is_empty (nat_eq (number_of_type want) (number_of_type t)) _ _ e)) ∙ type_back t

pub no_typed : (item : ℕ) (want : Ty) (o : Option Ty) → typed_faults item (Some want) o ≡ [] → o ≡ Some want
no_typed item want None e = absurd cc
no_typed item want (Some t) e = ap Some (sym (no_mismatch item want t e))

pub typed_some : (item : ℕ) (want o : Option Ty) → typed_faults item want o ≡ [] → (t : Ty) × (o ≡ Some t)
typed_some item want None e = absurd cc
typed_some item want (Some t) e = (t, refl)

pub untyped_some : (item : ℕ) (o : Option Ty) → untyped item o ≡ [] → (t : Ty) × (o ≡ Some t)
untyped_some item None e = absurd cc
untyped_some item (Some t) e = (t, refl)

-- ---- names

-- a name that stands where a type is wanted has this type
pub no_name : (item : ℕ) (want : Ty) (o : Option Binding) → name_faults item (Some want) o ≡ [] → option_and_then value_type o ≡ Some want
no_name item want None e = absurd cc
no_name item want (Some b) e = no_typed item want (value_type b) e

pub no_read : (item : ℕ) (inside : Bool) (want : Ty) (o : Option Binding) → read_faults item inside (Some want) o ≡ [] → option_and_then element_type o ≡ Some want
no_read item inside want None e = absurd cc
no_read item true want (Some b) e = no_typed item want (element_type b) e
no_read item false want (Some b) e = absurd cc

pub read_some : (item : ℕ) (inside : Bool) (want : Option Ty) (o : Option Binding) → read_faults item inside want o ≡ [] → (t : Ty) × (option_and_then element_type o ≡ Some t)
read_some item inside want None e = absurd cc
read_some item true want (Some b) e = typed_some item want (element_type b) e
read_some item false want (Some b) e = absurd cc

-- a read outside the loop is a fault of its own
pub outside_read : (item : ℕ) (inside : Bool) (want : Option Ty) (o : Option Binding) → inside ≡ false → read_faults item inside want o ≡ [] → ⊥
outside_read item true want o e h = absurd cc
outside_read item false want None e h = cc
outside_read item false want (Some b) e h = cc

pub kind_some : (item : ℕ) (o : Option Ty) → kind_faults item o ≡ [] → (t : Ty) × (o ≡ Some t)
kind_some item None e = absurd cc
kind_some item (Some t) e = (t, refl)

pub target_some : (item : ℕ) (o : Option Binding) → target_faults item o ≡ [] → (t : Ty) × (option_and_then element_type o ≡ Some t)
target_some item None e = absurd cc
target_some item (Some b) e = kind_some item (element_type b) e

pub update_some : (item : ℕ) (o : Option Binding) → update_faults item o ≡ [] → (t : Ty) × (option_and_then accumulator_type o ≡ Some t)
update_some item None e = absurd cc
update_some item (Some b) e = kind_some item (accumulator_type b) e

-- ---- streams

pub stream_some : (item : ℕ) (o : Option ℤ) → stream_faults item o ≡ [] → is_none o ≡ false
stream_some item None e = absurd cc
stream_some item (Some c) e = refl

-- ---- the bound of a loop

pub bound_known : (item : ℕ) (o : Option Binding) → bound_faults item o ≡ [] → o ≡ Some (binding.Scalar ty.U64)
bound_known item None e = absurd cc
bound_known item (Some (binding.Scalar t)) e = ap (λ u. Some (binding.Scalar u)) (sym (no_mismatch item ty.U64 t e))
bound_known item other e = absurd cc

pub bound_scalar : (k : Program) (l : PlainLoop) → check_fault k ≡ None → k.for_loop ≡ Some l → lookup (var_scope k) l.bound ≡ Some (binding.Scalar ty.U64)
bound_scalar k l e t = bound_known (loop_start k) (lookup (var_scope k) l.bound) (bound_faultless k l e t)
