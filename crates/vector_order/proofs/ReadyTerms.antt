-- Expressions of which the items of a lane give the value: no accumulator is read, conditions stand where they are wanted,
-- and each computed index is of its type.
use Rattle.std.proofs.Common.{◌≡◌, ℕ, Bool, false, List, Option, Some, None}
use Rattle.std.specs.Prelude.{ℤ}
use Rattle.kernel_tree.specs.declared.ops.Ty.{Ty}
use Rattle.kernel_tree.specs.Plain.{Term, Literal, Variable, Element, Unary, Operation, Shift, Conversion, Choice, Comparison, Both, Either, Not}
use Rattle.kernel_tree.specs.Items.{stream_offset}
use Rattle.kernel_tree.specs.Typing.{Scope, index_type}
use Rattle.kernel_meaning.proofs.ValueRanges.{IsTyped}

-- only where an index is computed
abbrev pub Computed : Option ℤ → Type 0 → Type 0
Computed None A = A
Computed (Some c) A = Unit {0}

pub computed_map : {A B : Type 0} (o : Option ℤ) → (A → B) → Computed o A → Computed o B
computed_map None f h = f h
computed_map (Some c) f h = tt

-- a condition, by its form
abbrev pub IsCond : Term → Type 0
IsCond (Comparison op a b) = Unit {0}
IsCond (Both a b) = IsCond a × IsCond b
IsCond (Either a b) = IsCond a × IsCond b
IsCond (Not e) = IsCond e
IsCond _ = ⊥

-- each condition stands where one is wanted
abbrev pub WellFormed : Term → Type 0
WellFormed (Literal n) = Unit {0}
WellFormed (Variable x) = Unit {0}
WellFormed (Element a i) = Unit {0}
WellFormed (Unary op e) = WellFormed e
WellFormed (Operation op a b) = WellFormed a × WellFormed b
WellFormed (Shift left e n) = WellFormed e
WellFormed (Conversion e t) = WellFormed e
WellFormed (Choice c a b) = IsCond c × WellFormed c × WellFormed a × WellFormed b
WellFormed (Comparison op a b) = WellFormed a × WellFormed b
WellFormed (Both a b) = WellFormed a × WellFormed b
WellFormed (Either a b) = WellFormed a × WellFormed b
WellFormed (Not e) = WellFormed e

-- an expression is of the type that is wanted, where one is
abbrev pub IsWanted : Scope → Option Ty → Term → Type 0
IsWanted scope want e = (T : Ty) → want ≡ Some T → IsTyped scope T e

-- a computed index is of its type, and so is what it casts
abbrev pub Sourced : Scope → Term → Type 0
Sourced scope (Conversion e t) = Sourced scope e
Sourced scope e = IsWanted scope (index_type scope e) e

-- no accumulator is read, and computed indexes are fit to be evaluated
abbrev pub Ready : (List ℕ → Bool) → Scope → Term → Type 0
Ready is_acc scope (Literal n) = Unit {0}
Ready is_acc scope (Variable x) = is_acc x ≡ false
Ready is_acc scope (Element a i) = Computed (stream_offset scope.index i) (WellFormed i × Ready is_acc scope i × Sourced scope i) × (is_acc a ≡ false)
Ready is_acc scope (Unary op e) = Ready is_acc scope e
Ready is_acc scope (Operation op a b) = Ready is_acc scope a × Ready is_acc scope b
Ready is_acc scope (Shift left e n) = Ready is_acc scope e
Ready is_acc scope (Conversion e t) = Ready is_acc scope e
Ready is_acc scope (Choice c a b) = Ready is_acc scope c × Ready is_acc scope a × Ready is_acc scope b
Ready is_acc scope (Comparison op a b) = Ready is_acc scope a × Ready is_acc scope b
Ready is_acc scope (Both a b) = Ready is_acc scope a × Ready is_acc scope b
Ready is_acc scope (Either a b) = Ready is_acc scope a × Ready is_acc scope b
Ready is_acc scope (Not e) = Ready is_acc scope e
