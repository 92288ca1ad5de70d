-- Right sides that a word holds as a number.
use Rattle.std.proofs.Common.{◌≡◌, ℕ, ◌<◌, Bool, true, false, ◌||◌, ◌⊎◌, Option, Some, None, inl, inr, refl, sym, ap, arith}
use Rattle.std.specs.Prelude.{ℤ, nat_lt, option_and_then, if◌then◌else◌}
use Rattle.std.proofs.lemmas.Bool.{ltb-true}
use Rattle.kernel_tree.specs.declared.ops.Ty.{Ty}
use Rattle.kernel_tree.specs.declared.ops.BinaryOp.{BinaryOp}
use Rattle.kernel_tree.specs.Plain.{Term, Literal}
use Rattle.kernel_tree.specs.Items.{literal_value}
use Rattle.kernel_meaning.specs.Operators.{word, wrapped}
use Rattle.guest_types.specs.Memory.{Memory}
use Rattle.kernel_tree.specs.Typing.{Scope}
use Rattle.kernel_meaning.specs.Eval.{Names, value}
use Rattle.value_code.specs.declared.extent.Extent.{Extent}
use Rattle.value_code.proofs.Loose.{loose}
use Rattle.value_code.specs.ItemWords.{immediate, held_addend}
use Rattle.value_code.specs.Code.{compared_number, added_number}
use Rattle.kernel_tree.specs.declared.ops.BinaryOp.TheVariants as binary

-- ---- literals

literal_is : (e : Term) (z : ℤ) → literal_value e ≡ Some z → e ≡ Literal z
literal_is (Literal c) z h = cc
literal_is other z h = absurd cc

-- a number that stands for a literal
literal_of_value : (f : ℕ → Option ℕ) (want : Option Ty) (e : Term) (o : Option ℤ) (w : ℕ) → literal_value e ≡ o → option_and_then (λ z. f (word (wrapped want z))) o ≡ Some w → (z : ℤ) × ((e ≡ Literal z) × (f (word (wrapped want z)) ≡ Some w))
literal_of_value f want e None w is h = absurd cc
literal_of_value f want e (Some z) w is h = (z, (literal_is e z is, h))

-- ---- numbers

abbrev pub IsAddend : ℕ → Type 0
IsAddend v = (v < 4096) ⊎ (18446744073709547520 < v)

-- an operator whose word adds a number or takes it
abbrev pub IsSum : BinaryOp → ℕ → Type 0
IsSum binary.Add v = IsAddend v
IsSum binary.Sub v = IsAddend v
IsSum other v = ⊥

immediate_is : (v w : ℕ) (b : Bool) → nat_lt v 4096 ≡ b → (if b then Some v else None) ≡ Some w → (w ≡ v) × (w < 4096)
immediate_is v w true e h = let same : v ≡ w = cc in (sym same, omega (arith, same, ltb-true v 4096 e))
immediate_is v w false e h = absurd cc

pub addend_is : (v w : ℕ) (a b : Bool) → nat_lt v 4096 ≡ a → nat_lt 18446744073709547520 v ≡ b → (if a || b then Some v else None) ≡ Some w → (w ≡ v) × IsAddend w
addend_is v w true b e f h = let same : v ≡ w = cc in (sym same, inl (omega (arith, same, ltb-true v 4096 e)))
addend_is v w false true e f h = let same : v ≡ w = cc in (sym same, inr (omega (arith, same, ltb-true 18446744073709547520 v f)))
addend_is v w false false e f h = absurd cc

held_is : (op : BinaryOp) (v w : ℕ) → held_addend op v ≡ Some w → (w ≡ v) × IsSum op w
held_is binary.Add v w h = addend_is v w (nat_lt v 4096) (nat_lt 18446744073709547520 v) refl refl h
held_is binary.Sub v w h = addend_is v w (nat_lt v 4096) (nat_lt 18446744073709547520 v) refl refl h
held_is other v w h = absurd cc

-- the value of a right side that a word holds
abbrev pub IsRight : Scope → Option Ty → Term → Memory → Names → ℕ → Type 0
IsRight s want e m names v = (y : ℤ) × ((value s want e m names ≡ Some y) × (v ≡ word y))

right_is : (s : Scope) (want : Option Ty) (e : Term) (m : Memory) (names : Names) (z : ℤ) (v : ℕ) → e ≡ Literal z → v ≡ word (wrapped want z) → IsRight s want e m names v
right_is s want e m names z v is f = (wrapped want z, (ap (λ e. value s want e m names) is, f))

pub compared_right : (s : Scope) (want : Option Ty) (e : Term) (m : Memory) (names : Names) (v : ℕ) → compared_number want e ≡ Some v → IsRight s want e m names v
compared_right s want e m names v h =
    let q = literal_of_value immediate want e (literal_value e) v refl h in
    right_is s want e m names q.0 v q.1.0 (immediate_is (word (wrapped want q.0)) v (nat_lt (word (wrapped want q.0)) 4096) refl q.1.1).0

pub compared_small : (want : Option Ty) (e : Term) (v : ℕ) → compared_number want e ≡ Some v → v < 4096
compared_small want e v h =
    let q = literal_of_value immediate want e (literal_value e) v refl h in
    (immediate_is (word (wrapped want q.0)) v (nat_lt (word (wrapped want q.0)) 4096) refl q.1.1).1

pub added_right : (op : BinaryOp) (s : Scope) (w : Extent) (want : Option Ty) (e : Term) (m : Memory) (stand names : Names) (v : ℕ) → added_number op want e ≡ Some v → (y : ℤ) × ((loose s w want e m stand names ≡ Some y) × (v ≡ word y))
added_right op s w want e m stand names v h =
    let q = literal_of_value (held_addend op) want e (literal_value e) v refl h in
    (wrapped want q.0, (ap (λ e. loose s w want e m stand names) q.1.0, (held_is op (word (wrapped want q.0)) v q.1.1).0))

pub added_sum : (op : BinaryOp) (want : Option Ty) (e : Term) (v : ℕ) → added_number op want e ≡ Some v → IsSum op v
added_sum op want e v h =
    let q = literal_of_value (held_addend op) want e (literal_value e) v refl h in
    (held_is op (word (wrapped want q.0)) v q.1.1).1
