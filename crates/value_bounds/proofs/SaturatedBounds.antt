-- Bounds that are cut to 128 bits lie in a type exactly where they do as they are.
use Rattle.std.proofs.Common.{◌≡◌, ◌∙◌, refl, sym, ap, ap₂, arith, Bool, true, false, Option, Some, None, ℤ, pos, negsuc, int_le}
use Rattle.std.specs.Prelude.{◌-ℤ◌, neg_ℤ, ◌^◌, ◌≤ℤ◌, FitsSigned}
use Rattle.std.specs.Int.{w128, cast_signed, cast_unsigned, saturate_signed, int_min, int_max}
use Rattle.std.proofs.lemmas.Int.{ints, to_z-of_z}
use Rattle.std.proofs.lemmas.Bool.{and_parts}
use Rattle.kernel_tree.specs.declared.ops.Ty.{Ty}
use Rattle.kernel_tree.specs.declared.ops.Ty.TheVariants as ty
use Rattle.kernel_meaning.specs.TypeValues.{IsOf, least, greatest}
use Rattle.value_bounds.specs.ValueBounds.{between, is_value, lying_in, in_type}

-- a value of a type, as a test and as a fact
pub value_of : (t : Ty) (z : ℤ) → is_value t z ≡ true → IsOf t z
value_of t z e =
    let parts = and_parts (int_le (least t) z) (int_le z (greatest t)) e in
    let low = parts.0 in
    let high = parts.1 in
    (omega (arith, ints), omega (arith, ints))

-- cut to 128 bits
abbrev pub cut : ℤ → ℤ
cut z = saturate_signed w128 z

-- values of types are small
type_within_64_bits : (t : Ty) (z : ℤ) → IsOf t z → (negsuc (2 ^ 63) ≤ℤ z) × (z ≤ℤ pos (2 ^ 64))
type_within_64_bits ty.I8 z h = let a = h.0 in let b = h.1 in (omega (arith, ints), omega (arith, ints))
type_within_64_bits other z h = let a = h.0 in let b = h.1 in (omega (arith, ints), omega (arith, ints))

uncut : (z : ℤ) → (negsuc (2 ^ 63) ≤ℤ z) × (z ≤ℤ pos (2 ^ 64)) → cut z ≡ z
uncut (pos n) h = let b = h.1 in ap pos (omega (arith, ints))
uncut (negsuc n) h = let a = h.0 in ap negsuc (omega (arith, ints))

within_cut : (z : ℤ) → (negsuc (2 ^ 63) ≤ℤ cut z) × (cut z ≤ℤ pos (2 ^ 64)) → cut z ≡ z
within_cut (pos n) h = let b = h.1 in ap pos (omega (arith, ints))
within_cut (negsuc n) h = let a = h.0 in ap negsuc (omega (arith, ints))

cut-small : (t : Ty) (z : ℤ) → IsOf t z → cut z ≡ z
cut-small t z h = uncut z (type_within_64_bits t z h)

small-cut : (t : Ty) (z : ℤ) → IsOf t (cut z) → cut z ≡ z
small-cut t z h = within_cut z (type_within_64_bits t (cut z) h)

same_test : (a b : Bool) → (a ≡ true → b ≡ true) → (b ≡ true → a ≡ true) → a ≡ b
same_test true true f g = refl
same_test false false f g = refl
same_test true false f g = sym (f refl)
same_test false true f g = g refl

pub value_cut : (t : Ty) (z : ℤ) → is_value t (cut z) ≡ is_value t z
value_cut t z =
    same_test (is_value t (cut z)) (is_value t z)
    (λ e. sym (ap (is_value t) (small-cut t z (value_of t (cut z) e))) ∙ e)
    (λ e. ap (is_value t) (cut-small t z (value_of t z e)) ∙ e)

lying_cut : (t : Ty) (l h : ℤ) → lying_in t (between (cut l) (cut h)) ≡ lying_in t (between l h)
lying_cut t l h = by (is_value t l) (is_value t h) refl refl
  where
    by : (b c : Bool) → is_value t l ≡ b → is_value t h ≡ c → lying_in t (between (cut l) (cut h)) ≡ lying_in t (between l h)
    by true true e f = ap₂ (λ a b. lying_in t (between a b)) (cut-small t l (value_of t l e)) (cut-small t h (value_of t h f))
    by true false e f = rw (value_cut t l, value_cut t h, e, f) refl
    by false c e f = rw (value_cut t l, e) refl

pub in_type_cut : (want : Option Ty) (l h : ℤ) → in_type want (Some (between (cut l) (cut h))) ≡ in_type want (Some (between l h))
in_type_cut None l h = refl
in_type_cut (Some t) l h = lying_cut t l h

pub min_cut : (x y : ℤ) → int_min (cut x) (cut y) ≡ cut (int_min x y)
min_cut x y = grind (arith, ints)

pub max_cut : (x y : ℤ) → int_max (cut x) (cut y) ≡ cut (int_max x y)
max_cut x y = grind arith

-- the greater of an integer and one that is cut
pub max_cut_one : (x y : ℤ) → FitsSigned w128 x → int_max x (cut y) ≡ cut (int_max x y)
max_cut_one x y f = ap (λ a. int_max a (cut y)) (sym (fits-cut x f)) ∙ max_cut x y
  where
    fits-cut : (x : ℤ) → FitsSigned w128 x → cut x ≡ x
    fits-cut (pos n) f = ap pos (omega (arith, f.sfits))
    fits-cut (negsuc n) f = ap negsuc (omega (arith, f.sfits))

-- ---- what the code has of integers of 128 bits

abbrev pub held : ℤ → ℤ
held z = cast_signed w128 (cast_unsigned w128 z)

-- a result that is cut
pub cut_of : (f : ℤ → ℤ → ℤ) (u x y : ℤ) → FitsSigned w128 u → FitsSigned w128 x → FitsSigned w128 y → u ≡ cut (f (held x) (held y)) → held u ≡ cut (f x y)
cut_of f u x y fu fx fy e = to_z-of_z w128 u fu ∙ e ∙ ap₂ (λ a b. cut (f a b)) (to_z-of_z w128 x fx) (to_z-of_z w128 y fy)

pub negative : (z : ℤ) → pos 0 -ℤ z ≡ neg_ℤ z
negative z = omega (arith, ints)

pub in_type_of : (want : Option Ty) (u v l h : ℤ) → u ≡ cut l → v ≡ cut h → in_type want (Some (between u v)) ≡ in_type want (Some (between l h))
in_type_of want u v l h e d = ap₂ (λ a b. in_type want (Some (between a b))) e d ∙ in_type_cut want l h

-- the least and the greatest of four
pub least_cut : (m p q r s P Q R S : ℤ) → FitsSigned w128 m → m ≡ int_min (int_min (held p) (held q)) (int_min (held r) (held s)) → held p ≡ cut P → held q ≡ cut Q → held r ≡ cut R → held s ≡ cut S
    → held m ≡ cut (int_min (int_min P Q) (int_min R S))
least_cut m p q r s P Q R S f e ep eq er es =
    to_z-of_z w128 m f ∙ e ∙ ap₂ int_min (ap₂ int_min ep eq ∙ min_cut P Q) (ap₂ int_min er es ∙ min_cut R S) ∙ min_cut (int_min P Q) (int_min R S)

pub greatest_cut : (m p q r s P Q R S : ℤ) → FitsSigned w128 m → m ≡ int_max (int_max (held p) (held q)) (int_max (held r) (held s)) → held p ≡ cut P → held q ≡ cut Q → held r ≡ cut R → held s ≡ cut S
    → held m ≡ cut (int_max (int_max P Q) (int_max R S))
greatest_cut m p q r s P Q R S f e ep eq er es =
    to_z-of_z w128 m f ∙ e ∙ ap₂ int_max (ap₂ int_max ep eq ∙ max_cut P Q) (ap₂ int_max er es ∙ max_cut R S) ∙ max_cut (int_max P Q) (int_max R S)
