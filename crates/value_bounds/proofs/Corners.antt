-- The product of two integers lies among the products of their bounds.
use Rattle.std.proofs.Common.{arith, ℕ, suc, ◌*◌, ◌≤◌}
use Rattle.std.specs.Prelude.{ℤ, pos, negsuc, ◌*ℤ◌, ◌≤ℤ◌}
use Rattle.std.specs.Int.{int_min, int_max}
use Rattle.std.proofs.lemmas.Int.{ints, clamps}
use Rattle.std.proofs.Math.Nat.{mul-le-mul_right}
use Rattle.std.proofs.Math.IntN.{*ℤ_comm, *ℤ-negsuc}
use Rattle.value_bounds.specs.declared.bounds.Bounds.{Bounds}
use Rattle.value_bounds.specs.ValueBounds.{IsWithin, corners, product}

-- times a number
pub rises : (a x : ℤ) (n : ℕ) → a ≤ℤ x → (a *ℤ pos n) ≤ℤ (x *ℤ pos n)
rises (pos a) (pos x) n h = let le : a ≤ x = omega (arith, ints) in let m : a * n ≤ x * n = mul-le-mul_right n le in omega (arith, ints)
rises (pos a) (negsuc x) n h = absurd (omega (arith, ints))
rises (negsuc a) (pos x) n h = omega (arith, ints)
rises (negsuc a) (negsuc x) n h = let le : suc x ≤ suc a = omega (arith, ints) in let m : suc x * n ≤ suc a * n = mul-le-mul_right n le in omega (arith, ints)

-- times an integer, between two
among : (a b x y : ℤ) → a ≤ℤ x → x ≤ℤ b → (int_min (a *ℤ y) (b *ℤ y) ≤ℤ (x *ℤ y)) × ((x *ℤ y) ≤ℤ int_max (a *ℤ y) (b *ℤ y))
among a b x (pos n) h k = let p = rises a x n h in let q = rises x b n k in (omega (arith, ints, clamps), omega (arith, ints, clamps))
among a b x (negsuc n) h k =
    let p = rises a x (suc n) h in
    let q = rises x b (suc n) k in
    let ea = *ℤ-negsuc a n in
    let eb = *ℤ-negsuc b n in
    let ex = *ℤ-negsuc x n in
    (omega (arith, ints, clamps), omega (arith, ints, clamps))

-- an integer times it
aside : (a b x y : ℤ) → a ≤ℤ x → x ≤ℤ b → (int_min (y *ℤ a) (y *ℤ b) ≤ℤ (y *ℤ x)) × ((y *ℤ x) ≤ℤ int_max (y *ℤ a) (y *ℤ b))
aside a b x y h k = rw (*ℤ_comm y a, *ℤ_comm y b, *ℤ_comm y x) (among a b x y h k)

four : (p q r s u v z : ℤ) → int_min p q ≤ℤ u → u ≤ℤ int_max p q → int_min r s ≤ℤ v → v ≤ℤ int_max r s → int_min u v ≤ℤ z → z ≤ℤ int_max u v → IsWithin (corners p q r s) z
four p q r s u v z a b c d e f = (omega (arith, ints, clamps), omega (arith, ints, clamps))

pub product_within : (a b : Bounds) (x y : ℤ) → IsWithin a x → IsWithin b y → IsWithin (product a b) (x *ℤ y)
product_within a b x y h k =
    let low = aside b.low b.high y a.low k.0 k.1 in
    let high = aside b.low b.high y a.high k.0 k.1 in
    let all = among a.low a.high x y h.0 h.1 in
    four (a.low *ℤ b.low) (a.low *ℤ b.high) (a.high *ℤ b.low) (a.high *ℤ b.high) (a.low *ℤ y) (a.high *ℤ y) (x *ℤ y) low.0 low.1 high.0 high.1 all.0 all.1
