use Rattle.std.proofs.Common.{◌≡◌, ℕ, ◌*◌, ◌/◌, ◌%◌, ◌^◌, Bool, true, false, cond, refl, arith}
use Rattle.std.specs.Prelude.{nat_eq}
use Rattle.std.proofs.lemmas.Bool.{eqb-true, eqb-false}
use Rattle.std.proofs.lemmas.Nat.{and_mask}
use Rattle.a64_machine.proofs.conditions.flag_bits.Goals as goal

-- a bit of the number, at its place
eight : (b : Bool) (m : ℕ) → nat_eq (m % 2) 1 ≡ b → cond b 8 0 ≡ 8 * (m % 2)
eight true m e = omega (arith, eqb-true (m % 2) 1 e)
eight false m e = let no = eqb-false (m % 2) 1 e in omega arith

four : (b : Bool) (m : ℕ) → nat_eq (m % 2) 1 ≡ b → cond b 4 0 ≡ 4 * (m % 2)
four true m e = omega (arith, eqb-true (m % 2) 1 e)
four false m e = let no = eqb-false (m % 2) 1 e in omega arith

low_bit_doubled : (b : Bool) (m : ℕ) → nat_eq (m % 2) 1 ≡ b → cond b 2 0 ≡ 2 * (m % 2)
low_bit_doubled true m e = omega (arith, eqb-true (m % 2) 1 e)
low_bit_doubled false m e = let no = eqb-false (m % 2) 1 e in omega arith

low_bit_is : (b : Bool) (m : ℕ) → nat_eq (m % 2) 1 ≡ b → cond b 1 0 ≡ m % 2
low_bit_is true m e = omega (arith, eqb-true (m % 2) 1 e)
low_bit_is false m e = let no = eqb-false (m % 2) 1 e in omega arith

pub returns-clause-value : goal.returns-clause-value
returns-clause-value c =
    let n = c.args.number in
    let a = eight (nat_eq (n / 2 ^ 3 % 2) 1) (n / 2 ^ 3) refl in
    let b = four (nat_eq (n / 2 ^ 2 % 2) 1) (n / 2 ^ 2) refl in
    let d = low_bit_doubled (nat_eq (n / 2 ^ 1 % 2) 1) (n / 2 ^ 1) refl in
    let e = low_bit_is (nat_eq (n / 2 ^ 0 % 2) 1) (n / 2 ^ 0) refl in
    omega (arith, and_mask n 4, a, b, d, e)
