-- Flags as numbers.
use Rattle.std.proofs.Common.{◌≡◌, ℕ, ◌*◌, ◌≤◌, Bool, true, false, refl, sym, subst, arith}
use mir.Val.{bool_byte}
use Rattle.word_rows.specs.Field.{flag_number}

pub flagged : (b : Bool) → bool_byte b ≡ flag_number b
flagged true = refl
flagged false = refl

-- a number times a flag
pub times_flag : (k n : ℕ) (b : Bool) → n ≡ bool_byte b → k * n ≤ k
times_flag k n true e = let once : k * 1 ≤ k = omega arith in subst (λ m. k * m ≤ k) (sym e) once
times_flag k n false e = let none : k * 0 ≤ k = omega arith in subst (λ m. k * m ≤ k) (sym e) none
