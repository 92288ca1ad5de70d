-- The definitions of what fits, at worked kernels.
use Rattle.std.proofs.Common.{◌≡◌, ◌≢◌, ℕ, zero, suc, ◌<◌, pos, List, [], ◌∷◌, Some, None, refl, arith}
use Rattle.std.specs.Prelude.{slice_index}
use Rattle.kernel_tree.specs.Plain.{Literal, Variable, Element, Conversion, Define, Update, Done, Then, PlainLoop, Program}
use Rattle.reg_assign.specs.declared.interval.RegClass.TheVariants.{X}
use Rattle.reg_assign.specs.declared.interval.Interval.{Interval}
use Rattle.loop_form.specs.Entries.{item_type}
use Rattle.loop_form.specs.Listing.{last_use_from}
use Rattle.loop_form.specs.Needs.{intervals}
use Rattle.scalar_words.specs.KernelRegisters.{layout_of_kernel, kernel_homes, IsInterval, IsNeeded, AreChosen, IsBound}
use Rattle.loop_code.specs.KernelFits.{KernelFits}
use Rattle.loop_code.proofs.FitsKernel.{kernel_fits}
use Rattle.kernel_tree.specs.declared.ops.Ty.TheVariants as ty
use Rattle.kernel_tree.specs.declared.ops.UpdateOp.TheVariants as update
use Rattle.kernel_tree.specs.declared.ast.Shape.TheVariants as shape

abbrev a : List ℕ
a = 97 ∷ []

abbrev i : List ℕ
i = 105 ∷ []

abbrev n : List ℕ
n = 110 ∷ []

abbrev s : List ℕ
s = 115 ∷ []

abbrev x : List ℕ
x = 120 ∷ []

-- for i in 0..n { let x = a[i]; s += x as u64; }
abbrev adding : PlainLoop
adding = record { index = i; bound = n; body = Then (Define x None (Element a (Variable i))) (Then (Update s update.Add (Conversion (Variable x) ty.U64)) Done) }

-- kernel s(a: [u8], n: u64) -> u64 { var s: u64 = 0; .. return s; }
abbrev total : Program
total = record {
  name = s;
  params = record { name = a; shape = shape.Array ty.U8 } ∷ record { name = n; shape = shape.Scalar ty.U64 } ∷ [];
  vars = record { name = s; type = ty.U64; init = Literal (pos 0) } ∷ [];
  for_loop = Some adding;
  answer = Some (record { type = ty.U64; value = Variable s });
}

-- Its items: 0 a, 1 n, 2 the literal, 3 var, 4 for, 5 the read, 6 let, 7 the name x, 8 as, 9 +=, 10 the name s, 11 return.
total-intervals : intervals total X ≡ record { from = 0; last_use = 12 } ∷ record { from = 2; last_use = 3 } ∷ record { from = 5; last_use = 6 } ∷ record { from = 6; last_use = 8 } ∷ record { from = 8; last_use = 9 } ∷ []
unfolding item_type last_use_from
total-intervals = refl

-- the accumulator is in the first of the counted registers, and each item's value in the second
abbrev total_registers : ℕ → ℕ
total_registers j = slice_index (0 ∷ 1 ∷ 1 ∷ 1 ∷ 1 ∷ []) j

total-layout : layout_of_kernel total_registers total ≡ record {
  regs = 0 ∷ 0 ∷ 11 ∷ 0 ∷ 0 ∷ 11 ∷ 11 ∷ 0 ∷ 11 ∷ 0 ∷ 0 ∷ 0 ∷ [];
  last_uses = 0 ∷ 0 ∷ 3 ∷ 0 ∷ 0 ∷ 6 ∷ 8 ∷ 0 ∷ 9 ∷ 0 ∷ 0 ∷ 0 ∷ [];
  constants = [];
  loose = [];
}
unfolding item_type last_use_from
total-layout = refl

total-homes : kernel_homes total_registers total ≡ record { name = a; register = 0; last_use = None } ∷ record { name = n; register = 1; last_use = None } ∷ record { name = s; register = 10; last_use = None } ∷ []
total-homes = refl

total-bound : IsBound total_registers total adding
total-bound = refl

-- kernel s() -> u64 { var s: u64 = 7; return s; }
abbrev seven : Program
seven = record {
  name = s;
  params = [];
  vars = record { name = s; type = ty.U64; init = Literal (pos 7) } ∷ [];
  for_loop = None;
  answer = Some (record { type = ty.U64; value = Variable s });
}

seven-intervals : intervals seven X ≡ record { from = 0; last_use = 4 } ∷ record { from = 0; last_use = 1 } ∷ []
unfolding item_type last_use_from
seven-intervals = refl

abbrev seven_registers : ℕ → ℕ
seven_registers j = slice_index (3 ∷ 5 ∷ []) j

seven-chosen : AreChosen seven_registers seven
unfolding item_type last_use_from
seven-chosen = record { below = below; apart = apart }
  where
    below : (m : ℕ) (t : Interval) → IsInterval seven m t → seven_registers m < 15
    below zero t e = omega arith
    below (suc zero) t e = omega arith
    below (suc (suc m)) t e = absurd cc

    apart : (m n p : ℕ) (t u : Interval) → m ≢ n → IsInterval seven m t → IsInterval seven n u → IsNeeded p t → IsNeeded p u → seven_registers m ≢ seven_registers n
    apart zero zero p t u ne e f a b same = ne refl
    apart zero (suc zero) p t u ne e f a b same = absurd (omega (arith, same))
    apart zero (suc (suc n)) p t u ne e f a b same = absurd cc
    apart (suc zero) zero p t u ne e f a b same = absurd (omega (arith, same))
    apart (suc zero) (suc zero) p t u ne e f a b same = ne refl
    apart (suc zero) (suc (suc n)) p t u ne e f a b same = absurd cc
    apart (suc (suc m)) n p t u ne e f a b same = absurd cc

seven-fits : KernelFits seven_registers seven
seven-fits = kernel_fits seven_registers seven refl (omega arith) seven-chosen
