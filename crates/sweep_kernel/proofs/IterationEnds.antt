-- An iteration of a sweep's loop ends, where the arrays are mapped.
use Rattle.std.proofs.Common.{◌≡◌, ℕ, ◌+◌, ◌*◌, ◌%◌, ◌<◌, ◌^◌, [], ◌∷◌, Some, Ok, ap, ◌∙◌, arith}
use Rattle.std.specs.Prelude.{ℤ, pos, ◌+ℤ◌}
use Rattle.kernel_tree.specs.declared.ops.Ty.TheVariants as ty
use Rattle.kernel_tree.specs.Plain.{PlainLoop}
use Rattle.kernel_tree.specs.Wrap.{wrap}
use Rattle.guest_types.specs.Memory.{Memory, can_write, stored, number_at, put_number}
use Rattle.guest_types.proofs.Stores.{read_where_written, loaded-done, stored-done, can_write-stored}
use Rattle.kernel_meaning.specs.Ends.{BlockEnd, Next}
use Rattle.kernel_meaning.specs.Eval.{Names, read_value, read_element}
use Rattle.kernel_meaning.specs.Iterate.{named}
use Rattle.sweep_kernel.specs.Tree.{a, b, y, k, n, s, m, i, body_with}
use Rattle.sweep_kernel.proofs.Arrays.{HasArrays, no_fault}

-- the arrays, the factor, the count and the two accumulators
abbrev pub names_with : (factor count sum greatest : ℤ) → Names
names_with factor count sum greatest =
    named a (pos 0x1000000) ∷ named b (pos 0x2000000) ∷ named y (pos 0x3000000) ∷ named k factor ∷ named n count ∷ named s sum ∷ named m greatest ∷ []

abbrev pub loop_with : (offset level : ℕ) → PlainLoop
loop_with offset level = record { index = i; bound = n; body = body_with offset level }

-- an iteration goes on with mapped arrays and other accumulators
pub record GoesOn (factor count : ℤ) (iteration_end : BlockEnd Names) : Type 0 where
  pub memory : Memory
  pub sum : ℤ
  pub greatest : ℤ
  pub is : iteration_end ≡ Next memory (names_with factor count sum greatest)
  pub arrays : HasArrays memory

-- ---- accesses

pub read_first : (memory : Memory) (x : ℕ) → HasArrays memory → x < 102400 → read_element (Some ty.I16) memory (pos 0x1000000) (pos x +ℤ pos 0) ≡ Some (wrap ty.I16 (pos (number_at memory ((0x1000000 + 2 * (x + 0)) % 2 ^ 64) 2)))
read_first memory x h l =
    let at = (0x1000000 + 2 * (x + 0)) % 2 ^ 64 in
    let e : at ≡ 0x1000000 + 2 * x = omega arith in
    ap (read_value ty.I16) (loaded-done memory at 2 (read_where_written memory at 2 (no_fault (can_write memory) 0x1000000 16982016 at 2 h.first (omega (arith, e)) (omega (arith, e)) (omega arith))))

pub read_second : (memory : Memory) (x o : ℕ) → HasArrays memory → x + o < 102400 → read_element (Some ty.U8) memory (pos 0x2000000) (pos x +ℤ pos o) ≡ Some (wrap ty.U8 (pos (number_at memory ((0x2000000 + 1 * (x + o)) % 2 ^ 64) 1)))
read_second memory x o h l =
    let at = (0x2000000 + 1 * (x + o)) % 2 ^ 64 in
    let e : at ≡ 0x2000000 + (x + o) = omega arith in
    ap (read_value ty.U8) (loaded-done memory at 1 (read_where_written memory at 1 (no_fault (can_write memory) 0x2000000 33656832 at 1 h.second (omega (arith, e)) (omega (arith, e)) (omega arith))))

pub store_third : (memory : Memory) (x v : ℕ) → HasArrays memory → x < 102400 → stored memory ((0x3000000 + 4 * (x + 0)) % 2 ^ 64) 4 v ≡ Ok (put_number memory ((0x3000000 + 4 * (x + 0)) % 2 ^ 64) 4 v)
store_third memory x v h l =
    let at = (0x3000000 + 4 * (x + 0)) % 2 ^ 64 in
    let e : at ≡ 0x3000000 + 4 * x = omega arith in
    stored-done memory at 4 v (no_fault (can_write memory) 0x3000000 50741248 at 4 h.third (omega (arith, e)) (omega (arith, e)) (omega arith))

pub keeps_arrays : (memory after : Memory) (at size v : ℕ) → stored memory at size v ≡ Ok after → HasArrays memory → HasArrays after
keeps_arrays memory after at size v e h = record {
  first = λ x low high. can_write-stored memory after at size v x e ∙ h.first x low high;
  second = λ x low high. can_write-stored memory after at size v x e ∙ h.second x low high;
  third = λ x low high. can_write-stored memory after at size v x e ∙ h.third x low high;
}
