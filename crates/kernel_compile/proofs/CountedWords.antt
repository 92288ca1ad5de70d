-- How many words a file has at most.
use Rattle.std.proofs.Common.{◌≡◌, ℕ, ◌+◌, ◌*◌, ◌≤◌, true, false, [], ◌∷◌, length, ap, arith}
use Rattle.kernel_tree.specs.Plain.{Program}
use Rattle.reg_assign.specs.Registers.{Assignment}
use Rattle.dependence.specs.Bound.{is_vector}
use Rattle.dependence.specs.Classes.{class_of}
use Rattle.dependence.specs.declared.reason.Class.TheVariants.{Vector}
use Rattle.close_bound.specs.CloseBound.{outside_steps, iteration_steps}
use Rattle.label_fix.specs.DraftRun.{Always, Branch, Place}
use Rattle.label_fix.specs.Finished.{size}
use Rattle.loop_code.specs.Kernel.{begin_code, scalar_code}
use Rattle.loop_code.specs.Loosening.{held_loosely}
use Rattle.loop_code.proofs.Counts.{begin_close, scalar_close}
use Rattle.overlap_guard.proofs.Placed.{guard_close}
use Rattle.vector_emit.proofs.CodeSizes.{vector_close}
use Rattle.kernel_compile.specs.Words.{passes_words, close_words}
use Rattle.kernel_compile.proofs.VectorPlaced.{whole_code}
use Rattle.kernel_compile.proofs.VectorJoin.{scalar_part, guard_part, vector_part}

-- of a kernel of class Scalar no passes are counted
pub scalar_counted : (k : Program) → is_vector (class_of k) ≡ false → (n : ℕ) → n ≤ outside_steps k + iteration_steps k + 2 * length (held_loosely k) + 32 → n ≤ close_words k
scalar_counted k not n le = let none : passes_words (is_vector (class_of k)) k ≡ 0 = ap (λ b. passes_words b k) not in omega (arith, le, none)

-- the code that runs iterations one by one
pub scalar_size : (R : ℕ → ℕ) (k : Program) (n : ℕ) → size (begin_code R k 0 (scalar_code R k n [])) ≤ outside_steps k + iteration_steps k + 2 * length (held_loosely k) + 32
scalar_size R k n = let a = begin_close R k 0 (scalar_code R k n []) in let b = scalar_close R k n [] in omega (arith, a, b)

-- the code of a kernel of class Vector
pub whole_size : (R : ℕ → ℕ) (k : Program) (a b : Assignment) (n1 n2 n3 : ℕ) → class_of k ≡ Vector → size (whole_code R k a b n1 n2 n3) ≤ close_words k
whole_size R k a b n1 n2 n3 vector =
    let passes : passes_words (is_vector (class_of k)) k ≡ passes_words true k = ap (λ c. passes_words (is_vector c) k) vector in
    let lanes = vector_close R k a b n1 n3 [] in
    let guard = guard_close k n1 n2 (vector_part R k a b n1 n3) in
    let loop = scalar_close R k n1 (Place 0 ∷ guard_part R k a b n1 n2 n3) in
    let begin = begin_close R k 1 (Branch Always 0 ∷ scalar_part R k a b n1 n2 n3) in
    omega (arith, passes, lanes, guard, loop, begin)
