-- How many words the code before and after the loop of chunks has: as many as the bound counts steps of it.
use Rattle.std.proofs.Common.{◌≡◌, ℕ, suc, ◌+◌, ◌≤◌, true, List, [], ◌∷◌, ◌++◌, arith}
use Rattle.std.specs.Prelude.{slice_index}
use Rattle.guest_types.specs.declared.length.Width.{Width}
use Rattle.kernel_tree.specs.declared.ops.Ty.{Ty}
use Rattle.kernel_tree.specs.declared.ops.UpdateOp.{UpdateOp}
use Rattle.kernel_tree.specs.Plain.{Program}
use Rattle.kernel_meaning.specs.Operators as meaning
use Rattle.kernel_meaning.specs.Operators.{wrapped, operator_of}
use Rattle.label_fix.specs.DraftRun.{DraftEntry}
use Rattle.label_fix.specs.Finished.{size}
use Rattle.label_fix.proofs.PlacedRuns.{words_added}
use Rattle.reg_assign.specs.declared.interval.RegClass.TheVariants.{Z}
use Rattle.reg_assign.specs.Registers.{Assignment}
use Rattle.loop_form.specs.Lanes.{lane_width_of}
use Rattle.loop_form.specs.Needs.{Throughout, Scalar, Constant, Index, Accumulating, throughout}
use Rattle.close_bound.specs.CloseBound.{laid_steps, joined_steps, laid_all, joined_all}
use Rattle.scalar_words.specs.Layout.{register_at}
use Rattle.scalar_words.specs.KernelRegisters.{kernel_homes}
use Rattle.scalar_words.specs.Words.{settle_word, binary_code}
use Rattle.scalar_words.proofs.WordCounts.{one_word, operator_words, const_words}
use Rattle.lane_emit.specs.LaneCode.{dup_code}
use Rattle.lane_emit.specs.Joins.{identity}
use Rattle.chunk_emit.specs.ChunkCode.{vectors, puts}
use Rattle.chunk_emit.specs.KernelLayout.{update_of}
use Rattle.reductions.specs.EdgeCode.{type_of_var, number_code, hold_code, holds_code, start_code, join_code, fold_one, folds_code, fold_code}

-- ---- before the loop

number_few : (w : Width) (z v : ℕ) (rest : List DraftEntry) → size (number_code w z v rest) ≤ 5 + size rest
number_few w z v rest = let e = const_words 26 v (puts (vectors (dup_code w z 26)) rest) (1 + size rest) (omega arith) in omega (arith, e)

hold_few : (k : Program) (z : ℕ) (t : Throughout) (rest : List DraftEntry) → size (hold_code k z t rest) ≤ laid_steps t + size rest
hold_few k z (Scalar x) rest = omega arith
hold_few k z (Constant t n) rest = number_few (lane_width_of k) z (meaning.word (wrapped t n)) rest
hold_few k z Index rest = omega arith
hold_few k z (Accumulating x) rest = number_few (lane_width_of k) z (meaning.word (identity (update_of k x) (type_of_var k x))) rest

holds_few : (k : Program) (a : Assignment) (j : ℕ) (ts : List Throughout) (rest : List DraftEntry) → size (holds_code k a j ts rest) ≤ laid_all ts + size rest
holds_few k a j [] rest = omega arith
holds_few k a j (t ∷ ts) rest = let here = hold_few k (slice_index a.registers j) t (holds_code k a (suc j) ts rest) in let more = holds_few k a (suc j) ts rest in omega (arith, here, more)

pub start_few : (k : Program) (a : Assignment) (rest : List DraftEntry) → size (start_code k a rest) ≤ 1 + laid_all (throughout k Z) + size rest
start_few k a rest = let more = holds_few k a 0 (throughout k Z) rest in omega (arith, more)

-- ---- after it

join_few : (w : Width) (op : UpdateOp) (t : Ty) (z x : ℕ) (rest : List DraftEntry) → size (join_code w op t z x rest) ≤ 6 + size rest
join_few w op t z x rest =
    let more = operator_words (operator_of op) t x x 27 rest (size rest) (omega arith) in
    let all = one_word (settle_word true t 27) (binary_code (operator_of op) t x x 27 rest) (3 + size rest) more in
    omega (arith, all)

one_few : (R : ℕ → ℕ) (k : Program) (z : ℕ) (t : Throughout) (rest : List DraftEntry) → size (fold_one R k z t rest) ≤ joined_steps t + size rest
one_few R k z (Accumulating x) rest = join_few (lane_width_of k) (update_of k x) (type_of_var k x) z (register_at (kernel_homes R k) x) rest
one_few R k z (Scalar x) rest = omega arith
one_few R k z (Constant t n) rest = omega arith
one_few R k z Index rest = omega arith

folds_few : (R : ℕ → ℕ) (k : Program) (a : Assignment) (j : ℕ) (ts : List Throughout) (rest : List DraftEntry) → size (folds_code R k a j ts rest) ≤ joined_all ts + size rest
folds_few R k a j [] rest = omega arith
folds_few R k a j (t ∷ ts) rest = let here = one_few R k (slice_index a.registers j) t (folds_code R k a (suc j) ts rest) in let more = folds_few R k a (suc j) ts rest in omega (arith, here, more)

pub fold_few : (R : ℕ → ℕ) (k : Program) (a : Assignment) (rest : List DraftEntry) → size (fold_code R k a rest) ≤ joined_all (throughout k Z) + size rest
fold_few R k a rest = folds_few R k a 0 (throughout k Z) rest

-- ---- a draft that code was appended to

pub start_appended : (k : Program) (a : Assignment) (old new : List DraftEntry) → new ++ [] ≡ old ++ start_code k a [] → size new ≤ size old + (1 + laid_all (throughout k Z))
start_appended k a old new e = words_added old new (start_code k a []) (1 + laid_all (throughout k Z)) e (start_few k a [])

pub fold_appended : (R : ℕ → ℕ) (k : Program) (a : Assignment) (old new : List DraftEntry) → new ++ [] ≡ old ++ fold_code R k a [] → size new ≤ size old + joined_all (throughout k Z)
fold_appended R k a old new e = words_added old new (fold_code R k a []) (joined_all (throughout k Z)) e (fold_few R k a [])
