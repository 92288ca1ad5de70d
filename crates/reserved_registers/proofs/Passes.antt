-- The vector code of a kernel's loop: what stands before the passes, the passes, and the fold after them.
use Rattle.std.proofs.Common.{◌≡◌, ℕ, zero, suc, ◌≤◌, Bool, true, false, List, [], ◌∷◌, length, refl}
use Rattle.std.specs.Prelude.{slice_index}
use Rattle.std.specs.List.{list_any}
use Rattle.guest_types.specs.declared.length.Width.{Width}
use Rattle.guest_types.specs.declared.length.Width.TheVariants.{B}
use Rattle.machine_model.specs.InstructionTable.{Listed}
use Rattle.kernel_tree.specs.declared.ops.Ty.{Ty}
use Rattle.kernel_tree.specs.declared.ops.UpdateOp.{UpdateOp}
use Rattle.kernel_tree.specs.Plain.{Program}
use Rattle.kernel_meaning.specs.Operators as meaning
use Rattle.kernel_meaning.specs.Operators.{wrapped, operator_of}
use Rattle.label_fix.specs.DraftRun.{DraftEntry, ins}
use Rattle.label_fix.specs.Emits.{puts}
use Rattle.a64_code.specs.Table.{umov}
use Rattle.reg_assign.specs.declared.interval.RegClass.TheVariants.{X, Z}
use Rattle.reg_assign.specs.Registers.{Assignment}
use Rattle.loop_form.specs.Lanes.{lane_width_of}
use Rattle.loop_form.specs.LoopItems.{Item, loop_items_of}
use Rattle.loop_form.specs.Needs.{Throughout, Scalar, Constant, Index, Accumulating, throughout}
use Rattle.loop_form.specs.Registers.{FitsKernel}
use Rattle.dependence.specs.Apart.{bound_place}
use Rattle.scalar_words.specs.Layout.{register_at}
use Rattle.scalar_words.specs.KernelRegisters.{kernel_homes, register_in}
use Rattle.scalar_words.specs.Words.{const_code, settle_word, word_code, binary_code}
use Rattle.lane_emit.specs.Joins.{identity}
use Rattle.lane_emit.specs.Stretch.{word}
use Rattle.lane_emit.specs.LaneCode.{size_of, dup_code}
use Rattle.chunk_emit.specs.ChunkCode.{vectors}
use Rattle.chunk_emit.specs.KernelLayout.{layout_of_loop, update_of}
use Rattle.first_fault.specs.BreakRegion.{is_loop_break}
use Rattle.vector_emit.proofs.FromBelow.{reduce_name, reduce_code, type_of_var, hold_code, holds_code, fold_one, folds_code, chunk_words, iteration_words, plain_words}
use Rattle.vector_emit.specs.VectorCode.{count_word, is_long, turn_passes, times, passes_by, vector_code}
use Rattle.reserved_registers.specs.Alone.{AreAlone, StaysAlone}
use Rattle.reserved_registers.proofs.Entries.{goes_on}
use Rattle.reserved_registers.proofs.FreeRegisters.{Unreserved, AreFree, names_free, name_kept, assigned_below}
use Rattle.reserved_registers.proofs.ScalarWords.{one_alone, const_alone, settle_leaves, binary_alone}
use Rattle.reserved_registers.proofs.VectorWords.{reduce_quiet}
use Rattle.reserved_registers.proofs.Chunks.{AreLeft, puts_alone, quiet_leaves, chunk_left, iteration_left, plain_left}

-- ---- before the passes

-- a number in all elements of z, by X26
number_alone : (exits : ℕ) (w : Width) (z v : ℕ) (rest : List DraftEntry) → AreAlone exits rest → AreAlone exits (const_code 26 v (puts (vectors (dup_code w z 26)) rest))
number_alone exits w z v rest h = const_alone exits 26 v _ (record { unreserved = refl }) (refl, h)

hold_alone : (exits : ℕ) (k : Program) (z : ℕ) (t : Throughout) (rest : List DraftEntry) → AreAlone exits rest → AreAlone exits (hold_code k z t rest)
hold_alone exits k z (Scalar x) rest h = (refl, h)
hold_alone exits k z (Constant t n) rest h = number_alone exits (lane_width_of k) z (meaning.word (wrapped t n)) rest h
hold_alone exits k z Index rest h = h
hold_alone exits k z (Accumulating x) rest h = number_alone exits (lane_width_of k) z (meaning.word (identity (update_of k x) (type_of_var k x))) rest h

holds_alone : (exits : ℕ) (k : Program) (a : Assignment) (j : ℕ) (ts : List Throughout) (rest : List DraftEntry) → AreAlone exits rest → AreAlone exits (holds_code k a j ts rest)
holds_alone exits k a j [] rest h = h
holds_alone exits k a j (t ∷ ts) rest h = hold_alone exits k (slice_index a.registers j) t _ (holds_alone exits k a (suc j) ts rest h)

-- ---- after them

-- the elements of z joined together by X27, and x joined with them
join_alone : (exits : ℕ) (w : Width) (op : UpdateOp) (t : Ty) (z x : ℕ) (rest : List DraftEntry) → Unreserved x → AreAlone exits rest → AreAlone exits (puts (vectors (reduce_code w op t 31 z)) (ins umov (27 ∷ 31 ∷ []) ∷ word_code (settle_word true t 27) (binary_code (operator_of op) t x x 27 rest)))
join_alone exits w op t z x rest f h =
    (quiet_leaves (word (reduce_name op t) (31 ∷ z ∷ 1 ∷ size_of w ∷ [])) (reduce_quiet op t), (refl, one_alone exits (settle_word true t 27) _ (settle_leaves true t 27 (record { unreserved = refl })) (binary_alone exits (operator_of op) t x x 27 rest f h)))

module _ (R : ℕ → ℕ) (k : Program) (names : AreFree (kernel_homes R k)) where
  fold_alone : (exits : ℕ) (z : ℕ) (t : Throughout) (rest : List DraftEntry) → AreAlone exits rest → AreAlone exits (fold_one R k z t rest)
  fold_alone exits z (Accumulating x) rest h = join_alone exits (lane_width_of k) (update_of k x) (type_of_var k x) z (register_at (kernel_homes R k) x) rest (name_kept (kernel_homes R k) x names) h
  fold_alone exits z other rest h = h

  folds_alone : (exits : ℕ) (a : Assignment) (j : ℕ) (ts : List Throughout) (rest : List DraftEntry) → AreAlone exits rest → AreAlone exits (folds_code R k a j ts rest)
  folds_alone exits a j [] rest h = h
  folds_alone exits a j (t ∷ ts) rest h = fold_alone exits (slice_index a.registers j) t _ (folds_alone exits a (suc j) ts rest h)

-- ---- the passes

-- X8, the lanes of a chunk
count_alone : (w : Width) → goes_on (count_word w) ≡ true
count_alone B = refl
count_alone other = refl

times_alone : (exits : ℕ) (t : ℕ) (is : List Listed) (rest : List DraftEntry) → AreLeft is → AreAlone exits rest → AreAlone exits (times t is rest)
times_alone exits zero is rest left h = h
times_alone exits (suc t) is rest left h = puts_alone exits is (times t is rest) left (times_alone exits t is rest left h)

passes_alone : (exits : ℕ) (c : Bool) (k : Program) (a b : Assignment) (items : List Item) (n : ℕ) (rest : List DraftEntry) → AreAlone exits rest → AreAlone exits (passes_by c k a b items n rest)
passes_alone exits true k a b items n rest h =
    let w = lane_width_of k in
    let l = layout_of_loop k a b in
    puts_alone exits (chunk_words w l (bound_place k) items) _ (chunk_left w l (bound_place k) items) (refl, (refl, puts_alone exits (iteration_words w l items) _ (iteration_left w l items) (refl, h)))
passes_alone exits false k a b items n rest h =
    let w = lane_width_of k in
    let l = layout_of_loop k a b in
    (refl, (count_alone w, (refl, times_alone exits (turn_passes (is_long items)) (plain_words w l items) _ (plain_left w l items) (refl, (refl, puts_alone exits (plain_words w l items) _ (plain_left w l items) (refl, h))))))

-- ---- the whole

pub vector_alone : (R : ℕ → ℕ) (k : Program) (a b : Assignment) (scalar n : ℕ) → AreFree (kernel_homes R k) → StaysAlone (vector_code R k a b scalar n)
vector_alone R k a b scalar n names exits rest h =
    (refl, holds_alone exits k a 0 (throughout k Z) _ (passes_alone exits (list_any is_loop_break (loop_items_of k)) k a b (loop_items_of k) n _ (folds_alone R k names exits a 0 (throughout k Z) _ h)))

pub vector_stays : (k : Program) (x : Assignment) → length k.params ≤ 8 → FitsKernel k X x → (a b : Assignment) (scalar n : ℕ) → StaysAlone (vector_code (register_in x) k a b scalar n)
vector_stays k x few f a b scalar n = vector_alone (register_in x) k a b scalar n (names_free (register_in x) (assigned_below k x f) k few)
