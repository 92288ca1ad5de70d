-- The code before and after the loop of chunks. Before it, the values from before the loop are laid into all elements of
-- their registers, and each accumulator that the loop updates begins with the identity of its operator; after it, the
-- elements of each accumulator are joined together, and then with its general register.
use Rattle.std.specs.Prelude.{ℕ, suc, true, List, [], ◌∷◌, unwrap_or, slice_index}
use Rattle.guest_types.specs.declared.length.Width.{Width}
use Rattle.a64_code.specs.Table.{umov}
use Rattle.sve_code.specs.Table.{ptrue}
use Rattle.machine_model.specs.InstructionTable.{Vector}
use Rattle.kernel_tree.specs.declared.ops.Ty.{Ty}
use Rattle.kernel_tree.specs.declared.ops.Ty.TheVariants.{U64}
use Rattle.kernel_tree.specs.declared.ops.UpdateOp.{UpdateOp}
use Rattle.kernel_tree.specs.Plain.{Program}
use Rattle.kernel_meaning.specs.Operators as meaning
use Rattle.kernel_meaning.specs.Operators.{operator_of, wrapped}
use Rattle.label_fix.specs.DraftRun.{DraftEntry, Put, ins}
use Rattle.label_fix.specs.Registers.{all_true, scratch, second_scratch, scratch_vector}
use Rattle.reg_assign.specs.declared.interval.RegClass.TheVariants.{Z}
use Rattle.reg_assign.specs.Registers.{Assignment}
use Rattle.loop_form.specs.Lanes.{lane_width_of, var_type}
use Rattle.loop_form.specs.Needs.{Throughout, Scalar, Constant, Index, Accumulating, throughout}
use Rattle.loop_form.specs.Streams.{place_of}
use Rattle.scalar_words.specs.Layout.{register_at}
use Rattle.scalar_words.specs.KernelRegisters.{kernel_homes}
use Rattle.scalar_words.specs.Words as scalar
use Rattle.scalar_words.specs.Words.{const_code, word_code, settle_word}
use Rattle.lane_emit.specs.Stretch.{word}
use Rattle.lane_emit.specs.LaneCode.{dup_code}
use Rattle.lane_emit.specs.Joins.{identity}
use Rattle.reductions.specs.Reductions.{reduce_code}
use Rattle.chunk_emit.specs.ChunkCode.{vectors, puts}
use Rattle.chunk_emit.specs.KernelLayout.{update_of}

-- ---- before the loop

-- the type of an accumulator
abbrev pub type_of_var : Program → List ℕ → Ty
type_of_var k x = unwrap_or (var_type x k.vars) U64

-- z = a number in all elements, by X26
abbrev pub number_code : Width → (z v : ℕ) → List DraftEntry → List DraftEntry
number_code w z v rest = const_code scratch v (puts (vectors (dup_code w z scratch)) rest)

-- a value that is held throughout, in vector register z; the loop variable is made in each chunk
abbrev pub hold_code : Program → (z : ℕ) → Throughout → List DraftEntry → List DraftEntry
hold_code k z (Scalar x) rest = puts (vectors (dup_code (lane_width_of k) z (unwrap_or (place_of x k.params) 0))) rest
hold_code k z (Constant t n) rest = number_code (lane_width_of k) z (meaning.word (wrapped t n)) rest
hold_code k z Index rest = rest
hold_code k z (Accumulating x) rest = number_code (lane_width_of k) z (meaning.word (identity (update_of k x) (type_of_var k x))) rest

-- the values from place j on, each in the register of its interval
abbrev pub holds_code : Program → Assignment → (j : ℕ) → List Throughout → List DraftEntry → List DraftEntry
holds_code k a j [] rest = rest
holds_code k a j (t ∷ ts) rest = hold_code k (slice_index a.registers j) t (holds_code k a (suc j) ts rest)

-- PTRUE P1.B, and the values
abbrev pub start_code : Program → Assignment → List DraftEntry → List DraftEntry
start_code k a rest = Put (Vector (word ptrue (all_true ∷ 0 ∷ []))) ∷ holds_code k a 0 (throughout k Z) rest

-- ---- after the loop

-- X27 = the elements of z joined together, and x = x joined with it
abbrev pub join_code : Width → UpdateOp → Ty → (z x : ℕ) → List DraftEntry → List DraftEntry
join_code w op t z x rest = puts (vectors (reduce_code w op t scratch_vector z)) (ins umov (second_scratch ∷ scratch_vector ∷ []) ∷ word_code (settle_word true t second_scratch) (scalar.binary_code (operator_of op) t x x second_scratch rest))

abbrev pub fold_one : (ℕ → ℕ) → Program → (z : ℕ) → Throughout → List DraftEntry → List DraftEntry
fold_one R k z (Accumulating x) rest = join_code (lane_width_of k) (update_of k x) (type_of_var k x) z (register_at (kernel_homes R k) x) rest
fold_one R k z (Scalar x) rest = rest
fold_one R k z (Constant t n) rest = rest
fold_one R k z Index rest = rest

abbrev pub folds_code : (ℕ → ℕ) → Program → Assignment → (j : ℕ) → List Throughout → List DraftEntry → List DraftEntry
folds_code R k a j [] rest = rest
folds_code R k a j (t ∷ ts) rest = fold_one R k (slice_index a.registers j) t (folds_code R k a (suc j) ts rest)

-- each accumulator that the loop updates
abbrev pub fold_code : (ℕ → ℕ) → Program → Assignment → List DraftEntry → List DraftEntry
fold_code R k a rest = folds_code R k a 0 (throughout k Z) rest
