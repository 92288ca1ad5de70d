-- Where the labels of the vector code lead.
use Rattle.std.proofs.Common.{ℕ, suc, List, [], ◌∷◌}
use Rattle.kernel_tree.specs.Plain.{Program}
use Rattle.machine_model.specs.InstructionTable.{Listed}
use Rattle.label_fix.specs.DraftRun.{DraftEntry, Laid}
use Rattle.label_fix.specs.Stretches.{Resolves}
use Rattle.reg_assign.specs.declared.interval.RegClass.TheVariants.{Z}
use Rattle.reg_assign.specs.Registers.{Assignment}
use Rattle.loop_form.specs.Needs.{Throughout, Scalar, Constant, Index, Accumulating, throughout}
use Rattle.std.specs.Prelude.{slice_index}
use Rattle.chunk_emit.specs.ChunkCode.{vectors, puts}
use Rattle.loop_form.specs.Lanes.{lane_width_of}
use Rattle.lane_emit.specs.LaneCode.{dup_code}
use Rattle.scalar_words.proofs.Constants.{const_back}
use Rattle.kernel_meaning.specs.Operators as meaning
use Rattle.kernel_meaning.specs.Operators.{wrapped}
use Rattle.lane_emit.specs.Joins.{identity}
use Rattle.chunk_emit.specs.KernelLayout.{update_of}
use Rattle.reductions.specs.EdgeCode.{type_of_var, hold_code, holds_code, start_code}

pub following_puts : (d : Laid) (is : List Listed) (rest : List DraftEntry) → Resolves d (puts is rest) → Resolves d rest
following_puts d [] rest h = h
following_puts d (i ∷ is) rest h = following_puts d is rest h

following_hold : (d : Laid) (k : Program) (z : ℕ) (t : Throughout) (rest : List DraftEntry) → Resolves d (hold_code k z t rest) → Resolves d rest
following_hold d k z (Scalar x) rest h = h
following_hold d k z (Constant t n) rest h = following_puts d (vectors (dup_code (lane_width_of k) z 26)) rest (const_back d 26 (meaning.word (wrapped t n)) (puts (vectors (dup_code (lane_width_of k) z 26)) rest) h)
following_hold d k z Index rest h = h
following_hold d k z (Accumulating x) rest h = following_puts d (vectors (dup_code (lane_width_of k) z 26)) rest (const_back d 26 (meaning.word (identity (update_of k x) (type_of_var k x))) (puts (vectors (dup_code (lane_width_of k) z 26)) rest) h)

following_holds : (d : Laid) (k : Program) (a : Assignment) (j : ℕ) (ts : List Throughout) (rest : List DraftEntry) → Resolves d (holds_code k a j ts rest) → Resolves d rest
following_holds d k a j [] rest h = h
following_holds d k a j (t ∷ ts) rest h = following_holds d k a (suc j) ts rest (following_hold d k (slice_index a.registers j) t (holds_code k a (suc j) ts rest) h)

-- no label is placed before the passes
pub following_start : (d : Laid) (k : Program) (a : Assignment) (rest : List DraftEntry) → Resolves d (start_code k a rest) → Resolves d rest
following_start d k a rest h = following_holds d k a 0 (throughout k Z) rest h
