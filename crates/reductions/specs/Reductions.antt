-- The reduction of an accumulator's lanes, under P1, which is all true.
use Rattle.std.specs.Prelude.{◌≡◌, ℕ, ◌%◌, ◌^◌, ◌<◌, ◌≤◌, ℤ, List, [], ◌∷◌, if◌then◌else◌}
use Rattle.guest_types.specs.declared.length.Width.{Width}
use Rattle.guest_types.specs.Length.{width_bits, lanes}
use Rattle.guest_types.specs.Elements.{element}
use Rattle.kernel_tree.specs.declared.ops.Ty.{Ty}
use Rattle.kernel_tree.specs.declared.ops.UpdateOp.{UpdateOp}
use Rattle.kernel_tree.specs.declared.ops.UpdateOp.TheVariants as update
use Rattle.kernel_tree.specs.Wrap.{residue, bits_of, is_signed}
use Rattle.machine_model.specs.Machine.{State, Went, z_at}
use Rattle.machine_model.specs.States.{IsState}
use Rattle.label_fix.specs.Registers.{all_true}
use Rattle.sve_code.specs.Table.{Name, uaddv, andv, orv, eorv, sminv, uminv, smaxv, umaxv}
use Rattle.lane_emit.specs.Right.{IsOf}
use Rattle.lane_emit.specs.Stretch.{VectorInstruction, word, do_all, OnlyZ, Ready}
use Rattle.lane_emit.specs.LaneCode.{size_of}
use Rattle.lane_emit.specs.Folds.{together}
use Rattle.lane_emit.specs.AccumulatorLanes.{LanesHold}

abbrev pub reduce_name : UpdateOp → Ty → Name
reduce_name update.Add t = uaddv
reduce_name update.And t = andv
reduce_name update.Or t = orv
reduce_name update.Xor t = eorv
reduce_name update.Min t = if is_signed t then sminv else uminv
reduce_name update.Max t = if is_signed t then smaxv else umaxv

-- all lanes of z, joined together in the lowest element of d
abbrev pub reduce_code : Width → UpdateOp → Ty → (d z : ℕ) → List VectorInstruction
reduce_code w op t d z = word (reduce_name op t) (d ∷ z ∷ all_true ∷ size_of w ∷ []) ∷ []

-- the lowest doubleword of register d holds, in the bits of the type, what so many lanes took in together
pub record Reduced (c : List VectorInstruction) (s : State) (op : UpdateOp) (t : Ty) (n d : ℕ) (taken : ℕ → ℤ) : Type 0 where
  pub end : State
  pub runs : do_all c s ≡ Went end
  pub is : IsState end
  pub only : OnlyZ d s end
  pub low : element 8 (z_at end d) 0 % 2 ^ bits_of t ≡ residue (bits_of t) (together op t n taken)

abbrev pub ReductionIsTogether : Type 0
ReductionIsTogether =
    (op : UpdateOp) (t : Ty) (w : Width) (s : State) (d z : ℕ) (taken : ℕ → ℤ) → Ready w (lanes s.vl w) s → d < 32 → bits_of t ≤ width_bits w
    → LanesHold op t w (lanes s.vl w) (z_at s z) taken → ((e : ℕ) → e < lanes s.vl w → IsOf t (taken e))
    → Reduced (reduce_code w op t d z) s op t (lanes s.vl w) d taken
