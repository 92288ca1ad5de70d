-- What the registers of a kernel's intervals give to the code of its loop.
use Rattle.std.specs.Prelude.{◌≡◌, ℕ, ◌+◌, ◌≤◌, List, [], ◌∷◌, Some, slice_index}
use Rattle.kernel_tree.specs.declared.ops.Ty.{Ty}
use Rattle.kernel_tree.specs.Plain.{Program}
use Rattle.kernel_meaning.specs.Operators.{word}
use Rattle.reg_assign.specs.declared.interval.RegClass.TheVariants.{Z, P}
use Rattle.reg_assign.specs.Registers.{Assignment}
use Rattle.loop_form.specs.Lanes.{lane_width_of}
use Rattle.loop_form.specs.LoopItems.{Op, Item}
use Rattle.loop_form.specs.LoopItems as ops
use Rattle.loop_form.specs.Registers.{FitsKernel}
use Rattle.loop_form.specs.Streams.{type_of_place}
use Rattle.vector_order.specs.Operands.{nth_value}
use Rattle.chunk_emit.specs.Registers.{Layout}
use Rattle.chunk_emit.specs.Chunk.{Setting}
use Rattle.chunk_emit.specs.Fits.{Assigned, FitsTruth, FitsMask, FitsOp, FitsCast, MakesNothing, NoneBetween}
use Rattle.chunk_emit.specs.KernelLayout.{layout_of_loop}

-- Of a kernel with registers for its intervals, the layout of its loop gives no register to two things that are needed at
-- once.
abbrev pub LayoutAssigned : Type 0
LayoutAssigned = (k : Program) (a b : Assignment) → FitsKernel k Z a → FitsKernel k P b → Assigned (layout_of_loop k a b)

-- ---- the items of a loop with breaks

-- a setting of a kernel's loop: the width of its lanes, and the addresses of its arrays in the registers of their parameters
pub record FitsSetting (k : Program) (f : Setting) : Type 0 where
  pub width : f.w ≡ lane_width_of k
  pub bases : (p : ℕ) (t : Ty) → type_of_place k.params p ≡ Some t → slice_index f.x p ≡ word (nth_value f.names p)

-- an operation fits, or is a break whose condition does
abbrev pub FitsStep : Layout → Setting → ℕ → Op → Type 0
FitsStep l f p (ops.Break c) = FitsTruth l p c × MakesNothing l p
FitsStep l f p (ops.Load a base t c) = FitsOp l f p (ops.Load a base t c)
FitsStep l f p (ops.Gather a base t r u x) = FitsOp l f p (ops.Gather a base t r u x)
FitsStep l f p (ops.Unary op t x) = FitsOp l f p (ops.Unary op t x)
FitsStep l f p (ops.Binary op t x y) = FitsOp l f p (ops.Binary op t x y)
FitsStep l f p (ops.Shift left n t x) = FitsOp l f p (ops.Shift left n t x)
FitsStep l f p (ops.Cast s t x) = FitsOp l f p (ops.Cast s t x)
FitsStep l f p (ops.Let t x) = FitsOp l f p (ops.Let t x)
FitsStep l f p (ops.Select t c x y) = FitsOp l f p (ops.Select t c x y)
FitsStep l f p (ops.Store a base t c v) = FitsOp l f p (ops.Store a base t c v)
FitsStep l f p (ops.Update x op t v) = FitsOp l f p (ops.Update x op t v)
FitsStep l f p (ops.Compare op t x y) = FitsOp l f p (ops.Compare op t x y)
FitsStep l f p (ops.Not c) = FitsOp l f p (ops.Not c)
FitsStep l f p (ops.And c) = FitsOp l f p (ops.And c)
FitsStep l f p (ops.Or c d) = FitsOp l f p (ops.Or c d)

-- items, breaks among them, with ascending numbers from p on
abbrev pub FitsSteps : Layout → Setting → ℕ → List Item → Type 0
FitsSteps l f p [] = Unit {0}
FitsSteps l f p (it ∷ items) =
    (p ≤ it.item) × NoneBetween l p it.item × FitsMask l it.item it.mask × FitsStep l f it.item it.op × FitsCast l it items × FitsSteps l f (it.item + 1) items

-- no break is among the items
abbrev pub IsNoBreak : Op → Type 0
IsNoBreak (ops.Break c) = ⊥
IsNoBreak _ = Unit {0}

abbrev pub AreNoBreaks : List Item → Type 0
AreNoBreaks [] = Unit {0}
AreNoBreaks (it ∷ items) = IsNoBreak it.op × AreNoBreaks items
