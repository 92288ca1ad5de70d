-- The items of a checked kernel's loop of class Vector can be written.
use Rattle.std.proofs.Common.{◌≡◌, ℕ, ◌+◌, ◌<◌, ◌≤◌, ℤ, pos, List, [], ◌∷◌, Option, Some, None, refl, sym, ap, subst, arith}
use Rattle.guest_types.specs.EarlyLoads.{never}
use Rattle.guest_types.specs.declared.length.Width.{Width}
use Rattle.guest_types.specs.declared.length.Width.TheVariants.{B, H, S, D}
use Rattle.guest_types.specs.Length.{width_bits}
use Rattle.kernel_tree.specs.declared.ops.Ty.{Ty}
use Rattle.kernel_tree.specs.declared.ops.Ty.TheVariants as ty
use Rattle.kernel_tree.specs.Wrap.{bits_of, log_bytes}
use Rattle.kernel_tree.specs.Plain.{PlainLoop, Program}
use Rattle.kernel_tree.specs.Typing.{check_fault}
use Rattle.reg_assign.specs.declared.interval.RegClass.TheVariants.{Z, P}
use Rattle.reg_assign.specs.Registers.{Assignment}
use Rattle.loop_form.specs.declared.loop_item.Operand.{Operand}
use Rattle.loop_form.specs.declared.loop_item.Operand.TheVariants.{Outer}
use Rattle.loop_form.specs.Lanes.{lane_width_of}
use Rattle.loop_form.specs.LoopItems.{Op, Item, loop_items, for_loop_items, loop_items_of}
use Rattle.loop_form.specs.LoopItems as ops
use Rattle.loop_form.specs.Registers.{FitsKernel}
use Rattle.dependence.specs.Classes.{class_of}
use Rattle.dependence.specs.declared.reason.Class.TheVariants.{Vector}
use Rattle.lane_emit.specs.LaneCode.{size_of}
use Rattle.chunk_emit.specs.Registers.{Layout, base_of}
use Rattle.chunk_emit.specs.Chunk.{Setting}
use Rattle.chunk_emit.specs.Fits.{FitsBase, FitsOp, FitsItems, IsNear}
use Rattle.chunk_emit.specs.KernelLayout.{layout_of_loop}
use Rattle.chunk_emit.specs.LoopFits.{FitsSetting}
use Rattle.chunk_emit.specs.Writable.{IsPlace, IsWritable, AreWritable}
use Rattle.first_fault.specs.Fits.{FitsStep, FitsRegion}
use Rattle.first_fault.specs.KernelFits.{LoopFits, AsSpelled}
use Rattle.first_fault.specs.BreakRegion.{region_of, rest_of}
use Rattle.first_fault.proofs.LoopFits.{kernel_fits}

-- ---- an operation that fits

fits_place : (f : Setting) (base : Operand) (c : ℤ) → FitsBase f base → IsNear c → IsPlace base c
fits_place f (Outer p) c h near = let small = h.0 in (omega (arith, small), omega (arith, near))
fits_place f other c h near = elim h [ ]

-- in each size
narrow : (t : Ty) (w : Width) → bits_of t ≤ width_bits w → log_bytes t ≤ size_of w
narrow ty.I8 w h = omega arith
narrow ty.U8 w h = omega arith
narrow ty.I16 B h = absurd (omega (arith, h))
narrow ty.I16 H h = omega arith
narrow ty.I16 S h = omega arith
narrow ty.I16 D h = omega arith
narrow ty.U16 B h = absurd (omega (arith, h))
narrow ty.U16 H h = omega arith
narrow ty.U16 S h = omega arith
narrow ty.U16 D h = omega arith
narrow ty.I32 B h = absurd (omega (arith, h))
narrow ty.I32 H h = absurd (omega (arith, h))
narrow ty.I32 S h = omega arith
narrow ty.I32 D h = omega arith
narrow ty.U32 B h = absurd (omega (arith, h))
narrow ty.U32 H h = absurd (omega (arith, h))
narrow ty.U32 S h = omega arith
narrow ty.U32 D h = omega arith
narrow ty.I64 B h = absurd (omega (arith, h))
narrow ty.I64 H h = absurd (omega (arith, h))
narrow ty.I64 S h = absurd (omega (arith, h))
narrow ty.I64 D h = omega arith
narrow ty.U64 B h = absurd (omega (arith, h))
narrow ty.U64 H h = absurd (omega (arith, h))
narrow ty.U64 S h = absurd (omega (arith, h))
narrow ty.U64 D h = omega arith

fits_general : (f : Setting) (base : Operand) → FitsBase f base → base_of base < 32
fits_general f (Outer p) h = let small = h.0 in omega (arith, small)
fits_general f other h = elim h [ ]

op_writable : (l : Layout) (f : Setting) (p : ℕ) (op : Op) → FitsOp l f p op → IsWritable f.w op
op_writable l f p (ops.Load a base (Some t) c) h = fits_place f base c h.0 h.1
op_writable l f p (ops.Load a base None c) h = tt
op_writable l f p (ops.Gather a base (Some t) reach (Some u) x) h = fits_general f base h.0
op_writable l f p (ops.Gather a base (Some t) reach None x) h = tt
op_writable l f p (ops.Gather a base None reach u x) h = tt
op_writable l f p (ops.Store a base (Some t) c v) h = (fits_place f base c h.0 h.1, narrow t f.w h.2.1)
op_writable l f p other h = tt

step_writable : (l : Layout) (f : Setting) (p : ℕ) (mask : Option ℕ) (op : Op) → FitsStep l f p mask op → IsWritable f.w op
step_writable l f p mask (ops.Load a base (Some t) c) h = fits_place f base c h.0 h.1
step_writable l f p mask (ops.Load a base None c) h = tt
step_writable l f p mask (ops.Gather a base t reach u x) h = elim h [ ]
step_writable l f p mask (ops.Store a base t c v) h = elim h [ ]
step_writable l f p mask other h = tt

items_writable : (l : Layout) (f : Setting) (p : ℕ) (items : List Item) → FitsItems l f p items → AreWritable f.w items
items_writable l f p [] h = tt
items_writable l f p (it ∷ items) h = (op_writable l f it.item it.op h.3, items_writable l f (it.item + 1) items h.5)

region_writable : (l : Layout) (f : Setting) (p : ℕ) (items : List Item) → FitsRegion l f p items → AreWritable f.w items
region_writable l f p [] h = tt
region_writable l f p (it ∷ items) h = (step_writable l f it.item it.mask it.op h.3, region_writable l f (it.item + 1) items h.4)

-- ---- of a kernel

-- a setting of its lanes
abbrev plain_setting : Program → Setting
plain_setting k = record { w = lane_width_of k; names = []; i = 0; n = 0; vl = 0; stops = never; x = []; sum = λ x e. pos 0 }

plain_fits : (k : Program) → FitsSetting k (plain_setting k)
plain_fits k = record { width = refl; bases = λ p t e. refl }

pub record LoopWritable (k : Program) : Type 0 where
  pub region : AreWritable (lane_width_of k) (region_of (loop_items_of k))
  pub rest : AreWritable (lane_width_of k) (rest_of (loop_items_of k))

pub loop_writable : (k : Program) (a b : Assignment) → check_fault k ≡ None → class_of k ≡ Vector → ((l : PlainLoop) → k.for_loop ≡ Some l → AsSpelled k l) → FitsKernel k Z a → FitsKernel k P b → LoopWritable k
loop_writable k a b sound vector spelled fit_z fit_p = by k.for_loop refl
  where
    by : (o : Option PlainLoop) → k.for_loop ≡ o → LoopWritable k
    by None e = record { region = rw e tt; rest = rw e tt }
    by (Some l) e =
        let f : Setting = plain_setting k in
        let s : AsSpelled k l = spelled l e in
        let fits : LoopFits k l a b f = kernel_fits k l a b f sound e vector s.few s.outer fit_z fit_p (plain_fits k) in
        let items : loop_items_of k ≡ loop_items k l = ap (for_loop_items k) e in
        record {
          region = subst (λ its. AreWritable (lane_width_of k) (region_of its)) (sym items) (region_writable (layout_of_loop k a b) f _ (region_of (loop_items k l)) fits.region);
          rest = subst (λ its. AreWritable (lane_width_of k) (rest_of its)) (sym items) (items_writable (layout_of_loop k a b) f _ (rest_of (loop_items k l)) fits.rest);
        }
