-- The items of every kernel's loop fit the layout that the registers of its intervals give.
use Rattle.std.specs.Prelude.{◌≡◌, ℕ, ◌+◌, ◌≤◌, length, Some, None, Bool, false, ◌&&◌, is_some}
use Rattle.std.specs.List.{list_any}
use Rattle.kernel_tree.specs.Plain.{PlainLoop, Program}
use Rattle.kernel_tree.specs.Grammar.{IsTree}
use Rattle.kernel_tree.specs.Typing.{check_fault}
use Rattle.kernel_tree.specs.Items.{loop_start}
use Rattle.reg_assign.specs.declared.interval.RegClass.TheVariants.{Z, P}
use Rattle.reg_assign.specs.Registers.{Assignment}
use Rattle.loop_form.specs.LoopItems.{Item, loop_items}
use Rattle.loop_form.specs.Registers.{FitsKernel}
use Rattle.dependence.specs.Classes.{class_of}
use Rattle.dependence.specs.declared.reason.Class.TheVariants.{Vector}
use Rattle.chunk_emit.specs.Chunk.{Setting}
use Rattle.chunk_emit.specs.Fits.{FitsItems, following_items}
use Rattle.chunk_emit.specs.KernelLayout.{layout_of_loop}
use Rattle.chunk_emit.specs.LoopFits.{FitsSetting}
use Rattle.first_fault.specs.Fits.{FitsRegion}
use Rattle.first_fault.specs.Rest.{NoTruthLive}
use Rattle.first_fault.specs.BreakRegion.{breaks_loop, region_of, rest_of}

-- the number after the last item of the break region; without a break, that of the first item
abbrev pub following_region : Program → PlainLoop → ℕ
following_region k l = following_items (loop_start k + 1) (region_of (loop_items k l))

-- The items of the break region and those of the rest fit, and no condition of the region is used after it.
pub record LoopFits (k : Program) (l : PlainLoop) (a b : Assignment) (f : Setting) : Type 0 where
  pub region : FitsRegion (layout_of_loop k a b) f (loop_start k + 1) (region_of (loop_items k l))
  pub rest : FitsItems (layout_of_loop k a b) f (following_region k l) (rest_of (loop_items k l))
  pub dead : NoTruthLive (layout_of_loop k a b) (following_region k l)

-- a break under a mask: one that stands within an `if`
abbrev pub is_inner_break : Item → Bool
is_inner_break it = breaks_loop it.op && is_some it.mask

-- of kernels with at most eight parameters whose breaks stand in the loop's own block, as the grammar has it
abbrev pub KernelFits : Type 0
KernelFits =
    (k : Program) (l : PlainLoop) (a b : Assignment) (f : Setting) → check_fault k ≡ None → k.for_loop ≡ Some l → class_of k ≡ Vector → length k.params ≤ 8 → list_any is_inner_break (loop_items k l) ≡ false → FitsKernel k Z a → FitsKernel k P b → FitsSetting k f → LoopFits k l a b f

-- what the grammar says of a kernel
pub record AsSpelled (k : Program) (l : PlainLoop) : Type 0 where
  pub few : length k.params ≤ 8
  pub outer : list_any is_inner_break (loop_items k l) ≡ false

abbrev pub TreeIsSpelled : Type 0
TreeIsSpelled = (k : Program) (l : PlainLoop) → ∥ IsTree k ∥₁ → k.for_loop ≡ Some l → AsSpelled k l
